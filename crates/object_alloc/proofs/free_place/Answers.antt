use Rattle.std.proofs.Common.{sym, ◌∙◌, arith}
use Rattle.pud_defs.specs.PoolGraphs.Stored.{stored_in}
use Rattle.object_alloc.proofs.Searched.{AreLiveBefore-more, found_free, none_found}
use Rattle.pm_model.proofs.Reading.{OnlyReads-then, still_reads}
use Rattle.object_alloc.proofs.free_place.Goals as goal

pub returns-then-branch-clause-free : goal.returns-then-branch-clause-free
returns-then-branch-clause-free g c = λ t image same full.
    let before = still_reads c.loop-place.invariant.only_reads t same in
    found_free c.args.class c.args.frames c.args.pool.now image c.loop-place.place (omega arith) (c.loop-place.invariant.live t image same full) (sym (c.in_ok-is_free_place.ensures.free t image before) ∙ c.if-branch.true)

pub loop-place-preserved : goal.loop-place-preserved
loop-place-preserved g c = record {
  only_reads = OnlyReads-then c.loop-place.invariant.only_reads c.in_ok-is_free_place.ensures.only_reads;
  live = λ t image same full.
      let before = still_reads c.loop-place.invariant.only_reads t same in
      AreLiveBefore-more c.args.class (stored_in c.args.frames c.args.pool.now image) c.loop-place.place (c.loop-place.invariant.live t image same full) (sym (c.in_ok-is_free_place.ensures.free t image before) ∙ c.if-branch.false);
}

pub returns-clause-full : goal.returns-clause-full
returns-clause-full g c = λ t image same full. none_found c.args.class c.args.frames c.args.pool.now image c.loop-place.place (omega arith) (c.loop-place.invariant.live t image same full)
