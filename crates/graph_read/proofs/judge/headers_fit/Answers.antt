use Rattle.std.proofs.Common.{◌≡◌, length, sym, ap, ◌∙◌, arith}
use Rattle.pud_defs.specs.PoolGraphs.Stored.{stored_in}
use Rattle.pud_defs.specs.RegistryTables.Spaces.{all_below}
use Rattle.pud_defs.proofs.RegistryTables.Spaces.{all_below-more, all_below-fails, all_below-none}
use Rattle.graph_read.proofs.Judging.{header_at, header_at-read, headers_fit-each}
use Rattle.pm_model.proofs.Reading.{OnlyReads-none, OnlyReads-then, still_reads}
use Rattle.graph_read.proofs.judge.headers_fit.Goals as goal

pub loop-ordinal-init : goal.loop-ordinal-init
loop-ordinal-init g c = record {
  only_reads = OnlyReads-none;
  passed = λ t image same. all_below-none _;
}

pub returns-then-not-branch-clause-fit : goal.returns-then-not-branch-clause-fit
returns-then-not-branch-clause-fit g c = λ t image same.
    let before = still_reads c.loop-ordinal.invariant.only_reads t same in
    let here = header_at-read c.args.frames c.args.pool.now image c.loop-ordinal.ordinal c.in_ok-has_header.field-0 (omega arith) (c.in_ok-has_header.ensures.fits t image before) in
    sym (headers_fit-each c.args.frames c.args.pool.now image
    ∙ all_below-fails (length c.args.pool.now) c.loop-ordinal.ordinal (header_at (stored_in c.args.frames c.args.pool.now image)) (omega arith) (sym here ∙ c.if-not-branch.true))

pub loop-ordinal-preserved : goal.loop-ordinal-preserved
loop-ordinal-preserved g c = record {
  only_reads = OnlyReads-then c.loop-ordinal.invariant.only_reads c.in_ok-has_header.ensures.only_reads;
  passed = λ t image same.
      let before = still_reads c.loop-ordinal.invariant.only_reads t same in
      let here = header_at-read c.args.frames c.args.pool.now image c.loop-ordinal.ordinal c.in_ok-has_header.field-0 (omega arith) (c.in_ok-has_header.ensures.fits t image before) in
      all_below-more c.loop-ordinal.ordinal (header_at (stored_in c.args.frames c.args.pool.now image)) (c.loop-ordinal.invariant.passed t image same) (sym here ∙ c.if-not-branch.false);
}

pub returns-clause-fit : goal.returns-clause-fit
returns-clause-fit g c = λ t image same.
    let all : c.loop-ordinal.ordinal ≡ length c.args.pool.now = omega arith in
    sym (headers_fit-each c.args.frames c.args.pool.now image ∙ ap (λ n. all_below n (header_at (stored_in c.args.frames c.args.pool.now image))) (sym all) ∙ c.loop-ordinal.invariant.passed t image same)
