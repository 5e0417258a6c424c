use Rattle.std.proofs.Common.{◌+◌, ◌≤◌, sym, ap, subst, ◌∙◌, arith}
use Rattle.pm_model.specs.Counts.{Counts}
use Rattle.pud_defs.specs.declared.records.TheConstants.{MAX_PUDDLES}
use Rattle.pud_defs.specs.RegistryTables.Keyed.{count_used}
use Rattle.pud_defs.specs.RegistryTables.Tables.{tables_of, members}
use Rattle.pud_defs.specs.RegistryTables.Puts.{free_pool_put, free_puddle_put}
use Rattle.pud_defs.proofs.RegistryTables.TablesOf.{frames_of_tables}
use Rattle.registry.proofs.Gathered.{Gathers, Gathers-start, Gathers-other, Gathers-more, Gathers-end, Gathers-room, first_put, next_put, of_table}
use Rattle.pm_model.proofs.Reading.{OnlyReads-none, OnlyReads-then, still_reads}
use Rattle.registry.proofs.changing.dropping.Goals.{then-branch, else-branch}
use Rattle.registry.proofs.changing.dropping.Goals as goal

pub loop-frame-init : goal.loop-frame-init
loop-frame-init g c = record {
  within = omega arith;
  only_reads = OnlyReads-none;
  gathers = λ t image same few. Gathers-start (tables_of c.args.frames image) c.args.slot c.add_put.new.batch
      (first_put c.new-batch.result c.add_put.new.batch c.remove.result (free_pool_put c.args.slot) c.new-batch.ensures c.remove.ensures.put (omega arith) c.add_put.ensures);
}

pub is_of_pool-requires-clause-record : goal.is_of_pool-requires-clause-record
is_of_pool-requires-clause-record g c = omega (arith, ap (λ (n : Counts). n.size) c.loop-frame.invariant.only_reads.cause)

pub loop-frame-preserved : goal.loop-frame-preserved
loop-frame-preserved g c = record {
  within = omega arith;
  only_reads = OnlyReads-then c.loop-frame.invariant.only_reads c.in_ok-is_of_pool.ensures.only_reads;
  gathers = λ t image same few.
      let tables = tables_of c.args.frames image in
      let frames = frames_of_tables c.args.frames image in
      let before = still_reads c.loop-frame.invariant.only_reads t same in
      let of = c.in_ok-is_of_pool.ensures.of t image before in
      let was = c.loop-frame.invariant.gathers t image same few in
      elim c.if-branch.branch [
        | then-branch w ↦
            let yes = of_table c.args.frames image c.args.slot c.loop-frame.frame _ (omega arith) of ∙ w.if-branch.true in
            let room = Gathers-room tables c.args.slot c.loop-frame.frame c.loop-frame.batch (subst (λ n. count_used (members tables c.args.slot) 0 n ≤ MAX_PUDDLES) (sym frames) few) was in
            subst (λ es. Gathers tables c.args.slot (c.loop-frame.frame + 1) es)
            (sym (w.batch-is ∙ next_put c.loop-frame.batch w.add_put-then-branch.new.batch w.remove-then-branch.result (free_puddle_put c.loop-frame.frame) w.remove-then-branch.ensures.put room w.add_put-then-branch.ensures))
            (Gathers-more tables c.args.slot c.loop-frame.frame c.loop-frame.batch (omega (arith, frames)) yes was)
        | else-branch w ↦
            let no = of_table c.args.frames image c.args.slot c.loop-frame.frame _ (omega arith) of ∙ w.if-branch.false in
            subst (λ es. Gathers tables c.args.slot (c.loop-frame.frame + 1) es) (sym w.batch-is)
            (Gathers-other tables c.args.slot c.loop-frame.frame c.loop-frame.batch (omega (arith, frames)) no was)
      ];
}

pub returns-clause-batch : goal.returns-clause-batch
returns-clause-batch g c = λ t image same few.
    Gathers-end (tables_of c.args.frames image) c.args.slot c.loop-frame.frame c.loop-frame.batch (omega (arith, frames_of_tables c.args.frames image)) (c.loop-frame.invariant.gathers t image same few)
