use Rattle.std.proofs.Common.{None, ap, ◌∙◌}
use Rattle.std.proofs.lemmas.Result.{err_from_is_err_and}
use Rattle.pm_model.specs.Counts.{after_fault, fault_of}
use Rattle.pud_defs.specs.RegistryTables.Tables.{tables_of}
use Rattle.pool_list.proofs.Saying.{Says-more, Says-until}
use Rattle.pud_check.specs.LayoutListed.{pool_listed}
use Rattle.pud_check.proofs.Saying.{reads-said}
use Rattle.pud_check.proofs.say_pools.Goals as goal

pub returns-in_err-say_pool-clause-says : goal.returns-in_err-say_pool-clause-says
returns-in_err-say_pool-clause-says g c =
    let p = err_from_is_err_and c.from_residual.result c.from_residual.ensures.1 in
    rw (p.1, p.2) (λ t image e holds.
    let so_far = c.loop-slot.invariant.says t image e holds in
    Says-until (pool_listed c.args.id (tables_of c.args.places.now.count image)) c.args.records.now c.loop-slot.slot-index _ c.loop-slot-test.true c.in_err-say_pool.field-0.0 _ _ _ so_far
    (c.in_err-say_pool.ensures.says t image (reads-said _ _ _ _ image so_far e) holds))

pub loop-slot-preserved : goal.loop-slot-preserved
loop-slot-preserved g c = record {
  counts = c.say_pool.ensures.cause ∙ ap (λ r. after_fault (fault_of r) (g.H.Host.counts c.loop-slot.h)) c.in_ok-say_pool.was ∙ c.loop-slot.invariant.counts;
  says = λ t image e holds.
      let so_far = c.loop-slot.invariant.says t image e holds in
      Says-more (pool_listed c.args.id (tables_of c.args.places.now.count image)) c.args.records.now c.loop-slot.slot-index _ c.loop-slot-test.true None _ _ _ so_far
      (c.in_ok-say_pool.ensures.says t image (reads-said _ _ _ _ image so_far e) holds);
}
