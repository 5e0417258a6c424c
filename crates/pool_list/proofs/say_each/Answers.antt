use Rattle.std.proofs.Common.{ℕ, List, get_or, None, ap, ◌∙◌}
use Rattle.std.proofs.lemmas.Result.{err_from_is_err_and}
use Rattle.pm_model.specs.Counts.{after_fault, fault_of}
use Rattle.pud_defs.specs.declared.records.PoolRecord.{PoolRecord}
use Rattle.pool_list.specs.Listed.{record_text}
use Rattle.pool_list.proofs.Saying.{Says-more, Says-until}
use Rattle.pool_list.proofs.say_each.Goals as goal

pub returns-in_err-say_pool-clause-says : goal.returns-in_err-say_pool-clause-says
returns-in_err-say_pool-clause-says g c =
    let p = err_from_is_err_and c.from_residual.result c.from_residual.ensures.1 in
    let text : ℕ × PoolRecord → List ℕ = λ e. record_text c.args.id e.1 (get_or c.args.counts.now e.0 0) in
    rw (p.1, p.2) (λ t. Says-until text c.args.records.now c.loop-slot.slot-index _ c.loop-slot-test.true c.in_err-say_pool.field-0.0 _ _ _ (c.loop-slot.invariant.says t) (c.in_err-say_pool.ensures.says t))

pub loop-slot-preserved : goal.loop-slot-preserved
loop-slot-preserved g c =
    let text : ℕ × PoolRecord → List ℕ = λ e. record_text c.args.id e.1 (get_or c.args.counts.now e.0 0) in
    record {
      counts = c.say_pool.ensures.cause ∙ ap (λ r. after_fault (fault_of r) (g.H.Host.counts c.loop-slot.h)) c.in_ok-say_pool.was ∙ c.loop-slot.invariant.counts;
      says = λ t. Says-more text c.args.records.now c.loop-slot.slot-index _ c.loop-slot-test.true None _ _ _ (c.loop-slot.invariant.says t) (c.in_ok-say_pool.ensures.says t);
    }
