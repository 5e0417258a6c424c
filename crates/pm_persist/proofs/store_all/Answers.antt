use Rattle.std.proofs.Common.{◌+◌, length, ◌∙◌, arith}
use Rattle.std.proofs.lemmas.Result.{err_from_is_err_and}
use Rattle.pm_model.specs.Changes.{placed}
use Rattle.pm_persist.proofs.Ranges.{StoresBelow-more, StoresBelow-failed, placed_at}
use Rattle.pm_persist.proofs.store_all.Goals as goal

pub returns-in_err-store-clause-stores : goal.returns-in_err-store-clause-stores
returns-in_err-store-clause-stores g c =
    let p = err_from_is_err_and c.from_residual.result c.from_residual.ensures.1 in
    let here = placed_at c.args.w c.loop-value.value-index c.loop-value.at c.args.vals.now c.loop-value.invariant.place (omega arith) in
    rw (p.1, p.2) (λ t. StoresBelow-failed (placed c.args.w c.args.vals.now) c.loop-value.at _ (c.args.w + length c.args.vals.now) _ _ _ _ here (c.loop-value.invariant.stored t) (c.in_err-store.ensures.state t))

pub loop-value-preserved : goal.loop-value-preserved
loop-value-preserved g c =
    let here = placed_at c.args.w c.loop-value.value-index c.loop-value.at c.args.vals.now c.loop-value.invariant.place (omega arith) in
    record {
      place = omega arith;
      counts = c.in_ok-store.ensures.cause ∙ c.loop-value.invariant.counts;
      stored = λ t. StoresBelow-more (placed c.args.w c.args.vals.now) c.loop-value.at _ _ _ _ here (c.loop-value.invariant.stored t) (c.in_ok-store.ensures.state t);
    }
