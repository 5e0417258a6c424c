use Rattle.std.proofs.Common.{◌+◌, ◌∙◌, arith}
use Rattle.std.proofs.lemmas.Result.{err_from_is_err_and}
use Rattle.pm_persist.specs.Ranges.{zeroed}
use Rattle.pm_persist.proofs.Ranges.{StoresBelow-more, StoresBelow-failed, zeroed_at}
use Rattle.pm_persist.proofs.store_zeroes.Goals as goal

pub returns-in_err-store-clause-stores : goal.returns-in_err-store-clause-stores
returns-in_err-store-clause-stores g c =
    let p = err_from_is_err_and c.from_residual.result c.from_residual.ensures.1 in
    let here = zeroed_at c.args.w c.args.n c.loop-at.at (omega arith) (omega arith) in
    rw (p.1, p.2) (λ t. StoresBelow-failed (zeroed c.args.w c.args.n) c.loop-at.at 0 (c.args.w + c.args.n) _ _ _ _ here (c.loop-at.invariant.stored t) (c.in_err-store.ensures.state t))

pub loop-at-preserved : goal.loop-at-preserved
loop-at-preserved g c =
    let here = zeroed_at c.args.w c.args.n c.loop-at.at (omega arith) (omega arith) in
    record {
      counts = c.in_ok-store.ensures.cause ∙ c.loop-at.invariant.counts;
      stored = λ t. StoresBelow-more (zeroed c.args.w c.args.n) c.loop-at.at 0 _ _ _ here (c.loop-at.invariant.stored t) (c.in_ok-store.ensures.state t);
    }
