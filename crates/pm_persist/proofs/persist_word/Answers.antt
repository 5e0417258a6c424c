use Rattle.std.proofs.Common.{None}
use Rattle.std.proofs.lemmas.Result.{err_from_is_err_and}
use Rattle.pm_model.specs.Counts.{fault_of}
use Rattle.pm_model.specs.Changes.{only, written}
use Rattle.pm_model.proofs.Changes.{Changes-store, Changes-flush, Changes-then, Persists-failed, Persists-fence, Writes-one}
use Rattle.pm_persist.proofs.persist_word.Goals as goal

pub returns-in_err-store-clause-persists : goal.returns-in_err-store-clause-persists
returns-in_err-store-clause-persists g c =
    let p = err_from_is_err_and c.from_residual.result c.from_residual.ensures.1 in
    rw (p.1, p.2) (λ t. Persists-failed (only c.args.w c.args.v) _ _ _ (Changes-store c.args.w c.args.v _ _ _ (c.in_err-store.ensures.state t)))

pub returns-in_err-flush-clause-persists : goal.returns-in_err-flush-clause-persists
returns-in_err-flush-clause-persists g c =
    let p = err_from_is_err_and c.from_residual-in_err-flush.result c.from_residual-in_err-flush.ensures.1 in
    rw (p.1, p.2) (λ t. Persists-failed (only c.args.w c.args.v) _ _ _
    (Changes-then (written (only c.args.w c.args.v)) _ _ _ _ (Changes-store c.args.w c.args.v _ _ _ (c.in_ok-store.ensures.state t)) (Changes-flush (written (only c.args.w c.args.v)) _ _ _ _ (c.in_err-flush.ensures.state t))))

pub returns-clause-persists : goal.returns-clause-persists
returns-clause-persists g c = λ t.
    let flush = rw c.line_of-line.ensures.line at (c.in_ok-flush.ensures.state t) in
    Persists-fence (only c.args.w c.args.v) (fault_of c.fence.result) _ _ _ (Writes-one c.args.w c.args.v None _ _ _ (c.in_ok-store.ensures.state t) flush) (c.fence.ensures.state t)
