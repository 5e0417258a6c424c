use Rattle.std.proofs.Common.{None}
use Rattle.std.proofs.lemmas.Result.{err_from_is_err_and}
use Rattle.pm_model.specs.Counts.{fault_of}
use Rattle.batch.proofs.Phases.{Prepares-entries, Prepares-range}
use Rattle.log_replay.proofs.Applying.{any_then, any_wider}
use Rattle.batch.proofs.prepare.Goals as goal

pub returns-in_err-persist_range-clause-prepares : goal.returns-in_err-persist_range-clause-prepares
returns-in_err-persist_range-clause-prepares g c =
    let p = err_from_is_err_and c.from_residual.result c.from_residual.ensures.1 in
    rw (p.1, p.2) (λ t size same es spell batched free. Prepares-entries size c.args.at es c.args.words.now _ _ _ free c.requires.fits (c.in_err-persist_range.ensures.persists t))

pub returns-clause-prepares : goal.returns-clause-prepares
returns-clause-prepares g c = λ t size same es spell batched free.
    Prepares-range size c.args.at es c.args.words.now _ _ free c.requires.fits spell batched (c.in_ok-persist_range.ensures.persists t) (fault_of c.persist_word.result) _
    (rw c.gate_word.ensures at (c.persist_word.ensures.persists t))

pub returns-in_err-persist_range-clause-any : goal.returns-in_err-persist_range-clause-any
returns-in_err-persist_range-clause-any g c =
    let p = err_from_is_err_and c.from_residual.result c.from_residual.ensures.1 in
    rw (p.1, p.2) (λ t. any_wider _ _ _ _ (c.in_err-persist_range.ensures.persists t).changes)

pub returns-clause-any : goal.returns-clause-any
returns-clause-any g c = λ t.
    any_then (fault_of c.persist_word.result) _ _ _ (any_wider _ None _ _ (c.in_ok-persist_range.ensures.persists t).changes) (any_wider _ (fault_of c.persist_word.result) _ _ (c.persist_word.ensures.persists t).changes)
