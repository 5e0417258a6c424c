use Rattle.std.proofs.Common.{sym, ap, ◌∙◌, refl}
use Rattle.std.proofs.lemmas.Result.{err_from_is_err_and}
use Rattle.pm_model.specs.Counts.{Counts, fault_of}
use Rattle.batch.proofs.Phases.{Commits-prepare, Commits-settle}
use Rattle.log_replay.proofs.Applying.{any_then}
use Rattle.batch.proofs.commit_by.Goals as goal

pub returns-in_err-prepare-clause-commits : goal.returns-in_err-prepare-clause-commits
returns-in_err-prepare-clause-commits g c =
    let p = err_from_is_err_and c.from_residual.result c.from_residual.ensures.1 in
    rw (p.1, p.2) (λ t size same es spell batched free. Commits-prepare size c.args.at es _ _ _ (c.in_err-prepare.ensures.prepares t size same es spell batched free))

pub returns-clause-commits : goal.returns-clause-commits
returns-clause-commits g c = λ t size same es spell batched free.
    let prepared = c.in_ok-prepare.ensures.prepares t size same es spell batched free in
    let log = prepared.prepared refl in
    let after = same ∙ sym (ap (λ (n : Counts). n.size) c.in_ok-prepare.ensures.cause) in
    Commits-settle size c.args.at es (fault_of c.settle_log.result) _ _ _ batched prepared (c.settle_log.ensures.settles t size after es log.replayable)
    (c.settle_log.ensures.same t refl size after es log.replayable log.durable_log)

pub returns-clause-any : goal.returns-clause-any
returns-clause-any g c = λ t. any_then (fault_of c.settle_log.result) _ _ _ (c.in_ok-prepare.ensures.any t) (c.settle_log.ensures.any t)
