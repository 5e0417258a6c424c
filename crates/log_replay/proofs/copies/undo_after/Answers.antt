use Rattle.std.proofs.Common.{ap, ◌∙◌}
use Rattle.std.proofs.lemmas.Result.{err_from_is_err_and}
use Rattle.pm_model.specs.Counts.{fault_of}
use Rattle.pm_model.proofs.Changes.{Changes-fence}
use Rattle.pud_defs.specs.Logging.Replay.{device_word, undo_value}
use Rattle.log_entry.specs.Reading.{entries_left}
use Rattle.log_entry.specs.Copying.{image_of_copy}
use Rattle.log_replay.specs.Replaying.{Anything}
use Rattle.log_replay.proofs.Applying.{any_then}
use Rattle.log_replay.proofs.Past.{Undoes-failed, Undoes-fence}
use Rattle.log_replay.proofs.copies.undo_after.Goals as goal

pub returns-in_err-undo-clause-undoes : goal.returns-in_err-undo-clause-undoes
returns-in_err-undo-clause-undoes g c =
    let p = err_from_is_err_and c.from_residual.result c.from_residual.ensures.1 in
    rw (p.1, p.2) (λ t size same log logged es left within.
    Undoes-failed (undo_value device_word log es) _ _ _
    (c.in_err-undo.ensures.undoes t size same log logged es (ap (entries_left (image_of_copy c.args.copy.now)) c.after-later.ensures ∙ left) within).changes)

pub returns-clause-undoes : goal.returns-clause-undoes
returns-clause-undoes g c = λ t size same log logged es left within.
    Undoes-fence (undo_value device_word log es) (fault_of c.fence.result) _ _ _
    (c.in_ok-undo.ensures.undoes t size same log logged es (ap (entries_left (image_of_copy c.args.copy.now)) c.after-later.ensures ∙ left) within) (c.fence.ensures.state t)

pub returns-clause-any : goal.returns-clause-any
returns-clause-any g c = λ t. any_then (fault_of c.fence.result) _ _ _ (c.in_ok-undo.ensures.any t) (Changes-fence Anything (fault_of c.fence.result) _ _ (c.fence.ensures.state t))
