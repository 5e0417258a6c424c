use Rattle.std.proofs.Common.{refl, ap, ◌∙◌}
use Rattle.std.proofs.lemmas.Result.{err_from_is_err_and}
use Rattle.pm_model.specs.Counts.{fault_of}
use Rattle.pud_defs.specs.Logging.Entries.{Log}
use Rattle.pud_defs.specs.Logging.Replay.{device_word, undo_value, redo_value, new_value}
use Rattle.pud_defs.proofs.Logging.Replay.{new_value-of}
use Rattle.log_entry.specs.Copying.{image_of_copy}
use Rattle.log_entry.proofs.Left.{entries_left-start}
use Rattle.log_replay.proofs.Applying.{AppliesEntries-joined, AppliesEntries-cut_short, size_then, any_then}
use Rattle.log_replay.proofs.copies.overwrite.Goals as goal

pub returns-in_err-undo-clause-overwrites : goal.returns-in_err-undo-clause-overwrites
returns-in_err-undo-clause-overwrites g c =
    let p = err_from_is_err_and c.from_residual.result c.from_residual.ensures.1 in
    rw (p.1, p.2) (λ t size same log logged es are within.
    let left = entries_left-start (image_of_copy c.args.copy.now) 0 c.new-newest_first.result c.new-newest_first.ensures ∙ ap (λ (l : Log). l.entries) logged ∙ are in
    AppliesEntries-cut_short (undo_value device_word log es) (redo_value device_word log es) (new_value device_word log) _ _ _ _ refl (λ w. new_value-of device_word log es w are)
    (c.in_err-undo.ensures.undoes t size same log logged es left within))

pub returns-clause-overwrites : goal.returns-clause-overwrites
returns-clause-overwrites g c = λ t size same log logged es are within.
    let left = entries_left-start (image_of_copy c.args.copy.now) 0 c.new-newest_first.result c.new-newest_first.ensures ∙ ap (λ (l : Log). l.entries) logged ∙ are in
    let again = entries_left-start (image_of_copy c.args.copy.now) 0 c.new-oldest_first.result c.new-oldest_first.ensures ∙ ap (λ (l : Log). l.entries) logged ∙ are in
    AppliesEntries-joined (undo_value device_word log es) (redo_value device_word log es) (new_value device_word log) (fault_of c.redo.result) _ _ _ _ refl (λ w. new_value-of device_word log es w are)
    (c.in_ok-undo.ensures.undoes t size same log logged es left within)
    (c.redo.ensures.redoes t size (size_then size _ _ same c.in_ok-undo.ensures.cause) log logged es again within)

pub returns-clause-any : goal.returns-clause-any
returns-clause-any g c = λ t. any_then (fault_of c.redo.result) _ _ _ (c.in_ok-undo.ensures.any t) (c.redo.ensures.any t)
