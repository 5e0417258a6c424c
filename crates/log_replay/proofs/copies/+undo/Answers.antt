use Rattle.std.proofs.Common.{None, refl}
use Rattle.std.proofs.lemmas.Result.{err_from_is_err_and}
use Rattle.pm_model.specs.Counts.{fault_of}
use Rattle.pm_model.proofs.Changes.{Changes-still}
use Rattle.pud_defs.specs.declared.log_words.TheConstants.{UNDO_ORDER}
use Rattle.pud_defs.specs.Logging.Replay.{device_word, given_by, undo_value}
use Rattle.log_entry.specs.Reading.{entry_from}
use Rattle.log_entry.specs.Copying.{image_of_copy}
use Rattle.log_replay.specs.Replaying.{Anything}
use Rattle.log_replay.proofs.Applying.{AppliesEntries-nothing, AppliesEntries-joined, AppliesEntries-cut_short, size_then, any_then}
use Rattle.log_replay.proofs.Left.{is_first, undone-found, undo_value-end}
use Rattle.log_replay.proofs.copies.+undo.Goals as goal

pub returns-in-None-clause-undoes : goal.returns-in-None-clause-undoes
returns-in-None-clause-undoes g m c = λ t size same log logged es left within.
    AppliesEntries-nothing (undo_value device_word log es) _ _ (undo_value-end log _ c.next.new.self c.next.result es (image_of_copy c.args.copy.now) c.in-None.is c.next.ensures.left left) refl

pub returns-in_err-undo-in-Some-clause-undoes : goal.returns-in_err-undo-in-Some-clause-undoes
returns-in_err-undo-in-Some-clause-undoes g m c =
    let p = err_from_is_err_and c.from_residual.result c.from_residual.ensures.1 in
    rw (p.1, p.2) (λ t size same log logged es left within.
    let image = image_of_copy c.args.copy.now in
    let f = is_first size log image c.next.result c.in-Some.entry _ c.next.new.self es c.in-Some.is c.next.ensures.left left within in
    AppliesEntries-cut_short (undo_value device_word log f.following) (given_by device_word log UNDO_ORDER (entry_from image c.in-Some.entry)) (undo_value device_word log es) _ _ _ _ refl
    (undone-found size log image c.in-Some.entry c.next.new.self es f) (c.in_err-undo-in-Some.ensures.undoes t size same log logged f.following f.left f.others))

pub returns-in_ok-undo-in-Some-clause-undoes : goal.returns-in_ok-undo-in-Some-clause-undoes
returns-in_ok-undo-in-Some-clause-undoes g m c = λ t size same log logged es left within.
    let image = image_of_copy c.args.copy.now in
    let f = is_first size log image c.next.result c.in-Some.entry _ c.next.new.self es c.in-Some.is c.next.ensures.left left within in
    AppliesEntries-joined (undo_value device_word log f.following) (given_by device_word log UNDO_ORDER (entry_from image c.in-Some.entry)) (undo_value device_word log es) (fault_of c.apply.result) _ _ _ _ refl
    (undone-found size log image c.in-Some.entry c.next.new.self es f) (c.in_ok-undo-in-Some.ensures.undoes t size same log logged f.following f.left f.others)
    (c.apply.ensures.applies t size (size_then size _ _ same c.in_ok-undo-in-Some.ensures.cause) log logged (entry_from image c.in-Some.entry) refl f.within)

pub returns-in_ok-undo-in-Some-clause-any : goal.returns-in_ok-undo-in-Some-clause-any
returns-in_ok-undo-in-Some-clause-any g m c = λ t. any_then (fault_of c.apply.result) _ _ _ (c.in_ok-undo-in-Some.ensures.any t) (c.apply.ensures.any t)

pub returns-in-None-clause-any : goal.returns-in-None-clause-any
returns-in-None-clause-any g m c = λ t. Changes-still Anything None _ _ (λ cut. cc) refl
