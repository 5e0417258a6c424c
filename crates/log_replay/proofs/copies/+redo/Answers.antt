use Rattle.std.proofs.Common.{None, refl}
use Rattle.std.proofs.lemmas.Result.{err_from_is_err_and}
use Rattle.pm_model.specs.Counts.{fault_of}
use Rattle.pm_model.proofs.Changes.{Changes-still}
use Rattle.pud_defs.specs.declared.log_words.TheConstants.{REDO_ORDER}
use Rattle.pud_defs.specs.Logging.Replay.{device_word, given_by, redo_value}
use Rattle.log_entry.specs.Reading.{entry_from}
use Rattle.log_entry.specs.Copying.{image_of_copy}
use Rattle.log_replay.specs.Replaying.{Anything}
use Rattle.log_replay.proofs.Applying.{AppliesEntries-nothing, AppliesEntries-joined, AppliesEntries-cut_short, size_then, any_then}
use Rattle.log_replay.proofs.Left.{is_first, redo_value-found, redo_value-end}
use Rattle.log_replay.proofs.copies.+redo.Goals as goal

pub returns-in-None-clause-redoes : goal.returns-in-None-clause-redoes
returns-in-None-clause-redoes g m c = λ t size same log logged es left within.
    AppliesEntries-nothing (redo_value device_word log es) _ _ (redo_value-end log _ c.next.new.self c.next.result es (image_of_copy c.args.copy.now) c.in-None.is c.next.ensures.left left) refl

pub returns-in_err-apply-in-Some-clause-redoes : goal.returns-in_err-apply-in-Some-clause-redoes
returns-in_err-apply-in-Some-clause-redoes g m c =
    let p = err_from_is_err_and c.from_residual.result c.from_residual.ensures.1 in
    rw (p.1, p.2) (λ t size same log logged es left within.
    let image = image_of_copy c.args.copy.now in
    let f = is_first size log image c.next.result c.in-Some.entry _ c.next.new.self es c.in-Some.is c.next.ensures.left left within in
    AppliesEntries-cut_short (given_by device_word log REDO_ORDER (entry_from image c.in-Some.entry)) (redo_value device_word log f.following) (redo_value device_word log es) _ _ _ _ refl
    (redo_value-found size log image c.in-Some.entry c.next.new.self es f)
    (c.in_err-apply-in-Some.ensures.applies t size same log logged (entry_from image c.in-Some.entry) refl f.within))

pub returns-in_ok-apply-in-Some-clause-redoes : goal.returns-in_ok-apply-in-Some-clause-redoes
returns-in_ok-apply-in-Some-clause-redoes g m c = λ t size same log logged es left within.
    let image = image_of_copy c.args.copy.now in
    let f = is_first size log image c.next.result c.in-Some.entry _ c.next.new.self es c.in-Some.is c.next.ensures.left left within in
    AppliesEntries-joined (given_by device_word log REDO_ORDER (entry_from image c.in-Some.entry)) (redo_value device_word log f.following) (redo_value device_word log es) (fault_of c.redo.result) _ _ _ _ refl
    (redo_value-found size log image c.in-Some.entry c.next.new.self es f)
    (c.in_ok-apply-in-Some.ensures.applies t size same log logged (entry_from image c.in-Some.entry) refl f.within)
    (c.redo.ensures.redoes t size (size_then size _ _ same c.in_ok-apply-in-Some.ensures.cause) log logged f.following f.left f.others)

pub returns-in_ok-apply-in-Some-clause-any : goal.returns-in_ok-apply-in-Some-clause-any
returns-in_ok-apply-in-Some-clause-any g m c = λ t. any_then (fault_of c.redo.result) _ _ _ (c.in_ok-apply-in-Some.ensures.any t) (c.redo.ensures.any t)

pub returns-in-None-clause-any : goal.returns-in-None-clause-any
returns-in-None-clause-any g m c = λ t. Changes-still Anything None _ _ (λ cut. cc) refl
