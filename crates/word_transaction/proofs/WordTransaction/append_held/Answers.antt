use Rattle.std.proofs.Common.{◌++◌, [], ◌∷◌, length, refl, ap, ◌∙◌, arith}
use Rattle.std.proofs.lemmas.Result.{err_from_is_err_and}
use Rattle.std.proofs.lemmas.List.Elements.{All-nil, All-cons}
use Rattle.pm_model.specs.Words.{reads}
use Rattle.pm_model.proofs.Reading.{still_size}
use Rattle.pud_defs.proofs.Logging.Entries.{words_from-length}
use Rattle.log_store.specs.Store.{undo_entry}
use Rattle.log_store.proofs.Counted.{counts_still}
use Rattle.word_transaction.specs.Running.{IsOneOf}
use Rattle.word_transaction.proofs.Saved.{saved_by_one}
use Rattle.word_transaction.proofs.Calls.{some_fault}
use Rattle.word_transaction.proofs.Saving.{IsRead, IsRead-held}
use Rattle.word_transaction.proofs.Kept.{SavesWords-still, SavesWords-appended}
use Rattle.word_transaction.proofs.WordTransaction.append_held.Goals as goal

pub returns-in_err-values-clause-keeps : goal.returns-in_err-values-clause-keeps
returns-in_err-values-clause-keeps g c =
    let p = err_from_is_err_and c.from_residual.result c.from_residual.ensures.1 in
    rw (p.1, p.2) (λ t size is scope es before stands may place back running.
    SavesWords-still scope _ es back before _ _ _ _ c.in_err-values.ensures.only_reads.never_cut (c.in_err-values.ensures.only_reads.stays t) running (λ none. absurd (some_fault _ none)))

pub returns-clause-keeps : goal.returns-clause-keeps
returns-clause-keeps g c = λ t size is scope es before stands may place back running.
    let reading = c.in_ok-values.ensures.only_reads in
    let held = c.in_ok-values.ensures.taken t in
    let image = reads (g.H.Host.state c.args.h.now).now.words in
    let e = undo_entry c.args.address _ in
    let size_is = ap length held ∙ words_from-length image c.args.first c.args.count in
    SavesWords-appended size scope _ _ es back before (IsOneOf c.args.first c.args.count) _ (e ∷ []) _ _ _ _ stands running (reading.stays t)
    (All-cons (IsRead scope image) e [] (IsRead-held scope image c.args.address c.args.first c.args.count _ may place held) (All-nil (IsRead scope image))) refl
    (λ k one. saved_by_one scope.place c.args.address c.args.first k _ place (let low = one.0 in let high = one.1 in (omega arith, omega arith)))
    c.append.ensures.appended c.append.ensures.failed
    (λ runs appended. c.append.ensures.runs t size (still_size reading is) scope (es ++ back) before stands runs appended)

pub returns-in_err-values-clause-at_once : goal.returns-in_err-values-clause-at_once
returns-in_err-values-clause-at_once g c =
    let p = err_from_is_err_and c.from_residual.result c.from_residual.ensures.1 in
    let reading = c.in_err-values.ensures.only_reads in
    rw (p.1, p.2) (λ t. counts_still _ _ _ _ _ reading.never_cut (reading.stays t) (λ _. refl))
