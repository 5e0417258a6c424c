use Rattle.std.proofs.Common.{◌++◌, ◌⊎◌, ◌≡◌, [], ◌∷◌, length, refl, ap, ◌∙◌, arith, inl, inr}
use Rattle.std.proofs.lemmas.Result.{err_from_is_err_and}
use Rattle.std.proofs.lemmas.List.Elements.{All-nil, All-cons}
use Rattle.pm_model.specs.Words.{reads}
use Rattle.pm_model.specs.Moments.{State}
use Rattle.pm_model.proofs.Reading.{OnlyReads-then, still_size, Changes-read}
use Rattle.pud_defs.proofs.Logging.Entries.{words_from-length}
use Rattle.log_store.specs.Store.{undo_entry}
use Rattle.log_store.proofs.Counted.{counts_still}
use Rattle.word_transaction.specs.Running.{IsOneOf}
use Rattle.word_transaction.proofs.Calls.{some_fault}
use Rattle.word_transaction.proofs.Saving.{IsRead, IsRead-held, IsRead-word}
use Rattle.word_transaction.proofs.Kept.{SavesWords-still, SavesWords-appended, saved_by_two}
use Rattle.word_transaction.proofs.WordTransaction.append_both_held.Goals as goal

pub returns-in_err-values-clause-keeps : goal.returns-in_err-values-clause-keeps
returns-in_err-values-clause-keeps g c =
    let p = err_from_is_err_and c.from_residual.result c.from_residual.ensures.1 in
    rw (p.1, p.2) (λ t size is scope es before stands may place may2 place2 back running.
    SavesWords-still scope _ es back before _ _ _ _ c.in_err-values.ensures.only_reads.never_cut (c.in_err-values.ensures.only_reads.stays t) running (λ none. absurd (some_fault _ none)))

pub returns-in_err-word-clause-changes : goal.returns-in_err-word-clause-changes
returns-in_err-word-clause-changes g c =
    let p = err_from_is_err_and c.from_residual-in_err-word.result c.from_residual-in_err-word.ensures.1 in
    rw (p.1, p.2) (Changes-read (OnlyReads-then c.in_ok-values.ensures.only_reads c.in_err-word.ensures.only_reads))

pub returns-in_err-word-clause-keeps : goal.returns-in_err-word-clause-keeps
returns-in_err-word-clause-keeps g c =
    let p = err_from_is_err_and c.from_residual-in_err-word.result c.from_residual-in_err-word.ensures.1 in
    let reading = OnlyReads-then c.in_ok-values.ensures.only_reads c.in_err-word.ensures.only_reads in
    rw (p.1, p.2) (λ t size is scope es before stands may place may2 place2 back running.
    SavesWords-still scope _ es back before _ _ _ _ reading.never_cut (reading.stays t) running (λ none. absurd (some_fault _ none)))

pub returns-clause-keeps : goal.returns-clause-keeps
returns-clause-keeps g c = λ t size is scope es before stands may place may2 place2 back running.
    let reading = OnlyReads-then c.in_ok-values.ensures.only_reads c.in_ok-word.ensures.only_reads in
    let held = c.in_ok-values.ensures.taken t in
    let image = reads (g.H.Host.state c.args.h.now).now.words in
    let size_is = ap length held ∙ words_from-length image c.args.first c.args.count in
    let word = c.in_ok-word.ensures.value t ∙ ap (λ (x : State). (x.now.words c.args.second).newest) (c.in_ok-values.ensures.only_reads.stays t) in
    let e = undo_entry c.args.address _ in
    let f = undo_entry c.args.address2 (c.in_ok-word.word ∷ []) in
    SavesWords-appended size scope _ _ es back before (λ k. IsOneOf c.args.first c.args.count k ⊎ (k ≡ c.args.second)) _ (e ∷ f ∷ []) _ _ _ _ stands running (reading.stays t)
    (All-cons (IsRead scope image) e (f ∷ []) (IsRead-held scope image c.args.address c.args.first c.args.count _ may place held)
    (All-cons (IsRead scope image) f [] (IsRead-word scope image c.args.address2 c.args.second c.in_ok-word.word may2 place2 word) (All-nil (IsRead scope image)))) refl
    (λ k which. saved_by_two scope.place c.args.address c.args.first c.args.address2 c.args.second k c.in_ok-word.word _ place place2
    (elim which [ inl one ↦ inl (let low = one.0 in let high = one.1 in (omega arith, omega arith)) | inr there ↦ inr there ]))
    c.append_two.ensures.appended c.append_two.ensures.failed
    (λ runs appended. c.append_two.ensures.runs t size (still_size reading is) scope (es ++ back) before stands runs appended)

pub returns-in_err-values-clause-at_once : goal.returns-in_err-values-clause-at_once
returns-in_err-values-clause-at_once g c =
    let p = err_from_is_err_and c.from_residual.result c.from_residual.ensures.1 in
    let reading = c.in_err-values.ensures.only_reads in
    rw (p.1, p.2) (λ t. counts_still _ _ _ _ _ reading.never_cut (reading.stays t) (λ _. refl))

pub returns-in_err-word-clause-at_once : goal.returns-in_err-word-clause-at_once
returns-in_err-word-clause-at_once g c =
    let p = err_from_is_err_and c.from_residual-in_err-word.result c.from_residual-in_err-word.ensures.1 in
    let reading = OnlyReads-then c.in_ok-values.ensures.only_reads c.in_err-word.ensures.only_reads in
    rw (p.1, p.2) (λ t. counts_still _ _ _ _ _ reading.never_cut (reading.stays t) (λ _. refl))
