use Rattle.std.proofs.Common.{◌⊎◌, ◌≡◌, ℕ, inl, inr, refl, sym, ap, ◌∙◌, arith}
use Rattle.std.proofs.lemmas.Result.{err_from_is_err_and}
use Rattle.pm_model.specs.Words.{reads}
use Rattle.pm_model.proofs.Reading.{still_size, Changes-read}
use Rattle.pud_defs.specs.Logging.Entries.{Log, entries_of}
use Rattle.log_store.proofs.Counted.{counts_still}
use Rattle.word_transaction.specs.Scope.{IsInScope}
use Rattle.word_transaction.specs.Running.{IsOneOf}
use Rattle.word_transaction.proofs.Covered.{covered_are_saved, covered_one_is_saved}
use Rattle.word_transaction.proofs.Calls.{some_fault}
use Rattle.log_replay.proofs.Past.{All-back}
use Rattle.word_transaction.proofs.Kept.{SavesWords-still, SavesWords-from, SavesWords-beside}
use Rattle.word_transaction.proofs.WordTransaction.save_both.Goals as goal

pub returns-in_err-one-clause-changes : goal.returns-in_err-one-clause-changes
returns-in_err-one-clause-changes g c =
    let p = err_from_is_err_and c.from_residual.result c.from_residual.ensures.1 in
    rw (p.1, p.2) (Changes-read c.in_err-one.ensures.only_reads)

pub returns-in_err-one-clause-keeps : goal.returns-in_err-one-clause-keeps
returns-in_err-one-clause-keeps g c =
    let p = err_from_is_err_and c.from_residual.result c.from_residual.ensures.1 in
    let reading = c.in_err-one.ensures.only_reads in
    rw (p.1, p.2) (λ t size is scope es before stands ends may place may2 place2 back running.
    SavesWords-still scope _ es back before _ _ _ _ reading.never_cut (reading.stays t) running (λ none. absurd (some_fault _ none)))

pub returns-in_err-one-clause-at_once : goal.returns-in_err-one-clause-at_once
returns-in_err-one-clause-at_once g c =
    let p = err_from_is_err_and c.from_residual.result c.from_residual.ensures.1 in
    let reading = c.in_err-one.ensures.only_reads in
    rw (p.1, p.2) (λ t. counts_still _ _ _ _ _ reading.never_cut (reading.stays t) (λ _. refl))

pub returns-then-other-clause-changes : goal.returns-then-other-clause-changes
returns-then-other-clause-changes g c = Changes-read c.in_ok-one.ensures.only_reads

pub returns-then-other-clause-at_once : goal.returns-then-other-clause-at_once
returns-then-other-clause-at_once g c =
    let reading = c.in_ok-one.ensures.only_reads in
    λ t. counts_still _ _ _ _ _ reading.never_cut (reading.stays t) (λ _. refl)

pub returns-then-other-clause-keeps : goal.returns-then-other-clause-keeps
returns-then-other-clause-keeps g c = λ t size is scope es before stands ends may place may2 place2 back running.
    let reading = c.in_ok-one.ensures.only_reads in
    let image = reads (g.H.Host.state c.args.h.now).now.words in
    let says = ap (λ (l : Log). l.entries) running.opened.says in
    let one = sym (c.in_ok-one.ensures.covered t image (λ _. image) es back (ap (entries_of image) c.at.ensures ∙ says) ends (stands.named c.args.address c.args.count may).fits) ∙ c.if-one.true in
    let other = sym (c.in_ok-one.ensures.other t image (λ _. image) es back (ap (entries_of image) c.at.ensures ∙ says) ends) ∙ c.if-other.true in
    SavesWords-still scope _ es back before (λ k. IsOneOf c.args.first c.args.count k ⊎ (k ≡ c.args.second)) _ _ _ reading.never_cut (reading.stays t) running
    (λ none k which. elim which [
      | inl here ↦ covered_are_saved size c.args.self.now.gate_at scope back c.args.address c.args.first c.args.count k stands (All-back (IsInScope scope) es back running.own) may place one here
      | inr there ↦ covered_one_is_saved size c.args.self.now.gate_at scope back c.args.address2 c.args.second k stands (All-back (IsInScope scope) es back running.own) may2 place2 other there
    ])

pub returns-then-one-clause-keeps : goal.returns-then-one-clause-keeps
returns-then-one-clause-keeps g c = λ t size is scope es before stands ends may place may2 place2 back running.
    let reading = c.in_ok-one.ensures.only_reads in
    let image = reads (g.H.Host.state c.args.h.now).now.words in
    let says = ap (λ (l : Log). l.entries) running.opened.says in
    let one = sym (c.in_ok-one.ensures.covered t image (λ _. image) es back (ap (entries_of image) c.at.ensures ∙ says) ends (stands.named c.args.address c.args.count may).fits) ∙ c.if-one.true in
    let all = λ (k : ℕ). IsOneOf c.args.first c.args.count k ⊎ (k ≡ c.args.second) in
    SavesWords-from scope _ _ es back before all _ _ _ _ (reading.stays t) running
    (λ runs. SavesWords-beside scope _ es back before (IsOneOf c.args.second 1) (IsOneOf c.args.first c.args.count) all _ _ _
    (λ k which. elim which [ inl here ↦ inr here | inr there ↦ inl (omega arith, omega arith) ])
    (λ k here. covered_are_saved size c.args.self.now.gate_at scope back c.args.address c.args.first c.args.count k stands (All-back (IsInScope scope) es back running.own) may place one here)
    (c.append_held.ensures.keeps t size (still_size reading is) scope es before stands may2 place2 back runs))

pub returns-then-other-2-clause-keeps : goal.returns-then-other-2-clause-keeps
returns-then-other-2-clause-keeps g c = λ t size is scope es before stands ends may place may2 place2 back running.
    let reading = c.in_ok-one.ensures.only_reads in
    let image = reads (g.H.Host.state c.args.h.now).now.words in
    let says = ap (λ (l : Log). l.entries) running.opened.says in
    let other = sym (c.in_ok-one.ensures.other t image (λ _. image) es back (ap (entries_of image) c.at.ensures ∙ says) ends) ∙ c.if-other-2.true in
    let all = λ (k : ℕ). IsOneOf c.args.first c.args.count k ⊎ (k ≡ c.args.second) in
    SavesWords-from scope _ _ es back before all _ _ _ _ (reading.stays t) running
    (λ runs. SavesWords-beside scope _ es back before (IsOneOf c.args.first c.args.count) (λ k. k ≡ c.args.second) all _ _ _ (λ k which. which)
    (λ k there. covered_one_is_saved size c.args.self.now.gate_at scope back c.args.address2 c.args.second k stands (All-back (IsInScope scope) es back running.own) may2 place2 other there)
    (c.append_held-then-other-2.ensures.keeps t size (still_size reading is) scope es before stands may place back runs))

pub returns-clause-keeps : goal.returns-clause-keeps
returns-clause-keeps g c = λ t size is scope es before stands ends may place may2 place2 back running.
    let reading = c.in_ok-one.ensures.only_reads in
    SavesWords-from scope _ _ es back before _ _ _ _ _ (reading.stays t) running
    (λ runs. c.append_both_held.ensures.keeps t size (still_size reading is) scope es before stands may place may2 place2 back runs)
