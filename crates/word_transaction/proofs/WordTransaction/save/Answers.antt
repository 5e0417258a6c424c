use Rattle.std.proofs.Common.{refl, sym, ap, ◌∙◌}
use Rattle.std.proofs.lemmas.Result.{err_from_is_err_and}
use Rattle.pm_model.specs.Words.{reads}
use Rattle.pm_model.proofs.Reading.{still_size, Changes-read}
use Rattle.pud_defs.specs.Logging.Entries.{Log, entries_of}
use Rattle.log_store.proofs.Counted.{counts_still}
use Rattle.word_transaction.specs.Scope.{IsInScope}
use Rattle.word_transaction.specs.Running.{IsOneOf}
use Rattle.word_transaction.proofs.Covered.{covered_are_saved}
use Rattle.word_transaction.proofs.Calls.{some_fault}
use Rattle.log_replay.proofs.Past.{All-back}
use Rattle.word_transaction.proofs.Kept.{SavesWords-still, SavesWords-from}
use Rattle.word_transaction.proofs.WordTransaction.save.Goals as goal

pub returns-in_err-covered-clause-changes : goal.returns-in_err-covered-clause-changes
returns-in_err-covered-clause-changes g c =
    let p = err_from_is_err_and c.from_residual.result c.from_residual.ensures.1 in
    rw (p.1, p.2) (Changes-read c.in_err-covered.ensures.only_reads)

pub returns-in_err-covered-clause-keeps : goal.returns-in_err-covered-clause-keeps
returns-in_err-covered-clause-keeps g c =
    let p = err_from_is_err_and c.from_residual.result c.from_residual.ensures.1 in
    let reading = c.in_err-covered.ensures.only_reads in
    rw (p.1, p.2) (λ t size is scope es before stands ends may place back running.
    SavesWords-still scope _ es back before _ _ _ _ reading.never_cut (reading.stays t) running (λ none. absurd (some_fault _ none)))

pub returns-in_err-covered-clause-at_once : goal.returns-in_err-covered-clause-at_once
returns-in_err-covered-clause-at_once g c =
    let p = err_from_is_err_and c.from_residual.result c.from_residual.ensures.1 in
    let reading = c.in_err-covered.ensures.only_reads in
    rw (p.1, p.2) (λ t. counts_still _ _ _ _ _ reading.never_cut (reading.stays t) (λ _. refl))

pub returns-then-covered-clause-changes : goal.returns-then-covered-clause-changes
returns-then-covered-clause-changes g c = Changes-read c.in_ok-covered.ensures.only_reads

pub returns-then-covered-clause-at_once : goal.returns-then-covered-clause-at_once
returns-then-covered-clause-at_once g c =
    let reading = c.in_ok-covered.ensures.only_reads in
    λ t. counts_still _ _ _ _ _ reading.never_cut (reading.stays t) (λ _. refl)

pub returns-then-covered-clause-keeps : goal.returns-then-covered-clause-keeps
returns-then-covered-clause-keeps g c = λ t size is scope es before stands ends may place back running.
    let reading = c.in_ok-covered.ensures.only_reads in
    let entries = ap (entries_of (reads (g.H.Host.state c.args.h.now).now.words)) c.at.ensures ∙ ap (λ (l : Log). l.entries) running.opened.says in
    let told = sym (c.in_ok-covered.ensures.covered t _ (λ _. reads (g.H.Host.state c.args.h.now).now.words) es back entries ends (stands.named c.args.address c.args.count may).fits) ∙ c.if-covered.true in
    SavesWords-still scope _ es back before (IsOneOf c.args.first c.args.count) _ _ _ reading.never_cut (reading.stays t) running
    (λ none k one. covered_are_saved size c.args.self.now.gate_at scope back c.args.address c.args.first c.args.count k stands (All-back (IsInScope scope) es back running.own) may place told one)

pub returns-clause-keeps : goal.returns-clause-keeps
returns-clause-keeps g c = λ t size is scope es before stands ends may place back running.
    let reading = c.in_ok-covered.ensures.only_reads in
    SavesWords-from scope _ _ es back before (IsOneOf c.args.first c.args.count) _ _ _ _ (reading.stays t) running
    (λ runs. c.append_held.ensures.keeps t size (still_size reading is) scope es before stands may place back runs)
