use Rattle.std.proofs.Common.{◌+◌, [], ◌∷◌, length, refl, ap, arith}
use Rattle.std.proofs.lemmas.Result.{err_from_is_err_and}
use Rattle.pud_defs.specs.Logging.Entries.{IsLegalEntry}
use Rattle.log_store.specs.Store.{OpenLog, spelled_all, with_words, undo_entry}
use Rattle.log_store.proofs.Counted.{counts_still, counts_written}
use Rattle.log_store.proofs.Appending.{both_counted, Persists-spelled, spells_two, changes_in_log, Appends-failed, Appends-done}
use Rattle.log_store.proofs.Log.append_two.Goals as goal

pub returns-in_err-append_fitting-clause-changes : goal.returns-in_err-append_fitting-clause-changes
returns-in_err-append_fitting-clause-changes g c =
    let p = err_from_is_err_and c.from_residual.result c.from_residual.ensures.1 in
    let used = ap (λ (l : OpenLog). l.used) c.self.view_is in
    let e = undo_entry c.args.addr c.args.vals.now in
    let f = undo_entry c.args.addr2 (c.args.word ∷ []) in
    let count = both_counted c.args.addr c.args.addr2 c.args.word c.args.vals.now in
    rw (p.1, p.2) (λ t. changes_in_log c.args.self.now (length c.args.vals.now + 5) (spelled_all (e ∷ f ∷ [])) _ _ _ (record { counted = count; room = omega arith })
    (Persists-spelled c.args.self.now _ (spelled_all (e ∷ f ∷ [])) _ _ _ _ c.encode_two-n.ensures.spells count (c.in_err-append_fitting.ensures.persists t)))

pub returns-in_err-append_fitting-clause-appends : goal.returns-in_err-append_fitting-clause-appends
returns-in_err-append_fitting-clause-appends g c =
    let p = err_from_is_err_and c.from_residual.result c.from_residual.ensures.1 in
    let e = undo_entry c.args.addr c.args.vals.now in
    let f = undo_entry c.args.addr2 (c.args.word ∷ []) in
    let count = both_counted c.args.addr c.args.addr2 c.args.word c.args.vals.now in
    let first : IsLegalEntry e = record { some = c.requires.some; no_more = c.requires.no_more; seq_fits = omega arith; order_known = omega arith } in
    let second : IsLegalEntry f = record { some = omega arith; no_more = omega arith; seq_fits = omega arith; order_known = omega arith } in
    rw (p.1, p.2) (λ t es open_log. Appends-failed _ es _ (e ∷ f ∷ []) _ _ _
    (Persists-spelled c.args.self.now _ (spelled_all (e ∷ f ∷ [])) _ _ _ _ c.encode_two-n.ensures.spells count (c.in_err-append_fitting.ensures.persists t))
    (c.in_err-append_fitting.ensures.moments t es (e ∷ f ∷ []) (spells_two _ e f c.encode_two-n.ensures.spells first second) open_log))

pub returns-clause-changes : goal.returns-clause-changes
returns-clause-changes g c =
    let used = ap (λ (l : OpenLog). l.used) c.self.view_is in
    let e = undo_entry c.args.addr c.args.vals.now in
    let f = undo_entry c.args.addr2 (c.args.word ∷ []) in
    let count = both_counted c.args.addr c.args.addr2 c.args.word c.args.vals.now in
    λ t. changes_in_log c.args.self.now (length c.args.vals.now + 5) (spelled_all (e ∷ f ∷ [])) _ _ _ (record { counted = count; room = omega arith })
    (Persists-spelled c.args.self.now _ (spelled_all (e ∷ f ∷ [])) _ _ _ _ c.encode_two-n.ensures.spells count (c.in_ok-append_fitting.ensures.persists t))

pub returns-clause-appends : goal.returns-clause-appends
returns-clause-appends g c =
    let used = ap (λ (l : OpenLog). l.used) c.self.view_is in
    let e = undo_entry c.args.addr c.args.vals.now in
    let f = undo_entry c.args.addr2 (c.args.word ∷ []) in
    let count = both_counted c.args.addr c.args.addr2 c.args.word c.args.vals.now in
    let first : IsLegalEntry e = record { some = c.requires.some; no_more = c.requires.no_more; seq_fits = omega arith; order_known = omega arith } in
    let second : IsLegalEntry f = record { some = omega arith; no_more = omega arith; seq_fits = omega arith; order_known = omega arith } in
    λ t es open_log. Appends-done c.args.self.now es _ (e ∷ f ∷ []) _ _ (record { counted = count; room = omega arith }) (spells_two _ e f refl first second) open_log
    (Persists-spelled c.args.self.now _ (spelled_all (e ∷ f ∷ [])) _ _ _ _ c.encode_two-n.ensures.spells count (c.in_ok-append_fitting.ensures.persists t))
    (c.in_ok-append_fitting.ensures.moments t es (e ∷ f ∷ []) (spells_two _ e f c.encode_two-n.ensures.spells first second) open_log)

pub returns-then-self-both-gt-LOG_ENTRY_WORDS-clause-too_big : goal.returns-then-self-both-gt-LOG_ENTRY_WORDS-clause-too_big
returns-then-self-both-gt-LOG_ENTRY_WORDS-clause-too_big g c =
    let used = ap (λ (l : OpenLog). l.used) c.self.view_is in
    (λ _. omega arith, λ _. refl)

pub returns-clause-appended : goal.returns-clause-appended
returns-clause-appended g c = ap (with_words (length c.args.vals.now + 5)) c.self.view_is

-- Both entries begin to count by one word.

pub returns-then-self-both-gt-LOG_ENTRY_WORDS-clause-at_once : goal.returns-then-self-both-gt-LOG_ENTRY_WORDS-clause-at_once
returns-then-self-both-gt-LOG_ENTRY_WORDS-clause-at_once g c = λ t. counts_still _ _ _ _ _ (λ cut. absurd (cc)) refl (λ _. refl)

pub returns-in_err-append_fitting-clause-at_once : goal.returns-in_err-append_fitting-clause-at_once
returns-in_err-append_fitting-clause-at_once g c =
    let p = err_from_is_err_and c.from_residual.result c.from_residual.ensures.1 in
    rw (p.1, p.2) (λ t. counts_written c.args.self.now _ _ _ _ _ _ (c.in_err-append_fitting.ensures.persists t).changes (λ none. absurd (cc)))

pub returns-clause-at_once : goal.returns-clause-at_once
returns-clause-at_once g c =
    let used = ap (λ (l : OpenLog). l.used) c.self.view_is in
    let e = undo_entry c.args.addr c.args.vals.now in
    let f = undo_entry c.args.addr2 (c.args.word ∷ []) in
    λ t. counts_written c.args.self.now _ (length c.args.vals.now + 5) (spelled_all (e ∷ f ∷ [])) _ _ _
    (Persists-spelled c.args.self.now _ (spelled_all (e ∷ f ∷ [])) _ _ _ _ c.encode_two-n.ensures.spells (both_counted c.args.addr c.args.addr2 c.args.word c.args.vals.now) (c.in_ok-append_fitting.ensures.persists t)).changes
    (λ _. omega arith)
