use Rattle.std.proofs.Common.{◌+◌, [], ◌∷◌, length, refl, ap, arith}
use Rattle.std.proofs.lemmas.Result.{err_from_is_err_and}
use Rattle.pud_defs.specs.declared.layout.TheConstants.{ENTRY_HEADER_WORDS}
use Rattle.pud_defs.specs.Logging.Entries.{Entry, IsLegalEntry}
use Rattle.log_store.specs.Store.{OpenLog, spelled_all, with_entry}
use Rattle.log_store.proofs.Counted.{counts_still, counts_written}
use Rattle.log_store.proofs.Appending.{Persists-spelled, spells_one, changes_in_log, Appends-failed, Appends-done}
use Rattle.log_store.proofs.Log.append.Goals as goal

pub returns-in_err-append_fitting-clause-changes : goal.returns-in_err-append_fitting-clause-changes
returns-in_err-append_fitting-clause-changes g c =
    let p = err_from_is_err_and c.from_residual.result c.from_residual.ensures.1 in
    let used = ap (λ (l : OpenLog). l.used) c.self.view_is in
    let e : Entry = record { address = c.args.addr; seq = c.args.seq; order = c.args.order; vals = c.args.vals.now } in
    rw (p.1, p.2) (λ t. changes_in_log c.args.self.now (length c.args.vals.now + ENTRY_HEADER_WORDS) (spelled_all (e ∷ [])) _ _ _ (record { counted = omega arith; room = omega arith })
    (Persists-spelled c.args.self.now _ (spelled_all (e ∷ [])) _ _ _ _ c.encode-n.ensures.spells (omega arith) (c.in_err-append_fitting.ensures.persists t)))

pub returns-in_err-append_fitting-clause-appends : goal.returns-in_err-append_fitting-clause-appends
returns-in_err-append_fitting-clause-appends g c =
    let p = err_from_is_err_and c.from_residual.result c.from_residual.ensures.1 in
    let e : Entry = record { address = c.args.addr; seq = c.args.seq; order = c.args.order; vals = c.args.vals.now } in
    let legal : IsLegalEntry e = record { some = c.requires.some; no_more = c.requires.no_more; seq_fits = c.requires.seq_fits; order_known = c.requires.order_known } in
    rw (p.1, p.2) (λ t es open_log. Appends-failed _ es _ (e ∷ []) _ _ _
    (Persists-spelled c.args.self.now _ (spelled_all (e ∷ [])) _ _ _ _ c.encode-n.ensures.spells (omega arith) (c.in_err-append_fitting.ensures.persists t))
    (c.in_err-append_fitting.ensures.moments t es (e ∷ []) (spells_one _ e c.encode-n.ensures.spells legal) open_log))

pub returns-clause-changes : goal.returns-clause-changes
returns-clause-changes g c =
    let used = ap (λ (l : OpenLog). l.used) c.self.view_is in
    let e : Entry = record { address = c.args.addr; seq = c.args.seq; order = c.args.order; vals = c.args.vals.now } in
    λ t. changes_in_log c.args.self.now (length c.args.vals.now + ENTRY_HEADER_WORDS) (spelled_all (e ∷ [])) _ _ _ (record { counted = omega arith; room = omega arith })
    (Persists-spelled c.args.self.now _ (spelled_all (e ∷ [])) _ _ _ _ c.encode-n.ensures.spells (omega arith) (c.in_ok-append_fitting.ensures.persists t))

pub returns-clause-appends : goal.returns-clause-appends
returns-clause-appends g c =
    let used = ap (λ (l : OpenLog). l.used) c.self.view_is in
    let e : Entry = record { address = c.args.addr; seq = c.args.seq; order = c.args.order; vals = c.args.vals.now } in
    let legal : IsLegalEntry e = record { some = c.requires.some; no_more = c.requires.no_more; seq_fits = c.requires.seq_fits; order_known = c.requires.order_known } in
    λ t es open_log. Appends-done c.args.self.now es _ (e ∷ []) _ _ (record { counted = omega arith; room = omega arith }) (spells_one _ e refl legal) open_log
    (Persists-spelled c.args.self.now _ (spelled_all (e ∷ [])) _ _ _ _ c.encode-n.ensures.spells (omega arith) (c.in_ok-append_fitting.ensures.persists t))
    (c.in_ok-append_fitting.ensures.moments t es (e ∷ []) (spells_one _ e c.encode-n.ensures.spells legal) open_log)

pub returns-then-self-words-gt-LOG_ENTRY_WORDS-clause-too_big : goal.returns-then-self-words-gt-LOG_ENTRY_WORDS-clause-too_big
returns-then-self-words-gt-LOG_ENTRY_WORDS-clause-too_big g c =
    let used = ap (λ (l : OpenLog). l.used) c.self.view_is in
    (λ _. omega arith, λ _. refl)

pub returns-clause-appended : goal.returns-clause-appended
returns-clause-appended g c = ap (with_entry (record { address = c.args.addr; seq = c.args.seq; order = c.args.order; vals = c.args.vals.now })) c.self.view_is

-- The entry begins to count by one word.

pub returns-then-self-words-gt-LOG_ENTRY_WORDS-clause-at_once : goal.returns-then-self-words-gt-LOG_ENTRY_WORDS-clause-at_once
returns-then-self-words-gt-LOG_ENTRY_WORDS-clause-at_once g c = λ t. counts_still _ _ _ _ _ (λ cut. absurd (cc)) refl (λ _. refl)

pub returns-in_err-append_fitting-clause-at_once : goal.returns-in_err-append_fitting-clause-at_once
returns-in_err-append_fitting-clause-at_once g c =
    let p = err_from_is_err_and c.from_residual.result c.from_residual.ensures.1 in
    rw (p.1, p.2) (λ t. counts_written c.args.self.now _ _ _ _ _ _ (c.in_err-append_fitting.ensures.persists t).changes (λ none. absurd (cc)))

pub returns-clause-at_once : goal.returns-clause-at_once
returns-clause-at_once g c =
    let used = ap (λ (l : OpenLog). l.used) c.self.view_is in
    let e : Entry = record { address = c.args.addr; seq = c.args.seq; order = c.args.order; vals = c.args.vals.now } in
    λ t. counts_written c.args.self.now _ (length c.args.vals.now + ENTRY_HEADER_WORDS) (spelled_all (e ∷ [])) _ _ _
    (Persists-spelled c.args.self.now _ (spelled_all (e ∷ [])) _ _ _ _ c.encode-n.ensures.spells (omega arith) (c.in_ok-append_fitting.ensures.persists t)).changes (λ _. omega arith)
