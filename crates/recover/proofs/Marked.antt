-- The mark of a log, entry by entry.
use Rattle.std.proofs.Common.{◌≡◌, inl, inr, ℕ, ◌-◌, arith, leb, subst, Bool, true, false, not, ◌&&◌, ◌||◌, cond, List, [], ◌∷◌, Option, Some, None, option_map, refl, sym, ap, ap₂, ◌∙◌}
use Rattle.std.specs.List.{list_all, list_any}
use Rattle.std.proofs.lemmas.Bool.{cond-true, cond-false, cases_Bool}
use Rattle.pud_defs.specs.declared.layout.TheConstants.{ENTRY_HEADER_WORDS}
use Rattle.pud_defs.specs.Formats.Image.{Image, image_with}
use Rattle.pud_defs.proofs.Formats.Images.{written_other}
use Rattle.pud_defs.specs.Logging.Entries.{Entry, Log, gate_used, is_legal_gate, entries_of}
use Rattle.pud_defs.specs.RegistryTables.Spaces.{Owner}
use Rattle.pud_defs.specs.Logging.Replay.{is_in_range, entries_or_none}
use Rattle.pud_defs.specs.RegistryTables.Tables.{Tables}
use Rattle.pud_defs.specs.Logging.Allowed.{is_allowed_entry, are_allowed_entries, is_allowed_log}
use Rattle.log_entry.specs.declared.Entry.{Entry as Found}
use Rattle.log_entry.specs.Reading.{Reading, entry_from, entries_left, left_before, PassesOne, Passes}
use Rattle.log_entry.proofs.Left.{IsReading, entries_left-after}
use Rattle.recover.specs.declared.judge.Mark.{Mark}
use Rattle.recover.specs.declared.judge.Mark.TheVariants.{Closed, Replayed, Refused}
use Rattle.recover.specs.Verdicts.{mark_for}

-- ---- entry by entry

-- the mark by the entries that are left, if those before them make this mark
marked : Tables → Owner → Log → Mark → List Entry → Mark
marked t who log mark [] = mark
marked t who log mark (e ∷ es) = cond (is_in_range log e) (cond (is_allowed_entry t who e) (marked t who log Replayed es) Refused) (marked t who log mark es)

-- the same if what is left is whole entries, otherwise the log is refused
pub mark_left : Tables → Owner → Log → Mark → Option (List Entry) → Mark
mark_left t who log mark None = Refused
mark_left t who log mark (Some es) = marked t who log mark es

-- an entry that does not count does not change the mark
pub mark_left-passed : (t : Tables) (who : Owner) (log : Log) (mark : Mark) (e : Entry) (o : Option (List Entry)) → is_in_range log e ≡ false
    → mark_left t who log mark (option_map (λ es. e ∷ es) o) ≡ mark_left t who log mark o
unfolding mark_left marked
mark_left-passed t who log mark e None out = refl
mark_left-passed t who log mark e (Some es) out = cond-false _ _ _ out

-- an entry that counts and is allowed makes the mark Replayed
pub mark_left-allowed : (t : Tables) (who : Owner) (log : Log) (mark : Mark) (e : Entry) (o : Option (List Entry)) → is_in_range log e ≡ true → is_allowed_entry t who e ≡ true
    → mark_left t who log mark (option_map (λ es. e ∷ es) o) ≡ mark_left t who log Replayed o
unfolding mark_left marked
mark_left-allowed t who log mark e None counts allowed = refl
mark_left-allowed t who log mark e (Some es) counts allowed = cond-true _ _ _ counts ∙ cond-true _ _ _ allowed

-- an entry that counts and is not allowed makes the mark Refused
pub mark_left-refused : (t : Tables) (who : Owner) (log : Log) (mark : Mark) (e : Entry) (o : Option (List Entry)) → is_in_range log e ≡ true → is_allowed_entry t who e ≡ false
    → mark_left t who log mark (option_map (λ es. e ∷ es) o) ≡ Refused
unfolding mark_left marked
mark_left-refused t who log mark e None counts other = refl
mark_left-refused t who log mark e (Some es) counts other = cond-true _ _ _ counts ∙ cond-false _ _ _ other

-- after the last entry, the log keeps its mark if all words were read, and is refused otherwise
pub mark_left-end : (t : Tables) (who : Owner) (log : Log) (mark : Mark) (all : Bool) → mark_left t who log mark (cond all (Some []) None) ≡ cond all mark Refused
unfolding mark_left marked
mark_left-end t who log mark true = refl
mark_left-end t who log mark false = refl

-- ---- the whole

any_or : (mark : Mark) (b : Bool) → cond b Replayed (cond b Replayed mark) ≡ cond b Replayed mark
any_or mark true = refl
any_or mark false = refl

same_both : (mark : Mark) (b : Bool) → mark ≡ cond b mark mark
same_both mark true = refl
same_both mark false = refl

-- the mark by two tests: whether all entries are allowed, and whether any entry counts
by_tests : (all any : Bool) → Mark → Mark
by_tests all any mark = cond all (cond any Replayed mark) Refused

marked_all : (t : Tables) (who : Owner) (log : Log) (mark : Mark) (es : List Entry)
    → marked t who log mark es ≡ by_tests (list_all (λ e. not (is_in_range log e) || is_allowed_entry t who e) es) (list_any (is_in_range log) es) mark
unfolding marked by_tests
marked_all t who log mark [] = refl
marked_all t who log mark (e ∷ es) =
    let all = list_all (λ e. not (is_in_range log e) || is_allowed_entry t who e) es in
    let any = list_any (is_in_range log) es in
    elim (cases_Bool (is_in_range log e)) [
      | inr out ↦ cond-false _ _ _ out ∙ marked_all t who log mark es ∙ sym (ap (λ (b : Bool). by_tests ((not b || is_allowed_entry t who e) && all) (b || any) mark) out)
      | inl counts ↦ cond-true _ _ _ counts ∙ elim (cases_Bool (is_allowed_entry t who e)) [
        | inr other ↦ cond-false _ _ _ other
            ∙ sym (ap (λ (b : Bool). by_tests ((not b || is_allowed_entry t who e) && all) (b || any) mark) counts ∙ ap (λ (b : Bool). by_tests (b && all) true mark) other)
        | inl allowed ↦ cond-true _ _ _ allowed ∙ marked_all t who log Replayed es ∙ ap (λ (m : Mark). cond all m Refused) (sym (same_both Replayed any))
            ∙ sym (ap (λ (b : Bool). by_tests ((not b || is_allowed_entry t who e) && all) (b || any) mark) counts ∙ ap (λ (b : Bool). by_tests (b && all) true mark) allowed)
      ]
    ]

of_entries : (t : Tables) (who : Owner) (log : Log) (o : Option (List Entry))
    → mark_left t who log Closed o ≡ by_tests (are_allowed_entries t who log o) (list_any (is_in_range log) (entries_or_none o)) Closed
unfolding mark_left by_tests
of_entries t who log None = refl
of_entries t who log (Some es) = marked_all t who log Closed es

-- the mark by all entries of a log is its mark
pub mark_left-whole : (t : Tables) (who : Owner) (log : Log) → mark_left t who log Closed log.entries ≡ mark_for t who log
unfolding by_tests is_allowed_log
mark_left-whole t who log = of_entries t who log log.entries

-- a log that is not well formed is refused, and so is a log whose gate is not legal
pub mark_for-spoilt : (t : Tables) (who : Owner) (log : Log) → log.entries ≡ None → mark_for t who log ≡ Refused
unfolding mark_left
mark_for-spoilt t who log none = sym (mark_left-whole t who log) ∙ ap (mark_left t who log Closed) none

pub entries_of-spoilt : (image : Image) (at : ℕ) → is_legal_gate (image at) ≡ false → entries_of image at ≡ None
unfolding entries_of
entries_of-spoilt image at illegal = cond-false _ _ _ illegal

-- ---- a reader

-- what was left before an entry was read is that entry and what is left now
pub left_with : (image : Image) (found : Option Found) (e : Found) (old now : Reading) → found ≡ Some e → entries_left image old ≡ left_before image found now
    → entries_left image old ≡ option_map (λ es. entry_from image e ∷ es) (entries_left image now)
left_with image found e old now one before = before ∙ ap (λ (o : Option Found). left_before image o now) one

-- if no entry comes next, all words that the gate counts were read, or the log is refused
pub mark_left-after : (t : Tables) (who : Owner) (log : Log) (mark : Mark) (image : Image) (found : Option Found) (old now : Reading) (at gate passed : ℕ)
    → found ≡ None → Passes found old now → entries_left image old ≡ left_before image found now
    → IsReading at old → passed ≡ old.passed → gate ≡ image at → is_legal_gate gate ≡ true
    → mark_left t who log mark (entries_left image old) ≡ cond (leb (gate_used gate) passed) mark Refused
mark_left-after t who log mark image found old now at gate passed none passes before reading count is legal =
    let stands : now ≡ old = subst (λ (o : Option Found). Passes o old now) none passes in
    let here : now.log_at ≡ at = ap (λ (r : Reading). r.log_at) stands ∙ reading.same_log in
    let read : now.passed ≡ passed = ap (λ (r : Reading). r.passed) stands ∙ sym count in
    let word : image now.log_at ≡ gate = ap image here ∙ sym is in
    ap (mark_left t who log mark)
    (before ∙ ap (λ (o : Option Found). left_before image o now) none
    ∙ ap₂ (λ (v n : ℕ). cond (is_legal_gate v && leb (gate_used v) n) (Some []) None) word read
    ∙ ap (λ (b : Bool). cond (b && leb (gate_used gate) passed) (Some []) None) legal)
    ∙ mark_left-end t who log mark (leb (gate_used gate) passed)

-- ---- an entry of a copy gets another address

-- the entries after it do not change
pub left_set : (i j : Image) (e : Found) (old now : Reading) (address : ℕ) → PassesOne e old now → j ≡ image_with (e.at - ENTRY_HEADER_WORDS) address i → entries_left j now ≡ entries_left i now
left_set i j e old now address passes set =
    let at = passes.at in
    let same_log = passes.same_log in
    let passed = passes.passed in
    let some = passes.some in
    entries_left-after j i now
    (ap (λ (x : Image). x now.log_at) set ∙ written_other (e.at - ENTRY_HEADER_WORDS) address i now.log_at (λ here. absurd (omega arith)))
    (λ k low. ap (λ (x : Image). x k) set ∙ written_other (e.at - ENTRY_HEADER_WORDS) address i k (λ here. absurd (omega arith)))
