-- What is left to read of a log, entry by entry, and what is made of the entries that were read.
use Rattle.std.proofs.Common.{◌≡◌, inl, inr, ℕ, ◌+◌, ◌-◌, ◌≤◌, ◌^◌, ◌&&◌, Bool, true, false, cond, leb, ltb, List, [], ◌∷◌, ◌++◌, length, drop, Option, Some, None, option_map, is_some, refl, sym, ap, ap₂, subst, ◌∙◌, arith, add-zero}
use Rattle.std.proofs.lemmas.Bool.{cond-true, cond-false, cases_Bool, and_left, and_parts, leb-true}
use Rattle.std.proofs.lemmas.Bool.Decides.{leb_tells}
use Rattle.pud_defs.specs.declared.layout.TheConstants.{LOG_HEADER_WORDS, LOG_ENTRY_WORDS}
use Rattle.pud_defs.specs.Formats.Image.{Image}
use Rattle.pud_defs.specs.Logging.Entries.{Entry, gate_used, is_legal_gate, words_from, first_entry, entries_in, entries_of, entry_words}
use Rattle.pud_defs.proofs.Logging.Entries.{words_from-length, words_from-none, words_from-same, words_from-drop, Splits, entries_in-split, spells, first_entry-fits, entries_in-first, entries_in-none, entries_in-nothing}
use Rattle.log_entry.specs.declared.Entry.{Entry as Found}
use Rattle.log_entry.specs.Reading.{Reading, words_left, entry_next, entries_left, entry_from, PassesOne, Passes, left_before}
use Rattle.log_entry.proofs.Readings.{next-by}

-- A legal gate counts no more words than a log has.
pub legal_within : (v : ℕ) → is_legal_gate v ≡ true → gate_used v ≤ LOG_ENTRY_WORDS
legal_within v legal = leb-true (gate_used v) LOG_ENTRY_WORDS (and_parts (ltb v (2 ^ 32)) (leb (gate_used v) LOG_ENTRY_WORDS) legal).1

pub left_legal : (image : Image) (r : Reading) → is_legal_gate (image r.log_at) ≡ true → entries_left image r ≡ entries_in 0 (words_left image r)
unfolding entries_left
left_legal image r legal = cond-true _ _ _ legal

left_illegal : (image : Image) (r : Reading) → is_legal_gate (image r.log_at) ≡ false → entries_left image r ≡ None
unfolding entries_left
left_illegal image r illegal = cond-false _ _ _ illegal

-- Before the first entry is read, all entries are left.
pub entries_left-start : (image : Image) (at : ℕ) (r : Reading) → r ≡ record { log_at = at; passed = 0 } → entries_left image r ≡ entries_of image at
unfolding entries_left entries_of
entries_left-start image at r start =
    let count : gate_used (image at) - 0 ≡ gate_used (image at) = omega arith in
    ap (entries_left image) start
    ∙ ap₂ (λ (k n : ℕ). cond (is_legal_gate (image at)) (entries_in 0 (words_from image k n)) None) (add-zero (at + LOG_HEADER_WORDS)) count

-- After the words of the first entries are passed, the other entries are left.
pub entries_left-after_front : (image : Image) (at passed : ℕ) (r : Reading) (front back : List Entry) → r ≡ record { log_at = at; passed = passed } → entries_of image at ≡ Some (front ++ back) → entry_words front ≡ passed
    → entries_left image r ≡ Some back
entries_left-after_front image at passed r front back start spelled ends =
    let s = spells image at (front ++ back) spelled in
    let ws = words_from image (at + LOG_HEADER_WORDS) (gate_used (image at)) in
    let split : Splits 0 ws front back = entries_in-split 0 ws front back s.words in
    let within : passed ≤ gate_used (image at) = let low = split.within in omega (arith, ends, words_from-length image (at + LOG_HEADER_WORDS) (gate_used (image at))) in
    ap (entries_left image) start
    ∙ left_legal image (record { log_at = at; passed = passed }) s.legal
    ∙ ap (entries_in 0) (sym (words_from-drop image (at + LOG_HEADER_WORDS) (gate_used (image at)) passed within))
    ∙ ap (λ n. entries_in 0 (drop n ws)) (let it : passed ≡ 0 + entry_words front = omega (arith, ends) in it)
    ∙ split.back_is

-- If there is a list of entries left, the gate is legal.
pub left_is_legal : (image : Image) (r : Reading) (es : List Entry) → entries_left image r ≡ Some es → is_legal_gate (image r.log_at) ≡ true
left_is_legal image r es left = elim (cases_Bool (is_legal_gate (image r.log_at))) [
  | inl legal ↦ legal
  | inr illegal ↦ absurd (let it : None ≡ Some es = sym (left_illegal image r illegal) ∙ left in cc)
]

-- Images that agree on the gate and on the words that have not been read have the same entries left.
pub entries_left-after : (i j : Image) (r : Reading) → i r.log_at ≡ j r.log_at → ((k : ℕ) → r.log_at + LOG_HEADER_WORDS + r.passed ≤ k → i k ≡ j k) → entries_left i r ≡ entries_left j r
unfolding entries_left
entries_left-after i j r gate same =
    ap₂ (λ (v : ℕ) (ws : List ℕ). cond (is_legal_gate v) (entries_in 0 ws) None) gate
    (words_from-same i j (r.log_at + LOG_HEADER_WORDS + r.passed) (gate_used (i r.log_at) - r.passed) (λ k low high. same k low)
    ∙ ap (λ (v : ℕ). words_from j (r.log_at + LOG_HEADER_WORDS + r.passed) (gate_used v - r.passed)) gate)

-- ---- one more entry is read

none_before : (image : Image) (r : Reading) → entry_next image r ≡ None → entries_left image r ≡ left_before image None r
none_before image r none = elim (cases_Bool (is_legal_gate (image r.log_at))) [
  | inr illegal ↦ left_illegal image r illegal ∙ sym (cond-false _ _ _ (and_left _ (leb (gate_used (image r.log_at)) r.passed) illegal))
  | inl legal ↦
      let used = gate_used (image r.log_at) in
      let at = r.log_at + LOG_HEADER_WORDS + r.passed in
      let ws = words_left image r in
      let counted : length ws ≡ used - r.passed = words_from-length image at (used - r.passed) in
      let first : first_entry ws ≡ None = sym (next-by image r (legal_within (image r.log_at) legal)) ∙ none in
      let by_words : left_before image None r ≡ cond (leb used r.passed) (Some []) None = ap (λ b. cond (b && leb used r.passed) (Some []) None) legal in
      left_legal image r legal ∙ elim (leb_tells used r.passed) [
        | inl all ↦ let following = all.1 in entries_in-nothing ws (words_from-none image at (used - r.passed) (omega arith)) ∙ sym (by_words ∙ cond-true _ _ _ all.0)
        | inr some ↦ let more = some.1 in elim (entries_in-none ws first) [
          | inl empty ↦ absurd (let it : length ws ≡ 0 = ap length empty in omega arith)
          | inr spoilt ↦ spoilt ∙ sym (by_words ∙ cond-false _ _ _ some.0)
        ]
      ]
]

one_before : (image : Image) (e : Found) (old new : Reading) → Some (entry_from image e) ≡ entry_next image old → PassesOne e old new → entries_left image old ≡ left_before image (Some e) new
one_before image e old new comes passes =
    let gate : image new.log_at ≡ image old.log_at = ap image passes.same_log in
    let it = entry_from image e in
    elim (cases_Bool (is_legal_gate (image old.log_at))) [
      | inr illegal ↦ left_illegal image old illegal ∙ sym (ap (option_map (λ es. it ∷ es)) (left_illegal image new (ap is_legal_gate gate ∙ illegal)))
      | inl legal ↦
          let used = gate_used (image old.log_at) in
          let at = old.log_at + LOG_HEADER_WORDS + old.passed in
          let ws = words_left image old in
          let m = e.n + 2 in
          let counted : length ws ≡ used - old.passed = words_from-length image at (used - old.passed) in
          let many : length it.vals ≡ e.n = words_from-length image e.at e.n in
          let first : first_entry ws ≡ Some it = sym (next-by image old (legal_within (image old.log_at) legal)) ∙ sym comes in
          let fits : m ≤ used - old.passed = omega (arith, first_entry-fits ws it first) in
          let passed = passes.passed in
          let same_log = passes.same_log in
          let place : at + m ≡ new.log_at + LOG_HEADER_WORDS + new.passed = omega arith in
          let count : used - old.passed - m ≡ used - new.passed = omega arith in
          left_legal image old legal
          ∙ entries_in-first ws it m first (omega arith)
          ∙ ap (λ xs. option_map (λ es. it ∷ es) (entries_in 0 xs))
          (words_from-drop image at (used - old.passed) m fits ∙ ap₂ (words_from image) place count
          ∙ ap (λ (v : ℕ). words_from image (new.log_at + LOG_HEADER_WORDS + new.passed) (gate_used v - new.passed)) (sym gate))
          ∙ sym (ap (option_map (λ es. it ∷ es)) (left_legal image new (ap is_legal_gate gate ∙ legal)))
    ]

-- The entry that was found, as the words spell it, determines which entries were left before.
pub left_by : (image : Image) (found : Option Found) (old new : Reading) → option_map (entry_from image) found ≡ entry_next image old → Passes found old new → entries_left image old ≡ left_before image found new
left_by image None old new none same = none_before image old (sym none) ∙ ap (left_before image None) (sym same)
left_by image (Some e) old new comes passes = one_before image e old new comes passes

-- ---- whether the log is well formed

pub not_formed : (image : Image) (at : ℕ) → is_legal_gate (image at) ≡ false → is_some (entries_of image at) ≡ false
not_formed image at illegal =
    let r : Reading = record { log_at = at; passed = 0 } in
    ap is_some (sym (entries_left-start image at r refl) ∙ left_illegal image r illegal)

is_some-map : (f : List Entry → List Entry) (o : Option (List Entry)) → is_some (option_map f o) ≡ is_some o
is_some-map f None = refl
is_some-map f (Some es) = refl

-- What is left after an entry is well formed exactly if what was left with it is.
pub formed-more : (image : Image) (found : Option Found) (e : Found) (old now : Reading) → found ≡ Some e → entries_left image old ≡ left_before image found now
    → is_some (entries_left image now) ≡ is_some (entries_left image old)
formed-more image found e old now one before =
    sym (is_some-map (λ es. entry_from image e ∷ es) (entries_left image now)) ∙ sym (ap is_some (before ∙ ap (λ (o : Option Found). left_before image o now) one))

some_if : (b : Bool) (o : Option (List Entry)) → o ≡ cond b (Some []) None → b ≡ is_some o
some_if true o is = sym (ap is_some is)
some_if false o is = sym (ap is_some is)

-- If no entry comes next and the gate is legal, what was left is well formed exactly if all words that count have been
-- read.
pub formed-end : (image : Image) (found : Option Found) (old now : Reading) → found ≡ None → entries_left image old ≡ left_before image found now → is_legal_gate (image now.log_at) ≡ true
    → leb (gate_used (image now.log_at)) now.passed ≡ is_some (entries_left image old)
formed-end image found old now none before legal =
    let all = leb (gate_used (image now.log_at)) now.passed in
    some_if all (entries_left image old) (before ∙ ap (λ (o : Option Found). left_before image o now) none ∙ ap (λ (b : Bool). cond (b && all) (Some []) None) legal)

-- ---- if the log is well formed

-- the entries that were left are the one that was found and those that follow it
pub record IsTaken (image : Image) (e : Found) (now : Reading) (es : List Entry) : Type 0 where
  pub following : List Entry
  pub is : es ≡ entry_from image e ∷ following
  pub left : entries_left image now ≡ Some following

in_front : (image : Image) (e : Found) (now : Reading) (es : List Entry) (o : Option (List Entry)) → entries_left image now ≡ o → option_map (λ fs. entry_from image e ∷ fs) o ≡ Some es → IsTaken image e now es
in_front image e now es None left is = absurd (cc)
in_front image e now es (Some following) left is = record { following = following; is = cc; left = left }

pub taken : (image : Image) (found : Option Found) (e : Found) (old now : Reading) (es : List Entry) → found ≡ Some e → entries_left image old ≡ left_before image found now
    → entries_left image old ≡ Some es → IsTaken image e now es
taken image found e old now es one before left =
    in_front image e now es (entries_left image now) refl (sym (ap (λ (o : Option Found). left_before image o now) one) ∙ sym before ∙ left)

-- If no entry was found, none was left.
pub none_left : (image : Image) (found : Option Found) (old now : Reading) (es : List Entry) → found ≡ None → entries_left image old ≡ left_before image found now
    → entries_left image old ≡ Some es → es ≡ []
none_left image found old now es none before left =
    let spelled : left_before image None now ≡ Some es = sym (ap (λ (o : Option Found). left_before image o now) none) ∙ sym before ∙ left in
    elim (cases_Bool (is_legal_gate (image now.log_at) && leb (gate_used (image now.log_at)) now.passed)) [
      | inl all ↦ (let it : Some [] ≡ Some es = sym (cond-true _ _ _ all) ∙ spelled in cc)
      | inr some ↦ absurd (let it : None ≡ Some es = sym (cond-false _ _ _ some) ∙ spelled in cc)
    ]

-- ---- a loop over the entries of a log

-- the reader reads the log whose gate is word `at`, and has passed no more words than a log has
pub record IsReading (at : ℕ) (r : Reading) : Type 0 where
  pub same_log : r.log_at ≡ at
  pub within : r.passed ≤ LOG_ENTRY_WORDS

pub IsReading-start : (at : ℕ) (r : Reading) → r ≡ record { log_at = at; passed = 0 } → IsReading at r
IsReading-start at r start =
    let begun : r.passed ≡ 0 = ap (λ (x : Reading). x.passed) start in
    record { same_log = ap (λ (x : Reading). x.log_at) start; within = omega arith }

pub IsReading-after : (at passed : ℕ) (r : Reading) → r ≡ record { log_at = at; passed = passed } → passed ≤ LOG_ENTRY_WORDS → IsReading at r
IsReading-after at passed r start few =
    let begun : r.passed ≡ passed = ap (λ (x : Reading). x.passed) start in
    record { same_log = ap (λ (x : Reading). x.log_at) start; within = omega (arith, begun) }

pub IsReading-more : (at : ℕ) (found : Option Found) (e : Found) (old now : Reading) → IsReading at old → found ≡ Some e → Passes found old now → IsReading at now
IsReading-more at found e old now reading one passed =
    let passes : PassesOne e old now = subst (λ (o : Option Found). Passes o old now) one passed in
    record { same_log = passes.same_log ∙ reading.same_log; within = passes.within }

-- What was made so far, and the entries that are left, make the whole.
pub record MakesWhole {A B : Type 0} (make : A → List Entry → B) (image : Image) (r : Reading) (so_far : A) (whole : B) : Type 0 where
  pub rest : List Entry
  pub left : entries_left image r ≡ Some rest
  pub same : make so_far rest ≡ whole

-- This holds before the first entry.
pub MakesWhole-start : {A B : Type 0} (make : A → List Entry → B) (image : Image) (at : ℕ) (r : Reading) (start : A) (es : List Entry) → r ≡ record { log_at = at; passed = 0 } → entries_of image at ≡ Some es
    → MakesWhole make image r start (make start es)
MakesWhole-start make image at r start es begun are = record { rest = es; left = entries_left-start image at r begun ∙ are; same = refl }

-- The same before the first of the later entries is read.
pub MakesWhole-after : {A B : Type 0} (make : A → List Entry → B) (image : Image) (at passed : ℕ) (r : Reading) (start : A) (front back : List Entry) → r ≡ record { log_at = at; passed = passed }
    → entries_of image at ≡ Some (front ++ back) → entry_words front ≡ passed → MakesWhole make image r start (make start back)
MakesWhole-after make image at passed r start front back begun are ends = record { rest = back; left = entries_left-after_front image at passed r front back begun are ends; same = refl }

-- It still holds one entry further.
pub MakesWhole-more : {A B : Type 0} (make : A → List Entry → B) (image : Image) (found : Option Found) (e : Found) (old now : Reading) (before after : A) (whole : B)
    → MakesWhole make image old before whole → found ≡ Some e → entries_left image old ≡ left_before image found now
    → ((es : List Entry) → make after es ≡ make before (entry_from image e ∷ es)) → MakesWhole make image now after whole
MakesWhole-more make image found e old now before after whole so_far one left step =
    let next = taken image found e old now so_far.rest one left so_far.left in
    record { rest = next.following; left = next.left; same = step next.following ∙ ap (make before) (sym next.is) ∙ so_far.same }

-- An entry may decide the whole, whatever follows it.
pub MakesWhole-decided : {A B : Type 0} (make : A → List Entry → B) (image : Image) (found : Option Found) (e : Found) (old now : Reading) (before : A) (whole made : B)
    → MakesWhole make image old before whole → found ≡ Some e → entries_left image old ≡ left_before image found now
    → ((es : List Entry) → make before (entry_from image e ∷ es) ≡ made) → made ≡ whole
MakesWhole-decided make image found e old now before whole made so_far one left decides =
    let next = taken image found e old now so_far.rest one left so_far.left in
    sym (decides next.following) ∙ ap (make before) (sym next.is) ∙ so_far.same

-- If no entry is left, what was made is the whole.
pub MakesWhole-end : {A B : Type 0} (make : A → List Entry → B) (image : Image) (found : Option Found) (old now : Reading) (made : A) (whole : B)
    → MakesWhole make image old made whole → found ≡ None → entries_left image old ≡ left_before image found now → make made [] ≡ whole
MakesWhole-end make image found old now made whole so_far none left =
    ap (make made) (sym (none_left image found old now so_far.rest none left so_far.left)) ∙ so_far.same
