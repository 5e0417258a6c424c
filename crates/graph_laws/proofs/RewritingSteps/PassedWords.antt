-- If the words of a pool that a frontier passes get their new values, that is what steps of rewriting make.
use Rattle.std.proofs.Common.{◌≡◌, ℕ, ◌+◌, ◌-◌, ◌/◌, ◌%◌, ◌<◌, Bool, true, false, ◌&&◌, cond, eqb, ltb, leb, eq-eqb, ne_eqb, not, List, Option, Some, None, refl, sym, ap, subst, ◌∙◌, ⊎_elim, arith}
use Rattle.std.specs.Prelude.{slice_get, unwrap_or}
use Rattle.std.proofs.lemmas.Bool.{cases_eq, cases_Bool, cond-true, cond-false, and_parts, and_from, and_left, lt-ltb, le-ltb, le-leb, leb-true, eqb-true}
use Rattle.pud_defs.specs.declared.space.TheConstants.{FRAME_HEADER_WORDS, ROOT_WORD, SLOT_TYPE_WORD, SLOT_FIELDS_WORD}
use Rattle.pud_defs.specs.declared.records.Puddle.{Puddle}
use Rattle.pud_defs.specs.Formats.TypeMap.{is_pointer}
use Rattle.pud_defs.specs.Formats.Geometry.{class_slot_words, class_slot_at, ordinal_of, slot_of}
use Rattle.pud_defs.proofs.Formats.Geometry.{some_words, slot_low, slot_of_word, word_of_slot}
use Rattle.pud_defs.specs.RegistryTables.Types.{map_of}
use Rattle.pud_defs.specs.PoolGraphs.Stored.{Stored, class_of, class_at, place_word, place_serial, place_begins, slot_state}
use Rattle.pud_defs.specs.PoolGraphs.Graph.{field_count, fitting, place_map}
use Rattle.graph_laws.specs.Changes.{with_words}
use Rattle.graph_laws.specs.Rewriting.{rewritten, rewritten_field, passes_slot, is_passed, passes_root, RewritesSteps}
use Rattle.graph_laws.specs.Steps.{pointer_by, slot_pointer, header_pointer, passed_word, with_passed}
use Rattle.graph_laws.proofs.SameReads.Words.{serial_there, live_in_slot, serial-same, room_of_map}

-- ---- one word of a slot

module _ (types : List (ℕ × ℕ)) (puddles : List Puddle) (class : ℕ) (word : ℕ → ℕ) (o n m : ℕ) where
  -- A word of a header gets a new value only if it is the root.
  pub passed-header : (k : ℕ) → k < FRAME_HEADER_WORDS → passed_word types puddles class word o n m k ≡ header_pointer puddles word o n m k
  passed-header k low = cond-true _ _ _ (lt-ltb k FRAME_HEADER_WORDS low)

  -- Word j of a slot gets a new value by the slot, if the frontier passes the slot.
  pub passed-slot : (slot j : ℕ) → j < class_slot_words class → passed_word types puddles class word o n m (class_slot_at class slot + j) ≡ cond (passes_slot n m slot) (slot_pointer types puddles class word slot j) None
  passed-slot slot j low =
      let k = class_slot_at class slot + j in
      let is_slot : (k - FRAME_HEADER_WORDS) / class_slot_words class ≡ slot = slot_of_word class slot j low in
      let is_word : (k - FRAME_HEADER_WORDS) % class_slot_words class ≡ j = word_of_slot class slot j low in
      let above = slot_low class slot in
      cond-false _ _ _ (le-ltb k FRAME_HEADER_WORDS (omega arith))
      ∙ (λ i. cond (passes_slot n m (is_slot i)) (slot_pointer types puddles class word (is_slot i) (is_word i)) None)

  -- The words before the fields are no pointers.
  pointer-front : (map : Option ℕ) (j v : ℕ) → j < SLOT_FIELDS_WORD → pointer_by puddles map j v ≡ None
  pointer-front None j v low = refl
  pointer-front (Some k) j v low = cond-false _ _ _ (and_left _ _ (and_left _ _ (over_leb SLOT_FIELDS_WORD j low)))
    where
      over_leb : (a b : ℕ) → b < a → leb a b ≡ false
      over_leb a b less = ⊎_elim (λ yes. absurd (let it = leb-true a b yes in omega arith)) (λ no. no) (cases_Bool (leb a b))

  slot-front : (slot j : ℕ) → j < SLOT_FIELDS_WORD → slot_pointer types puddles class word slot j ≡ None
  slot-front slot j low = ⊎_elim
      (λ live. cond-true _ _ _ live ∙ pointer-front (fitting class (map_of (word (class_slot_at class slot + SLOT_TYPE_WORD)) types)) j (word (class_slot_at class slot + j)) low)
      (λ free. cond-false _ _ _ free)
      (cases_Bool (slot_state (word (class_slot_at class slot + 0))).is_live)

  pub passed-front : (slot j : ℕ) → j < SLOT_FIELDS_WORD → passed_word types puddles class word o n m (class_slot_at class slot + j) ≡ None
  passed-front slot j low = passed-slot slot j (let some = some_words class in omega arith) ∙ ⊎_elim
      (λ passed. cond-true _ _ _ passed ∙ slot-front slot j low)
      (λ out. cond-false _ _ _ out)
      (cases_Bool (passes_slot n m slot))

  -- A field of a live slot is a pointer exactly if the type map tells it.
  slot-field : (slot map f : ℕ) → (slot_state (word (class_slot_at class slot + 0))).is_live ≡ true → fitting class (map_of (word (class_slot_at class slot + SLOT_TYPE_WORD)) types) ≡ Some map → f < field_count map
      → slot_pointer types puddles class word slot (SLOT_FIELDS_WORD + f) ≡ cond (is_pointer map f) (Some (rewritten puddles (word (class_slot_at class slot + (SLOT_FIELDS_WORD + f))))) None
  slot-field slot map f live is low =
      let v = word (class_slot_at class slot + (SLOT_FIELDS_WORD + f)) in
      let back : SLOT_FIELDS_WORD + f - SLOT_FIELDS_WORD ≡ f = omega arith in
      cond-true _ _ _ live
      ∙ ap (λ t. pointer_by puddles t (SLOT_FIELDS_WORD + f) v) is
      ∙ ap (λ b. cond b (Some (rewritten puddles v)) None)
      (ap (λ b. b && is_pointer map (SLOT_FIELDS_WORD + f - SLOT_FIELDS_WORD)) (and_from _ _ (le-leb SLOT_FIELDS_WORD (SLOT_FIELDS_WORD + f) (omega arith)) (lt-ltb (SLOT_FIELDS_WORD + f) (SLOT_FIELDS_WORD + field_count map) (omega arith)))
      ∙ ap (is_pointer map) back)

-- ---- the words of a pool

unwrapped_field : (b : Bool) (v was : ℕ) → unwrap_or (cond b (Some v) None) was ≡ cond b v was
unwrapped_field true v was = refl
unwrapped_field false v was = refl

module _ (types : List (ℕ × ℕ)) (st : Stored) (o n m : ℕ) where
  abbrev now : ℕ → ℕ → ℕ
  now = with_passed types st o n m

  abbrev class : ℕ
  class = class_of (slice_get st.puddles o)

  abbrev new_of : ℕ → Option ℕ
  new_of k = passed_word types st.puddles class (st.word o) o n m k

  -- A word of another frame does not change, nor does a word without a new value.
  kept-other : (q k : ℕ) → (q ≡ o → ⊥) → now q k ≡ st.word q k
  kept-other q k other = cond-false _ _ _ (ne_eqb q o other)

  kept-same : (q k : ℕ) → new_of k ≡ None → now q k ≡ st.word q k
  kept-same q k none = ⊎_elim
      (λ here. cond-true _ _ _ (eq-eqb q o here) ∙ ap (λ x. unwrap_or x (st.word q k)) none)
      (λ other. kept-other q k other)
      (cases_eq q o)

  new-there : (q k : ℕ) → q ≡ o → now q k ≡ unwrap_or (new_of k) (st.word q k)
  new-there q k here = cond-true _ _ _ (eq-eqb q o here)

  headers-kept : (q k : ℕ) → k < FRAME_HEADER_WORDS → (q ≡ 0 → k ≡ ROOT_WORD → ⊥) → now q k ≡ st.word q k
  headers-kept q k low apart = ⊎_elim
      (λ here. kept-same q k (passed-header types st.puddles class (st.word o) o n m k low ∙ cond-false _ _ _ (⊎_elim
      (λ yes.
      let parts = and_parts (eqb k ROOT_WORD) (passes_root o n m) yes in
      let first = and_parts (eqb o 0) (eqb n 0 && ltb 0 m) parts.1 in
      absurd (apart (here ∙ eqb-true o 0 first.0) (eqb-true k ROOT_WORD parts.0)))
      (λ no. no)
      (cases_Bool (eqb k ROOT_WORD && passes_root o n m)))))
      (λ other. kept-other q k other)
      (cases_eq q o)

  root-passed : now 0 ROOT_WORD ≡ cond (passes_root o n m) (rewritten st.puddles (st.word 0 ROOT_WORD)) (st.word 0 ROOT_WORD)
  root-passed = ⊎_elim
      (λ here.
      new-there 0 ROOT_WORD here
      ∙ ap (λ x. unwrap_or x (st.word 0 ROOT_WORD)) (passed-header types st.puddles class (st.word o) o n m ROOT_WORD (omega arith))
      ∙ unwrapped_field (passes_root o n m) (rewritten st.puddles (st.word o ROOT_WORD)) (st.word 0 ROOT_WORD)
      ∙ ap (λ i. cond (passes_root o n m) (rewritten st.puddles (st.word i ROOT_WORD)) (st.word 0 ROOT_WORD)) (sym here))
      (λ other. kept-other 0 ROOT_WORD other ∙ sym (cond-false _ _ _ (and_left _ _ (ne_eqb o 0 (λ e. other (sym e))))))
      (cases_eq 0 o)

  front-kept : (p j : ℕ) → j < SLOT_FIELDS_WORD → place_word (with_words now st) p j ≡ place_word st p j
  front-kept p j low = ⊎_elim
      (λ here.
      let of : class_at st p ≡ class = ap (λ (i : ℕ). class_of (slice_get st.puddles i)) here in
      kept-same (ordinal_of p) (place_begins st p + j)
      (ap (λ (c : ℕ). new_of (class_slot_at c (slot_of p) + j)) of ∙ passed-front types st.puddles class (st.word o) o n m (slot_of p) j low))
      (λ other. kept-other (ordinal_of p) (place_begins st p + j) other)
      (cases_eq (ordinal_of p) o)

  module _ (p map f : ℕ) (used : place_serial st p ≡ 0 → ⊥) (is : place_map types st p ≡ Some map) (low : f < field_count map) where
    abbrev was : ℕ
    was = place_word st p (SLOT_FIELDS_WORD + f)

    field-here : ordinal_of p ≡ o → place_word (with_words now st) p (SLOT_FIELDS_WORD + f) ≡ cond (passes_slot n m (slot_of p)) (rewritten_field st.puddles map f was) was
    field-here here =
        let of : class_at st p ≡ class = ap (λ (i : ℕ). class_of (slice_get st.puddles i)) here in
        let at = λ (j : ℕ). class_slot_at class (slot_of p) + j in
        let word = st.word o in
        -- word j of the slot, as the frame has it
        let same : (j : ℕ) → place_word st p j ≡ word (at j) = λ j. (λ i. st.word (here i) (class_slot_at (of i) (slot_of p) + j)) in
        let serial = sym (serial_there st p (live_in_slot st p used)) in
        let live : (slot_state (word (at 0))).is_live ≡ true = ap (λ b. not b) (ne_eqb (word (at 0)) 0 (λ free. used (sym serial ∙ same 0 ∙ free))) in
        let defined : fitting class (map_of (word (at SLOT_TYPE_WORD)) types) ≡ Some map = sym ((λ i. fitting (of i) (map_of (same SLOT_TYPE_WORD i) types))) ∙ is in
        let room = room_of_map types st p map is in
        let fits : SLOT_FIELDS_WORD + f < class_slot_words class = subst (λ (c : ℕ). SLOT_FIELDS_WORD + f < class_slot_words c) of (omega arith) in
        let value : rewritten st.puddles (word (at (SLOT_FIELDS_WORD + f))) ≡ rewritten st.puddles was = ap (rewritten st.puddles) (sym (same (SLOT_FIELDS_WORD + f))) in
        new-there (ordinal_of p) (place_begins st p + (SLOT_FIELDS_WORD + f)) here
        ∙ ap (λ (c : ℕ). unwrap_or (new_of (class_slot_at c (slot_of p) + (SLOT_FIELDS_WORD + f))) was) of
        ∙ ap (λ x. unwrap_or x was) (passed-slot types st.puddles class word o n m (slot_of p) (SLOT_FIELDS_WORD + f) fits)
        ∙ ⊎_elim
        (λ passed.
        ap (λ x. unwrap_or x was) (cond-true _ _ _ passed ∙ slot-field types st.puddles class word o n m (slot_of p) map f live defined low)
        ∙ unwrapped_field (is_pointer map f) (rewritten st.puddles (word (at (SLOT_FIELDS_WORD + f)))) was
        ∙ ap (λ v. cond (is_pointer map f) v was) value
        ∙ sym (cond-true _ _ _ passed))
        (λ out. ap (λ x. unwrap_or x was) (cond-false _ _ _ out) ∙ sym (cond-false _ _ _ out))
        (cases_Bool (passes_slot n m (slot_of p)))

    field-passed : place_word (with_words now st) p (SLOT_FIELDS_WORD + f) ≡ cond (is_passed o n m p) (rewritten_field st.puddles map f was) was
    field-passed = ⊎_elim
        (λ here. field-here here ∙ ap (λ b. cond (b && passes_slot n m (slot_of p)) (rewritten_field st.puddles map f was) was) (sym (eq-eqb (ordinal_of p) o here)))
        (λ other. kept-other (ordinal_of p) (place_begins st p + (SLOT_FIELDS_WORD + f)) other ∙ sym (cond-false _ _ _ (and_left _ _ (ne_eqb (ordinal_of p) o other))))
        (cases_eq (ordinal_of p) o)

  pub RewritesSteps-passed : RewritesSteps types st now o n m
  RewritesSteps-passed = record {
    headers = headers-kept;
    root = root-passed;
    serials = λ p below. serial-same st now p (λ slot. front-kept p 0 (omega arith));
    type_ids = λ p below used. front-kept p SLOT_TYPE_WORD (omega arith);
    fields = λ p map f below used is low. field-passed p map f used is low;
  }
