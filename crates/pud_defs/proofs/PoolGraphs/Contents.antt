-- What stored words stand for: they name only places of the pool, and serials that agree on these places give the same
-- values.
use Rattle.std.proofs.Common.{◌≡◌, ℕ, zero, suc, ◌+◌, ◌*◌, ◌/◌, ◌<◌, ◌≤◌, Bool, true, not, ◌&&◌, eqb, ltb, List, [], ◌∷◌, map, length, Option, Some, None, option_map, refl, ap, ap₂, arith, eq-eqb, zero-le, ◌-◌}
use Rattle.std.specs.Prelude.{slice_get}
use Rattle.std.specs.Option.{option_or}
use Rattle.std.specs.List.{list_all, range_with_len}
use Rattle.std.proofs.lemmas.Bool.{and_parts, and_from, cond-true, cond_both, lt-ltb, ltb-true}
use Rattle.std.proofs.lemmas.List.{length-map}
use Rattle.std.proofs.lemmas.Option.{none-some, same_Some, cond_some}
use Rattle.pud_defs.specs.declared.space.TheConstants.{WORD_BYTES, SLOT_FIELDS_WORD}
use Rattle.pud_defs.specs.declared.records.Puddle.{Puddle}
use Rattle.pud_defs.specs.declared.objects.FieldValue.{FieldValue}
use Rattle.pud_defs.specs.Formats.TypeMap.{is_pointer}
use Rattle.pud_defs.specs.Formats.Geometry.{slots_of, slot_words_of, ordinal_of, slot_of, places_among}
use Rattle.pud_defs.proofs.Formats.Geometry.{few_slots}
use Rattle.pud_defs.specs.PoolGraphs.Stored.{Stored, places_of, place_word}
use Rattle.pud_defs.specs.PoolGraphs.Graph.{Content, Number, Null, At, Nowhere, slot_address, slot_in, place_in, at_place, target, over_old, puddles_by, pointee_at, content, field_count, slot_contents, contents_or_none, named_by, value_of, stands, all_stand}

-- ---- which places are named

-- the content is no pointer, or it is a pointer to a place that passes the test
abbrev pub names_only : (ℕ → Bool) → Content → Bool
names_only test (Number v) = true
names_only test Null = true
names_only test (At p) = test p
names_only test Nowhere = true

-- the same for each of these contents, if there are any
abbrev pub name_only : (ℕ → Bool) → Option (List Content) → Bool
name_only test contents = list_all (names_only test) (contents_or_none contents)

-- serials that agree on the places that pass the test
module _ (s r : ℕ → ℕ) (test : ℕ → Bool) (same : (p : ℕ) → test p ≡ true → r p ≡ s p) where
  pub stands-same : (c : Content) → names_only test c ≡ true → stands r c ≡ stands s c
  stands-same (Number v) only = refl
  stands-same Null only = refl
  stands-same (At p) only = ap (λ k. not (eqb k 0)) (same p only)
  stands-same Nowhere only = refl

  value_of-same : (c : Content) → names_only test c ≡ true → value_of r c ≡ value_of s c
  value_of-same (Number v) only = refl
  value_of-same Null only = refl
  value_of-same (At p) only = ap (λ k. value_of (λ q. k) (At p)) (same p only)
  value_of-same Nowhere only = refl

  pub named_by-same : (c : Content) → names_only test c ≡ true → named_by r c ≡ named_by s c
  named_by-same (Number v) only = refl
  named_by-same Null only = refl
  named_by-same (At p) only = same p only
  named_by-same Nowhere only = refl

  all_stand-list : (cs : List Content) → list_all (names_only test) cs ≡ true → list_all (stands r) cs ≡ list_all (stands s) cs
  all_stand-list [] only = refl
  all_stand-list (c ∷ cs) only =
      let parts = and_parts (names_only test c) (list_all (names_only test) cs) only in
      ap₂ (λ (x y : Bool). x && y) (stands-same c parts.0) (all_stand-list cs parts.1)

  pub all_stand-same : (contents : Option (List Content)) → name_only test contents ≡ true → all_stand r contents ≡ all_stand s contents
  all_stand-same None only = refl
  all_stand-same (Some cs) only = all_stand-list cs only

  pub values-same : (cs : List Content) → list_all (names_only test) cs ≡ true → map (value_of r) cs ≡ map (value_of s) cs
  values-same [] only = refl
  values-same (c ∷ cs) only =
      let parts = and_parts (names_only test c) (list_all (names_only test) cs) only in
      ap₂ (λ (x : FieldValue) (xs : List FieldValue). x ∷ xs) (value_of-same c parts.0) (values-same cs parts.1)

-- ---- a pointer of 0

pub target-null : (puddles : List Puddle) (v : ℕ) → v ≡ 0 → target puddles v ≡ Null
unfolding target
target-null puddles v null = cond-true _ _ _ (eq-eqb v 0 null)

-- ---- a test that each value of a range passes

pub list_all-range : {X : Type 0} (test : X → Bool) (f : ℕ → X) (each : (k : ℕ) → test (f k) ≡ true) (from count : ℕ) → list_all test (map f (range_with_len from count)) ≡ true
list_all-range test f each from zero = refl
list_all-range test f each from (suc count) = and_from _ _ (each from) (list_all-range test f each (from + 1) count)

-- ---- the places of a pool

slot_in_within : (puddle : Puddle) (v slot : ℕ) → slot_in puddle v ≡ Some slot → slot < slots_of puddle
slot_in_within puddle v slot is =
    let guess = (v - slot_address puddle 0) / (WORD_BYTES * slot_words_of puddle) in
    let found = cond_some (ltb guess (slots_of puddle) && eqb (slot_address puddle guess) v) guess slot is in
    let below : guess < slots_of puddle = ltb-true guess (slots_of puddle) (and_parts (ltb guess (slots_of puddle)) (eqb (slot_address puddle guess) v) found.0).0 in
    let same = found.1 in
    omega arith

first_or_later : (first : ℕ) (puddle : Puddle) (v p end : ℕ) (o later : Option ℕ) → slot_in puddle v ≡ o → first + places_among 1 ≤ end → (later ≡ Some p → p < end) → option_or (option_map (λ k. first + k) o) later ≡ Some p → p < end
first_or_later first puddle v p end None later here room rest is = rest is
first_or_later first puddle v p end (Some slot) later here room rest is = let within = slot_in_within puddle v slot here in let few = few_slots puddle.class in let same = same_Some (first + slot) p is in omega arith

pub place_in_within : (first : ℕ) (puddles : List Puddle) (v p : ℕ) → place_in first puddles v ≡ Some p → p < first + places_among (length puddles)
unfolding place_in
place_in_within first [] v p is = absurd (none-some p is)
place_in_within first (puddle ∷ puddles) v p is =
    first_or_later first puddle v p (first + places_among (length (puddle ∷ puddles))) (slot_in puddle v) (place_in (first + places_among 1) puddles v) refl (omega arith)
    (λ later. let within = place_in_within (first + places_among 1) puddles v p later in omega arith)
    is

at_place_within : (n : ℕ) (o : Option ℕ) → ((p : ℕ) → o ≡ Some p → p < n) → names_only (λ p. ltb p n) (at_place o) ≡ true
at_place_within n None within = refl
at_place_within n (Some p) within = lt-ltb p n (within p refl)

target_within : (puddles : List Puddle) (v n : ℕ) → places_among (length puddles) ≤ n → names_only (λ p. ltb p n) (target puddles v) ≡ true
unfolding target
target_within puddles v n few =
    cond_both (eqb v 0) Null (at_place (place_in 0 puddles v)) (λ c. names_only (λ p. ltb p n) c ≡ true) (λ null. refl)
    (λ used. at_place_within n (place_in 0 puddles v) (λ p is. let within = place_in_within 0 puddles v p is in omega arith))

pub few_puddles : (puddles : List Puddle) (o : Option Puddle) (step : ℕ) → length (puddles_by puddles o step) ≤ length puddles
few_puddles puddles None step = zero-le
few_puddles puddles (Some p) step =
    cond_both (ltb step p.frontier) puddles (map over_old puddles) (λ (read : List Puddle). length read ≤ length puddles)
    (λ rewritten. omega arith)
    (λ old. omega (arith, length-map puddles over_old))

-- a pointer names only places of the pool
pub pointee_at_within : (puddles : List Puddle) (ordinal step v : ℕ) → names_only (λ p. ltb p (places_among (length puddles))) (pointee_at puddles ordinal step v) ≡ true
pointee_at_within puddles ordinal step v = let few = few_puddles puddles (slice_get puddles ordinal) step in target_within (puddles_by puddles (slice_get puddles ordinal) step) v (places_among (length puddles)) (omega arith)

content_within : (puddles : List Puddle) (m p f v : ℕ) → names_only (λ q. ltb q (places_among (length puddles))) (content puddles m p f v) ≡ true
content_within puddles m p f v =
    cond_both (is_pointer m f) (pointee_at puddles (ordinal_of p) (slot_of p + 1) v) (Number v) (λ c. names_only (λ q. ltb q (places_among (length puddles))) c ≡ true)
    (λ pointer. pointee_at_within puddles (ordinal_of p) (slot_of p + 1) v)
    (λ number. refl)

-- and so do the fields of an object
pub contents_by_within : (st : Stored) (p : ℕ) (type : Option ℕ) → name_only (λ q. ltb q (places_of st)) (slot_contents st p type) ≡ true
contents_by_within st p None = refl
contents_by_within st p (Some m) =
    list_all-range (names_only (λ q. ltb q (places_of st))) (λ f. content st.puddles m p f (place_word st p (SLOT_FIELDS_WORD + f)))
    (λ f. content_within st.puddles m p f (place_word st p (SLOT_FIELDS_WORD + f))) 0 (field_count m)
