-- The slots of a pool among its places, and the places between them that are no slots.
use Rattle.std.proofs.Common.{◌≡◌, ℕ, zero, suc, ◌+◌, ◌-◌, ◌<◌, ◌≤◌, true, false, List, length, get_or, sym, ap, subst, ◌∙◌, arith}
use Rattle.std.proofs.lemmas.Bool.{cond-false, lt-ltb, le-ltb}
use Rattle.std.proofs.lemmas.Option.{slice_get-get_or}
use Rattle.pud_defs.specs.declared.records.Puddle.{Puddle}
use Rattle.pud_defs.specs.declared.records.Slot.{Slot}
use Rattle.pud_defs.specs.Formats.Geometry.{class_slots, slots_of, ordinal_of, slot_of, place_at, places_among}
use Rattle.pud_defs.proofs.Formats.Geometry.{few_slots}
use Rattle.pud_defs.specs.Formats.Image.{Image}
use Rattle.pud_defs.specs.PoolGraphs.Stored.{stored_in, place_serial}
use Rattle.puddle_header.specs.Places.{is_slot_in, place_of_slot, IsSlotOf}
use Rattle.puddle_header.proofs.Placed.{place_ordinal, class_there}
use Rattle.graph_read.specs.Reading.{class_in}

-- ---- the puddle of an ordinal

pub entry_class : (at : List (ℕ × Puddle)) (o : ℕ) (x : ℕ × Puddle) → o < length at → class_in at o ≡ (get_or at o x).1.class
entry_class at o x below = class_there at o (get_or at o x) (slice_get-get_or at o x below)

-- A slot of the puddle of an ordinal is a slot of the puddle that is read there.
pub slot_of_entry : (at : List (ℕ × Puddle)) (o s : ℕ) (x : ℕ × Puddle) → o < length at → s < class_slots (class_in at o) → s < slots_of (get_or at o x).1
slot_of_entry at o s x below few = subst (λ (c : ℕ). s < class_slots c) (entry_class at o x below) few

-- The class of a slot is that of the puddle in which its place lies.
pub slot_class : (at : List (ℕ × Puddle)) (s : Slot) → IsSlotOf at s → s.class ≡ class_in at (ordinal_of (place_of_slot s))
slot_class at s of = of.alike ∙ sym (ap (class_in at) (place_ordinal s.ordinal s.slot of.puddle of.below) ∙ class_there at s.ordinal (s.frame, of.puddle) of.there)

-- ---- the places of a puddle

module _ (at : List (ℕ × Puddle)) (o p : ℕ) where
  pub slot_here : places_among o ≤ p → p < places_among o + class_slots (class_in at o) → is_slot_in at p ≡ true
  slot_here low high =
      let few = few_slots (class_in at o) in
      let ordinal : ordinal_of p ≡ o = omega (arith, few, low, high) in
      let slot : slot_of p < class_slots (class_in at o) = omega (arith, few, low, high) in
      lt-ltb (slot_of p) (class_slots (class_in at (ordinal_of p))) (subst (λ (i : ℕ). slot_of p < class_slots (class_in at i)) (sym ordinal) slot)

  no_slot_here : places_among o + class_slots (class_in at o) ≤ p → p < places_among (o + 1) → is_slot_in at p ≡ false
  no_slot_here low high =
      let ordinal : ordinal_of p ≡ o = omega (arith, low, high) in
      let slot : class_slots (class_in at o) ≤ slot_of p = omega (arith, low, high) in
      le-ltb (slot_of p) (class_slots (class_in at (ordinal_of p))) (subst (λ (i : ℕ). class_slots (class_in at i) ≤ slot_of p) (sym ordinal) slot)

-- The place of a slot of a puddle is a slot.
pub slot_at_its_place : (at : List (ℕ × Puddle)) (o s : ℕ) → s < class_slots (class_in at o) → is_slot_in at (place_at o s) ≡ true
slot_at_its_place at o s below = slot_here at o (place_at o s) (omega arith) (omega (arith, below))

-- ---- the places after the slots of a puddle are passed over

pass_up : (P : ℕ → Type 0) (from count : ℕ) → ((k : ℕ) → from ≤ k → k < from + count → P k → P (k + 1)) → P from → P (from + count)
pass_up P from zero step start = let none : from ≡ from + zero = omega arith in subst P none start
pass_up P from (suc count) step start =
    let more : from + count + 1 ≡ from + suc count = omega arith in
    subst P more (step (from + count) (omega arith) (omega arith) (pass_up P from count (λ k low high. step k low (omega (arith, high))) start))

pass_down : (P : ℕ → Type 0) (from count : ℕ) → ((k : ℕ) → from ≤ k → k < from + count → P (k + 1) → P k) → P (from + count) → P from
pass_down P from zero step end = let none : from + zero ≡ from = omega arith in subst P none end
pass_down P from (suc count) step end =
    let more : from + suc count ≡ from + count + 1 = omega arith in
    pass_down P from count (λ k low high. step k low (omega (arith, high))) (step (from + count) (omega arith) (omega arith) (subst P more end))

module _ (P : ℕ → Type 0) (at : List (ℕ × Puddle)) (o end : ℕ) (is : end ≡ places_among o + class_slots (class_in at o)) where
  abbrev rest : ℕ
  rest = places_among (o + 1) - end

  rest_is : end + rest ≡ places_among (o + 1)
  rest_is = let few = few_slots (class_in at o) in omega (arith, few, is)

  between : (k : ℕ) → end ≤ k → k < end + rest → is_slot_in at k ≡ false
  between k low high = no_slot_here at o k (omega (arith, low, is)) (omega (arith, high, rest_is))

  -- What holds at the end of a puddle's slots holds at the next puddle, if a place that is no slot keeps it.
  pub to_next_puddle : ((k : ℕ) → k < places_among (o + 1) → is_slot_in at k ≡ false → P k → P (k + 1)) → P end → P (places_among (o + 1))
  to_next_puddle step here = subst P rest_is (pass_up P end rest (λ k low high. step k (omega (arith, high, rest_is)) (between k low high)) here)

  -- The same from the next puddle back to the end of the slots.
  pub from_next_puddle : ((k : ℕ) → k < places_among (o + 1) → is_slot_in at k ≡ false → P (k + 1) → P k) → P (places_among (o + 1)) → P end
  from_next_puddle step later = pass_down P end rest (λ k low high. step k (omega (arith, high, rest_is)) (between k low high)) (subst P (sym rest_is) later)

-- ---- serials

-- A place that is no slot has serial 0.
pub no_serial : (F : ℕ) (at : List (ℕ × Puddle)) (image : Image) (p : ℕ) → is_slot_in at p ≡ false → place_serial (stored_in F at image) p ≡ 0
no_serial F at image p none = cond-false _ _ _ none
