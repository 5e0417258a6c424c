-- A pool has one lowest free slot of a class at most.
use Rattle.std.proofs.Common.{◌≡◌, ℕ, List, Some, sym, ap, ◌∙◌, arith, inl, inr}
use Rattle.std.specs.Prelude.{slice_get}
use Rattle.std.proofs.lemmas.Bool.{cases_lt}
use Rattle.std.proofs.lemmas.Option.{same_Some, slice_get_within, slice_get-get_or}
use Rattle.pud_defs.specs.declared.records.Puddle.{Puddle}
use Rattle.pud_defs.specs.declared.records.Slot.{Slot}
use Rattle.pud_defs.proofs.Formats.Geometry.{few_slots}
use Rattle.pud_defs.specs.PoolGraphs.Stored.{Stored}
use Rattle.graph_laws.specs.Slots.{AreAllLive, IsLowestFreeSlot}
use Rattle.puddle_header.specs.Places.{place_of_slot, IsSlotOf}

-- two places of the lowest free slot are the same
pub one_lowest : (class : ℕ) (st : Stored) (p q : ℕ) → IsLowestFreeSlot class st p → IsLowestFreeSlot class st q → p ≡ q
one_lowest class st p q a b = elim (cases_lt p q) [
  | inl less ↦ absurd (b.live_before p less a.slot a.free)
  | inr from ↦ elim (cases_lt q p) [
    | inl less ↦ absurd (a.live_before q less b.slot b.free)
    | inr back ↦ omega arith
  ]
]

-- if each slot of the class is live, there is no lowest free slot
pub lowest_is_free : (class : ℕ) (st : Stored) (p : ℕ) → IsLowestFreeSlot class st p → AreAllLive class st → ⊥
lowest_is_free class st p lowest live = live.each p lowest.within lowest.slot lowest.free

-- slots of a pool at one place are the same
pub one_slot : (at : List (ℕ × Puddle)) (s r : Slot) → IsSlotOf at s → IsSlotOf at r → place_of_slot s ≡ place_of_slot r → s ≡ r
one_slot at s r of by same =
    let below = of.below in
    let also = by.below in
    let few = few_slots of.puddle.class in
    let many = few_slots by.puddle.class in
    let ordinal : s.ordinal ≡ r.ordinal = omega arith in
    let slot : s.slot ≡ r.slot = omega arith in
    let pair = same_Some (s.frame, of.puddle) (r.frame, by.puddle) (sym of.there ∙ ap (slice_get at) ordinal ∙ by.there) in
    let frame : s.frame ≡ r.frame = ap (λ (e : ℕ × Puddle). e.0) pair in
    let class : s.class ≡ r.class = of.alike ∙ ap (λ (e : ℕ × Puddle). e.1.class) pair ∙ sym by.alike in
    λ i. record { frame = frame i; ordinal = ordinal i; slot = slot i; class = class i }

-- a pool that has a slot has a puddle of ordinal 0
pub first_there : (at : List (ℕ × Puddle)) (s : Slot) (d : ℕ × Puddle) → IsSlotOf at s → (e : ℕ × Puddle) × (slice_get at 0 ≡ Some e)
first_there at s d of =
    let within = slice_get_within at s.ordinal (s.frame, of.puddle) of.there in
    (_, slice_get-get_or at 0 d (omega (arith, within)))
