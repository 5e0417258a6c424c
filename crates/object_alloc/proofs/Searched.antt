-- The search for a free slot, place by place.
use Rattle.std.proofs.Common.{◌≡◌, inl, inr, ℕ, ◌+◌, ◌<◌, ◌≤◌, true, false, eqb, List, sym, ap, ◌∙◌, arith, eqb-true, eq-eqb, true≢false}
use Rattle.std.proofs.lemmas.Bool.{cases_eq, and_from, and_parts}
use Rattle.std.proofs.lemmas.List.{length-map}
use Rattle.pud_defs.specs.declared.records.Puddle.{Puddle}
use Rattle.pud_defs.specs.Formats.Geometry.{places_among}
use Rattle.pud_defs.specs.Formats.Image.{Image}
use Rattle.pud_defs.specs.PoolGraphs.Stored.{Stored, stored_in, places_of, class_at, is_slot, IsLivePlace}
use Rattle.puddle_header.specs.Places.{places_in}
use Rattle.graph_laws.specs.Slots.{IsSlotOfClass, AreAllLive, IsLowestFreeSlot}
use Rattle.object_alloc.specs.Alloc.{is_free_of, AreLiveBefore}

-- No place comes before the first one.
pub AreLiveBefore-start : (class : ℕ) (st : Stored) → AreLiveBefore class st 0
AreLiveBefore-start class st = record { each = λ q below. absurd (omega arith) }

-- A place that is no free slot of the class is live if it is a slot of the class.
pub live_there : (class : ℕ) (st : Stored) (p : ℕ) → is_free_of class st p ≡ false → IsSlotOfClass class st p → IsLivePlace st p
live_there class st p not_free slot free =
    absurd (true≢false (sym (and_from (eqb (class_at st p) class) _ (eq-eqb _ _ slot.of_class) (and_from (is_slot st p) _ slot.slot (eq-eqb _ 0 free))) ∙ not_free))

pub AreLiveBefore-more : (class : ℕ) (st : Stored) (p : ℕ) → AreLiveBefore class st p → is_free_of class st p ≡ false → AreLiveBefore class st (p + 1)
AreLiveBefore-more class st p before not_free = record {
  each = λ q below slot. elim (cases_eq q p) [
    | inl here ↦ live_there class st q (ap (is_free_of class st) here ∙ not_free) slot
    | inr other ↦ before.each q (omega arith) slot
  ];
}

module _ (class F : ℕ) (at : List (ℕ × Puddle)) (image : Image) where
  same_places : places_of (stored_in F at image) ≡ places_in at
  same_places = ap (λ n. places_among n) (length-map at (λ (e : ℕ × Puddle). e.1))

  pub found_free : (p : ℕ) → p < places_in at → AreLiveBefore class (stored_in F at image) p → is_free_of class (stored_in F at image) p ≡ true → IsLowestFreeSlot class (stored_in F at image) p
  found_free p below before there =
      let st = stored_in F at image in
      let parts = and_parts (eqb (class_at st p) class) _ there in
      let rest = and_parts (is_slot st p) _ parts.1 in
      record { within = omega (arith, same_places); slot = record { slot = rest.0; of_class = eqb-true _ _ parts.0 }; free = eqb-true _ 0 rest.1; live_before = before.each }

  pub none_found : (p : ℕ) → places_in at ≤ p → AreLiveBefore class (stored_in F at image) p → AreAllLive class (stored_in F at image)
  none_found p past before = record { each = λ q below slot. before.each q (omega (arith, same_places)) slot }

pub not_all_live : (class : ℕ) (st : Stored) (p : ℕ) → IsLowestFreeSlot class st p → AreAllLive class st → ⊥
not_all_live class st p lowest all = all.each p lowest.within lowest.slot lowest.free
