-- The places of a pool, counted over its puddles in the order of their ordinals, and the slots at them.
use Rattle.std.specs.Prelude.{◌≡◌, ℕ, ◌<◌, Bool, nat_lt, List, map, length, slice_get, Some}
use Rattle.pud_defs.specs.declared.records.Puddle.{Puddle}
use Rattle.pud_defs.specs.declared.records.Slot.{Slot}
use Rattle.pud_defs.specs.Formats.Geometry.{class_slots, slots_of, ordinal_of, slot_of, place_at, places_among}
use Rattle.pud_defs.specs.PoolGraphs.Stored.{class_of}

-- How many places the puddles have.
abbrev pub places_in : List (ℕ × Puddle) → ℕ
places_in at = places_among (length at)

-- The place of a slot.
abbrev pub place_of_slot : Slot → ℕ
place_of_slot s = place_at s.ordinal s.slot

-- The slot is one of a puddle in this list, and its frame and its class are those of that puddle.
pub record IsSlotOf (at : List (ℕ × Puddle)) (s : Slot) : Type 0 where
  pub puddle : Puddle
  pub there : slice_get at s.ordinal ≡ Some (s.frame, puddle)
  pub alike : s.class ≡ puddle.class
  pub below : s.slot < slots_of puddle

-- The place is a slot: the puddle in which it lies has so many.
abbrev pub is_slot_in : List (ℕ × Puddle) → ℕ → Bool
is_slot_in at p = nat_lt (slot_of p) (class_slots (class_of (slice_get (map (λ e. e.1) at) (ordinal_of p))))
