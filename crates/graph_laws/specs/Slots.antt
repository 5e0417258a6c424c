-- Which slots of a pool are free, and which have objects of a type.
use Rattle.std.specs.Prelude.{◌≡◌, ℕ, ◌<◌, Bool, true, ◌&&◌, ◌==◌}
use Rattle.pud_defs.specs.declared.space.TheConstants.{SLOT_TYPE_WORD}
use Rattle.pud_defs.specs.PoolGraphs.Stored.{Stored, places_of, class_at, is_slot, place_word, place_serial, slot_state, IsFreePlace, IsLivePlace}

-- The place is a slot of a puddle of the class.
pub record IsSlotOfClass (class : ℕ) (st : Stored) (p : ℕ) : Type 0 where
  pub slot : is_slot st p ≡ true
  pub of_class : class_at st p ≡ class

-- The slot at the place is free, and each slot before it is live: the slots of lower ordinals, and the lower slots of
-- its own ordinal.
pub record AreAllLive (class : ℕ) (st : Stored) : Type 0 where
  pub each : (p : ℕ) → p < places_of st → IsSlotOfClass class st p → IsLivePlace st p

-- The place is a free slot of the class, and each slot of the class before it is live: the slots of lower ordinals, and
-- the lower slots of its own ordinal.
pub record IsLowestFreeSlot (class : ℕ) (st : Stored) (p : ℕ) : Type 0 where
  pub within : p < places_of st
  pub slot : IsSlotOfClass class st p
  pub free : IsFreePlace st p
  pub live_before : (q : ℕ) → q < p → IsSlotOfClass class st q → IsLivePlace st q

-- The slot at the place is live and has an object of the type.
abbrev pub is_of_type : Stored → (id place : ℕ) → Bool
is_of_type st id p = (slot_state (place_serial st p)).is_live && place_word st p SLOT_TYPE_WORD == id
