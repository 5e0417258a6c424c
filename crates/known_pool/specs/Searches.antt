-- The places from which free slots are looked for, by the class of the slots.
use Rattle.std.specs.Prelude.{ℕ, ◌+◌, ◌==◌, cond, min}
use Rattle.pud_defs.specs.declared.space.TheConstants.{LARGE, SMALL}
use Rattle.pud_defs.specs.declared.records.Slot.{Slot}
use Rattle.puddle_header.specs.Places.{place_of_slot}
use Rattle.known_pool.specs.declared.searches.FullBelow.{FullBelow}

-- Each search begins at the first place.
abbrev pub none_full : FullBelow
none_full = record { large = 0; small = 0 }

-- The place for the slots of a class. It is 0 if there is no such class.
abbrev pub full_of : (class : ℕ) → FullBelow → ℕ
full_of class full = cond (class == SMALL) full.small (cond (class == LARGE) full.large 0)

-- The same with this place for the slots of a class. Nothing changes if there is no such class.
abbrev pub with_full : (class place : ℕ) → FullBelow → FullBelow
with_full class place full = record { large = cond (class == LARGE) place full.large; small = cond (class == SMALL) place full.small }

-- After an object was made in the lowest free slot of a class, the next slot of this class is looked for after it.
abbrev pub full_after_made : Slot → FullBelow → FullBelow
full_after_made slot full = with_full slot.class (place_of_slot slot + 1) full

-- After an object was freed, slots of its class are looked for from its slot on, if it comes before the place from which
-- they were looked for.
abbrev pub full_after_freed : Slot → FullBelow → FullBelow
full_after_freed slot full = with_full slot.class (min (full_of slot.class full) (place_of_slot slot)) full
