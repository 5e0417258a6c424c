-- Addresses of fields: by them redo entries name the fields of deferred values.
use Rattle.std.specs.Prelude.{◌≡◌, ℕ, ◌+◌, ◌*◌, ◌<◌, List}
use Rattle.pud_defs.specs.Formats.Geometry.{slots_of, slot_words_of, slot_at}
use Rattle.pud_defs.specs.declared.space.TheConstants.{WORD_BYTES, SLOT_FIELDS_WORD}
use Rattle.pud_defs.specs.declared.records.Puddle.{Puddle}
use Rattle.pud_defs.specs.declared.records.Slot.{Slot}
use Rattle.puddle_header.specs.Places.{IsSlotOf}

-- The address is that of the word of field f of a slot, in the range of the puddle.
pub record IsFieldAddress (puddle : Puddle) (address slot f : ℕ) : Type 0 where
  pub slot_below : slot < slots_of puddle
  pub field_below : SLOT_FIELDS_WORD + f < slot_words_of puddle
  pub is : address ≡ puddle.base + WORD_BYTES * (slot_at puddle slot + SLOT_FIELDS_WORD + f)

-- The same for a slot of these puddles, in the range of the slot's puddle.
pub record IsFieldOf (at : List (ℕ × Puddle)) (address : ℕ) (slot : Slot) (f : ℕ) : Type 0 where
  pub of : IsSlotOf at slot
  pub address_is : IsFieldAddress of.puddle address slot.slot f
