-- A slot of a pool as a place, and the words that are read of it.
use Rattle.std.proofs.Common.{◌≡◌, ℕ, ◌<◌, true, List, map, slice_get, sym, ap, subst, ◌∙◌, arith}
use Rattle.std.proofs.lemmas.Bool.{cond-true, lt-ltb}
use Rattle.pud_defs.specs.declared.records.Puddle.{Puddle}
use Rattle.pud_defs.specs.declared.records.Slot.{Slot}
use Rattle.pud_defs.specs.declared.space.TheConstants.{SLOT_SERIAL_WORD, SLOT_TYPE_WORD}
use Rattle.pud_defs.specs.Formats.Geometry.{class_slots, class_slot_words, slot_of}
use Rattle.pud_defs.specs.Formats.Image.{Image}
use Rattle.pud_defs.specs.PoolGraphs.Stored.{stored_in, class_of, class_at, is_slot, place_word, place_serial}
use Rattle.pud_defs.proofs.Formats.Geometry.{some_words}
use Rattle.puddle_header.specs.Places.{place_of_slot, IsSlotOf}
use Rattle.puddle_header.proofs.Placed.{place_ordinal, place_slot, class_there, slot_at_place}
use Rattle.pud_export.specs.Exporting.{word_of}

module _ (F : ℕ) (at : List (ℕ × Puddle)) (image : Image) (s : Slot) (of : IsSlotOf at s) where
  -- its class is that of its place
  pub class_of_slot : class_at (stored_in F at image) (place_of_slot s) ≡ s.class
  class_of_slot =
      ap (λ (o : ℕ). class_of (slice_get (map (λ e. e.1) at) o)) (place_ordinal s.ordinal s.slot of.puddle of.below)
      ∙ class_there at s.ordinal (s.frame, of.puddle) of.there ∙ sym of.alike

  -- its place is a slot
  pub is_slot-there : is_slot (stored_in F at image) (place_of_slot s) ≡ true
  is_slot-there =
      let slot = place_slot s.ordinal s.slot of.puddle of.below in
      let slots = ap class_slots (class_of_slot ∙ of.alike) in
      let below = of.below in
      lt-ltb (slot_of (place_of_slot s)) (class_slots (class_at (stored_in F at image) (place_of_slot s))) (omega arith)

  -- each of its words is that at its place
  pub word_there : (k : ℕ) → k < class_slot_words s.class → word_of F s k image ≡ place_word (stored_in F at image) (place_of_slot s) k
  word_there k low = slot_at_place F at image k s of (subst (λ (c : ℕ). k < class_slot_words c) of.alike low)

  pub serial_word : word_of F s SLOT_SERIAL_WORD image ≡ place_word (stored_in F at image) (place_of_slot s) SLOT_SERIAL_WORD
  serial_word = let some = some_words s.class in word_there SLOT_SERIAL_WORD (omega arith)

  pub serial_there : word_of F s SLOT_SERIAL_WORD image ≡ place_serial (stored_in F at image) (place_of_slot s)
  serial_there = serial_word ∙ sym (cond-true _ _ _ is_slot-there)

  pub type_there : word_of F s SLOT_TYPE_WORD image ≡ place_word (stored_in F at image) (place_of_slot s) SLOT_TYPE_WORD
  type_there = let some = some_words s.class in word_there SLOT_TYPE_WORD (omega arith)
