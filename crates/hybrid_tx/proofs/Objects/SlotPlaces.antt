-- What is stored at the place of a slot of a pool: the class, the words and the serial there are those of the slot.
use Rattle.std.proofs.Common.{◌≡◌, ℕ, ◌+◌, ◌<◌, ◌≤◌, true, List, map, Some, sym, ap, ap₂, subst, ◌∙◌}
use Rattle.std.specs.Prelude.{slice_get}
use Rattle.std.proofs.lemmas.Bool.{lt-ltb, ltb-true}
use Rattle.pud_defs.specs.declared.layout.TheConstants.{FRAME_WORDS}
use Rattle.pud_defs.specs.declared.space.TheConstants.{SLOT_SERIAL_WORD}
use Rattle.pud_defs.specs.declared.records.Puddle.{Puddle}
use Rattle.pud_defs.specs.declared.records.Slot.{Slot}
use Rattle.pud_defs.specs.Formats.Geometry.{class_slots, class_slot_words, class_slot_at, slot_begins, ordinal_of, slot_of}
use Rattle.pud_defs.proofs.Formats.Geometry.{slot_end}
use Rattle.pud_defs.specs.Formats.Image.{Image}
use Rattle.pud_defs.specs.PoolGraphs.Stored.{stored_in, class_of, class_at, is_slot, place_begins, place_words, place_word, place_serial}
use Rattle.graph_laws.specs.Slots.{IsLowestFreeSlot}
use Rattle.graph_laws.proofs.SameReads.Words.{serial_there}
use Rattle.puddle_header.specs.Places.{is_slot_in, place_of_slot, IsSlotOf}
use Rattle.puddle_header.proofs.Placed.{place_ordinal, place_slot, class_there}

-- a slot is one of its own class
pub below_of_slot : (at : List (ℕ × Puddle)) (slot : Slot) → IsSlotOf at slot → slot.slot < class_slots slot.class
below_of_slot at slot of = subst (λ (c : ℕ). slot.slot < class_slots c) (sym of.alike) of.below

-- it ends within the frame
pub slot_in_frame : (at : List (ℕ × Puddle)) (slot : Slot) → IsSlotOf at slot → slot_begins slot + class_slot_words slot.class ≤ FRAME_WORDS
slot_in_frame at slot of = slot_end slot.class slot.slot (below_of_slot at slot of)

-- a place that is a slot is one of its puddle
pub below_there : (at : List (ℕ × Puddle)) (p : ℕ) (e : ℕ × Puddle) → slice_get at (ordinal_of p) ≡ Some e → is_slot_in at p ≡ true → slot_of p < class_slots e.1.class
below_there at p e there slot =
    subst (λ (c : ℕ). slot_of p < class_slots c) (class_there at (ordinal_of p) e there)
    (ltb-true (slot_of p) (class_slots (class_of (slice_get (map (λ (d : ℕ × Puddle). d.1) at) (ordinal_of p)))) slot)

module _ (F : ℕ) (at : List (ℕ × Puddle)) (image : Image) (slot : Slot) (of : IsSlotOf at slot) where
  pub class_of_slot : class_at (stored_in F at image) (place_of_slot slot) ≡ slot.class
  class_of_slot =
      ap (λ (o : ℕ). class_of (slice_get (map (λ (d : ℕ × Puddle). d.1) at) o)) (place_ordinal slot.ordinal slot.slot of.puddle of.below)
      ∙ class_there at slot.ordinal (slot.frame, of.puddle) of.there
      ∙ sym of.alike

  pub begins_of_slot : place_begins (stored_in F at image) (place_of_slot slot) ≡ slot_begins slot
  begins_of_slot = ap₂ class_slot_at class_of_slot (place_slot slot.ordinal slot.slot of.puddle of.below)

  pub words_of_slot : place_words (stored_in F at image) (place_of_slot slot) ≡ class_slot_words slot.class
  words_of_slot = ap class_slot_words class_of_slot

  pub is_slot_of_slot : is_slot (stored_in F at image) (place_of_slot slot) ≡ true
  is_slot_of_slot =
      lt-ltb (slot_of (place_of_slot slot)) (class_slots (class_at (stored_in F at image) (place_of_slot slot)))
      (subst (λ (n : ℕ). n < class_slots (class_at (stored_in F at image) (place_of_slot slot))) (sym (place_slot slot.ordinal slot.slot of.puddle of.below))
      (subst (λ (c : ℕ). slot.slot < class_slots c) (sym class_of_slot) (below_of_slot at slot of)))

  pub serial_of_slot : place_serial (stored_in F at image) (place_of_slot slot) ≡ place_word (stored_in F at image) (place_of_slot slot) SLOT_SERIAL_WORD
  serial_of_slot = serial_there (stored_in F at image) (place_of_slot slot) is_slot_of_slot

  -- the lowest free slot of a class is one of this class
  pub class_of_lowest : (class : ℕ) → IsLowestFreeSlot class (stored_in F at image) (place_of_slot slot) → slot.class ≡ class
  class_of_lowest class lowest = sym class_of_slot ∙ lowest.slot.of_class
