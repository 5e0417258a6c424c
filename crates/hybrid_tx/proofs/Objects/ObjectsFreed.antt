-- The serial of an object that is not referenced is cleared in an image of a pool: the pool's graph is then without
-- the object.
use Rattle.std.proofs.Common.{◌≡◌, ℕ, ◌+◌, ◌<◌, false, List, [], ◌∷◌, Some, sym, ap, ap₂, ◌∙◌, arith}
use Rattle.pm_model.specs.Changes.{placed}
use Rattle.pud_defs.specs.declared.layout.TheConstants.{FRAME_WORDS}
use Rattle.pud_defs.specs.declared.space.TheConstants.{SLOT_SERIAL_WORD}
use Rattle.pud_defs.specs.declared.records.Puddle.{Puddle}
use Rattle.pud_defs.specs.declared.records.Slot.{Slot}
use Rattle.pud_defs.specs.Formats.Geometry.{slot_begins}
use Rattle.pud_defs.proofs.Formats.Geometry.{some_words}
use Rattle.pud_defs.specs.Formats.Image.{Image}
use Rattle.pud_defs.specs.Logging.Replay.{overwritten}
use Rattle.pud_defs.specs.PoolGraphs.Stored.{Stored, stored_in}
use Rattle.pud_defs.specs.PoolGraphs.Graph.{Graph, graph_of, is_referenced}
use Rattle.pud_defs.specs.PoolGraphs.GraphChanges.{without_object}
use Rattle.graph_laws.specs.Changes.{with_word, with_words, with_serial_word}
use Rattle.graph_laws.specs.Reads.{HasDistinctFrames}
use Rattle.graph_laws.proofs.ObjectChanges.FreedObjects.{graph_of-freed}
use Rattle.puddle_header.specs.Places.{place_of_slot, IsSlotOf}
use Rattle.graph_read.specs.Reading.{place_in_pool}
use Rattle.puddle_header.proofs.Placed.{place_ordinal}
use Rattle.object_alloc.specs.Alloc.{serial_word_at}
use Rattle.hybrid_tx.specs.PoolScopes.{ArePlacedPuddles}
use Rattle.hybrid_tx.proofs.Objects.SlotPlaces.{slot_in_frame, begins_of_slot}
use Rattle.hybrid_tx.proofs.Objects.FieldsSet.{stored_in-one, place_is}

-- what is stored is the same, with the serial cleared
pub stored_in-cleared : (F : ℕ) (at : List (ℕ × Puddle)) (image : Image) → HasDistinctFrames at → (slot : Slot) → IsSlotOf at slot
    → stored_in F at (overwritten (placed (serial_word_at F slot) (0 ∷ [])) image) ≡ with_serial_word (place_of_slot slot) 0 (stored_in F at image)
stored_in-cleared F at image distinct slot of =
    let end = slot_in_frame at slot of in
    let some = some_words slot.class in
    let few : slot_begins slot + SLOT_SERIAL_WORD < FRAME_WORDS = omega arith in
    let st : Stored = stored_in F at image in
    stored_in-one F at image slot.ordinal (slot_begins slot + SLOT_SERIAL_WORD) 0 (slot.frame, of.puddle) distinct of.there few
    ∙ ap₂ (λ (i j : ℕ). with_words (with_word i (j + SLOT_SERIAL_WORD) 0 st.word) st) (sym (place_ordinal slot.ordinal slot.slot of.puddle of.below)) (sym (begins_of_slot F at image slot of))

module _ (types : List (ℕ × ℕ)) (F : ℕ) (at : List (ℕ × Puddle)) (image : Image) (g : Graph) (is : graph_of types (stored_in F at image) ≡ Some g) where
  pub free_stored : ArePlacedPuddles F at → (s : ℕ) (slot : Slot) → IsSlotOf at slot → place_in_pool F at image s ≡ Some (place_of_slot slot) → is_referenced s g ≡ false
      → graph_of types (stored_in F at (overwritten (placed (serial_word_at F slot) (0 ∷ [])) image)) ≡ Some (without_object s g)
  free_stored is_placed s slot of found spared =
      ap (graph_of types) (stored_in-cleared F at image is_placed.frames slot of)
      ∙ graph_of-freed types (stored_in F at image) g s (place_of_slot slot) is (place_is types F at image g is s ∙ found) spared
