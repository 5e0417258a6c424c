-- An object is made within a transaction.
use Rattle.std.proofs.Common.{◌≡◌, ℕ, ◌+◌, ◌%◌, ◌^◌, ◌<◌, ◌≤◌, true, false, List, [], ◌∷◌, length, Option, Some, refl, sym, ap, subst, ◌∙◌, arith}
use Rattle.std.specs.Prelude.{slice_get}
use Rattle.pm_model.specs.declared.host.HostFault.{HostFault}
use Rattle.pm_model.specs.declared.host.HostFault.TheVariants.{Cut}
use Rattle.pm_model.specs.Words.{reads}
use Rattle.pm_model.specs.Moments.{State}
use Rattle.pm_model.specs.Changes.{Footprint, Changes, placed}
use Rattle.pm_model.proofs.Changes.{Changes-still}
use Rattle.pud_defs.specs.declared.layout.TheConstants.{LOG_WORDS, FRAME_WORDS, NUMBER_LIMIT}
use Rattle.pud_defs.specs.declared.space.TheConstants.{NEXT_SERIAL_WORD}
use Rattle.pud_defs.specs.declared.records.Puddle.{Puddle}
use Rattle.pud_defs.specs.declared.records.Slot.{Slot}
use Rattle.pud_defs.specs.Formats.Geometry.{class_slot_words, slot_begins}
use Rattle.pud_defs.specs.RegistryTables.Types.{map_of}
use Rattle.pud_defs.specs.Formats.Layout.{device_words, frames_at}
use Rattle.pud_defs.specs.Formats.Image.{Image}
use Rattle.pud_defs.specs.Formats.Frames.{frame_at, frame_word}
use Rattle.pud_defs.specs.Logging.Entries.{Entry}
use Rattle.pud_defs.specs.Logging.Replay.{over, overwritten, is_in_log}
use Rattle.pud_defs.specs.PoolGraphs.Stored.{stored_in, IsFreePlace}
use Rattle.pud_defs.specs.PoolGraphs.Graph.{Graph, fits_class, next_serial_of, graph_of}
use Rattle.pud_defs.proofs.PoolGraphs.Graphs.{graph_of-each}
use Rattle.pud_defs.specs.PoolGraphs.GraphChanges.{with_new, blank_object}
use Rattle.pud_defs.specs.PoolGraphs.DeferredValues.{DeferredValue}
use Rattle.puddle_header.specs.Places.{place_of_slot, IsSlotOf}
use Rattle.puddle_header.proofs.Placed.{stored_word}
use Rattle.log_store.specs.Store.{OpenLog}
use Rattle.word_transaction.specs.Running.{ByTransaction}
use Rattle.word_transaction.proofs.Calls.{some_fault}
use Rattle.hybrid_tx.specs.PoolScopes.{pool_scope, ArePlacedPuddles, finished_of}
use Rattle.hybrid_tx.specs.Objects.Stores.{new_object_words, new_object_write, ByPutBoth, ByNewObject}
use Rattle.hybrid_tx.specs.Objects.Transactions.{IsSaving, IsOpenOn, KeepsSaving, KeepsOpenOn, MakesIn}
use Rattle.hybrid_tx.proofs.Objects.SlotPlaces.{slot_in_frame}
use Rattle.hybrid_tx.proofs.Objects.ObjectsMade.{new_stored}
use Rattle.hybrid_tx.proofs.Objects.DeferredKept.{AreDeferredEntries-kept}
use Rattle.hybrid_tx.proofs.Objects.DeferredAfter.{KeepsObjects-new, serial_of_live, KeepsPlaces-new}
use Rattle.hybrid_tx.proofs.Objects.Opening.{KeepsOpenOn-write}
use Rattle.hybrid_tx.proofs.Objects.InFrames.{ByPutBoth-in_frames}

-- the serial that is read is the next one of the pool
module _ (F : ℕ) (at : List (ℕ × Puddle)) (types : List (ℕ × ℕ)) (image : Image) (first : ℕ × Puddle) (head : slice_get at 0 ≡ Some first) (serial : ℕ) (read : serial ≡ frame_word F first.0 NEXT_SERIAL_WORD image) where
  next_is : serial ≡ next_serial_of (stored_in F at image)
  next_is = read ∙ sym (stored_word F at image 0 NEXT_SERIAL_WORD first head (omega arith))

  pub serial_is_next : (g : Graph) → graph_of types (stored_in F at image) ≡ Some g → serial ≡ g.next_serial
  serial_is_next g is = next_is ∙ ap (λ (k : Graph). k.next_serial) (graph_of-each types (stored_in F at image) g is).is

-- the words that are put are the pool's own
pub Changes-put : (F : ℕ) (at : List (ℕ × Puddle)) (log : ℕ) (slot : Slot) (of : IsSlotOf at slot) (first : ℕ × Puddle) (bumped : ℕ) (words : List ℕ) (fault : Option HostFault) (old new : State) → length words ≡ class_slot_words slot.class
    → slice_get at 0 ≡ Some first → Changes (ByPutBoth log (frame_at F slot.frame + slot_begins slot) words (frame_at F first.0 + NEXT_SERIAL_WORD) bumped) fault old new
    → Changes (ByTransaction (pool_scope F at) log) fault old new
Changes-put F at log slot of first bumped words fault old new whole head changes =
    let end = slot_in_frame at slot of in
    let few : slot_begins slot + length words ≤ FRAME_WORDS = omega arith in
    let next : NEXT_SERIAL_WORD < FRAME_WORDS = omega arith in
    ByPutBoth-in_frames F at log slot.ordinal (slot_begins slot) (slot.frame, of.puddle) words 0 NEXT_SERIAL_WORD first bumped fault old new of.there few head next changes

-- ---- which words make an object

module _ (F : ℕ) (at : List (ℕ × Puddle)) (log_at : ℕ) (slot : Slot) (of : IsSlotOf at slot) (first : ℕ × Puddle) (type_id : ℕ) (old : State) where
  abbrev serial_now : ℕ
  serial_now = next_serial_of (stored_in F at (reads old.now.words))

  abbrev by_making : Footprint
  by_making = ByNewObject F log_at first.0 slot serial_now type_id

  -- a call that failed before it changed anything
  pub MakesIn-stopped : (fault : HostFault) (new : State) → slice_get at 0 ≡ Some first → (Some fault ≡ Some Cut → ⊥) → new ≡ old → MakesIn F at log_at slot type_id (Some fault) old new
  MakesIn-stopped fault new head kept stays =
      record { first = first; head = head; changes = Changes-still by_making (Some fault) old new kept stays; now = λ none. absurd (some_fault fault none) }

  -- what is put, in terms of the next serial
  Changes-making : (serial bumped : ℕ) (words : List ℕ) (fault : Option HostFault) (new : State) → serial ≡ serial_now → words ≡ new_object_words (class_slot_words slot.class) serial type_id → bumped ≡ serial + 1
      → Changes (ByPutBoth log_at (frame_at F slot.frame + slot_begins slot) words (frame_at F first.0 + NEXT_SERIAL_WORD) bumped) fault old new → Changes by_making fault old new
  Changes-making serial bumped words fault new is_next are_words bumps changes =
      let its = are_words ∙ ap (λ (n : ℕ). new_object_words (class_slot_words slot.class) n type_id) is_next in
      let more = bumps ∙ ap (λ (n : ℕ). n + 1) is_next in
      subst (λ (ws : List ℕ). Changes (ByPutBoth log_at (frame_at F slot.frame + slot_begins slot) ws (frame_at F first.0 + NEXT_SERIAL_WORD) (serial_now + 1)) fault old new) its
      (subst (λ (n : ℕ). Changes (ByPutBoth log_at (frame_at F slot.frame + slot_begins slot) words (frame_at F first.0 + NEXT_SERIAL_WORD) n) fault old new) more changes)

-- ---- an object is made

module _ (F : ℕ) (at : List (ℕ × Puddle)) (types : List (ℕ × ℕ)) (log : OpenLog) (before : Image) (graph_before now : Graph) (deferred : List DeferredValue) (old : State)
    (is_open : IsOpenOn F at types log before graph_before now deferred old.now.words) where
  -- the words of the slot and the next serial are put
  module _ (following : OpenLog) (first : ℕ × Puddle) (slot : Slot) (serial bumped type_id : ℕ) (words : List ℕ) (fault : Option HostFault) (new : State)
      (same : following.gate_at ≡ log.gate_at) (head : slice_get at 0 ≡ Some first) (of : IsSlotOf at slot) (is_serial : serial ≡ now.next_serial)
      (room : now.next_serial < NUMBER_LIMIT) (are_words : words ≡ new_object_words (class_slot_words slot.class) serial type_id) (is_bumped : bumped ≡ (serial + 1) % 2 ^ 64)
      (put : (b : Image) (redo : List Entry) → IsSaving F (finished_of at) log b redo old.now.words
      → KeepsSaving F (finished_of at) following b redo (over (placed (frame_at F slot.frame + slot_begins slot) words) (placed (frame_at F first.0 + NEXT_SERIAL_WORD) (bumped ∷ []))) fault old new) where
    abbrev image : Image
    image = reads old.now.words

    next_read : serial ≡ next_serial_of (stored_in F at image)
    next_read = is_serial ∙ sym (ap (λ (k : Graph). k.next_serial) (graph_of-each types (stored_in F at image) now is_open.is).is)

    one_more : bumped ≡ serial + 1
    one_more = let is = is_serial in omega arith

    KeepsSaving-making : IsSaving F (finished_of at) log before is_open.redo old.now.words → KeepsSaving F (finished_of at) following before is_open.redo (new_object_write F first.0 slot serial type_id) fault old new
    KeepsSaving-making saving =
        subst (λ (ws : List ℕ). KeepsSaving F (finished_of at) following before is_open.redo
        (over (placed (frame_at F slot.frame + slot_begins slot) ws) (placed (frame_at F first.0 + NEXT_SERIAL_WORD) ((serial + 1) ∷ []))) fault old new) are_words
        (subst (λ (n : ℕ). KeepsSaving F (finished_of at) following before is_open.redo
        (over (placed (frame_at F slot.frame + slot_begins slot) words) (placed (frame_at F first.0 + NEXT_SERIAL_WORD) (n ∷ []))) fault old new) one_more
        (put before is_open.redo saving))

    -- only these words are written
    pub MakesIn-new : Changes (ByPutBoth log.gate_at (frame_at F slot.frame + slot_begins slot) words (frame_at F first.0 + NEXT_SERIAL_WORD) bumped) fault old new → MakesIn F at log.gate_at slot type_id fault old new
    MakesIn-new changes =
        let saves = KeepsSaving-making is_open.saving in
        record {
          first = first;
          head = head;
          changes = Changes-making F at log.gate_at slot of first type_id old serial bumped words fault new next_read are_words one_more changes;
          now = λ none k out.
              saves.runs.now none k (subst (λ (l : ℕ). is_in_log l k ≡ false) (sym same) out)
              ∙ ap (λ (n : ℕ). overwritten (new_object_write F first.0 slot n type_id) image k) next_read;
        }

    pub KeepsOpenOn-new : (size m : ℕ) → ArePlacedPuddles F at → device_words F ≤ size → log.gate_at + LOG_WORDS ≤ frames_at F
        → IsFreePlace (stored_in F at image) (place_of_slot slot) → map_of type_id types ≡ Some m → fits_class slot.class m ≡ true
        → KeepsOpenOn F at types following before graph_before (with_new (blank_object slot.class type_id m) now) deferred fault old new
    KeepsOpenOn-new size m is_placed device apart free defined fits =
        KeepsOpenOn-write F size at types before log following graph_before now (with_new (blank_object slot.class type_id m) now) deferred deferred is_open.redo (new_object_write F first.0 slot serial type_id) fault old old new
        is_placed device apart same refl is_open KeepsSaving-making
        (new_stored types F at image is_placed first head slot of serial type_id m free next_read defined fits now is_open.is room)
        (AreDeferredEntries-kept F at types image (overwritten (new_object_write F first.0 slot serial type_id) image) now (with_new (blank_object slot.class type_id m) now)
        (KeepsPlaces-new types F at image is_placed first head slot of serial type_id m free next_read defined fits now is_open.is)
        (KeepsObjects-new (blank_object slot.class type_id m) now
        (λ s o live same. let below = (serial_of_live types (stored_in F at image) now is_open.is s o live).below in absurd (omega (arith, below, is_serial, same)))) deferred is_open.redo is_open.are)
