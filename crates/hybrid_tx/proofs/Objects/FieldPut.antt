-- A field is set within a transaction, or its value is deferred.
use Rattle.std.proofs.Common.{◌≡◌, inl, inr, ℕ, ◌+◌, ◌*◌, ◌%◌, ◌^◌, ◌≤◌, true, List, [], ◌∷◌, ◌++◌, All, map, Option, Some, None, option_map, refl, sym, ap, subst, ◌∙◌, arith}
use Rattle.std.specs.Prelude.{slice_get}
use Rattle.std.proofs.lemmas.Option.{none-some, slice_get-map}
use Rattle.pm_model.specs.declared.host.HostFault.{HostFault}
use Rattle.pm_model.specs.Words.{reads}
use Rattle.pm_model.specs.Moments.{State}
use Rattle.pm_model.specs.Counts.{Counts}
use Rattle.pm_model.specs.Changes.{placed}
use Rattle.pm_model.specs.Reads.{OnlyReads}
use Rattle.pud_defs.specs.declared.layout.TheConstants.{LOG_WORDS}
use Rattle.pud_defs.specs.declared.space.TheConstants.{WORD_BYTES}
use Rattle.pud_defs.specs.declared.records.Puddle.{Puddle}
use Rattle.pud_defs.specs.declared.records.Slot.{Slot}
use Rattle.pud_defs.specs.declared.objects.FieldValue.{FieldValue}
use Rattle.pud_defs.specs.Formats.Layout.{device_words, frames_at}
use Rattle.pud_defs.specs.Formats.Image.{Image}
use Rattle.pud_defs.specs.Formats.Bases.{is_legal_base}
use Rattle.pud_defs.specs.Formats.Geometry.{class_slot_at, slot_at, slot_begins, ordinal_of, IsFinished}
use Rattle.pud_defs.proofs.Formats.Geometry.{some_words}
use Rattle.pud_defs.specs.Formats.Frames.{frame_at}
use Rattle.pud_defs.specs.Logging.Entries.{Entry}
use Rattle.pud_defs.specs.Logging.Replay.{overwritten}
use Rattle.pud_defs.proofs.Logging.Replay.{overwritten-nothing}
use Rattle.pud_defs.specs.PoolGraphs.Stored.{stored_in}
use Rattle.pud_defs.specs.PoolGraphs.Graph.{Graph, graph_of}
use Rattle.pud_defs.specs.PoolGraphs.GraphChanges.{with_field}
use Rattle.pud_defs.specs.PoolGraphs.DeferredValues.{DeferredValue}
use Rattle.pud_defs.specs.PoolGraphs.Exported.{address_in}
use Rattle.puddle_header.specs.Places.{place_of_slot, IsSlotOf}
use Rattle.graph_read.specs.Reading.{place_in_pool}
use Rattle.puddle_header.proofs.Placed.{place_ordinal, place_slot}
use Rattle.log_store.specs.Store.{OpenLog}
use Rattle.word_transaction.specs.Scope.{redo_entry}
use Rattle.word_transaction.specs.Running.{no_write}
use Rattle.word_transaction.proofs.Calls.{KeepsRunning-stopped, some_fault}
use Rattle.hybrid_tx.specs.PoolScopes.{pool_scope, finished_of, ArePlacedPuddles}
use Rattle.hybrid_tx.specs.Objects.Stores.{address_at, word_for, IsPlaceAndWord, LacksPlaceOrWord, field_word}
use Rattle.hybrid_tx.specs.Objects.Transactions.{MaySet, IsRewrittenFor, IsDeferredEntry, AreDeferredEntries, IsSaving, IsOpenOn, KeepsSaving, KeepsOpenOn}
use Rattle.hybrid_tx.proofs.PoolScope.{all_there}
use Rattle.hybrid_tx.proofs.Objects.SlotPlaces.{slot_in_frame}
use Rattle.hybrid_tx.proofs.Objects.FieldsSet.{room_for_field, placed_if_live, word_if_held, set_value}
use Rattle.hybrid_tx.proofs.Objects.DeferredKept.{AreDeferredEntries-kept, AreDeferredEntries-more}
use Rattle.hybrid_tx.proofs.Objects.DeferredAfter.{KeepsObjects-field, KeepsPlaces-field}
use Rattle.hybrid_tx.proofs.Objects.Opening.{KeepsOpenOn-write}
use Rattle.hybrid_tx.proofs.Objects.InFrames.{no_wrap}

-- a place and a word that were found are not missing
pub found_there : (F : ℕ) (at : List (ℕ × Puddle)) (image : Image) (s : ℕ) (x : FieldValue) (found : Slot × ℕ) → IsPlaceAndWord F at image s x found → LacksPlaceOrWord F at image s x → ⊥
found_there F at image s x found there lacks = elim lacks [ inl none ↦ none-some _ (sym none ∙ there.0) | inr none ↦ none-some _ (sym none ∙ there.1) ]

-- the address that a slot has by its ordinal is that of its place
pub slot_address-read : (at : List (ℕ × Puddle)) (slot : Slot) (of : IsSlotOf at slot) (e : ℕ × Puddle) → (slot.frame, of.puddle) ≡ e → All (λ d. is_legal_base d.1.base ≡ true) at
    → (e.1.base + WORD_BYTES * slot_begins slot) % 2 ^ 64 ≡ address_at at (place_of_slot slot)
slot_address-read at slot of e same legal =
    let its : is_legal_base of.puddle.base ≡ true = all_there (λ d. is_legal_base d.1.base ≡ true) at slot.ordinal (slot.frame, of.puddle) legal of.there in
    let ordinal = place_ordinal slot.ordinal slot.slot of.puddle of.below in
    let number = place_slot slot.ordinal slot.slot of.puddle of.below in
    let end = slot_in_frame at slot of in
    let some = some_words slot.class in
    let home : slice_get (map (λ (d : ℕ × Puddle). d.1) at) slot.ordinal ≡ Some of.puddle =
    slice_get-map (λ (d : ℕ × Puddle). d.1) at slot.ordinal ∙ ap (option_map (λ (d : ℕ × Puddle). d.1)) of.there in
    ap (λ (d : ℕ × Puddle). (d.1.base + WORD_BYTES * slot_begins slot) % 2 ^ 64) (sym same)
    ∙ no_wrap of.puddle.base (slot_begins slot) its (omega arith)
    ∙ ap (λ (c : ℕ). of.puddle.base + WORD_BYTES * class_slot_at c slot.slot) of.alike
    ∙ ap (λ (o : Option Puddle). address_in o slot.slot) (sym home)
    ∙ ap (λ (o : ℕ). address_in (slice_get (map (λ (d : ℕ × Puddle). d.1) at) o) slot.slot) (sym ordinal)
    ∙ ap (λ (n : ℕ). address_in (slice_get (map (λ (d : ℕ × Puddle). d.1) at) (ordinal_of (place_of_slot slot))) n) (sym number)

-- the same by the slot of its puddle
pub slot_address-by : (at : List (ℕ × Puddle)) (slot : Slot) (of : IsSlotOf at slot) (e : ℕ × Puddle) → (slot.frame, of.puddle) ≡ e → All (λ d. is_legal_base d.1.base ≡ true) at
    → (e.1.base + WORD_BYTES * slot_at e.1 slot.slot) % 2 ^ 64 ≡ address_at at (place_of_slot slot)
slot_address-by at slot of e same legal =
    ap (λ (d : ℕ × Puddle). (d.1.base + WORD_BYTES * slot_at d.1 slot.slot) % 2 ^ 64) (sym same)
    ∙ ap (λ (c : ℕ). (of.puddle.base + WORD_BYTES * class_slot_at c slot.slot) % 2 ^ 64) (sym of.alike)
    ∙ slot_address-read at slot of (slot.frame, of.puddle) refl legal

module _ (F : ℕ) (at : List (ℕ × Puddle)) (types : List (ℕ × ℕ)) (log following : OpenLog) (before : Image) (graph_before now : Graph) (deferred : List DeferredValue) where
  -- a call that only read before it failed
  pub KeepsOpenOn-stopped : {H : Type 0} {tells : Type 0} {state : H → State} {counts : H → Counts} {old new : H} (next : Graph) (more : List DeferredValue) (fault : HostFault) → following.gate_at ≡ log.gate_at
      → OnlyReads tells state counts (Some fault) old new → tells → IsOpenOn F at types log before graph_before now deferred (state old).now.words
      → KeepsOpenOn F at types following before graph_before next more (Some fault) (state old) (state new)
  KeepsOpenOn-stopped {state = state} {old = old} {new = new} next more fault same only t is_open =
      let s = is_open.saving in
      record {
        write = no_write;
        redo = is_open.redo;
        rests = λ none. absurd (some_fault fault none);
        saves = record { es = s.es; runs = KeepsRunning-stopped (pool_scope F (finished_of at)) log following s.es s.es before no_write fault (state old) (state new) same only.never_cut (only.stays t) s.running; defers = s.defers };
        was = is_open.was;
        is = λ none. absurd (some_fault fault none);
        are = λ none. absurd (some_fault fault none);
      }

  module _ (s f : ℕ) (x : FieldValue) (old : State) (is_open : IsOpenOn F at types log before graph_before now deferred old.now.words) (may : MaySet types now s f x) where
    no_place : place_in_pool F at (reads old.now.words) s ≡ None → ⊥
    no_place = placed_if_live types F at (reads old.now.words) now is_open.is s may.object may.live

    no_value : word_for F at (reads old.now.words) x ≡ None → ⊥
    no_value = word_if_held types F at (reads old.now.words) now is_open.is may.map f x may.holds

    pub lacks_none : LacksPlaceOrWord F at (reads old.now.words) s x → ⊥
    lacks_none lacks = elim lacks [ inl none ↦ no_place none | inr none ↦ no_value none ]

    pub KeepsOpenOn-set : (size word : ℕ) (slot : Slot) (v : ℕ) (fault : Option HostFault) (mid new : State) → ArePlacedPuddles F at → IsRewrittenFor F at (reads old.now.words) s → device_words F ≤ size → log.gate_at + LOG_WORDS ≤ frames_at F
        → following.gate_at ≡ log.gate_at → mid ≡ old → IsSlotOf at slot → place_in_pool F at (reads old.now.words) s ≡ Some (place_of_slot slot) → word_for F at (reads old.now.words) x ≡ Some v → word ≡ field_word slot f
        → ((e : ℕ × Puddle) → slice_get at slot.ordinal ≡ Some e → IsFinished e.1 → (b : Image) (redo : List Entry) → IsSaving F (finished_of at) log b redo mid.now.words
        → KeepsSaving F (finished_of at) following b redo (placed (frame_at F e.0 + word) (v ∷ [])) fault mid new)
        → KeepsOpenOn F at types following before graph_before (with_field s f x now) deferred fault old new
    KeepsOpenOn-set size word slot v fault mid new is_placed rewritten device apart same stays of found value is_word put =
        let image = reads old.now.words in
        let write = placed (frame_at F slot.frame + field_word slot f) (v ∷ []) in
        let redo = is_open.redo in
        let put_here = subst (λ (k : ℕ). IsSaving F (finished_of at) log before redo mid.now.words → KeepsSaving F (finished_of at) following before redo (placed (frame_at F slot.frame + k) (v ∷ [])) fault mid new) is_word
        (put (slot.frame, of.puddle) of.there ((rewritten.each slot of found).each (slot.frame, of.puddle) of.there) before redo) in
        KeepsOpenOn-write F size at types before log following graph_before now (with_field s f x now) deferred deferred redo write fault old mid new is_placed device apart same stays is_open put_here
        (set_value types F at image now is_open.is is_placed s f slot (rewritten.each slot of found) of found x v may value)
        (AreDeferredEntries-kept F at types image (overwritten write image) now (with_field s f x now)
        (KeepsPlaces-field F at image is_placed.frames slot of f v (room_for_field types F at image now is_open.is s f x slot of found may) now) (KeepsObjects-field s f x now) deferred redo is_open.are)

    -- the value of the field is deferred
    pub KeepsOpenOn-later : (size word : ℕ) (slot : Slot) (v : ℕ) (fault : Option HostFault) (mid new : State) → ArePlacedPuddles F at → IsRewrittenFor F at (reads old.now.words) s → device_words F ≤ size → log.gate_at + LOG_WORDS ≤ frames_at F
        → following.gate_at ≡ log.gate_at → mid ≡ old → IsSlotOf at slot → place_in_pool F at (reads old.now.words) s ≡ Some (place_of_slot slot) → word_for F at (reads old.now.words) x ≡ Some v → word ≡ field_word slot f
        → ((e : ℕ × Puddle) → slice_get at slot.ordinal ≡ Some e → IsFinished e.1 → (b : Image) (redo : List Entry) → IsSaving F (finished_of at) log b redo mid.now.words
        → KeepsSaving F (finished_of at) following b (redo ++ redo_entry (e.1.base + WORD_BYTES * word) (v ∷ []) ∷ []) no_write fault mid new)
        → KeepsOpenOn F at types following before graph_before now (deferred ++ record { s = s; f = f; x = x } ∷ []) fault old new
    KeepsOpenOn-later size word slot v fault mid new is_placed rewritten device apart same stays of found value is_word ask =
        let finished = (rewritten.each slot of found).each (slot.frame, of.puddle) of.there in
        let image = reads old.now.words in
        let redo = is_open.redo in
        let entry = redo_entry (of.puddle.base + WORD_BYTES * field_word slot f) (v ∷ []) in
        let later : IsDeferredEntry F at types image now (record { s = s; f = f; x = x }) entry = record { slot = slot; of = of; finished = finished; place = found; value = v; word = value; may = may; is = refl } in
        let ask_here = subst (λ (k : ℕ). IsSaving F (finished_of at) log before redo mid.now.words → KeepsSaving F (finished_of at) following before (redo ++ redo_entry (of.puddle.base + WORD_BYTES * k) (v ∷ []) ∷ []) no_write fault mid new)
        is_word (ask (slot.frame, of.puddle) of.there finished before redo) in
        let same_image : overwritten no_write image ≡ image = overwritten-nothing no_write image (λ k. refl) in
        KeepsOpenOn-write F size at types before log following graph_before now now deferred (deferred ++ record { s = s; f = f; x = x } ∷ []) (redo ++ entry ∷ []) no_write fault old mid new
        is_placed device apart same stays is_open ask_here
        (ap (λ (i : Image). graph_of types (stored_in F at i)) same_image ∙ is_open.is)
        (subst (λ (i : Image). AreDeferredEntries F at types i now (deferred ++ record { s = s; f = f; x = x } ∷ []) (redo ++ entry ∷ [])) (sym same_image)
        (AreDeferredEntries-more F at types image now (record { s = s; f = f; x = x }) entry later deferred redo is_open.are))
