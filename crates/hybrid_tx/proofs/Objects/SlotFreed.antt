-- A slot is freed within a transaction: its serial is saved, and then cleared.
use Rattle.std.proofs.Common.{◌≡◌, ℕ, ◌+◌, ◌*◌, ◌%◌, ◌^◌, ◌≤◌, true, false, List, [], ◌∷◌, Option, Some, None, refl, sym, ap, subst, ◌∙◌, arith}
use Rattle.pm_model.specs.declared.host.HostFault.{HostFault}
use Rattle.pm_model.specs.Words.{reads}
use Rattle.pm_model.specs.Moments.{State}
use Rattle.pm_model.specs.Changes.{Write, Changes, Writes, only, placed}
use Rattle.pud_defs.specs.declared.layout.TheConstants.{LOG_WORDS, FRAME_WORDS}
use Rattle.pud_defs.specs.declared.space.TheConstants.{SLOT_SERIAL_WORD, WORD_BYTES}
use Rattle.pud_defs.specs.declared.records.Puddle.{Puddle}
use Rattle.pud_defs.specs.declared.records.Slot.{Slot}
use Rattle.pud_defs.specs.Formats.Layout.{device_words, frames_at}
use Rattle.pud_defs.specs.Formats.Geometry.{slot_begins}
use Rattle.pud_defs.proofs.Formats.Geometry.{some_words}
use Rattle.pud_defs.specs.Formats.Image.{Image}
use Rattle.pud_defs.specs.Logging.Entries.{Entry}
use Rattle.pud_defs.specs.PoolGraphs.Graph.{Graph}
use Rattle.pud_defs.specs.PoolGraphs.GraphChanges.{without_object}
use Rattle.pud_defs.specs.PoolGraphs.DeferredValues.{DeferredValue, deferred_set_names}
use Rattle.puddle_header.specs.Places.{place_of_slot, IsSlotOf}
use Rattle.graph_read.specs.Reading.{place_in_pool}
use Rattle.log_store.specs.Store.{OpenLog, InLog}
use Rattle.object_alloc.specs.Alloc.{serial_word_at}
use Rattle.object_alloc.proofs.Freed.{placed-single}
use Rattle.word_transaction.specs.Scope.{Scope, IsScope}
use Rattle.word_transaction.specs.Running.{IsRunning, IsOneOf, ByTransaction, SavesWords, SavesAndWrites}
use Rattle.word_transaction.proofs.Writing.{KeepsRunning-written}
use Rattle.word_transaction.proofs.Kept.{WritesKept-placed, SavesAndWrites-unkept, SavesAndWrites-written}
use Rattle.hybrid_tx.specs.PoolScopes.{pool_scope, finished_of, ArePlacedPuddles, IsRewrittenAt}
use Rattle.hybrid_tx.proofs.FinishedPuddles.{finished_placed, finished_there}
use Rattle.hybrid_tx.specs.Objects.Stores.{address_at, ByPut}
use Rattle.hybrid_tx.specs.Objects.Transactions.{MayFree, IsSaving, IsOpenOn, KeepsSaving, KeepsOpenOn}
use Rattle.hybrid_tx.proofs.Objects.SlotPlaces.{slot_in_frame}
use Rattle.hybrid_tx.proofs.Objects.Putting.{ByPut-written}
use Rattle.hybrid_tx.proofs.Objects.InFrames.{ByPut-in_frame, KeepsSaving-put}
use Rattle.hybrid_tx.proofs.Objects.FieldPut.{slot_address-read}
use Rattle.hybrid_tx.proofs.Objects.ObjectsFreed.{free_stored}
use Rattle.hybrid_tx.proofs.Objects.DeferredSpared.{AreDeferredEntries-freed}
use Rattle.hybrid_tx.proofs.Objects.Opening.{KeepsOpenOn-write}

-- what frees a slot, as a word that gets its value
cleared : (F : ℕ) (slot : Slot) (first : ℕ) (fault : Option HostFault) (b c : State) → first ≡ serial_word_at F slot → Writes (only (serial_word_at F slot) 0) fault b c → Writes (placed first (0 ∷ [])) fault b c
cleared F slot first fault b c is_first w =
    subst (λ (write : Write). Writes write fault b c) (sym (placed-single (serial_word_at F slot) 0) ∙ ap (λ (k : ℕ). placed k (0 ∷ [])) (sym is_first)) w

-- the word of the serial is one of the frame
in_frame : (at : List (ℕ × Puddle)) (slot : Slot) → IsSlotOf at slot → slot_begins slot + SLOT_SERIAL_WORD + 1 ≤ FRAME_WORDS
in_frame at slot of = let end = slot_in_frame at slot of in let some = some_words slot.class in omega arith

-- ---- on any content

module _ (F : ℕ) (at : List (ℕ × Puddle)) (slot : Slot) (of : IsSlotOf at slot) (log : ℕ) where
  pub ByPut-cleared : (fault : Option HostFault) (a b c : State) → Changes (InLog log) None a b → Writes (only (serial_word_at F slot) 0) fault b c → Changes (ByPut log (serial_word_at F slot) (0 ∷ [])) fault a c
  ByPut-cleared fault a b c p q = ByPut-written log (serial_word_at F slot) (0 ∷ []) fault a b c p (cleared F slot (serial_word_at F slot) fault b c refl q)

  pub Changes-freed : (fault : Option HostFault) (a b c : State) → Changes (InLog log) None a b → Writes (only (serial_word_at F slot) 0) fault b c → Changes (ByTransaction (pool_scope F at) log) fault a c
  Changes-freed fault a b c p q =
      ByPut-in_frame F at slot.ordinal (slot_begins slot + SLOT_SERIAL_WORD) log (slot.frame, of.puddle) (0 ∷ []) fault a c of.there (in_frame at slot of)
      (ByPut-cleared fault a b c p q)

-- ---- the serial is saved and cleared

module _ (F size : ℕ) (at : List (ℕ × Puddle)) (slot : Slot) (of : IsSlotOf at slot) (log now : OpenLog) (before : Image) (redo : List Entry) (address first : ℕ) (a : State)
    (is_placed : ArePlacedPuddles F at) (device : device_words F ≤ size) (apart : log.gate_at + LOG_WORDS ≤ frames_at F) (is_address : address ≡ address_at at (place_of_slot slot)) (is_first : first ≡ serial_word_at F slot)
    (rewritten : IsRewrittenAt at slot.ordinal) (saving : IsSaving F (finished_of at) log before redo a.now.words) (same : now.gate_at ≡ log.gate_at) where
  abbrev g : Scope
  g = pool_scope F (finished_of at)

  -- the word of the serial is saved
  abbrev IsKept : (fault : Option HostFault) (b : State) → Type 0
  IsKept fault b =
      (es : List Entry) → IsScope size log.gate_at g → g.may_name address 1 ≡ true → g.place address ≡ Some first → IsRunning g log es before a.now.words → SavesWords g now [] es before (IsOneOf first 1) fault a b

  saves : (fault : Option HostFault) (c : State)
      → ((es : List Entry) → IsScope size log.gate_at g → g.may_name address 1 ≡ true → g.place address ≡ Some first → IsRunning g log es before a.now.words → SavesAndWrites g now [] es before (placed first (0 ∷ [])) fault a c)
      → KeepsSaving F (finished_of at) now before redo (placed (serial_word_at F slot) (0 ∷ [])) fault a c
  saves fault c puts =
      let some : 1 ≤ 1 = omega arith in
      let word : slot_begins slot ≡ slot_begins slot + SLOT_SERIAL_WORD = omega arith in
      let there = finished_there F at slot.ordinal (slot.frame, of.puddle) of.there (rewritten.each (slot.frame, of.puddle) of.there) in
      KeepsSaving-put F size (finished_of at) log now before redo fault a c (finished_placed F at is_placed) device apart saving
      there.0 (slot_begins slot + SLOT_SERIAL_WORD) (slot.frame, of.puddle) address first (0 ∷ []) there.1 some (in_frame at slot of)
      (is_address ∙ sym (slot_address-read at slot of (slot.frame, of.puddle) refl is_placed.legal) ∙ ap (λ (k : ℕ). (of.puddle.base + WORD_BYTES * k) % 2 ^ 64) word) is_first puts

  -- the word of the serial could not be saved
  pub KeepsSaving-unfreed : (fault : HostFault) (b : State) → IsKept (Some fault) b → KeepsSaving F (finished_of at) now before redo (placed (serial_word_at F slot) (0 ∷ [])) (Some fault) a b
  KeepsSaving-unfreed fault b keeps =
      saves (Some fault) b (λ es scope may place r. SavesAndWrites-unkept g now now [] es before (IsOneOf first 1) (placed first (0 ∷ [])) fault a b refl (keeps es scope may place r))

  pub KeepsSaving-freed : (fault : Option HostFault) (b c : State) → IsKept None b → Writes (only (serial_word_at F slot) 0) fault b c → KeepsSaving F (finished_of at) now before redo (placed (serial_word_at F slot) (0 ∷ [])) fault a c
  KeepsSaving-freed fault b c keeps writes =
      saves fault c (λ es scope may place r.
      SavesAndWrites-written g now [] es before (IsOneOf first 1) (placed first (0 ∷ [])) fault a b c (keeps es scope may place r) (WritesKept-placed size log.gate_at g address first (0 ∷ []) scope may place)
      (λ entries running covered.
      KeepsRunning-written size g now entries before (placed first (0 ∷ [])) fault b c (subst (λ (k : ℕ). IsScope size k g) (sym same) scope) running covered (cleared F slot first fault b c is_first writes)))

-- ---- the graph

module _ (F : ℕ) (at : List (ℕ × Puddle)) (types : List (ℕ × ℕ)) (log following : OpenLog) (before : Image) (graph_before now : Graph) (deferred : List DeferredValue) (old : State)
    (is_open : IsOpenOn F at types log before graph_before now deferred old.now.words) where
  pub KeepsOpenOn-free : (size s : ℕ) (slot : Slot) (fault : Option HostFault) (mid new : State) → MayFree now s → deferred_set_names s deferred ≡ false → ArePlacedPuddles F at → device_words F ≤ size → log.gate_at + LOG_WORDS ≤ frames_at F
      → following.gate_at ≡ log.gate_at → mid ≡ old → IsSlotOf at slot → place_in_pool F at (reads old.now.words) s ≡ Some (place_of_slot slot)
      → ((redo : List Entry) → IsSaving F (finished_of at) log before redo mid.now.words → KeepsSaving F (finished_of at) following before redo (placed (serial_word_at F slot) (0 ∷ [])) fault mid new)
      → KeepsOpenOn F at types following before graph_before (without_object s now) deferred fault old new
  KeepsOpenOn-free size s slot fault mid new may unnamed is_placed device apart same stays of found saves =
      let image = reads old.now.words in
      let redo = is_open.redo in
      KeepsOpenOn-write F size at types before log following graph_before now (without_object s now) deferred deferred redo (placed (serial_word_at F slot) (0 ∷ [])) fault old mid new
      is_placed device apart same stays is_open (saves redo)
      (free_stored types F at image now is_open.is is_placed s slot of found may.spared)
      (AreDeferredEntries-freed types F at image now is_open.is is_placed s slot of found deferred redo unnamed is_open.are)
