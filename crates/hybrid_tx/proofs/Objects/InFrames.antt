-- Words of frames are saved and written, or values for them are deferred, by the puddles' ordinals.
use Rattle.std.proofs.Common.{◌≡◌, inl, inr, ℕ, ◌+◌, ◌*◌, ◌%◌, ◌^◌, ◌<◌, ◌≤◌, true, List, [], ◌∷◌, ◌++◌, length, Option, Some, None, Result, Ok, Err, IfOk, sym, ap, ap₂, subst, ◌∙◌, arith}
use Rattle.std.specs.Prelude.{slice_get}
use Rattle.pm_model.specs.declared.host.HostFault.{HostFault}
use Rattle.pm_model.specs.Counts.{fault_of}
use Rattle.pm_model.specs.Moments.{State}
use Rattle.pm_model.specs.Changes.{Write, Changes, placed}
use Rattle.pm_model.proofs.Changes.{Changes-wider}
use Rattle.pm_persist.proofs.Ranges.{placed_within}
use Rattle.pud_defs.specs.declared.layout.TheConstants.{FRAME_WORDS, LOG_WORDS, SET_UNITS}
use Rattle.pud_defs.specs.declared.space.TheConstants.{WORD_BYTES, SPACE_START, SPACE_BYTES}
use Rattle.pud_defs.specs.declared.records.Puddle.{Puddle}
use Rattle.pud_defs.specs.Formats.Layout.{device_words, frames_at}
use Rattle.pud_defs.specs.Formats.Image.{Image}
use Rattle.pud_defs.specs.Formats.Bases.{is_legal_base}
use Rattle.pud_defs.specs.Formats.Geometry.{IsFinished}
use Rattle.pud_defs.specs.Formats.Frames.{frame_at}
use Rattle.pud_defs.specs.Logging.Entries.{Entry}
use Rattle.pud_defs.specs.Logging.Replay.{over}
use Rattle.log_store.specs.Store.{OpenLog, with_deferred_words}
use Rattle.word_transaction.specs.Scope.{Scope, IsScope, redo_entry}
use Rattle.word_transaction.specs.Running.{IsRunning, ByTransaction, no_write, KeepsRunning, SavesAndWrites}
use Rattle.word_transaction.proofs.Calls.{KeepsRunning-failed}
use Rattle.word_transaction.proofs.Pending.{deferred_entries-redo, deferred_entries-undo}
use Rattle.hybrid_tx.specs.PoolScopes.{pool_place, pool_may_name, pool_has_word, pool_scope, finished_of, ArePlacedPuddles}
use Rattle.hybrid_tx.specs.Objects.Stores.{ByPut, ByPutBoth}
use Rattle.hybrid_tx.specs.Objects.Transactions.{IsSaving, KeepsSaving}
use Rattle.hybrid_tx.proofs.PoolScope.{all_there, base_below, pool_has_word-from, is_scope, place_of_word, may_name_words}

-- ---- on any content

-- the words that are placed in a frame of the pool are its own
placed_in_frame : (F : ℕ) (at : List (ℕ × Puddle)) (o word : ℕ) (e : ℕ × Puddle) (vals : List ℕ) (k v : ℕ) → slice_get at o ≡ Some e → word + length vals ≤ FRAME_WORDS → placed (frame_at F e.0 + word) vals k ≡ Some v
    → pool_has_word F at k ≡ true
placed_in_frame F at o word e vals k v there few is =
    let within = placed_within (frame_at F e.0 + word) k v vals is in
    pool_has_word-from F at k (record { ordinal = o; puddle = e; there = there; low = omega arith; high = omega arith })

pub ByPut-in_frame : (F : ℕ) (at : List (ℕ × Puddle)) (o word log : ℕ) (e : ℕ × Puddle) (vals : List ℕ) (fault : Option HostFault) (old new : State) → slice_get at o ≡ Some e → word + length vals ≤ FRAME_WORDS
    → Changes (ByPut log (frame_at F e.0 + word) vals) fault old new → Changes (ByTransaction (pool_scope F at) log) fault old new
ByPut-in_frame F at o word log e vals fault old new there few c =
    Changes-wider (ByPut log (frame_at F e.0 + word) vals) (ByTransaction (pool_scope F at) log) fault old new
    (λ k v may. elim may [ inl inside ↦ inl inside | inr is ↦ inr (placed_in_frame F at o word e vals k v there few is) ]) c

pub ByPutBoth-in_frames : (F : ℕ) (at : List (ℕ × Puddle)) (log : ℕ) (o word : ℕ) (e : ℕ × Puddle) (vals : List ℕ) (p other : ℕ) (d : ℕ × Puddle) (value : ℕ) (fault : Option HostFault) (old new : State)
    → slice_get at o ≡ Some e → word + length vals ≤ FRAME_WORDS → slice_get at p ≡ Some d → other < FRAME_WORDS
    → Changes (ByPutBoth log (frame_at F e.0 + word) vals (frame_at F d.0 + other) value) fault old new → Changes (ByTransaction (pool_scope F at) log) fault old new
ByPutBoth-in_frames F at log o word e vals p other d value fault old new there few also below c =
    Changes-wider (ByPutBoth log (frame_at F e.0 + word) vals (frame_at F d.0 + other) value) (ByTransaction (pool_scope F at) log) fault old new
    (λ k v may. elim may [
      | inl inside ↦ inl inside
      | inr is ↦ inr (elim is [
        | inl one ↦ placed_in_frame F at o word e vals k v there few one
        | inr two ↦ placed_in_frame F at p other d (value ∷ []) k v also (omega arith) two
      ])
    ]) c

-- ---- addresses

-- the range of a puddle in the space ends before the end of the 64-bit numbers
pub no_wrap : (base word : ℕ) → is_legal_base base ≡ true → word < FRAME_WORDS → (base + WORD_BYTES * word) % 2 ^ 64 ≡ base + WORD_BYTES * word
no_wrap base word legal below =
    let low : base < SPACE_START + SPACE_BYTES = base_below base legal in
    omega arith

-- ---- calls in turn

-- a call that failed did nothing that was to follow
pub KeepsSaving-failed : (F : ℕ) (at : List (ℕ × Puddle)) (log following : OpenLog) (before : Image) (redo : List Entry) (same : following.gate_at ≡ log.gate_at) (write later : Write) (fault : HostFault) (old new : State)
    → KeepsSaving F at log before redo write (Some fault) old new → KeepsSaving F at following before redo later (Some fault) old new
KeepsSaving-failed F at log following before redo same write later fault old new s =
    record { es = s.es; runs = KeepsRunning-failed (pool_scope F at) log following s.es s.es before write later fault old new same s.runs; defers = s.defers }

-- a call with the log after it, which at Ok is this one
pub KeepsSaving-after : (F : ℕ) (at : List (ℕ × Puddle)) (long now : OpenLog) (before : Image) (redo : List Entry) (write : Write) (result : Result (Unit {0}) HostFault) (old new : State) → now.gate_at ≡ long.gate_at
    → IfOk result (λ _. now ≡ long) → KeepsSaving F at long before redo write (fault_of result) old new → KeepsSaving F at now before redo write (fault_of result) old new
KeepsSaving-after F at long now before redo write (Ok done) old new same is s = subst (λ (l : OpenLog). KeepsSaving F at l before redo write None old new) (sym is) s
KeepsSaving-after F at long now before redo write (Err fault) old new same is s = KeepsSaving-failed F at long now before redo same write write fault old new s

-- ---- the words of frames

-- the address of the first of these words of a frame names all of them
module _ (F : ℕ) (at : List (ℕ × Puddle)) (is_placed : ArePlacedPuddles F at) (o word : ℕ) (e : ℕ × Puddle) (count address : ℕ) (there : slice_get at o ≡ Some e) (some : 1 ≤ count) (few : word + count ≤ FRAME_WORDS)
    (is_address : address ≡ (e.1.base + WORD_BYTES * word) % 2 ^ 64) where
  named : address ≡ e.1.base + WORD_BYTES * word
  named = is_address ∙ no_wrap e.1.base word (all_there (λ d. is_legal_base d.1.base ≡ true) at o e is_placed.legal there) (omega arith)

  may_name : pool_may_name at address count ≡ true
  may_name = ap (λ a. pool_may_name at a count) named ∙ may_name_words F at is_placed o word e there count some few

  place_named : pool_place F at address ≡ Some (frame_at F e.0 + word)
  place_named = ap (pool_place F at) named ∙ place_of_word F at is_placed o word e there (omega arith)

module _ (F size : ℕ) (at : List (ℕ × Puddle)) (log now : OpenLog) (before : Image) (redo : List Entry) (fault : Option HostFault) (old new : State)
    (is_placed : ArePlacedPuddles F at) (device : device_words F ≤ size) (apart : log.gate_at + LOG_WORDS ≤ frames_at F) (s : IsSaving F at log before redo old.now.words) where
  abbrev g : Scope
  g = pool_scope F at

  KeepsSaving-puts : (write : Write) → SavesAndWrites g now [] s.es before write fault old new → KeepsSaving F at now before redo write fault old new
  KeepsSaving-puts write puts = record { es = s.es ++ puts.more; runs = puts.runs; defers = deferred_entries-undo s.es puts.more puts.defers ∙ s.defers }

  -- words of one frame are saved and written
  pub KeepsSaving-put : (o word : ℕ) (e : ℕ × Puddle) (address first : ℕ) (vals : List ℕ) → slice_get at o ≡ Some e → 1 ≤ length vals → word + length vals ≤ FRAME_WORDS
      → address ≡ (e.1.base + WORD_BYTES * word) % 2 ^ 64 → first ≡ frame_at F e.0 + word
      → ((es : List Entry) → IsScope size log.gate_at g → g.may_name address (length vals) ≡ true → g.place address ≡ Some first → IsRunning g log es before old.now.words
      → SavesAndWrites g now [] es before (placed first vals) fault old new)
      → KeepsSaving F at now before redo (placed (frame_at F e.0 + word) vals) fault old new
  KeepsSaving-put o word e address first vals there some few is_address is_first puts =
      KeepsSaving-puts (placed (frame_at F e.0 + word) vals)
      (subst (λ (k : ℕ). SavesAndWrites g now [] s.es before (placed k vals) fault old new) is_first
      (puts s.es (is_scope F size log.gate_at at is_placed device apart) (may_name F at is_placed o word e (length vals) address there some few is_address)
      (place_named F at is_placed o word e (length vals) address there some few is_address ∙ ap (λ k. Some k) (sym is_first)) s.running))

  -- words of one frame and one word of another are saved and written
  pub KeepsSaving-put_both : (o word : ℕ) (e : ℕ × Puddle) (address first : ℕ) (vals : List ℕ) (p other : ℕ) (d : ℕ × Puddle) (address2 second value : ℕ)
      → slice_get at o ≡ Some e → 1 ≤ length vals → word + length vals ≤ FRAME_WORDS → address ≡ (e.1.base + WORD_BYTES * word) % 2 ^ 64 → first ≡ frame_at F e.0 + word
      → slice_get at p ≡ Some d → other < FRAME_WORDS → address2 ≡ (d.1.base + WORD_BYTES * other) % 2 ^ 64 → second ≡ frame_at F d.0 + other
      → ((es : List Entry) → IsScope size log.gate_at g → g.may_name address (length vals) ≡ true → g.place address ≡ Some first → g.may_name address2 1 ≡ true → g.place address2 ≡ Some second
      → IsRunning g log es before old.now.words → SavesAndWrites g now [] es before (over (placed first vals) (placed second (value ∷ []))) fault old new)
      → KeepsSaving F at now before redo (over (placed (frame_at F e.0 + word) vals) (placed (frame_at F d.0 + other) (value ∷ []))) fault old new
  KeepsSaving-put_both o word e address first vals p other d address2 second value there some few is_address is_first also below is_other is_second puts =
      let one : 1 ≤ 1 = omega arith in
      let single : other + 1 ≤ FRAME_WORDS = omega arith in
      KeepsSaving-puts (over (placed (frame_at F e.0 + word) vals) (placed (frame_at F d.0 + other) (value ∷ [])))
      (subst (λ (k : ℕ). SavesAndWrites g now [] s.es before (over (placed k vals) (placed (frame_at F d.0 + other) (value ∷ []))) fault old new) is_first
      (subst (λ (k : ℕ). SavesAndWrites g now [] s.es before (over (placed first vals) (placed k (value ∷ []))) fault old new) is_second
      (puts s.es (is_scope F size log.gate_at at is_placed device apart)
      (may_name F at is_placed o word e (length vals) address there some few is_address)
      (place_named F at is_placed o word e (length vals) address there some few is_address ∙ ap (λ k. Some k) (sym is_first))
      (may_name F at is_placed p other d 1 address2 also one single is_other)
      (place_named F at is_placed p other d 1 address2 also one single is_other ∙ ap (λ k. Some k) (sym is_second)) s.running)))

-- words are saved and written, from a word of the frame of an ordinal on
abbrev pub PutsAt : (F : ℕ) (at : List (ℕ × Puddle)) (o word : ℕ) (vals : List ℕ) (log following : OpenLog) (fault : Option HostFault) (old new : State) → Type 0
PutsAt F at o word vals log following fault old new =
    (e : ℕ × Puddle) → slice_get at o ≡ Some e → IsFinished e.1 → (b : Image) (redo : List Entry) → IsSaving F (finished_of at) log b redo old.now.words
    → KeepsSaving F (finished_of at) following b redo (placed (frame_at F e.0 + word) vals) fault old new

-- ---- a value of a word of a frame is deferred

-- a call that defers a value, with the log after it, which at Ok has one more entry
pub KeepsSaving-deferred : (F size : ℕ) (at : List (ℕ × Puddle)) (word : ℕ) (e : ℕ × Puddle) (o : ℕ) (log now : OpenLog) (before : Image) (redo : List Entry) (address value : ℕ) (result : Result (Unit {0}) HostFault) (old new : State)
    → ArePlacedPuddles F at → device_words F ≤ size → log.gate_at + LOG_WORDS ≤ frames_at F → slice_get at o ≡ Some e → word < FRAME_WORDS → address ≡ (e.1.base + WORD_BYTES * word) % 2 ^ 64
    → IsSaving F at log before redo old.now.words → now.gate_at ≡ log.gate_at → IfOk result (λ _. now ≡ with_deferred_words SET_UNITS log)
    → ((es : List Entry) → IsScope size log.gate_at (pool_scope F at) → pool_may_name at address 1 ≡ true → IsRunning (pool_scope F at) log es before old.now.words
    → KeepsRunning (pool_scope F at) (with_deferred_words SET_UNITS log) (es ++ redo_entry address (value ∷ []) ∷ []) before no_write (fault_of result) old new)
    → KeepsSaving F at now before (redo ++ redo_entry (e.1.base + WORD_BYTES * word) (value ∷ []) ∷ []) no_write (fault_of result) old new
KeepsSaving-deferred F size at word e o log now before redo address value result old new is_placed device apart there below is_address s same is runs =
    let one : 1 ≤ 1 = omega arith in
    let single : word + 1 ≤ FRAME_WORDS = omega arith in
    KeepsSaving-after F at (with_deferred_words SET_UNITS log) now before (redo ++ redo_entry (e.1.base + WORD_BYTES * word) (value ∷ []) ∷ []) no_write result old new same is (record {
      es = s.es ++ redo_entry address (value ∷ []) ∷ [];
      runs = runs s.es (is_scope F size log.gate_at at is_placed device apart) (may_name F at is_placed o word e 1 address there one single is_address) s.running;
      defers = deferred_entries-redo s.es address (value ∷ [])
          ∙ ap₂ (λ (es : List Entry) (a : ℕ). es ++ redo_entry a (value ∷ []) ∷ []) s.defers (named F at is_placed o word e 1 address there one single is_address);
    })
