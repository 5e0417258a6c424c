-- Which words of the device a line writes within an open transaction, and in which order.
use Rattle.std.specs.Prelude.{◌≡◌, ◌⊎◌, ℕ, ◌+◌, Bool, true, false, List, [], ◌∷◌, slice_get, Option, Some, None}
use Rattle.pm_model.specs.declared.host.HostFault.{HostFault}
use Rattle.pm_model.specs.Words.{reads}
use Rattle.pm_model.specs.Moments.{State}
use Rattle.pm_model.specs.Changes.{Footprint, Changes, Persists, only}
use Rattle.pud_defs.specs.declared.log_words.TheConstants.{RUNNING_GATE, COMMITTING_LO, COMMITTING_HI, CLOSED_GATE}
use Rattle.pud_defs.specs.declared.machine.Refusal.{Refusal}
use Rattle.pud_defs.specs.declared.records.Puddle.{Puddle}
use Rattle.pud_defs.specs.declared.records.Slot.{Slot}
use Rattle.pud_defs.specs.declared.space.TheConstants.{ROOT_WORD}
use Rattle.pud_defs.specs.Formats.Image.{Image}
use Rattle.pud_defs.specs.Formats.Frames.{frame_at}
use Rattle.pud_defs.specs.Logging.Entries.{gate_used, gate_word}
use Rattle.pud_defs.specs.Logging.Replay.{IsInLog}
use Rattle.pud_defs.specs.Logging.Settled.{log_number_at}
use Rattle.pud_defs.specs.PoolGraphs.DeferredValues.{DeferredValue}
use Rattle.pud_defs.specs.PoolGraphs.Stored.{stored_in}
use Rattle.pud_defs.specs.RegistryTables.Spaces.{is_closed_log}
use Rattle.pud_defs.specs.RegistryTables.Tables.{tables_of, puddles_in_turn}
use Rattle.pud_defs.specs.RegistryTables.Types.{types_of}
use Rattle.pud_defs.specs.StateMachine.Step.{class_made}
use Rattle.graph_laws.specs.Slots.{IsLowestFreeSlot, AreAllLive}
use Rattle.puddle_header.specs.Places.{place_of_slot, IsSlotOf}
use Rattle.object_alloc.specs.Alloc.{serial_word_at}
use Rattle.log_space.specs.FreeLogs.{IsLogOf, first_closed}
use Rattle.log_replay.specs.Replaying.{ByLog}
use Rattle.word_transaction.specs.Scope.{saved_in, pending_in}
use Rattle.registry.specs.declared.adding.NewPuddle.{NewPuddle}
use Rattle.registry.specs.Adding.{filling, PersistsThenCommits}
use Rattle.registry.specs.Growth.{growing}
use Rattle.registry.specs.Puts.{puts_batch}
use Rattle.lazy_rewrite.specs.Batches.{Rewrites}
use Rattle.lazy_rewrite.specs.Frontiers.{frontier_at, finished_at}
use Rattle.hybrid_tx.specs.Objects.Stores.{field_word, ByPut}
use Rattle.hybrid_tx.specs.PoolScopes.{pool_place, finished_of}
use Rattle.daemon_memory.specs.Sequences.{Then, Unread}
use Rattle.pool_transaction.specs.declared.changing.Change.{Change}
use Rattle.pool_transaction.specs.declared.changing.Change.TheVariants as changes
use Rattle.pool_transaction.specs.declared.changing.FoundUpdate.{FoundUpdate}
use Rattle.pool_transaction.specs.declared.changing.FoundUpdate.TheVariants as founds
use Rattle.pool_transaction.specs.declared.changing.Update.{Update}
use Rattle.pool_transaction.specs.Changing.{IsFoundBy, IsFoundWithin, ordinal_written, GrowsBy, MakesAfter}

-- The word is the gate of a log of the client, and the log is open.
pub record IsOpenLogOf (F client : ℕ) (image : Image) (gate : ℕ) : Type 0 where
  pub number : ℕ
  pub one_of : IsLogOf client number
  pub is : gate ≡ log_number_at F number
  pub opened : is_closed_log image gate ≡ false

-- ---- a transaction begins and ends

-- The gate of the client's lowest closed log becomes that of a running log, durably.
pub record OpensLog (F client : ℕ) (fault : Option HostFault) (old new : State) : Type 0 where
  pub number : ℕ
  pub lowest : Some number ≡ first_closed (reads old.now.words) F client
  pub persists : Persists (only (log_number_at F number) RUNNING_GATE) fault old new

-- The word is the gate of the log. It gets the range of a committing log, with the entry words that it counts by this
-- image, or the value of a closed log.
pub record ByGate (image : Image) (gate k v : ℕ) : Type 0 where
  pub here : k ≡ gate
  pub value : (v ≡ gate_word COMMITTING_LO COMMITTING_HI (gate_used (image gate))) ⊎ (v ≡ CLOSED_GATE)

-- A commit without deferred values writes only the gate. Otherwise it also writes words of the finished puddles that
-- redo entries of the log name by this image.
abbrev pub ByCommitting : (F : ℕ) → List (ℕ × Puddle) → Image → List DeferredValue → (gate : ℕ) → Footprint
ByCommitting F at image [] gate k v = ByGate image gate k v
ByCommitting F at image (d ∷ deferred) gate k v = ByLog gate (pending_in (pool_place F (finished_of at)) gate image) k v

-- An abort writes the gate, and words of the finished puddles that undo entries of the log name by this image.
abbrev pub ByAborting : (F : ℕ) → List (ℕ × Puddle) → Image → (gate : ℕ) → Footprint
ByAborting F at image gate k v = ByLog gate (saved_in (pool_place F (finished_of at)) gate image) k v

-- Only words of the footprint are written, with the gate of an open log of the client.
pub record WritesWithin (F client : ℕ) (footprint : (gate : ℕ) → Footprint) (fault : Option HostFault) (old new : State) : Type 0 where
  pub gate : ℕ
  pub is : IsOpenLogOf F client (reads old.now.words) gate
  pub changes : Changes (footprint gate) fault old new

-- ---- an update

-- An update of a field writes words of the log, and, if the value is not deferred, the word of the field, which gets
-- this value.
abbrev pub ByField : (later : Bool) → (F gate : ℕ) → Slot → (f word : ℕ) → Footprint
ByField true F gate slot f word k v = IsInLog gate k
ByField false F gate slot f word k v = ByPut gate (frame_at F slot.frame + field_word slot f) (word ∷ []) k v

-- An update of the root writes words of the log, and the word of the root in the first puddle, which gets this value.
abbrev pub ByRoot : (F gate : ℕ) → Option (ℕ × Puddle) → (word : ℕ) → Footprint
ByRoot F gate None word k v = IsInLog gate k
ByRoot F gate (Some e) word k v = ByPut gate (frame_at F e.0 + ROOT_WORD) (word ∷ []) k v

-- The words that the found update writes.
abbrev pub ByUpdate : (F gate : ℕ) → List (ℕ × Puddle) → FoundUpdate → Footprint
ByUpdate F gate at (founds.Field slot f word read x later) k v = ByField later F gate slot f word k v
ByUpdate F gate at (founds.Root word was s) k v = ByRoot F gate (slice_get at 0) word k v
ByUpdate F gate at (founds.Object slot s) k v = ByPut gate (serial_word_at F slot) (0 ∷ []) k v

-- The puddle with this ordinal is rewritten to its end, or that failed.
pub record FinishesPuddle (F o : ℕ) (at later : List (ℕ × Puddle)) (fault : Option HostFault) (old new : State) : Type 0 where
  pub rewrites : Rewrites F (frontier_at o (finished_at o at)) at later fault old new
  pub whole : fault ≡ None → later ≡ finished_at o at

-- The puddle that is written is first rewritten to its end, and then the found update is written.
abbrev pub WritesUpdate : (F gate : ℕ) → (at later : List (ℕ × Puddle)) → FoundUpdate → Option HostFault → State → State → Type 0
WritesUpdate F gate at later found fault old new = Then (FinishesPuddle F (ordinal_written found) at later) (Changes (ByUpdate F gate later found)) fault old new

-- The line writes the update that was asked for, as it was found by what is read, with an open log of the client.
pub record Updates (F client : ℕ) (update : Update) (at : List (ℕ × Puddle)) (fault : Option HostFault) (old new : State) : Type 0 where
  pub gate : ℕ
  pub is : IsOpenLogOf F client (reads old.now.words) gate
  pub found : FoundUpdate
  pub within : IsFoundWithin at found
  pub by : IsFoundBy F at (reads old.now.words) update found
  pub later : List (ℕ × Puddle)
  pub writes : WritesUpdate F gate at later found fault old new

-- ---- an object is made

-- The slot is the lowest free one of this class. The object is made there, after the steps that its puddle and the
-- first puddle still lacked.
pub record MakesLowest (F id class gate : ℕ) (at : List (ℕ × Puddle)) (fault : Option HostFault) (old new : State) : Type 0 where
  pub slot : Slot
  pub of : IsSlotOf at slot
  pub lowest : IsLowestFreeSlot class (stored_in F at (reads old.now.words)) (place_of_slot slot)
  pub later : List (ℕ × Puddle)
  pub makes : MakesAfter F at later gate slot id fault old new

-- Each slot of this class is live, and the pool grows by one puddle of the class. The puddle's frame is filled first,
-- and only then does a record name it.
pub record GrowsPool (F slot class : ℕ) (at : List (ℕ × Puddle)) (fault : Option HostFault) (old new : State) : Type 0 where
  pub live : AreAllLive class (stored_in F at (reads old.now.words))
  pub added : NewPuddle
  pub is : GrowsBy F slot class at (reads old.now.words) added
  pub commits : PersistsThenCommits (filling F added) (puts_batch (growing added)) fault old new

-- The object is made in the lowest free slot of this class, in the pool as it is read.
abbrev pub MakesInGrown : (F id class slot gate : ℕ) → Option HostFault → State → State → Type 0
MakesInGrown F id class slot gate fault old new = MakesLowest F id class gate (puddles_in_turn (tables_of F (reads old.now.words)) slot) fault old new

-- The pool grows, and then the object is made in the lowest free slot of this class.
abbrev pub GrowsThenMakes : (F id class slot gate : ℕ) → List (ℕ × Puddle) → Option HostFault → State → State → Type 0
GrowsThenMakes F id class slot gate at fault old new = Then (GrowsPool F slot class at) (MakesInGrown F id class slot gate) fault old new

-- The object is made in the lowest free slot of this class. Or the pool grows first, and then the object is made so.
abbrev pub MakesOfClass : (F id class slot gate : ℕ) → List (ℕ × Puddle) → Option HostFault → State → State → Type 0
MakesOfClass F id class slot gate at fault old new = MakesLowest F id class gate at fault old new ⊎ GrowsThenMakes F id class slot gate at fault old new

-- The object is made so in the class of its type, by what is read.
pub record MakesObject (F client id slot : ℕ) (at : List (ℕ × Puddle)) (fault : Option HostFault) (old new : State) : Type 0 where
  pub gate : ℕ
  pub is : IsOpenLogOf F client (reads old.now.words) gate
  pub makes : MakesOfClass F id (class_made (types_of (reads old.now.words)) id) slot gate at fault old new

-- ---- a change

-- What a change that is not refused does on the pool in the slot, which has these puddles.
abbrev pub MakesChange : (F client slot : ℕ) → Change → List (ℕ × Puddle) → Option HostFault → State → State → Type 0
MakesChange F client slot (changes.New t) at fault old new = MakesObject F client t slot at fault old new
MakesChange F client slot (changes.Update update) at fault old new = Updates F client update at fault old new

-- A line that is not refused did this, or a load failed first. A line that is refused does nothing.
abbrev pub DoesUnless : Option Refusal → (Option HostFault → State → State → Type 0) → Option HostFault → State → State → Type 0
DoesUnless None Does fault old new = Does fault old new ⊎ Unread fault old new
DoesUnless (Some why) Does fault old new = new ≡ old
