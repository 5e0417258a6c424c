-- When a transaction on the objects of a pool is open, what each call of it does at every moment, and how it ends.
use Rattle.std.specs.Prelude.{◌≡◌, ◌⊎◌, ℕ, ◌+◌, ◌*◌, ◌<◌, true, false, List, [], ◌∷◌, is_some, slice_get, Option, Some, None}
use Rattle.std.specs.List.{AllZip}
use Rattle.pm_model.specs.declared.host.HostFault.{HostFault}
use Rattle.pm_model.specs.Words.{Words, HasOnly, reads}
use Rattle.pm_model.specs.Moments.{State}
use Rattle.pm_model.specs.Changes.{Write, Changes}
use Rattle.pud_defs.specs.declared.space.TheConstants.{WORD_BYTES}
use Rattle.pud_defs.specs.declared.objects.FieldValue.{FieldValue}
use Rattle.pud_defs.specs.declared.objects.FieldValue.TheVariants.{Num, Ref}
use Rattle.pud_defs.specs.declared.records.Puddle.{Puddle}
use Rattle.pud_defs.specs.declared.records.Slot.{Slot}
use Rattle.pud_defs.specs.Formats.Geometry.{IsFinished}
use Rattle.pud_defs.specs.Formats.TypeMap.{is_pointer}
use Rattle.pud_defs.specs.RegistryTables.Types.{map_of}
use Rattle.pud_defs.specs.Formats.Image.{Image}
use Rattle.pud_defs.specs.Logging.Entries.{Entry}
use Rattle.pud_defs.specs.Logging.Replay.{overwritten, is_in_log}
use Rattle.pud_defs.specs.PoolGraphs.Stored.{stored_in, place_serial}
use Rattle.pud_defs.specs.PoolGraphs.Graph.{Object, Graph, object_in, field_count, is_referenced, next_serial_of, graph_of}
use Rattle.pud_defs.specs.PoolGraphs.DeferredValues.{DeferredValue}
use Rattle.graph_laws.specs.Slots.{IsLowestFreeSlot}
use Rattle.puddle_header.specs.Places.{place_of_slot, IsSlotOf}
use Rattle.graph_read.specs.Reading.{place_in_pool}
use Rattle.log_store.specs.Store.{OpenLog}
use Rattle.word_transaction.specs.Scope.{redo_entry, deferred_entries}
use Rattle.word_transaction.specs.Running.{IsRunning, IsIdle, begun_log, KeepsRunning, AbortsTransaction, CommitsTransaction}
use Rattle.hybrid_tx.specs.PoolScopes.{pool_has_word, pool_scope, finished_of, IsRewrittenAt}
use Rattle.hybrid_tx.specs.Objects.Stores.{word_for, field_word, new_object_write, ByNewObject}

-- ---- an open transaction

-- The log of an open transaction, and how many units it has taken: what its calls were charged. At most as many words
-- of its log count.
pub record OpenTx : Type 0 where
  pub log : OpenLog
  pub units : ℕ

-- a transaction that has just begun, in the log whose gate is this word
abbrev pub begun_tx : (at : ℕ) → OpenTx
begun_tx at = record { log = begun_log at; units = 0 }

-- ---- what may be named, set and freed

-- a pointer may name the object of this serial: null if it is 0, else a live object
abbrev pub MayName : Graph → (serial : ℕ) → Type 0
MayName g serial = (serial ≡ 0) ⊎ (is_some (object_in serial g) ≡ true)

-- a field of a type with this map may hold the value: a number if the field is no pointer, else null or the serial of
-- a live object
abbrev pub MayHold : (map f : ℕ) → Graph → FieldValue → Type 0
MayHold map f g (Num v) = is_pointer map f ≡ false
MayHold map f g (Ref r) = (is_pointer map f ≡ true) × MayName g r

-- The object of a serial is live, its type has the field, and the field may hold the value.
pub record MaySet (types : List (ℕ × ℕ)) (g : Graph) (s f : ℕ) (x : FieldValue) : Type 0 where
  pub object : Object
  pub live : object_in s g ≡ Some object
  pub map : ℕ
  pub defined : map_of object.type_id types ≡ Some map
  pub below : f < field_count map
  pub holds : MayHold map f g x

-- If the object of a serial lies in a puddle, by this image of the pool, then each pointer in that puddle stands over
-- the pool's bases.
pub record IsRewrittenFor (F : ℕ) (at : List (ℕ × Puddle)) (image : Image) (s : ℕ) : Type 0 where
  pub each : (slot : Slot) → IsSlotOf at slot → place_in_pool F at image s ≡ Some (place_of_slot slot) → IsRewrittenAt at slot.ordinal

-- If a slot is the lowest free one of this class, by this image of the pool, then each pointer in its puddle stands over
-- the pool's bases.
pub record IsRewrittenAtLowest (F : ℕ) (at : List (ℕ × Puddle)) (class : ℕ) (image : Image) : Type 0 where
  pub each : (slot : Slot) → IsSlotOf at slot → IsLowestFreeSlot class (stored_in F at image) (place_of_slot slot) → IsRewrittenAt at slot.ordinal

-- The object of a serial is live, and not referenced: neither the root nor a pointer field of an object, itself included, names it.
pub record MayFree (g : Graph) (s : ℕ) : Type 0 where
  pub object : Object
  pub live : object_in s g ≡ Some object
  pub spared : is_referenced s g ≡ false

-- ---- deferred values

-- The redo entry is that of the deferred value, by this image of the pool, which has the graph. It names the word of
-- the field, and has the word that stands for the value. The field may hold this value, and the puddle is finished.
pub record IsDeferredEntry (F : ℕ) (at : List (ℕ × Puddle)) (types : List (ℕ × ℕ)) (image : Image) (now : Graph) (l : DeferredValue) (e : Entry) : Type 0 where
  pub slot : Slot
  pub of : IsSlotOf at slot
  pub finished : IsFinished of.puddle
  pub place : place_in_pool F at image l.s ≡ Some (place_of_slot slot)
  pub value : ℕ
  pub word : word_for F at image l.x ≡ Some value
  pub may : MaySet types now l.s l.f l.x
  pub is : e ≡ redo_entry (of.puddle.base + WORD_BYTES * field_word slot l.f) (value ∷ [])

-- each of the entries is that of the deferred value at its place in the list
abbrev pub AreDeferredEntries : (F : ℕ) → List (ℕ × Puddle) → List (ℕ × ℕ) → Image → Graph → List DeferredValue → List Entry → Type 0
AreDeferredEntries F at types image now deferred redo = AllZip (IsDeferredEntry F at types image now) deferred redo

-- ---- what is known between calls

-- A transaction on the words of these puddles' frames is open. It saves what words held at the beginning, and it
-- defers values by these redo entries, the oldest first.
pub record IsSaving (F : ℕ) (at : List (ℕ × Puddle)) (log : OpenLog) (before : Image) (redo : List Entry) (words : Words) : Type 0 where
  pub es : List Entry
  pub running : IsRunning (pool_scope F at) log es before words
  pub defers : deferred_entries es ≡ redo

-- Each word of the puddles that are not finished has the value that it had at the beginning, and no other.
pub record RestsAs (F : ℕ) (at : List (ℕ × Puddle)) (before : Image) (words : Words) : Type 0 where
  pub each : (k : ℕ) → pool_has_word F at k ≡ true → pool_has_word F (finished_of at) k ≡ false → HasOnly (words k) (before k)

-- A transaction on the pool of these puddles is open: it is one on the words of the finished puddles, and those of
-- the others rest. By the values of the beginning, the pool had the graph before the transaction; it has this graph
-- again if the transaction is undone. By what is read, the pool has the graph now. These values of fields are
-- deferred, the oldest first.
pub record IsOpenOn (F : ℕ) (at : List (ℕ × Puddle)) (types : List (ℕ × ℕ)) (log : OpenLog) (before : Image) (graph_before now : Graph) (deferred : List DeferredValue) (words : Words) : Type 0 where
  pub redo : List Entry
  pub saving : IsSaving F (finished_of at) log before redo words
  pub rests : RestsAs F at before words
  pub was : graph_of types (stored_in F at before) ≡ Some graph_before
  pub is : graph_of types (stored_in F at (reads words)) ≡ Some now
  pub are : AreDeferredEntries F at types (reads words) now deferred redo

-- No transaction is open on the pool. The log whose gate is this word is closed in each image, each word of the
-- pool's frames has one value, and by these values the pool has this graph.
pub record IsAtRest (F : ℕ) (at : List (ℕ × Puddle)) (types : List (ℕ × ℕ)) (log_at : ℕ) (g : Graph) (words : Words) : Type 0 where
  pub idle : IsIdle (pool_scope F at) log_at (reads words) words
  pub is : graph_of types (stored_in F at (reads words)) ≡ Some g

-- ---- what calls do

-- A call within a transaction on these words, after which this is its log. At each moment each image recovers to what
-- the words held at the beginning. Without a fault, these words are written, and the transaction defers values by
-- these redo entries.
pub record KeepsSaving (F : ℕ) (at : List (ℕ × Puddle)) (log : OpenLog) (before : Image) (redo : List Entry) (write : Write) (fault : Option HostFault) (old new : State) : Type 0 where
  pub es : List Entry
  pub runs : KeepsRunning (pool_scope F at) log es before write fault old new
  pub defers : deferred_entries es ≡ redo

-- A call within a transaction on the pool: it runs on the words of the finished puddles, and those of the others
-- rest. Without a fault, the pool has the next graph by what is read, and these values of fields are deferred.
pub record KeepsOpenOn (F : ℕ) (at : List (ℕ × Puddle)) (types : List (ℕ × ℕ)) (log : OpenLog) (before : Image) (graph_before next : Graph) (deferred : List DeferredValue) (fault : Option HostFault) (old new : State)
    : Type 0 where
  pub write : Write
  pub redo : List Entry
  pub saves : KeepsSaving F (finished_of at) log before redo write fault old new
  pub rests : fault ≡ None → RestsAs F at before new.now.words
  pub was : graph_of types (stored_in F at before) ≡ Some graph_before
  pub is : fault ≡ None → graph_of types (stored_in F at (reads new.now.words)) ≡ Some next
  pub are : fault ≡ None → AreDeferredEntries F at types (reads new.now.words) next deferred redo

-- A call that makes an object of this type in this slot, under the pool's next serial. At each moment it gives values
-- only to words of the log, whose gate is this word, to words of the slot, and to the word of the next serial.
-- Without a fault, what is read outside the log is as before, except for two things: the slot has the object's words,
-- and the next serial is one more.
pub record MakesIn (F : ℕ) (at : List (ℕ × Puddle)) (log_at : ℕ) (slot : Slot) (type_id : ℕ) (fault : Option HostFault) (old new : State) : Type 0 where
  pub first : ℕ × Puddle
  pub head : slice_get at 0 ≡ Some first
  pub changes : Changes (ByNewObject F log_at first.0 slot (next_serial_of (stored_in F at (reads old.now.words))) type_id) fault old new
  pub now : fault ≡ None → (k : ℕ) → is_in_log log_at k ≡ false
      → reads new.now.words k ≡ overwritten (new_object_write F first.0 slot (next_serial_of (stored_in F at (reads old.now.words))) type_id) (reads old.now.words) k

-- The transaction is undone, and its log, whose gate is this word, is closed: each image recovers to what the words
-- held at the beginning.
pub record AbortsOnPool (F : ℕ) (at : List (ℕ × Puddle)) (types : List (ℕ × ℕ)) (log_at : ℕ) (before : Image) (graph_before : Graph) (fault : Option HostFault) (old new : State) : Type 0 where
  pub closes : AbortsTransaction (pool_scope F (finished_of at)) log_at before fault old new
  pub rests : fault ≡ None → RestsAs F at before new.now.words
  pub was : graph_of types (stored_in F at before) ≡ Some graph_before

-- The transaction is committed, and its log is closed. Until the range of the log moves, each image recovers to what
-- the words held at the beginning. From then on it recovers to their new values, by which the pool has the new graph.
-- The words of the puddles that are not finished stay. No object moves: each slot keeps its serial.
pub record CommitsOnPool (F : ℕ) (at : List (ℕ × Puddle)) (types : List (ℕ × ℕ)) (log_at : ℕ) (before : Image) (graph_before next : Graph) (fault : Option HostFault) (old new : State) : Type 0 where
  pub after : Image
  pub ends : CommitsTransaction (pool_scope F (finished_of at)) log_at before after fault old new
  pub beside : (k : ℕ) → pool_has_word F at k ≡ true → pool_has_word F (finished_of at) k ≡ false → after k ≡ before k
  pub serials : fault ≡ None → (p : ℕ) → place_serial (stored_in F at (reads new.now.words)) p ≡ place_serial (stored_in F at (reads old.now.words)) p
  pub rests : fault ≡ None → RestsAs F at before new.now.words
  pub was : graph_of types (stored_in F at before) ≡ Some graph_before
  pub is : graph_of types (stored_in F at after) ≡ Some next
