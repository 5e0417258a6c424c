-- What the calls of an open transaction promise on each pool that it may be open on, and which premises they share.
use Rattle.std.specs.Prelude.{◌≡◌, ◌≢◌, ℕ, ◌<◌, true, false, List, Option, Some}
use Rattle.pm_model.specs.declared.host.HostFault.{HostFault}
use Rattle.pm_model.specs.Words.{Words, reads}
use Rattle.pm_model.specs.Moments.{State}
use Rattle.pud_defs.specs.declared.layout.TheConstants.{NUMBER_LIMIT}
use Rattle.pud_defs.specs.declared.objects.FieldValue.{FieldValue}
use Rattle.pud_defs.specs.declared.objects.FieldValue.TheVariants.{Ref}
use Rattle.pud_defs.specs.declared.records.Puddle.{Puddle}
use Rattle.pud_defs.specs.declared.records.Slot.{Slot}
use Rattle.pud_defs.specs.RegistryTables.Types.{map_of, types_of}
use Rattle.pud_defs.specs.Formats.Image.{Image}
use Rattle.pud_defs.specs.Logging.Entries.{Entry}
use Rattle.pud_defs.specs.PoolGraphs.Stored.{Stored, stored_in}
use Rattle.pud_defs.specs.PoolGraphs.Graph.{Graph, graph_of, fits_class}
use Rattle.pud_defs.specs.PoolGraphs.GraphChanges.{with_new, blank_object, without_object, with_root}
use Rattle.pud_defs.specs.PoolGraphs.DeferredValues.{DeferredValue, deferred_set_names}
use Rattle.graph_laws.specs.Slots.{IsLowestFreeSlot}
use Rattle.puddle_header.specs.Places.{place_of_slot, IsSlotOf}
use Rattle.graph_read.specs.Reading.{place_in_pool}
use Rattle.log_store.specs.Store.{OpenLog}
use Rattle.hybrid_tx.specs.PoolScopes.{ArePlacedPuddles, IsRewrittenAt}
use Rattle.hybrid_tx.specs.Objects.Stores.{address_at, IsInSlot, IsWordFor}
use Rattle.hybrid_tx.specs.Objects.Transactions.{MayName, MaySet, MayFree, IsRewrittenFor, IsRewrittenAtLowest, IsDeferredEntry, IsOpenOn, KeepsOpenOn, MakesIn}

-- ---- while a transaction is open

-- what is promised for the types, the graph now and the deferred values of each transaction that is open on the pool of these puddles, with this log
abbrev pub WhileOpen : (F : ℕ) → List (ℕ × Puddle) → OpenLog → Words → (promise : List (ℕ × ℕ) → Graph → List DeferredValue → Type 0) → Type 0
WhileOpen F at log words promise =
    (types : List (ℕ × ℕ)) (before : Image) (graph_before now : Graph) (deferred : List DeferredValue) → IsOpenOn F at types log before graph_before now deferred words → promise types now deferred

-- the same, if these are puddles of one pool
abbrev pub WhileOpenOnPlaced : (F : ℕ) → List (ℕ × Puddle) → OpenLog → Words → (promise : List (ℕ × ℕ) → Graph → List DeferredValue → Type 0) → Type 0
WhileOpenOnPlaced F at log words promise =
    (types : List (ℕ × ℕ)) (before : Image) (graph_before now : Graph) (deferred : List DeferredValue) → ArePlacedPuddles F at
    → IsOpenOn F at types log before graph_before now deferred words → promise types now deferred

-- the same for the image that is read and for the deferred values, if the transaction is open by the types that this image has
abbrev pub WhileOpenByImage : (F : ℕ) → List (ℕ × Puddle) → OpenLog → Words → (promise : Image → List DeferredValue → Type 0) → Type 0
WhileOpenByImage F at log words promise =
    (image : Image) → reads words ≡ image → (before : Image) (graph_before now : Graph) (deferred : List DeferredValue) → ArePlacedPuddles F at
    → IsOpenOn F at (types_of image) log before graph_before now deferred words → promise image deferred

-- what is promised for each deferred value of which this is the entry, by the image of the pool, if this is the address of the object of the serial
abbrev pub IfDeferred : (F : ℕ) → List (ℕ × Puddle) → Image → (s address : ℕ) → Entry → (promise : DeferredValue → Type 0) → Type 0
IfDeferred F at image s address entry promise =
    (now : Graph) (l : DeferredValue) (p : ℕ) → ArePlacedPuddles F at → graph_of (types_of image) (stored_in F at image) ≡ Some now → IsDeferredEntry F at (types_of image) image now l entry
    → s ≢ 0 → place_in_pool F at image s ≡ Some p → address ≡ address_at at p → promise l

-- ---- calls on an object

-- A call on the object of a serial, if the object's puddle is finished. The promise tells what else the call needs, and with which graph and which
-- deferred values it then keeps the transaction open.
abbrev pub ChangesObject : (F : ℕ) → List (ℕ × Puddle) → (s : ℕ) → (log later : OpenLog) → Option HostFault → (old new : State)
    → (promise : List (ℕ × ℕ) → Graph → List DeferredValue → (keeps : Graph → List DeferredValue → Type 0) → Type 0) → Type 0
ChangesObject F at s log later fault old new promise =
    (types : List (ℕ × ℕ)) (before : Image) (graph_before now : Graph) (deferred : List DeferredValue) → ArePlacedPuddles F at → IsRewrittenFor F at (reads old.now.words) s
    → IsOpenOn F at types log before graph_before now deferred old.now.words
    → promise types now deferred (λ next more. KeepsOpenOn F at types later before graph_before next more fault old new)

-- A call on field f of the object in a slot, for each serial that the slot has and each value for which the word stands, if the object's puddle is
-- finished and the field may be set to the value. The promise tells with which graph and which deferred values it keeps the transaction open.
abbrev pub ChangesField : (F : ℕ) → List (ℕ × Puddle) → Slot → (f word : ℕ) → (log later : OpenLog) → Option HostFault → (old new : State)
    → (promise : (s : ℕ) → FieldValue → Graph → List DeferredValue → (keeps : Graph → List DeferredValue → Type 0) → Type 0) → Type 0
ChangesField F at slot f word log later fault old new promise =
    (types : List (ℕ × ℕ)) (before : Image) (graph_before now : Graph) (deferred : List DeferredValue) (s : ℕ) (x : FieldValue) → ArePlacedPuddles F at
    → IsRewrittenFor F at (reads old.now.words) s → IsOpenOn F at types log before graph_before now deferred old.now.words → MaySet types now s f x
    → IsInSlot F at (reads old.now.words) s slot → IsWordFor F at (reads old.now.words) x word
    → promise s x now deferred (λ next more. KeepsOpenOn F at types later before graph_before next more fault old new)

-- The object in a slot is freed, for each serial that the slot has, if the object's puddle is finished, the object is live and not referenced, and no
-- deferred value names it.
abbrev pub FreesInSlot : (F : ℕ) → List (ℕ × Puddle) → Slot → (log later : OpenLog) → Option HostFault → (old new : State) → Type 0
FreesInSlot F at slot log later fault old new =
    (types : List (ℕ × ℕ)) (before : Image) (graph_before now : Graph) (deferred : List DeferredValue) (s : ℕ) → ArePlacedPuddles F at
    → IsRewrittenFor F at (reads old.now.words) s → IsOpenOn F at types log before graph_before now deferred old.now.words → MayFree now s → deferred_set_names s deferred ≡ false
    → IsInSlot F at (reads old.now.words) s slot → KeepsOpenOn F at types later before graph_before (without_object s now) deferred fault old new

-- ---- the root

-- The object of a serial becomes the root, if a pointer may name it and the first puddle is finished.
abbrev pub SetsRoot : (F : ℕ) → List (ℕ × Puddle) → (s : ℕ) → (log later : OpenLog) → Option HostFault → (old new : State) → Type 0
SetsRoot F at s log later fault old new =
    (types : List (ℕ × ℕ)) (before : Image) (graph_before now : Graph) (deferred : List DeferredValue) → ArePlacedPuddles F at → IsRewrittenAt at 0
    → IsOpenOn F at types log before graph_before now deferred old.now.words → MayName now s → KeepsOpenOn F at types later before graph_before (with_root s now) deferred fault old new

-- The object for which the word stands becomes the root, for each serial for which it stands, if the first puddle is finished.
abbrev pub SetsRootWord : (F : ℕ) → List (ℕ × Puddle) → (word : ℕ) → (log later : OpenLog) → Option HostFault → (old new : State) → Type 0
SetsRootWord F at word log later fault old new =
    (types : List (ℕ × ℕ)) (before : Image) (graph_before now : Graph) (deferred : List DeferredValue) (s : ℕ) → ArePlacedPuddles F at → IsRewrittenAt at 0
    → IsOpenOn F at types log before graph_before now deferred old.now.words → IsWordFor F at (reads old.now.words) (Ref s) word
    → KeepsOpenOn F at types later before graph_before (with_root s now) deferred fault old new

-- ---- an object is made

-- An object of a defined type is made in a slot of this class, if it has room there. The promise tells, by what is stored and by the graph now, what
-- else the call needs. The transaction then stays open, with the object in its graph.
abbrev pub MakesOfType : (F : ℕ) → List (ℕ × Puddle) → (class t : ℕ) → (log later : OpenLog) → Option HostFault → (old new : State) → (promise : Stored → Graph → (made : Type 0) → Type 0) → Type 0
MakesOfType F at class t log later fault old new promise =
    (types : List (ℕ × ℕ)) (m : ℕ) (before : Image) (graph_before now : Graph) (deferred : List DeferredValue) → ArePlacedPuddles F at
    → IsOpenOn F at types log before graph_before now deferred old.now.words → map_of t types ≡ Some m → fits_class class m ≡ true
    → promise (stored_in F at (reads old.now.words)) now (KeepsOpenOn F at types later before graph_before (with_new (blank_object class t m) now) deferred fault old new)

-- the promise, if the serial is the next one and is left, and the first puddle and that of the slot are finished
abbrev pub IfMayMakeIn : List (ℕ × Puddle) → Slot → (serial : ℕ) → Graph → (promise : Type 0) → Type 0
IfMayMakeIn at slot serial now promise = serial ≡ now.next_serial → now.next_serial < NUMBER_LIMIT → IsRewrittenAt at 0 → IsRewrittenAt at slot.ordinal → promise

-- the promise, if a serial is left, and the first puddle and that of the lowest free slot of this class are finished
abbrev pub IfMayMake : (F : ℕ) → List (ℕ × Puddle) → (class : ℕ) → Words → Graph → (promise : Type 0) → Type 0
IfMayMake F at class words now promise = now.next_serial < NUMBER_LIMIT → IsRewrittenAt at 0 → IsRewrittenAtLowest F at class (reads words) → promise

-- An object of this type is made in the lowest free slot of this class, if there is one.
abbrev pub MakesInLowest : (F : ℕ) → List (ℕ × Puddle) → (class log_at type_id : ℕ) → Option HostFault → (old new : State) → Type 0
MakesInLowest F at class log_at type_id fault old new =
    (slot : Slot) → IsSlotOf at slot → IsLowestFreeSlot class (stored_in F at (reads old.now.words)) (place_of_slot slot) → MakesIn F at log_at slot type_id fault old new
