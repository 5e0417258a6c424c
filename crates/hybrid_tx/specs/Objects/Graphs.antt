-- Which graph a pool has by an image, and what is known about the graph when words of the pool are written over the image.
use Rattle.std.specs.Prelude.{◌≡◌, ℕ, ◌<◌, true, false, List, slice_get, Some}
use Rattle.pud_defs.specs.declared.layout.TheConstants.{NUMBER_LIMIT}
use Rattle.pud_defs.specs.declared.records.Puddle.{Puddle}
use Rattle.pud_defs.specs.declared.records.Slot.{Slot}
use Rattle.pud_defs.specs.RegistryTables.Types.{map_of}
use Rattle.pud_defs.specs.Formats.Image.{Image}
use Rattle.pud_defs.specs.Logging.Entries.{Entry}
use Rattle.pud_defs.specs.PoolGraphs.Stored.{stored_in, IsFreePlace}
use Rattle.pud_defs.specs.PoolGraphs.Graph.{Graph, graph_of, fits_class, next_serial_of}
use Rattle.pud_defs.specs.PoolGraphs.DeferredValues.{DeferredValue}
use Rattle.puddle_header.specs.Places.{place_of_slot, IsSlotOf}
use Rattle.log_store.specs.Store.{OpenLog}
use Rattle.word_transaction.specs.Scope.{IsScope}
use Rattle.word_transaction.specs.Running.{RecoversTo}
use Rattle.hybrid_tx.specs.PoolScopes.{pool_has_word, pool_scope, finished_of, ArePlacedPuddles, IsRewrittenAt}
use Rattle.hybrid_tx.specs.Objects.Stores.{IsInSlot}
use Rattle.hybrid_tx.specs.Objects.Transactions.{AreDeferredEntries}

-- by this image, and by these types, the pool of these puddles has the graph
abbrev pub HasGraph : List (ℕ × ℕ) → (F : ℕ) → List (ℕ × Puddle) → Image → Graph → Type 0
HasGraph types F at image g = graph_of types (stored_in F at image) ≡ Some g

-- ---- what is promised for graphs

-- for each pool, and each image by which it has a graph
abbrev pub ForEachGraph : (promise : List (ℕ × ℕ) → (F : ℕ) → List (ℕ × Puddle) → Image → Graph → Type 0) → Type 0
ForEachGraph promise =
    (types : List (ℕ × ℕ)) (F : ℕ) (at : List (ℕ × Puddle)) (image : Image) (g : Graph) → HasGraph types F at image g → ArePlacedPuddles F at → promise types F at image g

-- if the object of the serial is in the slot, whose puddle is finished
abbrev pub IfInFinishedSlot : (F : ℕ) → List (ℕ × Puddle) → Image → (s : ℕ) → Slot → (promise : Type 0) → Type 0
IfInFinishedSlot F at image s slot promise = IsRewrittenAt at slot.ordinal → IsSlotOf at slot → IsInSlot F at image s slot → promise

-- For each pool, each image by which it has a graph, and each free slot of it: for its first puddle, the next serial, a type and the map of the type,
-- if the slot has room for an object of the type.
abbrev pub ForEachFreeSlot : (promise : List (ℕ × ℕ) → (F : ℕ) → List (ℕ × Puddle) → Image → ℕ × Puddle → Slot → (serial id m : ℕ) → Graph → Type 0) → Type 0
ForEachFreeSlot promise =
    (types : List (ℕ × ℕ)) (F : ℕ) (at : List (ℕ × Puddle)) (image : Image) → ArePlacedPuddles F at → (first : ℕ × Puddle) → slice_get at 0 ≡ Some first
    → (slot : Slot) → IsSlotOf at slot → (serial id m : ℕ) → IsFreePlace (stored_in F at image) (place_of_slot slot) → serial ≡ next_serial_of (stored_in F at image) → map_of id types ≡ Some m
    → fits_class slot.class m ≡ true → (g : Graph) → HasGraph types F at image g → g.next_serial < NUMBER_LIMIT → promise types F at image first slot serial id m g

-- for each pool, each image by which it has a graph, and each list of deferred values with their redo entries
abbrev pub ForEachDeferredSet : (promise : (F : ℕ) → List (ℕ × Puddle) → List (ℕ × ℕ) → List DeferredValue → List Entry → Image → Graph → Type 0) → Type 0
ForEachDeferredSet promise =
    (F : ℕ) (at : List (ℕ × Puddle)) (types : List (ℕ × ℕ)) → ArePlacedPuddles F at → (deferred : List DeferredValue) (redo : List Entry) (image : Image) (now : Graph)
    → HasGraph types F at image now → AreDeferredEntries F at types image now deferred redo → promise F at types deferred redo image now

-- for each transaction: its pool and types, its log, the image and the graph before it, a graph and deferred values
abbrev pub ForEachTransaction
    : (promise : (F : ℕ) → List (ℕ × Puddle) → List (ℕ × ℕ) → OpenLog → Image → (graph_before now : Graph) → List DeferredValue → Type 0) → Type 0
ForEachTransaction promise =
    (F : ℕ) (at : List (ℕ × Puddle)) (types : List (ℕ × ℕ)) (log : OpenLog) (before : Image) (graph_before now : Graph) (deferred : List DeferredValue)
    → promise F at types log before graph_before now deferred

-- if the words of the pool's finished puddles recover to these values, and those of its others have them
abbrev pub IfRecovers : (F : ℕ) → List (ℕ × Puddle) → (size log : ℕ) → (values image : Image) → (promise : Type 0) → Type 0
IfRecovers F at size log values image promise =
    IsScope size log (pool_scope F (finished_of at)) → RecoversTo (pool_scope F (finished_of at)) log values image
    → ((k : ℕ) → pool_has_word F at k ≡ true → pool_has_word F (finished_of at) k ≡ false → image k ≡ values k) → promise
