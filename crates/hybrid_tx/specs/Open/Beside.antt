-- What is promised for transactions that are open beside calls and beside one another, and which premises these promises share.
use Rattle.std.specs.Prelude.{◌≡◌, ◌≢◌, ℕ, true, false, List, Option, Some, None}
use Rattle.pm_model.specs.declared.host.HostFault.{HostFault}
use Rattle.pm_model.specs.declared.host.HostFault.TheVariants.{Cut}
use Rattle.pm_model.specs.Words.{Words, Picks, HasOnly}
use Rattle.pm_model.specs.Moments.{State}
use Rattle.pm_model.specs.Changes.{Footprint, Write, Changes}
use Rattle.pm_model.specs.Masks.{masked_image}
use Rattle.pud_defs.specs.declared.layout.TheConstants.{DAEMON_LOG}
use Rattle.pud_defs.specs.declared.records.Puddle.{Puddle}
use Rattle.pud_defs.specs.RegistryTables.Types.{map_of}
use Rattle.pud_defs.specs.Formats.Image.{Image}
use Rattle.pud_defs.specs.Logging.Entries.{log_of}
use Rattle.pud_defs.specs.Logging.Replay.{device_word, new_value, is_in_log}
use Rattle.pud_defs.specs.Logging.Settled.{log_number_at}
use Rattle.pud_defs.specs.PoolGraphs.Stored.{Stored}
use Rattle.pud_defs.specs.PoolGraphs.Graph.{Graph, graph_of}
use Rattle.pud_defs.specs.PoolGraphs.DeferredValues.{DeferredValue}
use Rattle.pud_defs.specs.StateMachine.World.{StoredWorld, idle_world_of}
use Rattle.log_store.specs.Store.{OpenLog}
use Rattle.word_transaction.specs.Running.{ByTransaction}
use Rattle.hybrid_tx.specs.PoolScopes.{pool_has_word, pool_scope, finished_of}
use Rattle.hybrid_tx.specs.Objects.Transactions.{IsOpenOn}
use Rattle.hybrid_tx.specs.Open.Masks.{OpenPool, is_open_record, open_mask}
use Rattle.hybrid_tx.specs.Open.ManyOpen.{OpenTransaction, Opens, open_masks, AreOpenPools, HasRecords, AreLeftOpen, IsOneMore, MasksAll}

-- ---- one beside calls

-- any value may be written to a word that is neither one of the log, whose gate is this word, nor one of the pool's frames
abbrev pub BesidePool : (F : ℕ) → List (ℕ × Puddle) → (log_at : ℕ) → Footprint
BesidePool F at log_at k v = (is_in_log log_at k ≡ false) × (pool_has_word F at k ≡ false)

-- each type that is defined among the first is defined among the second, with the same map
abbrev pub KeepsDefined : (types more : List (ℕ × ℕ)) → Type 0
KeepsDefined types more = (id m : ℕ) → map_of id types ≡ Some m → map_of id more ≡ Some m

-- what is stored has the same graph by the second types, if it has one by the first
abbrev pub KeepsGraphs : (types more : List (ℕ × ℕ)) → Type 0
KeepsGraphs types more = (stored : Stored) (g : Graph) → graph_of types stored ≡ Some g → graph_of more stored ≡ Some g

-- A transaction stays open beside calls that give no value to a word of its log or of its pool's frames, unless power is lost; by more types too, if
-- these keep each type and each graph.
abbrev pub StaysOpenBeside : (F : ℕ) → List (ℕ × Puddle) → (types more : List (ℕ × ℕ)) → OpenLog → Image → (graph_before now : Graph) → List DeferredValue → Type 0
StaysOpenBeside F at types more log before graph_before now deferred =
    (fault : Option HostFault) (old new : State) → Changes (BesidePool F at log.gate_at) fault old new → fault ≢ Some Cut → KeepsDefined types more → KeepsGraphs types more
    → IsOpenOn F at types log before graph_before now deferred old.now.words → IsOpenOn F at more log before graph_before now deferred new.now.words

-- ---- an image that is left

-- the daemon log of the image names none of the words that the transaction masks
abbrev pub IsUnnamed : (F : ℕ) → OpenPool → (before image : Image) → Type 0
IsUnnamed F p before image = (k v : ℕ) → open_mask F p before k ≡ Some v → new_value device_word (log_of image DAEMON_LOG) k ≡ None

-- each word of the records that it rests on has its value from the beginning, and no other
abbrev pub RestsOnRecords : OpenPool → (before : Image) → Words → Type 0
RestsOnRecords p before words = (k : ℕ) → is_open_record p k ≡ true → HasOnly (words k) (before k)

-- what is promised for each image that may be left of words by which a transaction is open on the pool
abbrev pub ForEachPicked : (F : ℕ) → OpenPool → (promise : (before : Image) → Words → (image : Image) → Type 0) → Type 0
ForEachPicked F p promise =
    (types : List (ℕ × ℕ)) (log : OpenLog) (before : Image) (graph_before now : Graph) (deferred : List DeferredValue) (words : Words) (image : Image)
    → log.gate_at ≡ log_number_at F p.log_number → IsOpenOn F p.puddles types log before graph_before now deferred words → Picks words image → promise before words image

-- What is promised for each image that may be left while transactions are open, and for the world that it stands for with the words of all of them
-- masked and each registered log closed.
abbrev pub ForEachLeft : (promise : (size : ℕ) → StoredWorld → Image → Type 0) → Type 0
ForEachLeft promise =
    (size : ℕ) (s : StoredWorld) (opens : Opens) (mask : Write) (image : Image) → AreOpenPools s.frames opens → MasksAll s.frames opens mask
    → AreLeftOpen s.frames opens image → idle_world_of size (masked_image mask image) ≡ Some s → promise size s image

-- ---- several of them

-- any value may be written to the words of the transaction's log, and to those of its pool's finished puddles
abbrev pub ByOpen : (F : ℕ) → OpenTransaction → Footprint
ByOpen F o = ByTransaction (pool_scope F (finished_of o.pool.puddles)) (log_number_at F o.pool.log_number)

-- what is promised for each two of the transactions
abbrev pub ForEachTwo : Opens → (promise : (o q : OpenTransaction) → Type 0) → Type 0
ForEachTwo opens promise = (n m : ℕ) (o q : OpenTransaction) → opens n ≡ Some o → opens m ≡ Some q → n ≢ m → promise o q

-- each word of the transaction's finished puddles is as at its beginning
abbrev pub HasFrames : (F : ℕ) → OpenTransaction → Image → Type 0
HasFrames F o image = (k : ℕ) → pool_has_word F (finished_of o.pool.puddles) k ≡ true → image k ≡ o.before k

-- the image stands for the world, with the words of these transactions masked and each registered log closed
abbrev pub StandsMasked : (size : ℕ) → StoredWorld → Opens → Image → Type 0
StandsMasked size s opens image = idle_world_of size (masked_image (open_masks s.frames opens) image) ≡ Some s

-- What is promised if one more transaction is open than others, for each image that has the records of each and the frames of this one as at their
-- beginnings, and whose daemon log names none of this one's words.
abbrev pub ForOneMore : (promise : (size : ℕ) → StoredWorld → (number : ℕ) → (others opens : Opens) → Image → Type 0) → Type 0
ForOneMore promise =
    (size : ℕ) (s : StoredWorld) (number : ℕ) (o : OpenTransaction) (others opens : Opens) (image : Image) → IsOneMore number o others opens
    → AreOpenPools s.frames opens → HasRecords opens image → HasFrames s.frames o image → IsUnnamed s.frames o.pool o.before image → promise size s number others opens image
