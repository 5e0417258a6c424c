-- What is promised as a transaction begins on a pool, and as it ends, and which premises these calls share.
use Rattle.std.specs.Prelude.{◌≡◌, ℕ, ◌+◌, ◌≤◌, true, List, Option}
use Rattle.pm_model.specs.declared.host.HostFault.{HostFault}
use Rattle.pm_model.specs.Words.{Words, reads}
use Rattle.pm_model.specs.Moments.{State}
use Rattle.pm_model.specs.Changes.{Changes}
use Rattle.pud_defs.specs.declared.layout.TheConstants.{LOG_WORDS}
use Rattle.pud_defs.specs.declared.records.Puddle.{Puddle}
use Rattle.pud_defs.specs.Formats.Image.{Image}
use Rattle.pud_defs.specs.Formats.Layout.{device_words, frames_at}
use Rattle.pud_defs.specs.RegistryTables.Tables.{tables_of}
use Rattle.pud_defs.specs.Logging.Allowed.{puddle_word}
use Rattle.pud_defs.specs.PoolGraphs.Graph.{Graph}
use Rattle.pud_defs.specs.PoolGraphs.DeferredValues.{DeferredValue}
use Rattle.log_store.specs.Store.{OpenLog}
use Rattle.log_replay.specs.Replaying.{ByLog}
use Rattle.word_transaction.specs.Scope.{saved_in, pending_in}
use Rattle.word_transaction.specs.Running.{IsIdle, ByCommitOf, HasPlaces, HasOneTable, CanRedo}
use Rattle.hybrid_tx.specs.PoolScopes.{pool_place, pool_scope, finished_of, ArePlacedPuddles}
use Rattle.hybrid_tx.specs.Objects.Transactions.{IsOpenOn}

-- what is promised for the puddles of each pool on which none is open, and for the values of its words
abbrev pub WhileIdle : (F log_at : ℕ) → Words → (promise : List (ℕ × Puddle) → Image → Type 0) → Type 0
WhileIdle F log_at words promise = (at : List (ℕ × Puddle)) (before : Image) → ArePlacedPuddles F at → IsIdle (pool_scope F at) log_at before words → promise at before

-- ---- the premises of an end

-- A promise for each transaction that is open on a pool, with this log. It is about the pool's puddles and types, the image and the graph before it,
-- the graph now and the deferred values.
abbrev pub OpenPromise : Type 1
OpenPromise = List (ℕ × Puddle) → List (ℕ × ℕ) → Image → (graph_before now : Graph) → List DeferredValue → Type 0

-- it is promised, if the device has the words that so many frames need, and the log lies before them
abbrev pub WhileOpenOnDevice : (F size : ℕ) → OpenLog → Words → OpenPromise → Type 0
WhileOpenOnDevice F size log words promise =
    (pool : List (ℕ × Puddle)) (types : List (ℕ × ℕ)) (before : Image) (graph_before now : Graph) (deferred : List DeferredValue) → ArePlacedPuddles F pool
    → device_words F ≤ size → log.gate_at + LOG_WORDS ≤ frames_at F → IsOpenOn F pool types log before graph_before now deferred words → promise pool types before graph_before now deferred

-- the same, if deferred values can be given too, in case the log tells that there were some
abbrev pub WhileCommittable : (F size : ℕ) → OpenLog → Words → OpenPromise → Type 0
WhileCommittable F size log words promise =
    WhileOpenOnDevice F size log words (λ pool types before graph_before now deferred.
    (log.defers ≡ true → CanRedo (pool_scope F (finished_of pool)) F log.gate_at words) → promise pool types before graph_before now deferred)

-- the same, if each word of the puddle table has one value too, and by the table addresses name the words that they name in the scope
abbrev pub WhileAbortable : (F size : ℕ) → OpenLog → Words → OpenPromise → Type 0
WhileAbortable F size log words promise =
    WhileOpenOnDevice F size log words (λ pool types before graph_before now deferred.
    HasPlaces (pool_scope F (finished_of pool)) (puddle_word (tables_of F (reads words))) → HasOneTable F words → promise pool types before graph_before now deferred)

-- ---- which words an end writes

-- besides the gate of the log, only words of the pool's finished puddles that redo entries of the log name
abbrev pub WritesPending : (F : ℕ) → List (ℕ × Puddle) → OpenLog → Option HostFault → (old new : State) → Type 0
WritesPending F pool log fault old new = Changes (ByCommitOf log (pending_in (pool_place F (finished_of pool)) log.gate_at (reads old.now.words))) fault old new

-- the same, which undo entries of the log name; its gate is this word
abbrev pub WritesSaved : (F : ℕ) → List (ℕ × Puddle) → (log_at : ℕ) → Option HostFault → (old new : State) → Type 0
WritesSaved F pool log_at fault old new = Changes (ByLog log_at (saved_in (pool_place F (finished_of pool)) log_at (reads old.now.words))) fault old new
