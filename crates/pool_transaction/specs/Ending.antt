-- How a transaction begins and ends on the device, and what each line of it does there.
use Rattle.std.specs.Prelude.{◌≡◌, ◌≤◌, ℕ, zero, suc, Bool, true, false, nat_lt, List, Option, Some, None}
use Rattle.pm_model.specs.declared.host.HostFault.{HostFault}
use Rattle.pm_model.specs.Words.{reads}
use Rattle.pm_model.specs.Moments.{State}
use Rattle.pm_model.specs.Changes.{Changes}
use Rattle.pud_defs.specs.declared.machine.Command.TheVariants.{Commit}
use Rattle.pud_defs.specs.declared.records.Puddle.{Puddle}
use Rattle.pud_defs.specs.StateMachine.Step.{after}
use Rattle.pud_defs.specs.StateMachine.World.{Transaction, World, open_on}
use Rattle.log_space.specs.FreeLogs.{IsLogOf}
use Rattle.word_transaction.specs.Running.{ByTransaction}
use Rattle.hybrid_tx.specs.PoolScopes.{pool_scope, finished_of}
use Rattle.known_pool.specs.Known.{Known, by_puddles, after_end}
use Rattle.nesting.specs.Sessions.{depth_in}
use Rattle.daemon_memory.specs.Leaving.{AfterTables, world_without, world_without_log}
use Rattle.daemon_memory.specs.Memory.{ActiveTransaction, Memory, active_under}
use Rattle.daemon_memory.specs.Premises.{puddles_at}
use Rattle.daemon_memory.specs.Ready.{Applies}
use Rattle.pool_transaction.specs.Lifetime.{with_ended}
use Rattle.daemon_memory.specs.Sequences.{Then}
use Rattle.pool_transaction.specs.Writing.{OpensLog, WritesWithin, ByCommitting, ByAborting, MakesChange}
use Rattle.daemon_memory.specs.Doing.{OnPool}
use Rattle.pud_defs.specs.Formats.Image.{Image}
use Rattle.pud_defs.specs.RegistryTables.Puddles.{Member}
use Rattle.daemon_memory.specs.Leading.{LeadsPool}
use Rattle.pool_transaction.specs.declared.changing.Change.{Change}
use Rattle.pool_transaction.specs.Finishing.{Finishes}

-- Nothing is done if a transaction is open already: it is begun once more.
abbrev pub Begins : (F client : ℕ) → Option Transaction → Option HostFault → State → State → Type 0
Begins F client None fault old new = OpensLog F client fault old new
Begins F client (Some t) fault old new = new ≡ old

-- Nothing is done if the transaction was begun more than once.
abbrev pub EndsUnless : (deeper : Bool) → Type 0 → State → State → Type 0
EndsUnless true ends old new = new ≡ old
EndsUnless false ends old new = ends

abbrev pub EndsTransaction : (F client : ℕ) → Option Transaction → List (ℕ × Puddle) → Option HostFault → State → State → Type 0
EndsTransaction F client None at fault old new = new ≡ old
EndsTransaction F client (Some t) at fault old new = EndsUnless (nat_lt 1 t.depth) (WritesWithin F client (ByCommitting F at (reads old.now.words) t.deferred) fault old new) old new

-- The client's transaction on the pool of the name is undone. Only the gate of one of the client's open logs is
-- written, and words that the undo entries of this log name.
abbrev pub Aborts : (F client : ℕ) → (name : List ℕ) → Option HostFault → State → State → Type 0
Aborts F client name fault old new = OnPool F name (λ slot at a b. WritesWithin F client (ByAborting F at (reads a.now.words)) fault a b) old new

-- One open transaction of the client is undone in this way.
pub record AbortsOne (w : World) (client : ℕ) (fault : Option HostFault) (old new : State) : Type 0 where
  pub name : List ℕ
  pub transaction : Transaction
  pub opened : open_on name w ≡ Some transaction
  pub whose : transaction.client ≡ client
  pub aborts : Aborts w.stored.frames client name fault old new

-- This many are undone in this way, one after another. Only the last one may have failed.
abbrev pub AbortsInTurn : World → (client count : ℕ) → Option HostFault → State → State → Type 0
AbortsInTurn w client zero fault old new = (fault ≡ None) × (new ≡ old)
AbortsInTurn w client (suc count) fault old new = Then (AbortsInTurn w client count) (AbortsOne w client) fault old new

-- Open transactions of the client are undone in turn, each by what is read before it.
pub record UndoesOwn (w : World) (client : ℕ) (fault : Option HostFault) (old new : State) : Type 0 where
  pub count : ℕ
  pub in_turn : AbortsInTurn w client count fault old new

-- ---- each line

-- a transaction begins on the pool of the name, or the client's own is begun once more
abbrev pub BeginsOn : World → (client : ℕ) → (name : List ℕ) → Option HostFault → State → State → Type 0
BeginsOn w client name fault old new = Begins w.stored.frames client (open_on name w) fault old new

-- the client's own is committed
abbrev pub CommitsOn : World → (client : ℕ) → (name : List ℕ) → Option HostFault → State → State → Type 0
CommitsOn w client name fault old new = OnPool w.stored.frames name (λ slot at a b. EndsTransaction w.stored.frames client (open_on name w) at fault a b) old new

-- the client's own is undone
abbrev pub AbortsOn : World → (client : ℕ) → (name : List ℕ) → Option HostFault → State → State → Type 0
AbortsOn w client name fault old new = Aborts w.stored.frames client name fault old new

-- this is changed in the client's own
abbrev pub ChangesPool : World → (client : ℕ) → (name : List ℕ) → Change → Option HostFault → State → State → Type 0
ChangesPool w client name change fault old new = OnPool w.stored.frames name (λ slot at a b. MakesChange w.stored.frames client slot change at fault a b) old new

-- the frontiers of its pool are led to the ends of the puddles that the change writes to
abbrev pub LeadsChange : (F : ℕ) → (name : List ℕ) → Change → (before : Image) → (Member → Option ℕ) → Type 0
LeadsChange F name change before goal = LeadsPool F name before (λ at by. Finishes F at before change by) goal

-- ---- what each call does

-- The transaction is committed, if it was begun once.
pub record CommitsActive (F : ℕ) (active : ActiveTransaction) (known : Known) (size : ℕ) (w : World) (memory : Memory) (fault : Option HostFault) (old new : State) : Type 0 where
  pub applies : depth_in memory.sessions active.slot ≤ 1 → Applies size w (after w (Commit active.client active.name)) (with_ended active.log_number active (after_end false active.tx.log.defers known) memory) fault old new
  -- The gate of its log is written, and, if values were deferred, words that redo entries of the log name.
  pub writes : (t : Transaction) → open_on active.name w ≡ Some t → WritesWithin F active.client (ByCommitting F (puddles_at F active.slot old) (reads old.now.words) t.deferred) fault old new

-- The transaction is undone.
pub record AbortsActive (F : ℕ) (active : ActiveTransaction) (known : Known) (size : ℕ) (w : World) (memory : Memory) (fault : Option HostFault) (old new : State) : Type 0 where
  pub applies : Applies size w (world_without_log (Some active) w) (with_ended active.log_number active (by_puddles known.puddles) memory) fault old new
  -- No word before the clients' logs changes.
  pub after_tables : Changes (AfterTables w.stored.frames) fault old new
  -- Only words of its log and of its finished puddles are written.
  pub writes : WritesWithin F active.client (ByTransaction (pool_scope F (finished_of (puddles_at F active.slot old)))) fault old new
  -- Only the gate of its log is written, and words that undo entries of the log name.
  pub names : WritesWithin F active.client (ByAborting F (puddles_at F active.slot old) (reads old.now.words)) fault old new

-- The client's own transaction on the pool of the name is committed, or is begun once less.
pub record CommitsOwn (size : ℕ) (w : World) (client : ℕ) (name : List ℕ) (memory : Memory) (fault : Option HostFault) (old new : State) : Type 0 where
  pub applies : Applies size w (after w (Commit client name)) memory fault old new
  pub acts : CommitsOn w client name fault old new

-- The transaction under this log number is undone, if there was one in memory before.
pub record UndoesUnder (number : ℕ) (before memory : Memory) (size : ℕ) (w : World) (fault : Option HostFault) (old new : State) : Type 0 where
  pub applies : Applies size w (world_without_log (active_under before.active number) w) memory fault old new
  -- Only words after the end of the tables change.
  pub after_tables : Changes (AfterTables w.stored.frames) fault old new
  -- Only the gate of its log is written, and words that the log's undo entries name.
  pub names : (mine : ActiveTransaction) → active_under before.active number ≡ Some mine → WritesWithin w.stored.frames mine.client (ByAborting w.stored.frames (puddles_at w.stored.frames mine.slot old) (reads old.now.words)) fault old new
  -- At most one transaction of the log's client is undone.
  pub undoes : (client : ℕ) → IsLogOf client number → UndoesOwn w client fault old new

-- All transactions of the client are undone, one after another, each as the line `abort` undoes it.
pub record UndoesAll (client : ℕ) (memory : Memory) (size : ℕ) (w : World) (fault : Option HostFault) (old new : State) : Type 0 where
  pub applies : Applies size w (world_without client w) memory fault old new
  -- Only words after the end of the tables change.
  pub after_tables : Changes (AfterTables w.stored.frames) fault old new
  pub undoes : UndoesOwn w client fault old new
