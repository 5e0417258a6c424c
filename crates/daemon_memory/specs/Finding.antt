-- What a line needs of the pool that it names, what is found of the pool, and why a session on it does not begin.
use Rattle.std.specs.Prelude.{◌≡◌, ◌<◌, ℕ, Bool, true, false, not, ◌==◌, cond, is_some, is_none, unwrap_or, option_map, List, [], Option, Some, None, Result, Ok, Err, map}
use Rattle.pud_defs.specs.declared.records.TheConstants.{POOL_RECORDS}
use Rattle.pud_defs.specs.declared.records.PoolRecord.{PoolRecord}
use Rattle.pud_defs.specs.declared.machine.Refusal.{Refusal}
use Rattle.pud_defs.specs.declared.machine.Refusal.TheVariants as refusals
use Rattle.pud_defs.specs.Formats.Image.{Image}
use Rattle.pud_defs.specs.Formats.Rights.{may_read, may_write}
use Rattle.pud_defs.specs.Logging.Settled.{ALL_LOGS}
use Rattle.pud_defs.specs.RegistryTables.Spaces.{Owner, owner}
use Rattle.pud_defs.specs.StateMachine.Step.{has_owner_right, has_read_right, has_write_right, graph_in, graph_seen}
use Rattle.pud_defs.specs.RegistryTables.Tables.{Pool, tables_of, pool_in}
use Rattle.pud_defs.specs.StateMachine.PoolChanges.{pool_named}
use Rattle.pud_defs.specs.StateMachine.Transactions.{is_others}
use Rattle.pud_defs.specs.StateMachine.World.{Transaction, World, open_on}
use Rattle.nesting.specs.declared.EnterFault.{EnterFault}
use Rattle.nesting.specs.declared.EnterFault.TheVariants.{Deep, Logs}
use Rattle.nesting.specs.declared.Session.{Session}
use Rattle.nesting.specs.Sessions.{session_in, depth_in}
use Rattle.daemon_memory.specs.declared.finding.OwnTransaction.{OwnTransaction}
use Rattle.daemon_memory.specs.declared.finding.Need.{Need}
use Rattle.daemon_memory.specs.declared.finding.Need.TheVariants as needs
use Rattle.daemon_memory.specs.declared.finding.FoundPool.{FoundPool}
use Rattle.daemon_memory.specs.Memory.{Memory}
use Rattle.daemon_memory.specs.OwnOnPool.{IsOwnTransactionOn}
use Rattle.daemon_memory.specs.PoolKnowledge.{known_puddles_in, puddles_with_graph}
use Rattle.pud_defs.specs.declared.records.Puddle.{Puddle}
use Rattle.pud_defs.specs.RegistryTables.Types.{types_of}
use Rattle.pud_defs.specs.PoolGraphs.Stored.{stored_in}
use Rattle.pud_defs.specs.PoolGraphs.Graph.{Graph, graph_of}
use Rattle.pud_defs.specs.PoolGraphs.Holdings.{graph_held}
use Rattle.pud_defs.specs.PoolGraphs.Exported.{IsExportable}

-- ---- what is needed

-- The line needs a graph.
abbrev pub needs_graph : Need → Bool
needs_graph needs.Owner = false
needs_graph needs.Read = true
needs_graph needs.Write = true
needs_graph needs.Graph = true

-- The line needs a graph, and the pool has none.
abbrev pub lacks_graph : Need → Option Pool → Bool
lacks_graph needs.Owner found = false
lacks_graph needs.Read found = is_none (graph_in found)
lacks_graph needs.Write found = is_none (graph_in found)
lacks_graph needs.Graph found = is_none (graph_in found)

-- Someone who acts as this owner has the needed right.
abbrev pub has_right : Need → Option Owner → Option Pool → Bool
has_right needs.Owner who found = has_owner_right who found
has_right needs.Read who found = has_read_right who found
has_right needs.Write who found = has_write_right who found
has_right needs.Graph who found = true

-- The same, by the pool's record.
abbrev pub right_by : Need → PoolRecord → Owner → Bool
right_by needs.Owner rec who = who.uid == rec.uid
right_by needs.Read rec who = may_read rec.mode (owner rec.uid rec.gid) who
right_by needs.Write rec who = may_write rec.mode (owner rec.uid rec.gid) who
right_by needs.Graph rec who = true

-- ---- why a line with this need is refused before the rest of what it asks is looked at

-- The refusal for someone who acts as this owner, on this pool, with this transaction open on it.
abbrev pub need_refusal : Need → Option Owner → Option Pool → (client : ℕ) → Option Transaction → Option Refusal
need_refusal need who found client opened =
    cond (not (is_some who)) (Some refusals.Client)
    (cond (is_none found) (Some refusals.Pool)
    (cond (lacks_graph need found) (Some refusals.Wild)
    (cond (not (has_right need who found)) (Some refusals.Denied)
    (cond (is_others client opened) (Some refusals.Busy) None))))

-- The same for a client and a name.
abbrev pub refusal_to : World → Need → (client : ℕ) → List ℕ → Option Refusal
refusal_to w need client name = need_refusal need (w.clients client) (pool_named name w.stored) client (open_on name w)

-- ---- what is found

-- What is found, by the session on the pool.
abbrev pub found_unless_busy : Option Session → (client slot number : ℕ) → Result FoundPool Refusal
found_unless_busy None client slot number = Ok (record { slot = slot; number = number; own = None })
found_unless_busy (Some session) client slot number = cond (session.client == client) (Ok (record { slot = slot; number = number; own = Some session.log_number })) (Err refusals.Busy)

-- The pool of the name has this record, as it is read, in the slot.
abbrev pub IsRecordOf : (F : ℕ) → List ℕ → Image → (slot : ℕ) → PoolRecord → Type 0
IsRecordOf F name image slot rec = ◌≡◌ {A = Option (ℕ × PoolRecord)} (Some (slot, rec)) (pool_in (tables_of F image) name)

-- The session on the pool that was found.
abbrev pub session_found : List (Option Session) → (client : ℕ) → FoundPool → Option Session
session_found sessions client found = option_map (λ number. record { client = client; log_number = number; depth = depth_in sessions found.slot }) found.own

-- The pool that was found is the one of the name, by its record. If a transaction is open on it, that is the client's
-- own, with the log of this number. If the line needs a graph, what is known about the pool is its puddles, and that
-- they have one.
pub record IsFound (w : World) (need : Need) (client : ℕ) (name : List ℕ) (image : Image) (memory : Memory) (found : FoundPool) : Type 0 where
  pub rec : PoolRecord
  pub is : IsRecordOf w.stored.frames name image found.slot rec
  pub number_is : found.number ≡ rec.number
  pub own : (number : ℕ) → found.own ≡ Some number → IsOwnTransactionOn client name found.slot number memory.active
  pub none : found.own ≡ None → open_on name w ≡ None
  pub known : needs_graph need ≡ true → Some (unwrap_or (known_puddles_in memory.known_pools found.slot) []) ≡ puddles_with_graph w.stored.frames image found.slot

-- What was found of the client's own transaction lies within the tables, and its session is the client's.
pub record FindsOwn (client : ℕ) (memory : Memory) (own : OwnTransaction) : Type 0 where
  pub slot : own.slot < POOL_RECORDS
  pub number : own.log_number < ALL_LOGS
  pub whose : session_in memory.sessions own.slot ≡ Some (record { client = client; log_number = own.log_number; depth = depth_in memory.sessions own.slot })

-- Why a transaction's session does not begin, or does not become one deeper.
abbrev pub refusal_to_enter : EnterFault → Refusal
refusal_to_enter Deep = refusals.Deep
refusal_to_enter Logs = refusals.Logs

-- Why a line on an open transaction is refused before its request is looked at: the transaction is another client's.
abbrev pub busy_unless : (own : Bool) → Option Refusal
busy_unless own = cond own None (Some refusals.Busy)

-- These puddles have a graph. It is that of the world's pool of this name, as a transaction that is open on the pool
-- has it.
pub record SeesGraph (w : World) (F : ℕ) (name : List ℕ) (image : Image) (puddles : List (ℕ × Puddle)) : Type 0 where
  pub graph : Graph
  pub stored : graph_of (types_of image) (stored_in F puddles image) ≡ Some graph
  pub is : graph_seen (open_on name w) (pool_named name w.stored) ≡ Some graph

-- A pool of the world, as it is known when no transaction is open on it: its UUID number, its puddles, their classes,
-- and their graph, which can be written into a file.
pub record IsStoredPool (w : World) (F : ℕ) (name : List ℕ) (image : Image) (number : ℕ) (puddles : List (ℕ × Puddle)) : Type 0 where
  pub pool : Pool
  pub there : pool_named name w.stored ≡ Some pool
  pub graph : Graph
  pub holds : graph_held pool.holding ≡ Some graph
  pub stored : graph_of (types_of image) (stored_in F puddles image) ≡ Some graph
  pub number_is : number ≡ pool.number
  pub classes : map (λ e. e.1.class) puddles ≡ pool.classes
  pub types : types_of image ≡ w.stored.types
  pub exportable : IsExportable (types_of image) (stored_in F puddles image)
