-- What the active transactions in the daemon's memory stand for: parts of the world, and words of the device.
use Rattle.std.specs.Prelude.{◌≡◌, ◌≢◌, ◌<◌, ◌≤◌, ℕ, true, false, List, Option, Some, None, is_some}
use Rattle.pm_model.specs.Words.{Words, reads, HasOnly}
use Rattle.pm_model.specs.declared.host.HostFault.{HostFault}
use Rattle.pm_model.specs.Moments.{State}
use Rattle.pm_model.specs.Changes.{Footprint, Write, Changes, Leaves, Silently}
use Rattle.pud_defs.specs.declared.records.PoolRecord.{PoolRecord}
use Rattle.pud_defs.specs.declared.layout.TheConstants.{DAEMON_LOG, CLIENTS, CLIENT_LOGS, LOG_ENTRY_WORDS}
use Rattle.pud_defs.specs.declared.records.TheConstants.{POOL_RECORDS}
use Rattle.pud_defs.specs.Formats.Image.{Image}
use Rattle.pud_defs.specs.Logging.Entries.{log_of}
use Rattle.pud_defs.specs.Logging.Replay.{device_word, new_value, is_in_log}
use Rattle.pud_defs.specs.Formats.Layout.{frames_at, log_at}
use Rattle.pud_defs.specs.PoolGraphs.Stored.{Stored}
use Rattle.pud_defs.specs.RegistryTables.Spaces.{Owner}
use Rattle.pud_defs.specs.PoolGraphs.Graph.{Graph, graph_of}
use Rattle.pud_defs.specs.Logging.Settled.{ALL_LOGS, client_of_log, log_number_at}
use Rattle.pud_defs.specs.declared.records.Puddle.{Puddle}
use Rattle.pud_defs.specs.StateMachine.PoolChanges.{pool_named}
use Rattle.pud_defs.specs.StateMachine.Step.{graph_in}
use Rattle.pud_defs.specs.RegistryTables.Types.{map_of}
use Rattle.pud_defs.specs.StateMachine.World.{Transaction, World, open_on}
use Rattle.batch.specs.Batches.{HasIdleGate}
use Rattle.hybrid_tx.specs.Open.Masks.{OpenPool, is_open_record, IsOpenPool, open_mask}
use Rattle.hybrid_tx.specs.Open.ManyOpen.{OpenTransaction, Opens, MasksAll, AreOpenPools}
use Rattle.hybrid_tx.specs.Objects.Transactions.{IsOpenOn}
use Rattle.nesting.specs.declared.Session.{Session}
use Rattle.nesting.specs.Sessions.{session_in}
use Rattle.daemon_memory.specs.Memory.{ActiveTransaction, active_under}

-- The pool on which the transaction is open.
abbrev pub open_pool_of : ActiveTransaction → List (ℕ × Puddle) → PoolRecord → Owner → OpenPool
open_pool_of active at rec who = record { slot = active.slot; rec = rec; puddles = at; log_number = active.log_number; who = who }

-- The open transaction: that pool, and the image at its beginning.
abbrev pub open_transaction_of : ActiveTransaction → List (ℕ × Puddle) → PoolRecord → Owner → Image → OpenTransaction
open_transaction_of active at rec who before = record { pool = open_pool_of active at rec who; before = before }

-- The transaction that is open in memory is the one that the world has on its pool. Its client is present, and it has
-- one of the client's own logs.
pub record IsOfClient (w : World) (active : ActiveTransaction) : Type 0 where
  pub who : Owner
  pub transaction : Transaction
  pub is : open_on active.name w ≡ Some transaction
  pub client : transaction.client ≡ active.client
  pub units : transaction.units ≡ active.tx.units
  pub present : w.clients active.client ≡ Some who
  pub owner : client_of_log active.log_number ≡ active.client
  pub gate : active.tx.log.gate_at ≡ log_number_at w.stored.frames active.log_number

-- The transaction is the one that the world has open on its pool, and the pool has these puddles. By what the words
-- were at its beginning the pool had the graph that the stored world has. By what is read the pool has the graph that
-- the client sees. The transaction's records are read as they were. Its words are masked with what they were at its
-- beginning.
pub record IsActive (w : World) (active : ActiveTransaction) (mask : Write) (words : Words) : Type 0 where
  pub own : IsOfClient w active
  pub rec : PoolRecord
  pub puddles : List (ℕ × Puddle)
  pub before : Image
  pub graph_before : Graph
  pub name : rec.name ≡ active.name
  pub stored : graph_in (pool_named active.name w.stored) ≡ Some graph_before
  pub pool : IsOpenPool w.stored.frames (open_pool_of active puddles rec own.who) before
  pub records : (k : ℕ) → is_open_record (open_pool_of active puddles rec own.who) k ≡ true → reads words k ≡ before k
  pub running : IsOpenOn w.stored.frames puddles w.stored.types active.tx.log before graph_before own.transaction.now own.transaction.deferred words
  pub masked : (k v : ℕ) → open_mask w.stored.frames (open_pool_of active puddles rec own.who) before k ≡ Some v → mask k ≡ Some v

-- The transaction is active under this number, which is its log's number, and it is one of these that are open.
pub record IsActiveUnder (w : World) (opens : Opens) (mask : Write) (words : Words) (number : ℕ) (active : ActiveTransaction) : Type 0 where
  pub is : IsActive w active mask words
  pub number_is : active.log_number ≡ number
  pub opened : opens number ≡ Some (open_transaction_of active is.puddles is.rec is.own.who is.before)

-- A transaction is active on the pool of this name.
pub record IsOpenUnder (all : List (Option ActiveTransaction)) (name : List ℕ) : Type 0 where
  pub number : ℕ
  pub active : ActiveTransaction
  pub is : active_under all number ≡ Some active
  pub name_is : active.name ≡ name

-- The active transactions, each under its log's number, are those that are open in the world. Each is on a pool of its
-- own, and the words of all are masked.
pub record AreActive (w : World) (active : List (Option ActiveTransaction)) (mask : Write) (words : Words) : Type 0 where
  pub opens : Opens
  pub are : AreOpenPools w.stored.frames opens
  pub masks : MasksAll w.stored.frames opens mask
  pub each : (number : ℕ) (h : ActiveTransaction) → active_under active number ≡ Some h → IsActiveUnder w opens mask words number h
  pub none : (number : ℕ) → active_under active number ≡ None → opens number ≡ None
  pub known : (name : List ℕ) (t : Transaction) → open_on name w ≡ Some t → IsOpenUnder active name
  pub names : (n m : ℕ) (h g : ActiveTransaction) → active_under active n ≡ Some h → active_under active m ≡ Some g → h.name ≡ g.name → n ≡ m

-- A transaction is active under this number, on the pool whose record is in this slot.
pub record IsActiveOn (all : List (Option ActiveTransaction)) (slot number : ℕ) : Type 0 where
  pub active : ActiveTransaction
  pub is : active_under all number ≡ Some active
  pub slot_is : active.slot ≡ slot

-- The session of a transaction whose log has this number.
abbrev pub session_of : (number : ℕ) → Transaction → Session
session_of number t = record { client = t.client; log_number = number; depth = t.depth }

-- Each active transaction has its pool's session: its client, its log, and how often it was begun. There is no other
-- session.
pub record HasSessions (w : World) (active : List (Option ActiveTransaction)) (sessions : List (Option Session)) : Type 0 where
  pub each : (number : ℕ) (h : ActiveTransaction) (t : Transaction) → active_under active number ≡ Some h → open_on h.name w ≡ Some t → session_in sessions h.slot ≡ Some (session_of number t)
  pub only : (slot : ℕ) (s : Session) → session_in sessions slot ≡ Some s → IsActiveOn active slot s.log_number

-- An active transaction lies in a device of this many frames: its pool's slot, its client and its log's number are in
-- their ranges, and its log is the log of that number. It has taken no more units than there are.
pub record IsActiveWithin (F : ℕ) (active : ActiveTransaction) : Type 0 where
  pub slot : active.slot < POOL_RECORDS
  pub client : active.client < CLIENTS
  pub number : active.log_number < ALL_LOGS
  pub gate : active.tx.log.gate_at ≡ log_number_at F active.log_number
  pub units : active.tx.units ≤ LOG_ENTRY_WORDS

-- Each active transaction lies in the device.
pub record AreActiveWithin (F : ℕ) (active : List (Option ActiveTransaction)) : Type 0 where
  pub each : (number : ℕ) (h : ActiveTransaction) → active_under active number ≡ Some h → IsActiveWithin F h

-- The client's own transaction on the pool of this name is active under this number.
pub record IsOwnTransaction (client : ℕ) (name : List ℕ) (number : ℕ) (all : List (Option ActiveTransaction)) : Type 0 where
  pub active : ActiveTransaction
  pub is : active_under all number ≡ Some active
  pub whose : active.client ≡ client
  pub pool : active.name ≡ name

-- Each active transaction is another client's.
pub record AreOfOtherClients (client : ℕ) (active : List (Option ActiveTransaction)) : Type 0 where
  pub each : (number : ℕ) (h : ActiveTransaction) → active_under active number ≡ Some h → h.client ≢ client

-- On a device of this many frames each word of the frames has one value.
pub record HasDurableFrames (F : ℕ) (words : Words) : Type 0 where
  pub each : (k : ℕ) → frames_at F ≤ k → HasOnly (words k) (words k).newest

-- Each log of a client that is present counts nothing in any image that may be left.
pub record HasIdleLogs (F : ℕ) (clients : ℕ → Option Owner) (words : Words) : Type 0 where
  pub each : (client number : ℕ) → client < CLIENTS → number < CLIENT_LOGS → is_some (clients client) ≡ true → HasIdleGate (log_at F client number) words

-- ---- calls that know nothing about a transaction

-- Any value may be written to a word that is not masked.
abbrev pub ByOthers : Write → Footprint
ByOthers mask k v = mask k ≡ None

-- The image's daemon log names none of the masked words.
pub record NamesNone (mask : Write) (image : Image) : Type 0 where
  pub each : (k v : ℕ) → mask k ≡ Some v → new_value device_word (log_of image DAEMON_LOG) k ≡ None

-- Each word outside the daemon log that had one value has one.
pub record StaysSingle (old new : State) : Type 0 where
  pub each : (k : ℕ) → is_in_log DAEMON_LOG k ≡ false → HasOnly (old.now.words k) (old.now.words k).newest → HasOnly (new.now.words k) (new.now.words k).newest

-- No masked word gets a value, and at each moment the daemon log names none. Without a fault each word outside the
-- daemon log that had one value has one.
pub record LeavesMasked (mask : Write) (fault : Option HostFault) (old new : State) : Type 0 where
  pub changes : Changes (ByOthers mask) fault old new
  pub names : Leaves (Silently (NamesNone mask)) old new
  pub single : fault ≡ None → StaysSingle old new

-- The next world keeps the active transactions. It has the same frames and the same open transactions. Each active one
-- has the same client in it, and its pool has the same graph as before the transaction. Each type that is defined stays
-- defined, and whatever is stored and has a graph keeps it.
pub record KeepsActive (w next : World) (active : List (Option ActiveTransaction)) : Type 0 where
  pub frames : next.stored.frames ≡ w.stored.frames
  pub transactions : next.transactions ≡ w.transactions
  pub present : (number : ℕ) (h : ActiveTransaction) → active_under active number ≡ Some h → next.clients h.client ≡ w.clients h.client
  pub stored : (number : ℕ) (h : ActiveTransaction) → active_under active number ≡ Some h → graph_in (pool_named h.name next.stored) ≡ graph_in (pool_named h.name w.stored)
  pub types : (id m : ℕ) → map_of id w.stored.types ≡ Some m → map_of id next.stored.types ≡ Some m
  pub graphs : (st : Stored) (g : Graph) → graph_of w.stored.types st ≡ Some g → graph_of next.stored.types st ≡ Some g
