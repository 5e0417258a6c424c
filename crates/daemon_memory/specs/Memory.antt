-- What the daemon keeps in memory between two lines of input.
use Rattle.std.specs.Prelude.{ℕ, List, set, slice_index_or, Option, None, replicate}
use Rattle.hybrid_tx.specs.Objects.Transactions.{OpenTx}
use Rattle.known_pool.specs.Known.{Known}
use Rattle.nesting.specs.declared.Session.{Session}
use Rattle.pud_defs.specs.declared.records.TheConstants.{POOL_RECORDS}
use Rattle.pud_defs.specs.Logging.Settled.{ALL_LOGS}

-- An active transaction: its client, its pool's name, the slot of the pool's record, the number of its log among all
-- clients' logs, and what is open with that log on the pool's objects.
pub record ActiveTransaction : Type 0 where
  pub client : ℕ
  pub name : List ℕ
  pub slot : ℕ
  pub log_number : ℕ
  pub tx : OpenTx

pub record Memory : Type 0 where
  -- how many frames the device has, as the start found it
  pub frames : ℕ
  -- the active transactions, by the numbers of their logs
  pub active : List (Option ActiveTransaction)
  -- by the slots of the pools' records: whose transaction is open on a pool, with which log, and how often it was begun
  pub sessions : List (Option Session)
  -- by the slots of the pools' records: what is known about pools that have a graph, as far as it was looked up
  pub known_pools : List (Option Known)

-- The transaction that is active with the log of this number.
abbrev pub active_under : List (Option ActiveTransaction) → (number : ℕ) → Option ActiveTransaction
active_under active number = slice_index_or active number None

-- The memory with this transaction, or with none, under this number.
abbrev pub with_active : (number : ℕ) → Option ActiveTransaction → Memory → Memory
with_active number now memory = record memory { active = set memory.active number now }

-- What the daemon keeps in memory after a start: no transaction is open, and no pool is known.
abbrev pub first_memory : (frames : ℕ) → Memory
first_memory frames = record { frames = frames; active = replicate ALL_LOGS None; sessions = replicate POOL_RECORDS None; known_pools = replicate POOL_RECORDS None }
