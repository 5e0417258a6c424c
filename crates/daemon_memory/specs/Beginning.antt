-- What the daemon knows about a pool on which a transaction is to begin, and what is active as it begins.
use Rattle.std.specs.Prelude.{◌≡◌, ℕ, true, List, Some}
use Rattle.pud_defs.specs.declared.records.PoolRecord.{PoolRecord}
use Rattle.pud_defs.specs.declared.records.Puddle.{Puddle}
use Rattle.pud_defs.specs.Formats.Image.{Image}
use Rattle.pud_defs.specs.Formats.Rights.{may_write}
use Rattle.pud_defs.specs.RegistryTables.Spaces.{Owner, owner, owner_of}
use Rattle.pud_defs.specs.Logging.Settled.{log_number_at}
use Rattle.pud_defs.specs.PoolGraphs.Stored.{stored_in}
use Rattle.pud_defs.specs.RegistryTables.Types.{types_of}
use Rattle.pud_defs.specs.PoolGraphs.Graph.{Graph, graph_of}
use Rattle.pud_defs.specs.RegistryTables.Tables.{tables_of, puddles_in_turn}
use Rattle.hybrid_tx.specs.Objects.Transactions.{begun_tx}
use Rattle.daemon_memory.specs.Memory.{ActiveTransaction}

-- The pool of the name has its record in this slot, and it has these puddles, which have a graph. The client is present
-- and may write the pool.
pub record MayBegin (F client : ℕ) (name : List ℕ) (image : Image) (slot : ℕ) (at : List (ℕ × Puddle)) : Type 0 where
  pub rec : PoolRecord
  pub who : Owner
  pub graph : Graph
  pub used : (tables_of F image).pools slot ≡ Some rec
  pub name_is : rec.name ≡ name
  pub puddles : puddles_in_turn (tables_of F image) slot ≡ at
  pub stored : graph_of (types_of image) (stored_in F at image) ≡ Some graph
  pub owned : owner_of image client ≡ Some who
  pub right : may_write rec.mode (owner rec.uid rec.gid) who ≡ true

-- ---- what is active

-- The transaction as it begins, in the log of this number on a device of this many frames.
abbrev pub begins_as : (client : ℕ) → (name : List ℕ) → (slot : ℕ) → (F number : ℕ) → ActiveTransaction
begins_as client name slot F number = record { client = client; name = name; slot = slot; log_number = number; tx = begun_tx (log_number_at F number) }
