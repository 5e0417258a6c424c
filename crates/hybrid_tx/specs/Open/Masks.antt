-- The words of an open transaction on a pool, with their values from its beginning.
use Rattle.std.specs.Prelude.{◌≡◌, ℕ, ◌+◌, ◌<◌, ◌≤◌, Bool, true, ◌&&◌, ◌||◌, nat_le, nat_lt, ◌==◌, cond, List, length, slice_get, Some, None}
use Rattle.std.specs.List.{list_any}
use Rattle.pm_model.specs.Changes.{Write}
use Rattle.pud_defs.specs.declared.layout.TheConstants.{DAEMON_LOG}
use Rattle.pud_defs.specs.declared.log_words.TheConstants.{CLOSED_GATE}
use Rattle.pud_defs.specs.declared.records.TheConstants.{POOL_RECORDS, MAX_PUDDLES}
use Rattle.pud_defs.specs.declared.records.PoolRecord.{PoolRecord}
use Rattle.pud_defs.specs.declared.records.Puddle.{Puddle}
use Rattle.pud_defs.specs.Formats.Image.{Image}
use Rattle.pud_defs.specs.Logging.Entries.{log_of}
use Rattle.pud_defs.specs.Logging.Replay.{device_word, new_value, is_in_log}
use Rattle.pud_defs.specs.Formats.Rights.{may_write}
use Rattle.pud_defs.specs.RegistryTables.Spaces.{Owner, owner, space_record_at, owner_of}
use Rattle.pud_defs.specs.RegistryTables.Pools.{pool_record_at}
use Rattle.pud_defs.specs.RegistryTables.Puddles.{Member, puddle_record_at}
use Rattle.pud_defs.specs.RegistryTables.Tables.{Tables, tables_of}
use Rattle.pud_defs.specs.Logging.Settled.{ALL_LOGS, client_of_log, log_number_at}
use Rattle.graph_laws.specs.Reads.{HasDistinctFrames}
use Rattle.word_transaction.specs.Running.{RecoversTo}
use Rattle.hybrid_tx.specs.PoolScopes.{pool_has_word, pool_scope, finished_of}

-- Where a transaction is open: the slot and the record of its pool; the puddles of the pool, each with its frame; the
-- number of its log among those of all clients; and as whom its client acts. The words of the finished puddles are
-- its own.
pub record OpenPool : Type 0 where
  pub slot : ℕ
  pub rec : PoolRecord
  pub puddles : List (ℕ × Puddle)
  pub log_number : ℕ
  pub who : Owner

-- ---- the records that it rests on

-- the word is one of the pool record of this slot
abbrev pub is_in_pool_record : (slot k : ℕ) → Bool
is_in_pool_record slot k = nat_le (pool_record_at slot) k && nat_lt k (pool_record_at (slot + 1))

-- the word is one of the record of this client
abbrev pub is_in_space_record : (client k : ℕ) → Bool
is_in_space_record client k = nat_le (space_record_at client) k && nat_lt k (space_record_at (client + 1))

-- the word is one of the record of this puddle's frame
abbrev pub is_in_puddle_record : (k : ℕ) → ℕ × Puddle → Bool
is_in_puddle_record k e = nat_le (puddle_record_at e.0) k && nat_lt k (puddle_record_at (e.0 + 1))

-- the word is one of a record of the pool, of one of its finished puddles, or of the client
unfoldable pub is_open_record : OpenPool → ℕ → Bool
is_open_record p k = is_in_pool_record p.slot k || is_in_space_record (client_of_log p.log_number) k || list_any (is_in_puddle_record k) (finished_of p.puddles)

-- ---- all of its words

-- The mask has the words of its log as those of a closed log. It has the words of its finished puddles' frames, and
-- of these records, as they were at its beginning.
unfoldable pub open_mask : ℕ → OpenPool → Image → Write
open_mask F p before k =
    cond (is_in_log (log_number_at F p.log_number) k) (Some (cond (k == log_number_at F p.log_number) CLOSED_GATE 0))
    (cond (pool_has_word F (finished_of p.puddles) k || is_open_record p k) (Some (before k)) None)

-- ---- what is known about it

-- This is a puddle of the pool of the slot, in its frame: the used record of the frame states this, whatever the
-- puddle's place in the pool.
pub record IsPuddleOf (t : Tables) (slot : ℕ) (e : ℕ × Puddle) : Type 0 where
  pub below : e.0 < t.frames
  pub member : Member
  pub used : t.puddles e.0 ≡ Some member
  pub pool : member.pool ≡ slot + 1
  pub puddle : member.puddle ≡ e.1

-- These are puddles of the pool of the slot, no two of them in one frame.
pub record ArePuddlesOf (t : Tables) (slot : ℕ) (at : List (ℕ × Puddle)) : Type 0 where
  pub few : length at ≤ MAX_PUDDLES
  pub each : (i : ℕ) (e : ℕ × Puddle) → slice_get at i ≡ Some e → IsPuddleOf t slot e
  pub apart : HasDistinctFrames at

-- By this image of its beginning, the pool is one of the device, the finished ones of these puddles are puddles of
-- it, the log is registered, and its owner may write the pool.
pub record IsOpenPool (F : ℕ) (p : OpenPool) (before : Image) : Type 0 where
  pub known : p.log_number < ALL_LOGS
  pub slot : p.slot < POOL_RECORDS
  pub used : (tables_of F before).pools p.slot ≡ Some p.rec
  pub puddles : ArePuddlesOf (tables_of F before) p.slot (finished_of p.puddles)
  pub owned : owner_of before (client_of_log p.log_number) ≡ Some p.who
  pub right : may_write p.rec.mode (owner p.rec.uid p.rec.gid) p.who ≡ true

-- An image that may be left meanwhile. The daemon log names none of its words. Its records are as they were, and its
-- frames are too once its log is replayed.
pub record IsLeftOpen (F : ℕ) (p : OpenPool) (before image : Image) : Type 0 where
  pub unnamed : (k v : ℕ) → open_mask F p before k ≡ Some v → new_value device_word (log_of image DAEMON_LOG) k ≡ None
  pub records : (k : ℕ) → is_open_record p k ≡ true → image k ≡ before k
  pub recovers : RecoversTo (pool_scope F (finished_of p.puddles)) (log_number_at F p.log_number) before image
