-- All that is read of the pool table and the puddle table, and the pools that they stand for.
use Rattle.std.specs.Prelude.{ℕ, zero, suc, ◌+◌, nat_lt, ◌==◌, cond, List, [], ◌∷◌, map, Option, Some, None, option_map}
use Rattle.std.specs.Ordering.{nat_cmp}
use Rattle.std.specs.FinMap.Entries.{find}
use Rattle.pud_defs.specs.declared.records.TheConstants.{POOL_RECORDS, MAX_PUDDLES}
use Rattle.pud_defs.specs.declared.records.PoolRecord.{PoolRecord}
use Rattle.pud_defs.specs.declared.records.PuddleRecord.{PuddleRecord}
use Rattle.pud_defs.specs.declared.records.Puddle.{Puddle}
use Rattle.pud_defs.specs.Formats.Image.{Image}
use Rattle.pud_defs.specs.RegistryTables.Spaces.{Owner, owner}
use Rattle.pud_defs.specs.PoolGraphs.Holdings.{Holding}
use Rattle.pud_defs.specs.Formats.Names.{name_cmp}
use Rattle.pud_defs.specs.RegistryTables.Keyed.{keyed}
use Rattle.pud_defs.specs.RegistryTables.Pools.{pool_at, pool_read}
use Rattle.pud_defs.specs.RegistryTables.Puddles.{Member, puddle_at, puddle_read}

-- the number of frames, the used pool records by their slots, and the used puddle records by their frames
pub record Tables : Type 0 where
  pub frames : ℕ
  pub pools : ℕ → Option PoolRecord
  pub puddles : ℕ → Option Member

-- The tables of an image. After its last record a table has no used one. So images that agree on the words of both
-- tables have the same tables.
unfoldable pub tables_of : ℕ → Image → Tables
tables_of F image = record {
  frames = F;
  pools = λ slot. cond (nat_lt slot POOL_RECORDS) (pool_at image slot) None;
  puddles = λ frame. cond (nat_lt frame F) (puddle_at image frame) None;
}

-- ---- the puddles of a pool

-- the puddle of this record with its frame, under its ordinal, if it belongs to the pool in this slot
abbrev pub member_of : (slot frame : ℕ) → Option Member → Option (ℕ × (ℕ × Puddle))
member_of slot frame None = None
member_of slot frame (Some m) = cond (m.pool == slot + 1) (Some (m.ordinal, (frame, m.puddle))) None

-- a pool's puddles by their frames, each under its ordinal
abbrev pub members : Tables → ℕ → ℕ → Option (ℕ × (ℕ × Puddle))
members t slot frame = member_of slot frame (t.puddles frame)

-- a pool's puddles by ascending ordinals, each with its frame
unfoldable pub puddles_of : Tables → ℕ → List (ℕ × (ℕ × Puddle))
puddles_of t slot = keyed nat_cmp (members t slot) 0 t.frames

-- the record number and the record of a pool's puddle
abbrev pub puddle_in : Tables → (slot ordinal : ℕ) → Option (ℕ × PuddleRecord)
puddle_in t slot ordinal = option_map (λ p. (p.0, puddle_read slot ordinal p.1)) (find nat_cmp ordinal (puddles_of t slot))

-- what was found, before the rest; nothing if nothing was found
abbrev pub found_then : {A : Type 0} → Option A → List A → List A
found_then None rest = []
found_then (Some x) rest = x ∷ rest

-- what a look-up gives for the numbers from a given one on, until the first for which it gives nothing: at most `count` results
unfoldable pub in_turn : {A : Type 0} → (ℕ → Option A) → ℕ → ℕ → List A
in_turn at from zero = []
in_turn at from (suc count) = found_then (at from) (in_turn at (from + 1) count)

-- the pool's puddles by their ordinals from 0 on, until the first ordinal that no puddle has, each with its frame
abbrev pub puddles_in_turn : Tables → ℕ → List (ℕ × Puddle)
puddles_in_turn t slot = in_turn (λ ordinal. find nat_cmp ordinal (puddles_of t slot)) 0 MAX_PUDDLES

-- ---- the pools

-- a used pool record with its slot, under its name
abbrev pub named : Tables → ℕ → Option (List ℕ × (ℕ × PoolRecord))
named t slot = option_map (λ r. (r.name, (slot, r))) (t.pools slot)

-- the used pool records by ascending names, each with its slot
unfoldable pub records_of : Tables → List (List ℕ × (ℕ × PoolRecord))
records_of t = keyed name_cmp (named t) 0 POOL_RECORDS

-- the slot and the record of the pool with a name
abbrev pub pool_in : Tables → List ℕ → Option (ℕ × PoolRecord)
pool_in t name = option_map (λ p. (p.0, pool_read p.1)) (find name_cmp name (records_of t))

-- A pool: its owner and group, its mode, its UUID number, the classes of its puddles by their ordinals, and what they
-- store.
pub record Pool : Type 0 where
  pub owner : Owner
  pub mode : ℕ
  pub number : ℕ
  pub classes : List ℕ
  pub holding : Holding

-- what puddles store, which are given by their ordinals, each with its frame
abbrev pub Reader : Type 0
Reader = List (ℕ × Puddle) → Holding

-- a pool's puddles without their ordinals
abbrev pub listed : List (ℕ × (ℕ × Puddle)) → List (ℕ × Puddle)
listed puddles = map (λ e. e.1) puddles

-- the classes of puddles that are given by their ordinals
abbrev pub classes_of : List (ℕ × (ℕ × Puddle)) → List ℕ
classes_of puddles = map (λ e. e.1.1.class) puddles

-- the pool with this record and these puddles
unfoldable pub pool_of : Reader → PoolRecord → List (ℕ × (ℕ × Puddle)) → Pool
pool_of hold r puddles = record { owner = owner r.uid r.gid; mode = r.mode; number = r.number; classes = classes_of puddles; holding = hold (listed puddles) }

-- the pool in a slot, under its name
abbrev pub entries : Reader → Tables → ℕ → Option (List ℕ × Pool)
entries hold t slot = option_map (λ r. (r.name, pool_of hold r (puddles_of t slot))) (t.pools slot)

-- the pools by ascending names
unfoldable pub pools_of : Reader → Tables → List (List ℕ × Pool)
pools_of hold t = keyed name_cmp (entries hold t) 0 POOL_RECORDS
