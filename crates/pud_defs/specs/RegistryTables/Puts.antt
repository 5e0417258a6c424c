-- The words that change one record of the pool table or of the puddle table, and what they make of the tables.
use Rattle.std.specs.Prelude.{ℕ, ◌+◌, ◌-◌, Bool, ◌&&◌, nat_le, nat_lt, ◌==◌, cond, List, [], ◌∷◌, ◌++◌, length, slice_index, replicate, Option, Some, None, option_map, false}
use Rattle.pud_defs.specs.declared.records.TheConstants.{POOL_MODE_WORD}
use Rattle.pud_defs.specs.declared.records.PoolRecord.{PoolRecord}
use Rattle.pud_defs.specs.declared.records.Puddle.{Puddle}
use Rattle.pud_defs.specs.declared.records.PuddleRecord.{PuddleRecord}
use Rattle.pud_defs.specs.declared.records.Put.{Put}
use Rattle.pud_defs.specs.Formats.Image.{Image}
use Rattle.pud_defs.specs.RegistryTables.Pools.{pool_record_at, pool_words}
use Rattle.pud_defs.specs.RegistryTables.Puddles.{Member, moved_to, member_moved, puddle_record_at, puddle_words}
use Rattle.pud_defs.specs.RegistryTables.Tables.{Tables}

-- these values from a word on, at most eight
abbrev pub put_of : ℕ → List ℕ → Put
put_of w vals = record { w = w; n = length vals; vals = vals ++ replicate (8 - length vals) 0 }

-- the image with these values
abbrev pub with_put : Put → Image → Image
with_put put image k = cond (nat_le put.w k && nat_lt k (put.w + put.n)) (slice_index put.vals (k - put.w)) (image k)

-- the words that write the record of a pool
abbrev pub pool_put : ℕ → PoolRecord → Put
pool_put slot r = put_of (pool_record_at slot) (pool_words r)

-- the word that writes the mode of a pool
abbrev pub mode_put : ℕ → ℕ → Put
mode_put slot mode = put_of (pool_record_at slot + POOL_MODE_WORD) (mode ∷ [])

-- the word that frees a pool record
abbrev pub free_pool_put : ℕ → Put
free_pool_put slot = put_of (pool_record_at slot) (0 ∷ [])

-- the words that write the record of a puddle
abbrev pub puddle_put : ℕ → PuddleRecord → Put
puddle_put frame r = put_of (puddle_record_at frame) (puddle_words r)

-- the word that frees a puddle record
abbrev pub free_puddle_put : ℕ → Put
free_puddle_put frame = put_of (puddle_record_at frame) (0 ∷ [])

-- the same function with another value at one place
abbrev pub changed_at : {A : Type 0} → ℕ → A → (ℕ → A) → ℕ → A
changed_at i now at j = cond (j == i) now (at j)

-- the tables with the pool record of a slot changed
abbrev pub with_pool_at : ℕ → Option PoolRecord → Tables → Tables
with_pool_at slot now t = record { frames = t.frames; pools = changed_at slot now t.pools; puddles = t.puddles }

-- the tables with the puddle record of a frame changed
abbrev pub with_puddle_at : ℕ → Option Member → Tables → Tables
with_puddle_at frame now t = record { frames = t.frames; pools = t.pools; puddles = changed_at frame now t.puddles }

-- the tables with another frontier in the record of a frame, if the record is used
abbrev pub with_frontier_at : (frame n : ℕ) → Tables → Tables
with_frontier_at frame n t = with_puddle_at frame (option_map (member_moved n) (t.puddles frame)) t

-- the puddle, given with its frame; it has another frontier if it is the one in this frame
abbrev pub moved_in : (frame n : ℕ) → ℕ × Puddle → ℕ × Puddle
moved_in frame n e = cond (e.0 == frame) (e.0, moved_to n e.1) e

-- the record with this mode, if it is used
abbrev pub with_mode : ℕ → Option PoolRecord → Option PoolRecord
with_mode mode None = None
with_mode mode (Some r) = Some (record r { mode = mode })

-- the member that the words of this puddle record spell
abbrev pub member_by : PuddleRecord → Member
member_by r = record { pool = r.pool + 1; ordinal = r.ordinal; puddle = record { number = r.number; base = r.base; old_base = r.old_base; frontier = r.frontier; class = r.class } }

-- the record belongs to a puddle of the pool
abbrev pub is_of_pool : ℕ → Option Member → Bool
is_of_pool slot None = false
is_of_pool slot (Some m) = m.pool == slot + 1

-- the tables without the pool of a slot and without its puddles
abbrev pub without_pool_at : ℕ → Tables → Tables
without_pool_at slot t = record {
  frames = t.frames;
  pools = changed_at slot None t.pools;
  puddles = λ frame. cond (is_of_pool slot (t.puddles frame)) None (t.puddles frame);
}
