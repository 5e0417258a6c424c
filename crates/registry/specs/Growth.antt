-- A pool that grows by one puddle: where the puddle stands or why the pool does not grow, what its batch writes, and
-- what the world is afterwards.
use Rattle.std.specs.Prelude.{◌≡◌, ◌⊎◌, ℕ, ◌+◌, Bool, true, not, ◌&&◌, ◌==◌, nat_lt, cond, List, [], ◌∷◌, ◌++◌, length, slice_index, Option, Some, None, is_none}
use Rattle.pm_model.specs.Words.{Words, reads}
use Rattle.pm_model.specs.Changes.{Write}
use Rattle.pm_model.specs.Masks.{masked}
use Rattle.pud_defs.specs.declared.layout.TheConstants.{NUMBER_LIMIT}
use Rattle.pud_defs.specs.declared.machine.Refusal.{Refusal}
use Rattle.pud_defs.specs.declared.machine.Refusal.TheVariants as refusals
use Rattle.pud_defs.specs.declared.records.TheConstants.{MAX_PUDDLES}
use Rattle.pud_defs.specs.declared.records.Puddle.{Puddle}
use Rattle.pud_defs.specs.declared.records.Put.{Put}
use Rattle.pud_defs.specs.declared.records.PoolRecord.{PoolRecord}
use Rattle.pud_defs.specs.RegistryTables.Keyed.{first_free, count_used}
use Rattle.pud_defs.specs.Formats.Frames.{fresh_frame}
use Rattle.pud_defs.specs.PoolGraphs.Graph.{Graph}
use Rattle.pud_defs.specs.PoolGraphs.Holdings.Holding.{Sound, Wild}
use Rattle.pud_defs.specs.RegistryTables.Puts.{member_by}
use Rattle.pud_defs.specs.PoolGraphs.Stored.{Stored}
use Rattle.pud_defs.specs.RegistryTables.Tables.{Tables, Pool, tables_of, members}
use Rattle.pud_defs.specs.StateMachine.PoolChanges.{pool_named, changed_pool, with_grown_pool}
use Rattle.pud_defs.specs.StateMachine.World.{StoredWorld}
use Rattle.graph_laws.specs.Reads.{with_puddle}
use Rattle.batch.specs.Worlds.{IsQuiescent}
use Rattle.registry.specs.declared.adding.NewPuddle.{NewPuddle}
use Rattle.registry.specs.Adding.{IsNewPuddle, IsOffAdding, adding}
use Rattle.registry.specs.Pools.{IsPoolAt}

-- ---- where the puddle stands

-- how many puddles the pool of a slot has by these tables
abbrev pub puddle_count : Tables → ℕ → ℕ
puddle_count t slot = count_used (members t slot) 0 t.frames

-- a pool of this many puddles may have one more, and a UUID number is left
abbrev pub has_room_to_grow : (puddles next : ℕ) → Bool
has_room_to_grow puddles next = nat_lt puddles MAX_PUDDLES && nat_lt next NUMBER_LIMIT

-- Why a pool of this many puddles does not grow, if `next` is the next UUID number. Either it may not have one more or
-- no number is left; or no frame is free.
abbrev pub grow_refusal : Tables → (next puddles : ℕ) → Option Refusal
grow_refusal t next puddles = cond (not (has_room_to_grow puddles next)) (Some refusals.Full) (cond (is_none (first_free t.puddles 0 t.frames)) (Some refusals.Space) None)

-- The puddle is the new one with the next UUID number, in the pool of a slot. The pool has this many puddles and may
-- have one more.
pub record IsGrowthFor (t : Tables) (next slot puddles : ℕ) (a : NewPuddle) : Type 0 where
  pub puddle : IsNewPuddle t slot puddles next a
  pub room : has_room_to_grow puddles next ≡ true

-- ---- what its batch writes

-- the changes by which a pool grows: its puddle is added
abbrev pub growing : NewPuddle → List Put
growing a = adding (a.puddle.number + 1) (a ∷ [])

-- ---- worlds

-- the world has a pool of the name, and the pool has this graph
pub record PoolHasGraph (name : List ℕ) (s : StoredWorld) (g : Graph) : Type 0 where
  pub pool : Pool
  pub there : pool_named name s ≡ Some pool
  pub holds : pool.holding ≡ Sound g

-- ---- a pool without a graph

-- the world has a pool of the name, the pool has no graph, and this is what it keeps
pub record PoolHasNoGraph (name : List ℕ) (s : StoredWorld) (kept : Stored) : Type 0 where
  pub pool : Pool
  pub there : pool_named name s ≡ Some pool
  pub holds : pool.holding ≡ Wild kept

-- the puddle as its record describes it, without its pool and its ordinal
abbrev pub added_puddle : NewPuddle → Puddle
added_puddle a = (member_by a.puddle).puddle

-- what is kept once this puddle comes after the others: its record, and the words of its frame, which are those of a
-- new puddle's frame
abbrev pub kept_longer : Puddle → Stored → Stored
kept_longer d kept = with_puddle d (λ o k. cond (o == length kept.puddles) (slice_index (fresh_frame d.number o) k) (kept.word o k)) kept

-- the pool with this one more puddle; it has no graph either
abbrev pub with_kept_longer : Puddle → Stored → Pool → Pool
with_kept_longer d kept p = record p { classes = p.classes ++ d.class ∷ []; holding = Wild (kept_longer d kept) }

-- the world in which the pool of this name, which kept `kept`, has this one more puddle, and took the next UUID number
unfoldable pub with_wild_grown : List ℕ → Puddle → Stored → StoredWorld → StoredWorld
with_wild_grown name d kept s = record s { next_number = s.next_number + 1; pools = changed_pool name (with_kept_longer d kept) s.pools }

-- With this one more puddle in the pool of the name, world s becomes the next one. A pool with a graph has the same
-- graph. A pool without one keeps the puddle too.
abbrev pub IsGrownBy : List ℕ → StoredWorld → Puddle → StoredWorld → Type 0
IsGrownBy name s d next =
    ((g : Graph) × PoolHasGraph name s g × (next ≡ with_grown_pool name d.class s)) ⊎ ((kept : Stored) × PoolHasNoGraph name s kept × (next ≡ with_wild_grown name d kept s))

-- The mask covers no word that the puddle takes. With it, the device is quiescent, the tables are durable, and the
-- puddle is the one by which an existing pool grows. With the puddle in that pool, the world is the next one.
pub record GrowsAt (size : ℕ) (s next : StoredWorld) (F : ℕ) (a : NewPuddle) (mask : Write) (words : Words) : Type 0 where
  pub frames : F ≡ s.frames
  pub off : IsOffAdding mask F a (growing a)
  pub settled : IsQuiescent size s (masked mask words)
  pub pool : PoolRecord
  pub at : IsPoolAt s.frames a.puddle.pool pool (masked mask words)
  pub is : IsGrowthFor (tables_of s.frames (reads (masked mask words))) s.next_number a.puddle.pool (puddle_count (tables_of s.frames (reads (masked mask words))) a.puddle.pool) a
  pub grown : IsGrownBy pool.name s (added_puddle a) next
