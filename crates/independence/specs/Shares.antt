-- A pool's share of a world: all that a tenant sees of the pool.
use Rattle.std.specs.Prelude.{◌≡◌, ℕ, List, Option, Some, None, option_map}
use Rattle.pud_defs.specs.PoolGraphs.Holdings.{graph_held}
use Rattle.pud_defs.specs.RegistryTables.Tables.{Pool}
use Rattle.pud_defs.specs.StateMachine.PoolChanges.{pool_named}
use Rattle.pud_defs.specs.StateMachine.World.{Transaction, World, open_on}

-- the pool without its UUID number: the number is set to 0
abbrev pub unnumbered : Pool → Pool
unnumbered p = record p { number = 0 }

-- the same for a pool that may be absent
abbrev pub seen : Option Pool → Option Pool
seen pool = option_map unnumbered pool

-- The pool without its UUID number, and the transaction that is open on it.
pub record Share : Type 0 where
  pub pool : Option Pool
  pub transaction : Option Transaction

-- the share of the pool with this name in the world
abbrev pub share : World → List ℕ → Share
share w name = record { pool = seen (pool_named name w.stored); transaction = open_on name w }

-- Two pools have the same user, group, mode, classes of puddles, and graph.
pub record AreAlike (p q : Pool) : Type 0 where
  pub uid : p.owner.uid ≡ q.owner.uid
  pub gid : p.owner.gid ≡ q.owner.gid
  pub mode : p.mode ≡ q.mode
  pub classes : p.classes ≡ q.classes
  pub graph : graph_held p.holding ≡ graph_held q.holding

-- both pools are absent, or both are there and are alike
abbrev pub AreAlikeOrAbsent : Option Pool → Option Pool → Type 0
AreAlikeOrAbsent None None = Unit {0}
AreAlikeOrAbsent None (Some q) = ⊥
AreAlikeOrAbsent (Some p) None = ⊥
AreAlikeOrAbsent (Some p) (Some q) = AreAlike p q

-- In both worlds the pool of this name is absent, or it has the same user, group, mode, classes of puddles, and graph.
-- In both worlds the same transaction is open on it, or none.
pub record IsSamePool (name : List ℕ) (w v : World) : Type 0 where
  pub pool : AreAlikeOrAbsent (pool_named name w.stored) (pool_named name v.stored)
  pub transaction : open_on name w ≡ open_on name v
