-- What the daemon knows about pools.
use Rattle.std.specs.Prelude.{◌≡◌, ℕ, Bool, List, Option, Some, None, slice_index_or, set, option_map}
use Rattle.pud_defs.specs.declared.records.Puddle.{Puddle}
use Rattle.pud_defs.specs.Formats.Image.{Image}
use Rattle.pud_defs.specs.PoolGraphs.Stored.{IsOnDevice, stored_in}
use Rattle.known_pool.specs.Known.{Known, IsKnown, after_end}
use Rattle.daemon_memory.specs.Owning.{IsRecordSlot}
use Rattle.pud_defs.specs.RegistryTables.Types.{types_of}
use Rattle.pud_defs.specs.PoolGraphs.Graph.{graph_of}
use Rattle.pud_defs.specs.RegistryTables.Tables.{tables_of, puddles_in_turn}

-- The puddles of the pool in this slot as they are read, if they have a graph.
unfoldable pub puddles_with_graph : ℕ → Image → (slot : ℕ) → Option (List (ℕ × Puddle))
puddles_with_graph F image slot =
    let puddles = puddles_in_turn (tables_of F image) slot in
    option_map (λ graph. puddles) (graph_of (types_of image) (stored_in F puddles image))

-- What is known about the pool in a slot.
abbrev pub known_pool_in : List (Option Known) → (slot : ℕ) → Option Known
known_pool_in known_pools slot = slice_index_or known_pools slot None

-- A pool's puddles, by what is known about it.
abbrev pub puddles_known : Option Known → Option (List (ℕ × Puddle))
puddles_known known = option_map (λ known. known.puddles) known

-- The known puddles of the pool in a slot.
abbrev pub known_puddles_in : List (Option Known) → (slot : ℕ) → Option (List (ℕ × Puddle))
known_puddles_in known_pools slot = puddles_known (known_pool_in known_pools slot)

-- What is known after a transaction on the pool in this slot has ended. If nothing is known about that pool, nothing
-- changes.
abbrev pub known_after_end : (undone deferred : Bool) → (slot : ℕ) → List (Option Known) → List (Option Known)
known_after_end undone deferred slot known_pools = set known_pools slot (option_map (after_end undone deferred) (known_pool_in known_pools slot))

-- All known puddles lie in frames of the device.
pub record AreOnDevice (F : ℕ) (known_pools : List (Option Known)) : Type 0 where
  pub each : (slot : ℕ) (at : List (ℕ × Puddle)) → known_puddles_in known_pools slot ≡ Some at → IsOnDevice F at

-- What is known about each pool is what a scan gives: its puddles, that they have a graph, its index if one is kept,
-- and up to which place each slot is live.
pub record AreKnownPools (F : ℕ) (known_pools : List (Option Known)) (image : Image) : Type 0 where
  pub each : (slot : ℕ) (at : List (ℕ × Puddle)) → known_puddles_in known_pools slot ≡ Some at → puddles_with_graph F image slot ≡ Some at
  pub known : (slot : ℕ) (known : Known) → known_pool_in known_pools slot ≡ Some known → IsKnown F image known

-- What was known about the pool of this name is forgotten, and about others the same is known as before.
pub record ForgetsPool (F : ℕ) (name : List ℕ) (image : Image) (old new : List (Option Known)) : Type 0 where
  pub slot : ℕ
  pub is : IsRecordSlot F name image slot
  pub forgotten : new ≡ set old slot None
