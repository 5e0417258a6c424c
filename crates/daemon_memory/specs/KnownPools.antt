-- What the daemon knows about pools, and about those among them on which a transaction is active.
use Rattle.std.specs.Prelude.{◌≡◌, ℕ, List, Option, Some}
use Rattle.pud_defs.specs.Formats.Image.{Image}
use Rattle.hybrid_tx.specs.Open.ManyOpen.{OpenTransaction, Opens}
use Rattle.known_pool.specs.Known.{Known}
use Rattle.daemon_memory.specs.PoolKnowledge.{known_puddles_in, AreKnownPools}

-- What is known about pools is true. Each pool on which a transaction is open is known, with the puddles on which it is
-- open.
pub record KnowsPools (F : ℕ) (known : List (Option Known)) (opens : Opens) (image : Image) : Type 0 where
  pub known_pools : AreKnownPools F known image
  pub open_pools : (number : ℕ) (o : OpenTransaction) → opens number ≡ Some o → known_puddles_in known o.pool.slot ≡ Some o.pool.puddles
