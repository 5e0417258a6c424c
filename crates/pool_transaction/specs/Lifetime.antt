-- When a transaction may begin on a pool, and what is in memory after it has begun and after it has ended.
use Rattle.std.specs.Prelude.{◌≡◌, ℕ, Bool, ◌<◌, List, length, set, Option, Some, None}
use Rattle.pud_defs.specs.declared.records.Puddle.{Puddle}
use Rattle.pud_defs.specs.Formats.Image.{Image}
use Rattle.log_space.specs.FreeLogs.{first_closed}
use Rattle.nesting.specs.Sessions.{session_in, entered}
use Rattle.daemon_memory.specs.Beginning.{MayBegin}
use Rattle.known_pool.specs.Known.{Known}
use Rattle.daemon_memory.specs.PoolKnowledge.{known_puddles_in, known_after_end}
use Rattle.daemon_memory.specs.Memory.{ActiveTransaction, Memory}

-- The client may begin a transaction on the pool with the name. The pool's record has this slot, the daemon knows the
-- pool, and the pool has no session. The transaction gets the log with this number, the lowest of the client's own logs
-- that is closed. Memory has a place for its session.
pub record MayBeginIn (memory : Memory) (image : Image) (client : ℕ) (name : List ℕ) (slot number : ℕ) : Type 0 where
  pub lowest : Some number ≡ first_closed image memory.frames client
  pub unheld : session_in memory.sessions slot ≡ None
  pub at : List (ℕ × Puddle)
  pub known : known_puddles_in memory.known_pools slot ≡ Some at
  pub may : MayBegin memory.frames client name image slot at
  pub fits : slot < length memory.sessions

-- The memory after this transaction has begun: it is active under its log number, and has its session.
abbrev pub with_begun : ActiveTransaction → Memory → Memory
with_begun active memory = record memory { active = set memory.active active.log_number (Some active); sessions = entered active.client active.slot active.log_number memory.sessions }

-- The memory after this transaction has ended: it is no longer active, its session has ended, and the daemon knows this
-- about its pool.
abbrev pub with_ended : (number : ℕ) → ActiveTransaction → Known → Memory → Memory
with_ended number active known memory = record memory { active = set memory.active number None; sessions = set memory.sessions active.slot None; known_pools = set memory.known_pools active.slot (Some known) }

-- What is known about pools after this transaction was taken out, to be undone or committed.
abbrev pub judged_after : (undone : Bool) → Option ActiveTransaction → List (Option Known) → List (Option Known)
judged_after undone None known_pools = known_pools
judged_after undone (Some active) known_pools = known_after_end undone active.tx.log.defers active.slot known_pools
