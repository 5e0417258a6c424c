use Rattle.std.proofs.Common.{◌≡◌, ℕ, ◌+◌, ◌-◌, ◌≤◌, min, length, None}
use Rattle.pm_model.specs.Changes.{Changes}
use Rattle.pud_defs.specs.declared.layout.TheConstants.{DAEMON_LOG}
use Rattle.pud_defs.specs.PoolGraphs.Stored.{IsOnDevice}
use Rattle.graph_read.specs.Bases.{HasLowBases}
use Rattle.log_replay.specs.Replaying.{Anything}
use Rattle.batch.specs.Batches.{HasIdleGate}
use Rattle.lazy_rewrite.specs.Frontiers.{left_among, steps_from, frontiers_of}
use Rattle.lazy_rewrite.specs.Batches.{Rewrites}
use Rattle.lazy_rewrite.proofs.Moved.{steps_after, left_after}
use Rattle.lazy_rewrite.proofs.steps.pass.Given as goal

abbrev pub invariant-loop-ordinal : goal.invariant-loop-ordinal
invariant-loop-ordinal g l = record {
  cause : g.H.Host.counts l.h ≡ g.H.Host.counts l.fn.h;
  any : g.H.Host.tells → Changes Anything None (g.H.Host.state l.fn.h) (g.H.Host.state l.h);
  known : IsOnDevice l.fn.frames l.pool;
  long : length l.pool ≡ length l.fn.pool;
  low : HasLowBases l.fn.pool → HasLowBases l.pool;
  few : l.done ≤ l.fn.n;
  counted : l.done + min (l.fn.n - l.done) (left_after l.ordinal l.pool) ≡ min l.fn.n (left_among l.fn.pool);
  pool : steps_after l.ordinal (l.fn.n - l.done) l.pool ≡ steps_from l.fn.n l.fn.pool;
  rewrites : g.H.Host.tells → (size : ℕ) → size ≡ (g.H.Host.counts l.fn.h).size → HasIdleGate DAEMON_LOG (g.H.Host.state l.fn.h).now.words → HasLowBases l.fn.pool
      → Rewrites l.fn.frames (frontiers_of (steps_from l.fn.n l.fn.pool)) l.fn.pool l.pool None (g.H.Host.state l.fn.h) (g.H.Host.state l.h);
}
