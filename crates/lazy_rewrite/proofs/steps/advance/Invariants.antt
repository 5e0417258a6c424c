use Rattle.std.proofs.Common.{◌≡◌, ℕ, ◌+◌, ◌*◌, min, Some, None}
use Rattle.std.specs.Prelude.{slice_get}
use Rattle.pm_model.specs.Changes.{Changes}
use Rattle.pud_defs.specs.declared.layout.TheConstants.{DAEMON_LOG}
use Rattle.pud_defs.specs.declared.records.Puddle.{Puddle}
use Rattle.pud_defs.specs.PoolGraphs.Stored.{IsOnDevice}
use Rattle.graph_laws.specs.Steps.{with_steps}
use Rattle.graph_read.specs.Bases.{HasLowBases}
use Rattle.log_replay.specs.Replaying.{Anything}
use Rattle.batch.specs.Batches.{HasIdleGate}
use Rattle.lazy_rewrite.specs.declared.batches.TheConstants.{BATCH_STEPS}
use Rattle.lazy_rewrite.specs.Frontiers.{stepped_at, frontier_at}
use Rattle.lazy_rewrite.specs.Batches.{Rewrites}
use Rattle.lazy_rewrite.proofs.steps.advance.Given as goal

abbrev pub invariant-loop-round : goal.invariant-loop-round
invariant-loop-round g l = record {
  cause : g.H.Host.counts l.h ≡ g.H.Host.counts l.fn.h;
  any : g.H.Host.tells → Changes Anything None (g.H.Host.state l.fn.h) (g.H.Host.state l.h);
  known : IsOnDevice l.fn.frames l.pool;
  pool : (e : ℕ × Puddle) → slice_get l.fn.pool l.fn.ordinal ≡ Some e → l.pool ≡ with_steps l.fn.ordinal (e.1.frontier + min (BATCH_STEPS * l.round) l.steps) e l.fn.pool;
  rewrites : g.H.Host.tells → (size : ℕ) → size ≡ (g.H.Host.counts l.fn.h).size → HasIdleGate DAEMON_LOG (g.H.Host.state l.fn.h).now.words → HasLowBases l.fn.pool
      → Rewrites l.fn.frames (frontier_at l.fn.ordinal (stepped_at l.fn.ordinal l.fn.n l.fn.pool)) l.fn.pool l.pool None (g.H.Host.state l.fn.h) (g.H.Host.state l.h);
}
