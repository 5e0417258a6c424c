use Rattle.std.proofs.Common.{inr, not, eqb, ℕ, ◌-◌, ap, sym, ◌∙◌, arith}
use Rattle.pud_defs.specs.declared.layout.TheConstants.{DAEMON_LOG}
use Rattle.pud_defs.specs.Logging.Replay.{settled_by}
use Rattle.pud_defs.specs.RegistryTables.Pools.{pool_record_at}
use Rattle.pud_defs.proofs.Logging.Replay.{outside_log}
use Rattle.soundness.proofs.Tabled.{pool_there, pool_zero, pool_beyond}
use Rattle.soundness.proofs.tables.is_pool.Goals as goal
use Rattle.soundness.proofs.tables.is_pool.Goals.{then-pool-eq0-via-then-pool-eq0, then-pool-eq0-via-else-pool-eq0+then-pool-gt-POOL_RECORDS}

pub returns-then-pool-eq0-clause-used : goal.returns-then-pool-eq0-clause-used
returns-then-pool-eq0-clause-used g c = λ t image same over F. elim c.then-pool-eq0.branch [
  | then-pool-eq0-via-then-pool-eq0 w ↦ sym (pool_zero F (settled_by DAEMON_LOG image) c.args.pool w.if-pool-eq0.true)
  | then-pool-eq0-via-else-pool-eq0+then-pool-gt-POOL_RECORDS w ↦ sym (pool_beyond F (settled_by DAEMON_LOG image) c.args.pool w.if-pool-gt-POOL_RECORDS.true)
]

pub returns-clause-used : goal.returns-clause-used
returns-clause-used g c = λ t image same over F.
    let word = (rw c.pool_record_at.ensures at c.in_ok-first.ensures.value) t image same over (outside_log DAEMON_LOG (pool_record_at (c.args.pool - 1)) (inr (omega arith))) in
    ap (λ (w : ℕ). not (eqb w 0)) word ∙ sym (pool_there F (settled_by DAEMON_LOG image) c.args.pool c.if-pool-eq0.false (omega arith))
