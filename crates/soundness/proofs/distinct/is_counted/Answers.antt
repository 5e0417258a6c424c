use Rattle.std.proofs.Common.{inr, Bool, ◌||◌, sym, ap, ◌∙◌, arith}
use Rattle.std.proofs.lemmas.Bool.{or_left}
use Rattle.pud_defs.specs.declared.layout.TheConstants.{DAEMON_LOG}
use Rattle.pud_defs.specs.Logging.Replay.{settled_by}
use Rattle.pud_defs.specs.RegistryTables.Pools.{pool_record_at}
use Rattle.pud_defs.proofs.Logging.Replay.{outside_log}
use Rattle.soundness.specs.Distinct.{is_marked_at, counts_up}
use Rattle.soundness.proofs.Marks.{free_pool, used_pool}
use Rattle.soundness.proofs.distinct.is_counted.Goals as goal

pub returns-then-branch-eq0-clause-counted : goal.returns-then-branch-eq0-clause-counted
returns-then-branch-eq0-clause-counted g c = λ t image same over frames.
    let word = (rw c.pool_record_at.ensures at c.in_ok-word.ensures.value) t image same over (outside_log DAEMON_LOG (pool_record_at c.args.slot) (inr (omega arith))) in
    sym (or_left _ (counts_up (is_marked_at c.args.marks.now c.args.slot)) (free_pool frames (settled_by DAEMON_LOG image) c.args.slot (omega arith) (sym word ∙ c.if-branch-eq0.true)))

pub returns-clause-counted : goal.returns-clause-counted
returns-clause-counted g c = λ t image same over frames.
    let word = (rw c.pool_record_at.ensures at c.in_ok-word.ensures.value) t image same over (outside_log DAEMON_LOG (pool_record_at c.args.slot) (inr (omega arith))) in
    c.counts_up.ensures
    ∙ ap (λ (b : Bool). b || counts_up (is_marked_at c.args.marks.now c.args.slot))
    (sym (used_pool frames (settled_by DAEMON_LOG image) c.args.slot (omega arith) (λ free. c.if-branch-eq0.false (word ∙ free))))
