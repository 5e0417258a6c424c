use Rattle.std.proofs.Common.{inr, ℕ, Some, sym, ap, ap₂, ◌∙◌, arith}
use Rattle.std.specs.Prelude.{option_map}
use Rattle.pud_defs.specs.declared.layout.TheConstants.{DAEMON_LOG}
use Rattle.pud_defs.specs.declared.records.TheConstants.{MAX_PUDDLES}
use Rattle.pud_defs.specs.Logging.Replay.{settled_by}
use Rattle.pud_defs.specs.RegistryTables.Puddles.{puddle_record_at}
use Rattle.pud_defs.proofs.Logging.Replay.{outside_log}
use Rattle.soundness.specs.Distinct.{joined_key, mark_index}
use Rattle.soundness.proofs.Marks.{free_record, place_used}
use Rattle.soundness.proofs.distinct.place_at.Goals as goal

pub returns-then-member-eq0-clause-place : goal.returns-then-member-eq0-clause-place
returns-then-member-eq0-clause-place g c = λ t image same over frames below.
    let read = (rw c.puddle_record_at.ensures at c.in_ok-member.ensures.value) t image same over (outside_log DAEMON_LOG (puddle_record_at c.args.frame) (inr (omega arith))) in
    sym (ap (option_map mark_index) (free_record frames (settled_by DAEMON_LOG image) c.args.frame below (sym read ∙ c.if-member-eq0.true)))

pub returns-clause-place : goal.returns-clause-place
returns-clause-place g c = λ t image same over frames below.
    let read = (rw c.puddle_record_at.ensures at c.in_ok-member.ensures.value) t image same over (outside_log DAEMON_LOG (puddle_record_at c.args.frame) (inr (omega arith))) in
    ap Some (c.joined-place.ensures.number ∙ ap₂ (λ (p o : ℕ). joined_key MAX_PUDDLES p o) c.member_pool.ensures (c.from.ensures ∙ c.member_ordinal.ensures))
    ∙ place_used frames (settled_by DAEMON_LOG image) c.args.frame c.in_ok-member.member below read c.if-member-eq0.false
