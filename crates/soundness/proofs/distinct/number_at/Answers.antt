use Rattle.std.proofs.Common.{inr, ℕ, ◌+◌, Some, sym, ap, ◌∙◌, arith}
use Rattle.std.specs.Prelude.{option_map}
use Rattle.pud_defs.specs.declared.layout.TheConstants.{DAEMON_LOG}
use Rattle.pud_defs.specs.Logging.Replay.{settled_by}
use Rattle.pud_defs.specs.RegistryTables.Puddles.{puddle_record_at}
use Rattle.pud_defs.proofs.Logging.Replay.{outside_log}
use Rattle.soundness.specs.Distinct.{key_by, key_of}
use Rattle.soundness.proofs.Marks.{free_record, number_used}
use Rattle.pm_model.proofs.Reading.{still_reads}
use Rattle.soundness.proofs.distinct.number_at.Goals as goal

pub returns-then-member-eq0-clause-number : goal.returns-then-member-eq0-clause-number
returns-then-member-eq0-clause-number g c = λ t image same over frames below.
    let read = (rw c.puddle_record_at-at.ensures at c.in_ok-member.ensures.value) t image same over (outside_log DAEMON_LOG (puddle_record_at c.args.frame) (inr (omega arith))) in
    sym (ap (option_map (key_of c.args.key)) (free_record frames (settled_by DAEMON_LOG image) c.args.frame below (sym read ∙ c.if-member-eq0.true)))

pub returns-clause-number : goal.returns-clause-number
returns-clause-number g c = λ t image same over frames below.
    let settled = settled_by DAEMON_LOG image in
    let read = (rw c.puddle_record_at-at.ensures at c.in_ok-member.ensures.value) t image same over (outside_log DAEMON_LOG (puddle_record_at c.args.frame) (inr (omega arith))) in
    let following = still_reads c.word.ensures.only_reads t same in
    let base = (rw c.puddle_record_at-at.ensures at c.in_ok-base.ensures.value) t image following over (outside_log DAEMON_LOG (puddle_record_at c.args.frame + c.word-2.result) (inr (omega arith))) in
    ap Some (c.number.ensures ∙ ap (λ (p : ℕ). key_by c.args.key p c.in_ok-base.base) c.member_pool.ensures)
    ∙ number_used c.args.key frames settled c.args.frame c.in_ok-member.member c.in_ok-base.base below read c.if-member-eq0.false
    (base ∙ ap (λ (k : ℕ). settled (puddle_record_at c.args.frame + k)) c.word-2.ensures)
