use Rattle.std.proofs.Common.{sym, ◌∙◌}
use Rattle.soundness.proofs.Judged.{is_overlay, frames_are, unsound_log, sound_by}
use Rattle.pm_model.proofs.Reading.{still_reads}
use Rattle.soundness.proofs.judge.log_of_sound.Goals as goal

pub returns-then-not-has_legal_log-clause-sound : goal.returns-then-not-has_legal_log-clause-sound
returns-then-not-has_legal_log-clause-sound g c = λ t image same size described.
    let legal = c.has_legal_log.ensures image (c.in_ok-overlay.ensures.log t image same) (frames_are size image c.args.frames described) in
    sym (unsound_log size image (sym legal ∙ c.if-not-has_legal_log.true))

pub returns-then-not-branch-clause-sound : goal.returns-then-not-branch-clause-sound
returns-then-not-branch-clause-sound g c = λ t image same size described.
    let log = c.in_ok-overlay.ensures.log t image same in
    let legal = sym (c.has_legal_log.ensures image log (frames_are size image c.args.frames described)) ∙ c.if-not-has_legal_log.false in
    let following = still_reads c.of.ensures.only_reads t same in
    sym c.if-not-branch.true ∙ c.in_ok-is_registry.ensures.sound t image following (is_overlay c.in_ok-overlay.overlay image log legal) legal size described ∙ sound_by size image legal

pub returns-clause-sound : goal.returns-clause-sound
returns-clause-sound g c = λ t image same size described.
    let log = c.in_ok-overlay.ensures.log t image same in
    let legal = sym (c.has_legal_log.ensures image log (frames_are size image c.args.frames described)) ∙ c.if-not-has_legal_log.false in
    let following = still_reads c.of.ensures.only_reads t same in
    sym c.if-not-branch.false ∙ c.in_ok-is_registry.ensures.sound t image following (is_overlay c.in_ok-overlay.overlay image log legal) legal size described ∙ sound_by size image legal
