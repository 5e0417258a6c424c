use Rattle.std.proofs.Common.{ℕ, None, Some, refl, sym, ap, subst, ◌∙◌}
use Rattle.std.proofs.lemmas.Result.{err_from_is_err_and}
use Rattle.pm_model.specs.Words.{Words, reads}
use Rattle.pm_model.proofs.Changes.{Changes-said}
use Rattle.pud_defs.specs.RegistryTables.Registry.{frames_of}
use Rattle.pud_defs.specs.StateMachine.World.{world_of, closed, restart}
use Rattle.daemon_memory.specs.Memory.{Memory}
use Rattle.daemon_memory.specs.Ready.{IsReady}
use Rattle.daemon_memory.proofs.Commands.Keeping.{KeepsRest-changes, KeepsRest-then}
use Rattle.puddled.specs.Starting.{AreMarks, IsReplayed}
use Rattle.puddled.proofs.DeviceStarts.Emptied.{IsAfterRecovery, idle_gate, after_recovery}
use Rattle.puddled.proofs.DeviceStarts.Restarts.{refused_stays, recovered, ready_after, sound_recovery, recovered_any}
use Rattle.puddled.proofs.LinesDone.Lines.{words_said, shelf_said, IsReady-said, KeepsInput-rest, KeepsInput-then, KeepsInput-says}
use Rattle.puddled.proofs.DeviceStarts.Beginning.{SaysPart-lines, SaysPart-after_lines, SaysPart-ready, In-lines, In-emptied, In-upgraded, In-ready, recovered_lines, SaysPart-unsaid, ready_last, Starts-refused}
use Rattle.puddled.proofs.daemon.Daemon.start.Goals as goal

-- ---- the device was not recovered

pub returns-in_err-report-clause-starts : goal.returns-in_err-report-clause-starts
returns-in_err-report-clause-starts g c =
    let p = err_from_is_err_and c.from_residual.result c.from_residual.ensures.1 in
    rw (p.1, p.2) (λ t size same w rested world shelf.
    let a = g.H.Host.state c.args.h.now in
    let fault = c.in_err-report.field-0.0 in
    let here = ap (λ (n : ℕ). world_of n (reads a.now.words)) (sym same) ∙ world in
    Starts-refused size w a world (g.H.Host.state c.recover.new.h) fault (sound_recovery _ w fault a here (c.in_err-report.ensures.not_sound t))
    (KeepsRest-changes _ _ _ _ (c.in_err-report.ensures.any t)) (c.in_err-report.ensures.recovers t size same (closed w) rested world))

pub returns-in_err-report-clause-says : goal.returns-in_err-report-clause-says
returns-in_err-report-clause-says g c =
    let p = err_from_is_err_and c.from_residual.result c.from_residual.ensures.1 in
    rw (p.1, p.2) (λ t sound. SaysPart-unsaid _ c.in_err-report.field-0.0 _ _ sound (Changes-said _ _ _ _ (c.in_err-report.ensures.any t)))

pub returns-in_err-report-clause-unchanged : goal.returns-in_err-report-clause-unchanged
returns-in_err-report-clause-unchanged g c =
    let p = err_from_is_err_and c.from_residual.result c.from_residual.ensures.1 in
    rw (p.1, p.2) (λ t refused. refused_stays _ _ _ c.in_err-report.field-0.0 (c.in_err-report.ensures.not_sound t) (c.in_err-report.ensures.unsound_stays t) refused)

pub returns-in_err-report-clause-rest : goal.returns-in_err-report-clause-rest
returns-in_err-report-clause-rest g c = λ t. KeepsInput-rest _ _ (KeepsRest-changes _ _ _ _ (c.in_err-report.ensures.any t))

-- ---- the lines on refused logs were not all printed

pub returns-in_err-say_refused-clause-starts : goal.returns-in_err-say_refused-clause-starts
returns-in_err-say_refused-clause-starts g c =
    let p = err_from_is_err_and c.from_residual-in_err-say_refused.result c.from_residual-in_err-say_refused.ensures.1 in
    let fault = c.in_err-say_refused.field-0.0 in
    rw (p.1, p.2) (λ t size same w rested world shelf.
    let a = g.H.Host.state c.args.h.now in
    let b = g.H.Host.state c.recover.new.h in
    let i = reads a.now.words in
    let marks : AreMarks i c.in_ok-report.report.marks = record { each = λ number few. c.in_ok-report.ensures.refused t i refl number few } in
    let rest = KeepsRest-changes _ _ a b (c.in_ok-report.ensures.any t) in
    let c1 = g.H.Host.state c.say_refused.new.h in
    let lines = c.in_err-say_refused.ensures.says t i marks in
    let replays = c.in_ok-report.ensures.replays t size same (closed w) world in
    let recovers = c.in_ok-report.ensures.recovers t size same (closed w) rested world in
    let kept = KeepsInput-says _ _ a b c1 (KeepsInput-rest a b rest) lines in
    record {
      says = SaysPart-lines i a b rest.quiet fault fault c1 lines;
      moments = In-lines size w a world b rest.quiet replays recovers c1 (Some fault) lines;
      last = tt;
      ready = tt;
      script = kept.script;
      shelf = kept.shelf;
    })

pub returns-in_err-say_refused-clause-says : goal.returns-in_err-say_refused-clause-says
returns-in_err-say_refused-clause-says g c =
    let p = err_from_is_err_and c.from_residual-in_err-say_refused.result c.from_residual-in_err-say_refused.ensures.1 in
    rw (p.1, p.2) (λ t sound.
    let a = g.H.Host.state c.args.h.now in
    let b = g.H.Host.state c.recover.new.h in
    let i = reads a.now.words in
    let marks : AreMarks i c.in_ok-report.report.marks = record { each = λ number few. c.in_ok-report.ensures.refused t i refl number few } in
    let rest = KeepsRest-changes _ _ a b (c.in_ok-report.ensures.any t) in
    let c1 = g.H.Host.state c.say_refused.new.h in
    let lines = c.in_err-say_refused.ensures.says t i marks in
    SaysPart-lines i a b rest.quiet _ _ c1 lines)

pub returns-in_err-say_refused-clause-unsound_stays : goal.returns-in_err-say_refused-clause-unsound_stays
returns-in_err-say_refused-clause-unsound_stays g c = λ t none. absurd (recovered ((c.in_ok-report.ensures.not_sound t refl).1 none))

pub returns-in_err-say_refused-clause-rest : goal.returns-in_err-say_refused-clause-rest
returns-in_err-say_refused-clause-rest g c = λ t.
    let a = g.H.Host.state c.args.h.now in
    let b = g.H.Host.state c.recover.new.h in
    let i = reads a.now.words in
    let marks : AreMarks i c.in_ok-report.report.marks = record { each = λ number few. c.in_ok-report.ensures.refused t i refl number few } in
    let rest = KeepsRest-changes _ _ a b (c.in_ok-report.ensures.any t) in
    let c1 = g.H.Host.state c.say_refused.new.h in
    let lines = c.in_err-say_refused.ensures.says t i marks in
    KeepsInput-says _ _ a b c1 (KeepsInput-rest a b rest) lines

-- ---- the log-space table was not emptied

pub returns-in_err-clear_spaces-clause-starts : goal.returns-in_err-clear_spaces-clause-starts
returns-in_err-clear_spaces-clause-starts g c =
    let p = err_from_is_err_and c.from_residual-in_err-clear_spaces.result c.from_residual-in_err-clear_spaces.ensures.1 in
    let fault = c.in_err-clear_spaces.field-0.0 in
    rw (p.1, p.2) (λ t size same w rested world shelf.
    let a = g.H.Host.state c.args.h.now in
    let b = g.H.Host.state c.recover.new.h in
    let i = reads a.now.words in
    let marks : AreMarks i c.in_ok-report.report.marks = record { each = λ number few. c.in_ok-report.ensures.refused t i refl number few } in
    let rest = KeepsRest-changes _ _ a b (c.in_ok-report.ensures.any t) in
    let c1 = g.H.Host.state c.say_refused.new.h in
    let lines = c.in_ok-say_refused.ensures.says t i marks in
    let d = g.H.Host.state c.clear_spaces.new.h in
    let still = KeepsRest-changes _ _ c1 d (c.in_err-clear_spaces.ensures.any t) in
    let replays = c.in_ok-report.ensures.replays t size same (closed w) world in
    let recovers = c.in_ok-report.ensures.recovers t size same (closed w) rested world in
    let empties = c.in_err-clear_spaces.ensures.empties t (idle_gate size (closed w) i world c1 (recovered_lines size w a world b rest.quiet replays recovers c1 lines)) in
    let kept = KeepsInput-then a c1 d (KeepsInput-says _ _ a b c1 (KeepsInput-rest a b rest) lines) still in
    record {
      says = SaysPart-after_lines i a b rest.quiet c1 lines d still.quiet fault;
      moments = In-emptied size w a world b rest.quiet replays recovers c1 lines d (Some fault) empties;
      last = tt;
      ready = tt;
      script = kept.script;
      shelf = kept.shelf;
    })

pub returns-in_err-clear_spaces-clause-says : goal.returns-in_err-clear_spaces-clause-says
returns-in_err-clear_spaces-clause-says g c =
    let p = err_from_is_err_and c.from_residual-in_err-clear_spaces.result c.from_residual-in_err-clear_spaces.ensures.1 in
    rw (p.1, p.2) (λ t sound.
    let a = g.H.Host.state c.args.h.now in
    let b = g.H.Host.state c.recover.new.h in
    let i = reads a.now.words in
    let marks : AreMarks i c.in_ok-report.report.marks = record { each = λ number few. c.in_ok-report.ensures.refused t i refl number few } in
    let rest = KeepsRest-changes _ _ a b (c.in_ok-report.ensures.any t) in
    let c1 = g.H.Host.state c.say_refused.new.h in
    let lines = c.in_ok-say_refused.ensures.says t i marks in
    let d = g.H.Host.state c.clear_spaces.new.h in
    let still = KeepsRest-changes _ _ c1 d (c.in_err-clear_spaces.ensures.any t) in
    SaysPart-after_lines i a b rest.quiet c1 lines d still.quiet _)

pub returns-in_err-clear_spaces-clause-unsound_stays : goal.returns-in_err-clear_spaces-clause-unsound_stays
returns-in_err-clear_spaces-clause-unsound_stays g c = λ t none. absurd (recovered ((c.in_ok-report.ensures.not_sound t refl).1 none))

pub returns-in_err-clear_spaces-clause-rest : goal.returns-in_err-clear_spaces-clause-rest
returns-in_err-clear_spaces-clause-rest g c = λ t.
    let a = g.H.Host.state c.args.h.now in
    let b = g.H.Host.state c.recover.new.h in
    let i = reads a.now.words in
    let marks : AreMarks i c.in_ok-report.report.marks = record { each = λ number few. c.in_ok-report.ensures.refused t i refl number few } in
    let rest = KeepsRest-changes _ _ a b (c.in_ok-report.ensures.any t) in
    let c1 = g.H.Host.state c.say_refused.new.h in
    let lines = c.in_ok-say_refused.ensures.says t i marks in
    let d = g.H.Host.state c.clear_spaces.new.h in
    let still = KeepsRest-changes _ _ c1 d (c.in_err-clear_spaces.ensures.any t) in
    KeepsInput-then a c1 d (KeepsInput-says _ _ a b c1 (KeepsInput-rest a b rest) lines) still

-- ---- the present version was not made durable

pub returns-in_err-upgrade-clause-starts : goal.returns-in_err-upgrade-clause-starts
returns-in_err-upgrade-clause-starts g c =
    let p = err_from_is_err_and c.from_residual-in_err-upgrade.result c.from_residual-in_err-upgrade.ensures.1 in
    let fault = c.in_err-upgrade.field-0.0 in
    rw (p.1, p.2) (λ t size same w rested world shelf.
    let a = g.H.Host.state c.args.h.now in
    let b = g.H.Host.state c.recover.new.h in
    let i = reads a.now.words in
    let marks : AreMarks i c.in_ok-report.report.marks = record { each = λ number few. c.in_ok-report.ensures.refused t i refl number few } in
    let rest = KeepsRest-changes _ _ a b (c.in_ok-report.ensures.any t) in
    let c1 = g.H.Host.state c.say_refused.new.h in
    let lines = c.in_ok-say_refused.ensures.says t i marks in
    let d = g.H.Host.state c.clear_spaces.new.h in
    let still = KeepsRest-changes _ _ c1 d (c.in_ok-clear_spaces.ensures.any t) in
    let e = g.H.Host.state c.upgrade.new.h in
    let upgrades = c.in_err-upgrade.ensures.upgrades t in
    let on = KeepsRest-then c1 d e still (KeepsRest-changes _ _ d e upgrades.changes) in
    let replays = c.in_ok-report.ensures.replays t size same (closed w) world in
    let recovers = c.in_ok-report.ensures.recovers t size same (closed w) rested world in
    let empties = c.in_ok-clear_spaces.ensures.empties t (idle_gate size (closed w) i world c1 (recovered_lines size w a world b rest.quiet replays recovers c1 lines)) in
    let kept = KeepsInput-then a c1 e (KeepsInput-says _ _ a b c1 (KeepsInput-rest a b rest) lines) on in
    record {
      says = SaysPart-after_lines i a b rest.quiet c1 lines e on.quiet fault;
      moments = In-upgraded size w a world b rest.quiet replays recovers c1 lines d empties e (Some fault) upgrades;
      last = tt;
      ready = tt;
      script = kept.script;
      shelf = kept.shelf;
    })

pub returns-in_err-upgrade-clause-says : goal.returns-in_err-upgrade-clause-says
returns-in_err-upgrade-clause-says g c =
    let p = err_from_is_err_and c.from_residual-in_err-upgrade.result c.from_residual-in_err-upgrade.ensures.1 in
    rw (p.1, p.2) (λ t sound.
    let a = g.H.Host.state c.args.h.now in
    let b = g.H.Host.state c.recover.new.h in
    let i = reads a.now.words in
    let marks : AreMarks i c.in_ok-report.report.marks = record { each = λ number few. c.in_ok-report.ensures.refused t i refl number few } in
    let rest = KeepsRest-changes _ _ a b (c.in_ok-report.ensures.any t) in
    let c1 = g.H.Host.state c.say_refused.new.h in
    let lines = c.in_ok-say_refused.ensures.says t i marks in
    let d = g.H.Host.state c.clear_spaces.new.h in
    let still = KeepsRest-changes _ _ c1 d (c.in_ok-clear_spaces.ensures.any t) in
    let e = g.H.Host.state c.upgrade.new.h in
    let upgrades = c.in_err-upgrade.ensures.upgrades t in
    let on = KeepsRest-then c1 d e still (KeepsRest-changes _ _ d e upgrades.changes) in
    SaysPart-after_lines i a b rest.quiet c1 lines e on.quiet _)

pub returns-in_err-upgrade-clause-unsound_stays : goal.returns-in_err-upgrade-clause-unsound_stays
returns-in_err-upgrade-clause-unsound_stays g c = λ t none. absurd (recovered ((c.in_ok-report.ensures.not_sound t refl).1 none))

pub returns-in_err-upgrade-clause-rest : goal.returns-in_err-upgrade-clause-rest
returns-in_err-upgrade-clause-rest g c = λ t.
    let a = g.H.Host.state c.args.h.now in
    let b = g.H.Host.state c.recover.new.h in
    let i = reads a.now.words in
    let marks : AreMarks i c.in_ok-report.report.marks = record { each = λ number few. c.in_ok-report.ensures.refused t i refl number few } in
    let rest = KeepsRest-changes _ _ a b (c.in_ok-report.ensures.any t) in
    let c1 = g.H.Host.state c.say_refused.new.h in
    let lines = c.in_ok-say_refused.ensures.says t i marks in
    let d = g.H.Host.state c.clear_spaces.new.h in
    let still = KeepsRest-changes _ _ c1 d (c.in_ok-clear_spaces.ensures.any t) in
    let e = g.H.Host.state c.upgrade.new.h in
    let upgrades = c.in_err-upgrade.ensures.upgrades t in
    let on = KeepsRest-then c1 d e still (KeepsRest-changes _ _ d e upgrades.changes) in
    KeepsInput-then a c1 e (KeepsInput-says _ _ a b c1 (KeepsInput-rest a b rest) lines) on

-- ---- `ready` was not printed whole

pub returns-in_err-say_ready-clause-starts : goal.returns-in_err-say_ready-clause-starts
returns-in_err-say_ready-clause-starts g c =
    let p = err_from_is_err_and c.from_residual-in_err-say_ready.result c.from_residual-in_err-say_ready.ensures.1 in
    let fault = c.in_err-say_ready.field-0.0 in
    rw (p.1, p.2) (λ t size same w rested world shelf.
    let a = g.H.Host.state c.args.h.now in
    let b = g.H.Host.state c.recover.new.h in
    let i = reads a.now.words in
    let marks : AreMarks i c.in_ok-report.report.marks = record { each = λ number few. c.in_ok-report.ensures.refused t i refl number few } in
    let rest = KeepsRest-changes _ _ a b (c.in_ok-report.ensures.any t) in
    let c1 = g.H.Host.state c.say_refused.new.h in
    let lines = c.in_ok-say_refused.ensures.says t i marks in
    let d = g.H.Host.state c.clear_spaces.new.h in
    let still = KeepsRest-changes _ _ c1 d (c.in_ok-clear_spaces.ensures.any t) in
    let e = g.H.Host.state c.upgrade.new.h in
    let upgrades = c.in_ok-upgrade.ensures.upgrades t in
    let on = KeepsRest-then c1 d e still (KeepsRest-changes _ _ d e upgrades.changes) in
    let replays = c.in_ok-report.ensures.replays t size same (closed w) world in
    let recovers = c.in_ok-report.ensures.recovers t size same (closed w) rested world in
    let empties = c.in_ok-clear_spaces.ensures.empties t (idle_gate size (closed w) i world c1 (recovered_lines size w a world b rest.quiet replays recovers c1 lines)) in
    let f = g.H.Host.state c.say_ready.new.h in
    let ready = c.in_err-say_ready.ensures.says t in
    let kept = KeepsInput-says _ _ a e f (KeepsInput-then a c1 e (KeepsInput-says _ _ a b c1 (KeepsInput-rest a b rest) lines) on) ready in
    record {
      says = SaysPart-ready i a b rest.quiet c1 lines e on.quiet (Some fault) f ready;
      moments = In-ready size w a world b rest.quiet replays recovers c1 lines d empties e upgrades (Some fault) f ready;
      last = tt;
      ready = tt;
      script = kept.script;
      shelf = kept.shelf;
    })

pub returns-in_err-say_ready-clause-says : goal.returns-in_err-say_ready-clause-says
returns-in_err-say_ready-clause-says g c =
    let p = err_from_is_err_and c.from_residual-in_err-say_ready.result c.from_residual-in_err-say_ready.ensures.1 in
    rw (p.1, p.2) (λ t sound.
    let a = g.H.Host.state c.args.h.now in
    let b = g.H.Host.state c.recover.new.h in
    let i = reads a.now.words in
    let marks : AreMarks i c.in_ok-report.report.marks = record { each = λ number few. c.in_ok-report.ensures.refused t i refl number few } in
    let rest = KeepsRest-changes _ _ a b (c.in_ok-report.ensures.any t) in
    let c1 = g.H.Host.state c.say_refused.new.h in
    let lines = c.in_ok-say_refused.ensures.says t i marks in
    let d = g.H.Host.state c.clear_spaces.new.h in
    let still = KeepsRest-changes _ _ c1 d (c.in_ok-clear_spaces.ensures.any t) in
    let e = g.H.Host.state c.upgrade.new.h in
    let upgrades = c.in_ok-upgrade.ensures.upgrades t in
    let on = KeepsRest-then c1 d e still (KeepsRest-changes _ _ d e upgrades.changes) in
    SaysPart-ready i a b rest.quiet c1 lines e on.quiet _ _ (c.in_err-say_ready.ensures.says t))

pub returns-in_err-say_ready-clause-unsound_stays : goal.returns-in_err-say_ready-clause-unsound_stays
returns-in_err-say_ready-clause-unsound_stays g c = λ t none. absurd (recovered ((c.in_ok-report.ensures.not_sound t refl).1 none))

pub returns-in_err-say_ready-clause-rest : goal.returns-in_err-say_ready-clause-rest
returns-in_err-say_ready-clause-rest g c = λ t.
    let a = g.H.Host.state c.args.h.now in
    let b = g.H.Host.state c.recover.new.h in
    let i = reads a.now.words in
    let marks : AreMarks i c.in_ok-report.report.marks = record { each = λ number few. c.in_ok-report.ensures.refused t i refl number few } in
    let rest = KeepsRest-changes _ _ a b (c.in_ok-report.ensures.any t) in
    let c1 = g.H.Host.state c.say_refused.new.h in
    let lines = c.in_ok-say_refused.ensures.says t i marks in
    let d = g.H.Host.state c.clear_spaces.new.h in
    let still = KeepsRest-changes _ _ c1 d (c.in_ok-clear_spaces.ensures.any t) in
    let e = g.H.Host.state c.upgrade.new.h in
    let upgrades = c.in_ok-upgrade.ensures.upgrades t in
    let on = KeepsRest-then c1 d e still (KeepsRest-changes _ _ d e upgrades.changes) in
    KeepsInput-says _ _ a e _ (KeepsInput-then a c1 e (KeepsInput-says _ _ a b c1 (KeepsInput-rest a b rest) lines) on) (c.in_err-say_ready.ensures.says t)

-- ---- the daemon is ready

pub returns-clause-starts : goal.returns-clause-starts
returns-clause-starts g c = λ t size same w rested world shelf.
    let a = g.H.Host.state c.args.h.now in
    let b = g.H.Host.state c.recover.new.h in
    let i = reads a.now.words in
    let marks : AreMarks i c.in_ok-report.report.marks = record { each = λ number few. c.in_ok-report.ensures.refused t i refl number few } in
    let rest = KeepsRest-changes _ _ a b (c.in_ok-report.ensures.any t) in
    let c1 = g.H.Host.state c.say_refused.new.h in
    let lines = c.in_ok-say_refused.ensures.says t i marks in
    let d = g.H.Host.state c.clear_spaces.new.h in
    let still = KeepsRest-changes _ _ c1 d (c.in_ok-clear_spaces.ensures.any t) in
    let e = g.H.Host.state c.upgrade.new.h in
    let upgrades = c.in_ok-upgrade.ensures.upgrades t in
    let on = KeepsRest-then c1 d e still (KeepsRest-changes _ _ d e upgrades.changes) in
    let replays = c.in_ok-report.ensures.replays t size same (closed w) world in
    let recovers = c.in_ok-report.ensures.recovers t size same (closed w) rested world in
    let empties = c.in_ok-clear_spaces.ensures.empties t (idle_gate size (closed w) i world c1 (recovered_lines size w a world b rest.quiet replays recovers c1 lines)) in
    let f = g.H.Host.state c.say_ready.new.h in
    let ready = c.in_ok-say_ready.ensures.says t in
    let following = recovered_lines size w a world b rest.quiet replays recovers c1 lines in
    let before = KeepsInput-then a c1 e (KeepsInput-says _ _ a b c1 (KeepsInput-rest a b rest) lines) on in
    let kept = KeepsInput-says _ _ a e f before ready in
    let there = IsReady-said size (restart w) _ e f (words_said _ _ e f ready) (shelf_said _ _ e f ready)
    (ready_after size w i world c1 d e following empties upgrades c.in_ok-report.report.frames (c.in_ok-report.ensures.frames t) (before.shelf ∙ shelf)) in
    record {
      says = SaysPart-ready i a b rest.quiet c1 lines e on.quiet None f ready;
      moments = In-ready size w a world b rest.quiet replays recovers c1 lines d empties e upgrades None f ready;
      last = ready_last e f ready;
      ready = subst (λ (m : Memory). IsReady size (restart w) m f) (sym c.with_frames.ensures) there;
      script = kept.script;
      shelf = kept.shelf;
    }

pub returns-clause-says : goal.returns-clause-says
returns-clause-says g c = λ t sound.
    let a = g.H.Host.state c.args.h.now in
    let b = g.H.Host.state c.recover.new.h in
    let i = reads a.now.words in
    let marks : AreMarks i c.in_ok-report.report.marks = record { each = λ number few. c.in_ok-report.ensures.refused t i refl number few } in
    let rest = KeepsRest-changes _ _ a b (c.in_ok-report.ensures.any t) in
    let c1 = g.H.Host.state c.say_refused.new.h in
    let lines = c.in_ok-say_refused.ensures.says t i marks in
    let d = g.H.Host.state c.clear_spaces.new.h in
    let still = KeepsRest-changes _ _ c1 d (c.in_ok-clear_spaces.ensures.any t) in
    let e = g.H.Host.state c.upgrade.new.h in
    let upgrades = c.in_ok-upgrade.ensures.upgrades t in
    let on = KeepsRest-then c1 d e still (KeepsRest-changes _ _ d e upgrades.changes) in
    SaysPart-ready i a b rest.quiet c1 lines e on.quiet None _ (c.in_ok-say_ready.ensures.says t)

pub returns-clause-unsound_stays : goal.returns-clause-unsound_stays
returns-clause-unsound_stays g c = λ t none. absurd (recovered ((c.in_ok-report.ensures.not_sound t refl).1 none))

pub returns-clause-rest : goal.returns-clause-rest
returns-clause-rest g c = λ t.
    let a = g.H.Host.state c.args.h.now in
    let b = g.H.Host.state c.recover.new.h in
    let i = reads a.now.words in
    let marks : AreMarks i c.in_ok-report.report.marks = record { each = λ number few. c.in_ok-report.ensures.refused t i refl number few } in
    let rest = KeepsRest-changes _ _ a b (c.in_ok-report.ensures.any t) in
    let c1 = g.H.Host.state c.say_refused.new.h in
    let lines = c.in_ok-say_refused.ensures.says t i marks in
    let d = g.H.Host.state c.clear_spaces.new.h in
    let still = KeepsRest-changes _ _ c1 d (c.in_ok-clear_spaces.ensures.any t) in
    let e = g.H.Host.state c.upgrade.new.h in
    let upgrades = c.in_ok-upgrade.ensures.upgrades t in
    let on = KeepsRest-then c1 d e still (KeepsRest-changes _ _ d e upgrades.changes) in
    KeepsInput-says _ _ a e _ (KeepsInput-then a c1 e (KeepsInput-says _ _ a b c1 (KeepsInput-rest a b rest) lines) on) (c.in_ok-say_ready.ensures.says t)

pub returns-clause-replays : goal.returns-clause-replays
returns-clause-replays g c = λ t rested.
    let a = g.H.Host.state c.args.h.now in
    let b = g.H.Host.state c.recover.new.h in
    let i = reads a.now.words in
    let marks : AreMarks i c.in_ok-report.report.marks = record { each = λ number few. c.in_ok-report.ensures.refused t i refl number few } in
    let rest = KeepsRest-changes _ _ a b (c.in_ok-report.ensures.any t) in
    let c1 = g.H.Host.state c.say_refused.new.h in
    let lines = c.in_ok-say_refused.ensures.says t i marks in
    let d = g.H.Host.state c.clear_spaces.new.h in
    let still = KeepsRest-changes _ _ c1 d (c.in_ok-clear_spaces.ensures.any t) in
    let e = g.H.Host.state c.upgrade.new.h in
    let upgrades = c.in_ok-upgrade.ensures.upgrades t in
    let on = KeepsRest-then c1 d e still (KeepsRest-changes _ _ d e upgrades.changes) in
    let size = (g.H.Host.counts c.args.h.now).size in
    let words = words_said _ _ b c1 lines in
    let following = recovered_any size i c1 d e c.in_ok-report.report (c.in_ok-report.ensures.not_sound t refl)
    (λ s world. subst (λ (x : Words). IsAfterRecovery size s i x) (sym words) (after_recovery size s a b (c.in_ok-report.ensures.replays t size refl s world) (c.in_ok-report.ensures.recovers t size refl s rested world)))
    (c.in_ok-clear_spaces.ensures.empties t) upgrades in
    let same = words_said _ _ e (g.H.Host.state c.say_ready.new.h) (c.in_ok-say_ready.ensures.says t) in
    subst (λ (x : Words). IsReplayed i (reads x)) (sym same) following.replayed

pub returns-clause-frames : goal.returns-clause-frames
returns-clause-frames g c = λ t rested.
    let a = g.H.Host.state c.args.h.now in
    let b = g.H.Host.state c.recover.new.h in
    let i = reads a.now.words in
    let marks : AreMarks i c.in_ok-report.report.marks = record { each = λ number few. c.in_ok-report.ensures.refused t i refl number few } in
    let rest = KeepsRest-changes _ _ a b (c.in_ok-report.ensures.any t) in
    let c1 = g.H.Host.state c.say_refused.new.h in
    let lines = c.in_ok-say_refused.ensures.says t i marks in
    let d = g.H.Host.state c.clear_spaces.new.h in
    let still = KeepsRest-changes _ _ c1 d (c.in_ok-clear_spaces.ensures.any t) in
    let e = g.H.Host.state c.upgrade.new.h in
    let upgrades = c.in_ok-upgrade.ensures.upgrades t in
    let on = KeepsRest-then c1 d e still (KeepsRest-changes _ _ d e upgrades.changes) in
    let size = (g.H.Host.counts c.args.h.now).size in
    let words = words_said _ _ b c1 lines in
    let following = recovered_any size i c1 d e c.in_ok-report.report (c.in_ok-report.ensures.not_sound t refl)
    (λ s world. subst (λ (x : Words). IsAfterRecovery size s i x) (sym words) (after_recovery size s a b (c.in_ok-report.ensures.replays t size refl s world) (c.in_ok-report.ensures.recovers t size refl s rested world)))
    (c.in_ok-clear_spaces.ensures.empties t) upgrades in
    let same = words_said _ _ e (g.H.Host.state c.say_ready.new.h) (c.in_ok-say_ready.ensures.says t) in
    ap (λ (m : Memory). m.frames) c.with_frames.ensures ∙ c.in_ok-report.ensures.frames t ∙ following.frames ∙ ap (λ (x : Words). frames_of (reads x)) (sym same)
