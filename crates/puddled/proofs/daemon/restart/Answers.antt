use Rattle.std.proofs.Common.{ℕ, None, Some, Ok, Err, refl, sym, ap, subst, ◌∙◌}
use Rattle.std.proofs.lemmas.Result.{err_from_is_err_and}
use Rattle.pm_model.specs.Words.{reads}
use Rattle.pm_model.proofs.Changes.{Changes-said}
use Rattle.pud_defs.specs.StateMachine.World.{world_of, closed, restart}
use Rattle.daemon_memory.specs.Memory.{Memory}
use Rattle.daemon_memory.specs.Ready.{IsReady}
use Rattle.daemon_memory.proofs.Commands.Keeping.{KeepsRest-changes, KeepsRest-then}
use Rattle.puddled.specs.declared.daemon.StartFault.TheVariants as starts
use Rattle.puddled.specs.Starting.{started}
use Rattle.puddled.proofs.DeviceStarts.Emptied.{after_recovery}
use Rattle.puddled.proofs.DeviceStarts.Restarts.{refused_stays, recovered, Recovers-failed, idle_gate_after, Recovers-by, Recovers-upgraded, ready_after, sound_recovery, recovered_any}
use Rattle.puddled.proofs.daemon.restart.Goals as goal

-- ---- the recovery failed

pub returns-in_err-report-clause-recovers : goal.returns-in_err-report-clause-recovers
returns-in_err-report-clause-recovers g c =
    let p = err_from_is_err_and c.from_residual.result c.from_residual.ensures.1 in
    rw (p.1, p.2) (λ t size same w rested world shelf.
    let a = g.H.Host.state c.args.h.now in
    let fault = c.in_err-report.field-0.0 in
    let here = ap (λ (n : ℕ). world_of n (reads a.now.words)) (sym same) ∙ world in
    Recovers-failed size w a world (g.H.Host.state c.recover.new.h) fault (sound_recovery _ w fault a here (c.in_err-report.ensures.not_sound t)) (c.in_err-report.ensures.any t)
    (c.in_err-report.ensures.recovers t size same (closed w) rested world))

pub returns-in_err-report-clause-unchanged : goal.returns-in_err-report-clause-unchanged
returns-in_err-report-clause-unchanged g c =
    let p = err_from_is_err_and c.from_residual.result c.from_residual.ensures.1 in
    rw (p.1, p.2) (λ t refused. refused_stays _ _ _ c.in_err-report.field-0.0 (c.in_err-report.ensures.not_sound t) (c.in_err-report.ensures.unsound_stays t) (ap (started c.args.memory.now) refused))

pub returns-in_err-report-clause-rest : goal.returns-in_err-report-clause-rest
returns-in_err-report-clause-rest g c = λ t. KeepsRest-changes _ _ _ _ (c.in_err-report.ensures.any t)

-- ---- the log-space table was not emptied

pub returns-in_err-clear_spaces-clause-recovers : goal.returns-in_err-clear_spaces-clause-recovers
returns-in_err-clear_spaces-clause-recovers g c =
    let p = err_from_is_err_and c.from_residual-in_err-clear_spaces.result c.from_residual-in_err-clear_spaces.ensures.1 in
    rw (p.1, p.2) (λ t size same w rested world shelf.
    let a = g.H.Host.state c.args.h.now in
    let b = g.H.Host.state c.recover.new.h in
    let d = g.H.Host.state c.clear_spaces.new.h in
    let fault = c.in_err-clear_spaces.field-0.0 in
    let rest = KeepsRest-then a b d (KeepsRest-changes _ _ a b (c.in_ok-report.ensures.any t)) (KeepsRest-changes _ _ b d (c.in_err-clear_spaces.ensures.any t)) in
    let said = Changes-said _ _ a b (c.in_ok-report.ensures.any t) in
    let replays = c.in_ok-report.ensures.replays t size same (closed w) world in
    let recovers = c.in_ok-report.ensures.recovers t size same (closed w) rested world in
    let empties = c.in_err-clear_spaces.ensures.empties t (idle_gate_after size w a world b d said replays recovers) in
    Recovers-by size w a world b d said replays recovers (Some fault) empties (Err (starts.Host fault)) rest.script rest.shelf tt)

pub returns-in_err-clear_spaces-clause-unsound_stays : goal.returns-in_err-clear_spaces-clause-unsound_stays
returns-in_err-clear_spaces-clause-unsound_stays g c = λ t none. absurd (recovered ((c.in_ok-report.ensures.not_sound t refl).1 none))

pub returns-in_err-clear_spaces-clause-rest : goal.returns-in_err-clear_spaces-clause-rest
returns-in_err-clear_spaces-clause-rest g c = λ t. KeepsRest-then _ _ _ (KeepsRest-changes _ _ _ _ (c.in_ok-report.ensures.any t)) (KeepsRest-changes _ _ _ _ (c.in_err-clear_spaces.ensures.any t))

-- ---- the present version was not made durable

pub returns-in_err-upgrade-clause-recovers : goal.returns-in_err-upgrade-clause-recovers
returns-in_err-upgrade-clause-recovers g c =
    let p = err_from_is_err_and c.from_residual-in_err-upgrade.result c.from_residual-in_err-upgrade.ensures.1 in
    rw (p.1, p.2) (λ t size same w rested world shelf.
    let a = g.H.Host.state c.args.h.now in
    let b = g.H.Host.state c.recover.new.h in
    let d = g.H.Host.state c.clear_spaces.new.h in
    let e = g.H.Host.state c.upgrade.new.h in
    let fault = c.in_err-upgrade.field-0.0 in
    let upgrades = c.in_err-upgrade.ensures.upgrades t in
    let rest = KeepsRest-then a b e (KeepsRest-changes _ _ a b (c.in_ok-report.ensures.any t))
    (KeepsRest-then b d e (KeepsRest-changes _ _ b d (c.in_ok-clear_spaces.ensures.any t)) (KeepsRest-changes _ _ d e upgrades.changes)) in
    let said = Changes-said _ _ a b (c.in_ok-report.ensures.any t) in
    let replays = c.in_ok-report.ensures.replays t size same (closed w) world in
    let recovers = c.in_ok-report.ensures.recovers t size same (closed w) rested world in
    let empties = c.in_ok-clear_spaces.ensures.empties t (idle_gate_after size w a world b d said replays recovers) in
    Recovers-upgraded size w a world b d said replays recovers empties e (Some fault) upgrades (Err (starts.Host fault)) rest.script rest.shelf tt)

pub returns-in_err-upgrade-clause-unsound_stays : goal.returns-in_err-upgrade-clause-unsound_stays
returns-in_err-upgrade-clause-unsound_stays g c = λ t none. absurd (recovered ((c.in_ok-report.ensures.not_sound t refl).1 none))

pub returns-in_err-upgrade-clause-rest : goal.returns-in_err-upgrade-clause-rest
returns-in_err-upgrade-clause-rest g c = λ t. KeepsRest-then _ _ _ (KeepsRest-changes _ _ _ _ (c.in_ok-report.ensures.any t))
    (KeepsRest-then _ _ _ (KeepsRest-changes _ _ _ _ (c.in_ok-clear_spaces.ensures.any t)) (KeepsRest-changes _ _ _ _ (c.in_err-upgrade.ensures.upgrades t).changes))

-- ---- the daemon is ready

pub returns-clause-recovers : goal.returns-clause-recovers
returns-clause-recovers g c = λ t size same w rested world shelf.
    let a = g.H.Host.state c.args.h.now in
    let b = g.H.Host.state c.recover.new.h in
    let d = g.H.Host.state c.clear_spaces.new.h in
    let e = g.H.Host.state c.upgrade.new.h in
    let upgrades = c.in_ok-upgrade.ensures.upgrades t in
    let rest = KeepsRest-then a b e (KeepsRest-changes _ _ a b (c.in_ok-report.ensures.any t))
    (KeepsRest-then b d e (KeepsRest-changes _ _ b d (c.in_ok-clear_spaces.ensures.any t)) (KeepsRest-changes _ _ d e upgrades.changes)) in
    let said = Changes-said _ _ a b (c.in_ok-report.ensures.any t) in
    let replays = c.in_ok-report.ensures.replays t size same (closed w) world in
    let recovers = c.in_ok-report.ensures.recovers t size same (closed w) rested world in
    let empties = c.in_ok-clear_spaces.ensures.empties t (idle_gate_after size w a world b d said replays recovers) in
    let ready = ready_after size w (reads a.now.words) world b d e (after_recovery size (closed w) a b replays recovers) empties upgrades c.in_ok-report.report.frames (c.in_ok-report.ensures.frames t) (rest.shelf ∙ shelf) in
    rw c.replace-lost.ensures.after (Recovers-upgraded size w a world b d said replays recovers empties e None upgrades (Ok c.with_frames.result) rest.script rest.shelf (subst (λ (m : Memory). IsReady size (restart w) m e) (sym c.with_frames.ensures) ready))

pub returns-clause-unsound_stays : goal.returns-clause-unsound_stays
returns-clause-unsound_stays g c = λ t none. absurd (recovered ((c.in_ok-report.ensures.not_sound t refl).1 none))

pub returns-clause-rest : goal.returns-clause-rest
returns-clause-rest g c = λ t. KeepsRest-then _ _ _ (KeepsRest-changes _ _ _ _ (c.in_ok-report.ensures.any t))
    (KeepsRest-then _ _ _ (KeepsRest-changes _ _ _ _ (c.in_ok-clear_spaces.ensures.any t)) (KeepsRest-changes _ _ _ _ (c.in_ok-upgrade.ensures.upgrades t).changes))

pub returns-clause-sound : goal.returns-clause-sound
returns-clause-sound g c = λ t rested.
    let size = (g.H.Host.counts c.args.h.now).size in
    let a = g.H.Host.state c.args.h.now in
    let b = g.H.Host.state c.recover.new.h in
    (recovered_any size (reads a.now.words) b (g.H.Host.state c.clear_spaces.new.h) (g.H.Host.state c.upgrade.new.h) c.in_ok-report.report (c.in_ok-report.ensures.not_sound t refl)
    (λ s world. after_recovery size s a b (c.in_ok-report.ensures.replays t size refl s world) (c.in_ok-report.ensures.recovers t size refl s rested world)) (c.in_ok-clear_spaces.ensures.empties t) (c.in_ok-upgrade.ensures.upgrades t)).sound

pub returns-clause-replays : goal.returns-clause-replays
returns-clause-replays g c = λ t rested.
    let size = (g.H.Host.counts c.args.h.now).size in
    let a = g.H.Host.state c.args.h.now in
    let b = g.H.Host.state c.recover.new.h in
    (recovered_any size (reads a.now.words) b (g.H.Host.state c.clear_spaces.new.h) (g.H.Host.state c.upgrade.new.h) c.in_ok-report.report (c.in_ok-report.ensures.not_sound t refl)
    (λ s world. after_recovery size s a b (c.in_ok-report.ensures.replays t size refl s world) (c.in_ok-report.ensures.recovers t size refl s rested world)) (c.in_ok-clear_spaces.ensures.empties t) (c.in_ok-upgrade.ensures.upgrades t)).replayed
