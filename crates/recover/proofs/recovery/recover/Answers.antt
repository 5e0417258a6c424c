use Rattle.std.proofs.Common.{◌≡◌, ◌∙◌, ℕ, Err, None, Some, refl, sym, ap, subst}
use Rattle.std.proofs.lemmas.Option.{none-some}
use Rattle.std.proofs.lemmas.Result.{err_from_is_err_and}
use Rattle.pm_model.specs.Words.{reads}
use Rattle.pm_model.proofs.Changes.{Changes-then}
use Rattle.pud_defs.specs.declared.layout.TheConstants.{DAEMON_LOG}
use Rattle.pud_defs.specs.Formats.Image.{Image}
use Rattle.pud_defs.specs.Logging.Replay.{settled_by}
use Rattle.pud_defs.specs.RegistryTables.Registry.{frames_of}
use Rattle.pud_defs.specs.Logging.Settled.{ALL_LOGS}
use Rattle.pud_defs.proofs.StateMachine.Worlds.{frames_of_world}
use Rattle.log_replay.specs.Replaying.{Anything}
use Rattle.registry.specs.declared.LoadFault.{LoadFault}
use Rattle.registry.specs.declared.LoadFault.TheVariants.{NotSound}
use Rattle.registry.specs.Registry.{load_fault}
use Rattle.recover.specs.Verdicts.{verdict_of, mark_of, is_refused_mark}
use Rattle.recover.specs.RecoveredLogs.{RecoversLogs, RecoversLogsAtEachMoment}
use Rattle.recover.proofs.Marks.{refused_as_marked}
use Rattle.recover.proofs.Recovered.{ReplaysLogs-loaded, ReplaysLogs-failed, ReplaysLogs-done, RecoversDevice-loaded, RecoversDevice-taken, verdict_after}
use Rattle.recover.proofs.recovery.recover.Goals as goal

pub returns-in_err-frames-clause-replays : goal.returns-in_err-frames-clause-replays
returns-in_err-frames-clause-replays g c =
    let p = err_from_is_err_and c.from_residual.result c.from_residual.ensures.1 in
    let fault = c.in_err-frames.field-0.0 in
    rw (p.1, p.2) (λ t size same s world.
    let sound : fault ≡ NotSound → ⊥ = λ is. none-some s (sym ((c.in_err-frames.ensures.not_sound t (ap (λ (f : LoadFault). load_fault {T = ℕ} (Err f)) is)).0 (ap Err is)) ∙ rw (sym same) world) in
    ReplaysLogs-loaded size s (g.H.Host.state c.args.h.now) world fault (g.H.Host.state c.load_sound.new.h) sound (c.in_err-frames.ensures.settles t (λ is. sound cc)))

pub returns-in_err-frames-clause-recovers : goal.returns-in_err-frames-clause-recovers
returns-in_err-frames-clause-recovers g c =
    let p = err_from_is_err_and c.from_residual.result c.from_residual.ensures.1 in
    let fault = c.in_err-frames.field-0.0 in
    rw (p.1, p.2) (λ t size same s rested world.
    let sound : fault ≡ NotSound → ⊥ = λ is. none-some s (sym ((c.in_err-frames.ensures.not_sound t (ap (λ (f : LoadFault). load_fault {T = ℕ} (Err f)) is)).0 (ap Err is)) ∙ rw (sym same) world) in
    RecoversDevice-loaded size s (g.H.Host.state c.args.h.now) world rested fault (g.H.Host.state c.load_sound.new.h) sound
    (c.in_err-frames.ensures.applies t size same s rested world) (c.in_err-frames.ensures.settles t (λ is. sound cc)))

pub returns-in_err-marks-clause-unsound_stays : goal.returns-in_err-marks-clause-unsound_stays
returns-in_err-marks-clause-unsound_stays g c = λ t none. absurd (let refused = (c.in_ok-frames.ensures.not_sound t refl).1 none in cc refused)

pub returns-clause-unsound_stays : goal.returns-clause-unsound_stays
returns-clause-unsound_stays g c = λ t none. absurd (let refused = (c.in_ok-frames.ensures.not_sound t refl).1 none in cc refused)

pub returns-in_err-marks-clause-replays : goal.returns-in_err-marks-clause-replays
returns-in_err-marks-clause-replays g c =
    let p = err_from_is_err_and c.from_residual-in_err-marks.result c.from_residual-in_err-marks.ensures.1 in
    let a = g.H.Host.state c.args.h.now in
    let b = g.H.Host.state c.load_sound.new.h in
    let d = g.H.Host.state c.recover_logs.new.h in
    let fault = c.in_err-marks.field-0.0 in
    rw (p.1, p.2) (λ t size same s world.
    ReplaysLogs-failed size s a world b (c.in_ok-frames.ensures.settles t (λ is. cc)) (c.in_ok-frames.ensures.stands t size same ∙ world) fault d
    (subst (λ (F : ℕ). RecoversLogs F ALL_LOGS (reads b.now.words) (Some fault) b d) (c.in_ok-frames.ensures.frames t ∙ frames_of_world size (reads a.now.words) s world)
    (c.in_err-marks.ensures.takes t (reads b.now.words) refl)))

pub returns-in_err-marks-clause-recovers : goal.returns-in_err-marks-clause-recovers
returns-in_err-marks-clause-recovers g c =
    let p = err_from_is_err_and c.from_residual-in_err-marks.result c.from_residual-in_err-marks.ensures.1 in
    let a = g.H.Host.state c.args.h.now in
    let b = g.H.Host.state c.load_sound.new.h in
    let d = g.H.Host.state c.recover_logs.new.h in
    let fault = c.in_err-marks.field-0.0 in
    rw (p.1, p.2) (λ t size same s rested world.
    let applies = c.in_ok-frames.ensures.applies t size same s rested world in
    let frames = (c.in_ok-frames.ensures.frames t ∙ frames_of_world size (reads a.now.words) s world) in
    RecoversDevice-taken size s a world rested b applies (c.in_ok-frames.ensures.settles t (λ is. cc)) (c.in_ok-frames.ensures.stands t size same ∙ world) (Some fault) d
    (subst (λ (F : ℕ). RecoversLogs F ALL_LOGS (reads b.now.words) (Some fault) b d) frames (c.in_err-marks.ensures.takes t (reads b.now.words) refl))
    (subst (λ (F : ℕ). RecoversLogsAtEachMoment F (reads b.now.words) (Some fault) b d) frames (c.in_err-marks.ensures.leaves t (reads b.now.words) (applies.rested refl) refl)))

pub returns-in_err-marks-clause-any : goal.returns-in_err-marks-clause-any
returns-in_err-marks-clause-any g c =
    let p = err_from_is_err_and c.from_residual-in_err-marks.result c.from_residual-in_err-marks.ensures.1 in
    rw (p.1, p.2) (λ t. Changes-then Anything (Some c.in_err-marks.field-0.0) (g.H.Host.state c.args.h.now) (g.H.Host.state c.load_sound.new.h) (g.H.Host.state c.recover_logs.new.h)
    (c.in_ok-frames.ensures.any t) (c.in_err-marks.ensures.any t))

pub returns-clause-replays : goal.returns-clause-replays
returns-clause-replays g c = λ t size same s world.
    let a = g.H.Host.state c.args.h.now in
    let b = g.H.Host.state c.load_sound.new.h in
    let d = g.H.Host.state c.recover_logs.new.h in
    ReplaysLogs-done size s a world b (c.in_ok-frames.ensures.settles t (λ is. cc)) (c.in_ok-frames.ensures.stands t size same ∙ world) d
    (subst (λ (F : ℕ). RecoversLogs F ALL_LOGS (reads b.now.words) None b d) (c.in_ok-frames.ensures.frames t ∙ frames_of_world size (reads a.now.words) s world) (c.in_ok-marks.ensures.takes t (reads b.now.words) refl))

pub returns-clause-recovers : goal.returns-clause-recovers
returns-clause-recovers g c = λ t size same s rested world.
    let a = g.H.Host.state c.args.h.now in
    let b = g.H.Host.state c.load_sound.new.h in
    let d = g.H.Host.state c.recover_logs.new.h in
    let applies = c.in_ok-frames.ensures.applies t size same s rested world in
    let frames = (c.in_ok-frames.ensures.frames t ∙ frames_of_world size (reads a.now.words) s world) in
    RecoversDevice-taken size s a world rested b applies (c.in_ok-frames.ensures.settles t (λ is. cc)) (c.in_ok-frames.ensures.stands t size same ∙ world) None d
    (subst (λ (F : ℕ). RecoversLogs F ALL_LOGS (reads b.now.words) None b d) frames (c.in_ok-marks.ensures.takes t (reads b.now.words) refl))
    (subst (λ (F : ℕ). RecoversLogsAtEachMoment F (reads b.now.words) None b d) frames (c.in_ok-marks.ensures.leaves t (reads b.now.words) (applies.rested refl) refl))

pub returns-clause-marks : goal.returns-clause-marks
returns-clause-marks g c = λ t image is number few.
    let a = g.H.Host.state c.args.h.now in
    let b = g.H.Host.state c.load_sound.new.h in
    let frames = c.in_ok-frames.ensures.frames t ∙ ap frames_of is in
    c.in_ok-marks.ensures.marks t (reads b.now.words) refl number few
    ∙ ap (λ (F : ℕ). mark_of (verdict_of F (reads b.now.words) number)) frames
    ∙ ap mark_of (verdict_after (frames_of image) a b number (c.in_ok-frames.ensures.settles t (λ e. cc)) few ∙ ap (λ (i : Image). verdict_of (frames_of image) (settled_by DAEMON_LOG i) number) is)

pub returns-clause-refused : goal.returns-clause-refused
returns-clause-refused g c = λ t image is number few.
    ap is_refused_mark (returns-clause-marks g c t image is number few) ∙ sym (refused_as_marked (frames_of image) (settled_by DAEMON_LOG image) number)

pub returns-clause-any : goal.returns-clause-any
returns-clause-any g c = λ t.
    Changes-then Anything None (g.H.Host.state c.args.h.now) (g.H.Host.state c.load_sound.new.h) (g.H.Host.state c.recover_logs.new.h) (c.in_ok-frames.ensures.any t) (c.in_ok-marks.ensures.any t)
