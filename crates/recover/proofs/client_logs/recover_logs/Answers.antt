use Rattle.std.proofs.Common.{◌≡◌, ◌∙◌, ◌+◌, ℕ, inl, inr, Some, None, get_or, set, length-set, refl, sym, ap, subst, arith}
use Rattle.std.proofs.lemmas.Bool.{cases_eq}
use Rattle.std.proofs.lemmas.List.{get_or-set_same, get_or-set_other}
use Rattle.std.proofs.lemmas.Result.{err_from_is_err_and}
use Rattle.pm_model.specs.Words.{reads}
use Rattle.pm_model.specs.Counts.{after_fault, fault_of}
use Rattle.pm_model.proofs.Changes.{Changes-still, Changes-then}
use Rattle.pud_defs.specs.Logging.Settled.{ALL_LOGS}
use Rattle.log_replay.specs.Replaying.{Anything}
use Rattle.recover.specs.declared.judge.Mark.TheVariants.{Closed}
use Rattle.recover.specs.Verdicts.{verdict_of, mark_of}
use Rattle.recover.specs.RecoveredLogs.{RecoversLogs}
use Rattle.recover.proofs.LogsRecovered.{verdict_mid, RecoversLogs-start, RecoversLogsAtEachMoment-still, RecoversLogs-turn, RecoversLogsAtEachMoment-turn, RecoversLogs-failed}
use Rattle.recover.proofs.client_logs.recover_logs.Goals as goal

pub loop-number-init : goal.loop-number-init
loop-number-init g c =
    let old = g.H.Host.state c.args.h.now in
    record {
      all = refl;
      counts = refl;
      marks = λ t image is k below. absurd (omega arith);
      takes = λ t image is. RecoversLogs-start c.args.frames image old is;
      leaves = λ t image rested is. RecoversLogsAtEachMoment-still c.args.frames image None old old rested is refl;
      any = λ t. Changes-still Anything None old old (λ cut. absurd (let it : None ≡ Some _ = cut in cc)) refl;
    }

pub loop-number-preserved : goal.loop-number-preserved
loop-number-preserved g c =
    let F = c.args.frames in
    let l = c.loop-number in
    let number = l.number in
    let old = g.H.Host.state c.args.h.now in
    let mid = g.H.Host.state l.h in
    let new = g.H.Host.state c.recover_log.new.h in
    let all = l.invariant.all in
    record {
      all = length-set l.marks number c.mark_of.result ∙ all;
      counts = c.recover_log.ensures.cause ∙ ap (λ r. after_fault (fault_of r) (g.H.Host.counts l.h)) c.in_ok-recover_log.was ∙ l.invariant.counts;
      marks = λ t image is k below. elim (cases_eq k number) [
        | inl here ↦
            ap (λ (n : ℕ). get_or (set l.marks number c.mark_of.result) n Closed) here
            ∙ get_or-set_same l.marks number c.mark_of.result Closed (omega arith)
            ∙ c.mark_of.ensures
            ∙ ap mark_of (c.in_ok-recover_log.ensures.mark t (reads mid.now.words) refl ∙ verdict_mid F number image old mid (omega arith) (l.invariant.takes t image is) ∙ ap (verdict_of F image) (sym here))
        | inr other ↦ get_or-set_other l.marks number k c.mark_of.result Closed other ∙ l.invariant.marks t image is k (omega arith)
      ];
      takes = λ t image is. RecoversLogs-turn F number image old mid (omega arith) (l.invariant.takes t image is) None new (c.in_ok-recover_log.ensures.takes t (reads mid.now.words) refl);
      leaves = λ t image rested is.
          let so_far = l.invariant.leaves t image rested is in
          RecoversLogsAtEachMoment-turn F number image old mid (omega arith) (l.invariant.takes t image is) None new (c.in_ok-recover_log.ensures.takes t (reads mid.now.words) refl) so_far
          (c.in_ok-recover_log.ensures.leaves t (reads mid.now.words) (so_far.rested refl) refl);
      any = λ t. Changes-then Anything None old mid new (l.invariant.any t) (c.in_ok-recover_log.ensures.any t);
    }

pub returns-in_err-recover_log-clause-takes : goal.returns-in_err-recover_log-clause-takes
returns-in_err-recover_log-clause-takes g c =
    let p = err_from_is_err_and c.from_residual.result c.from_residual.ensures.1 in
    let F = c.args.frames in
    let number = c.loop-number.number in
    let old = g.H.Host.state c.args.h.now in
    let mid = g.H.Host.state c.loop-number.h in
    let new = g.H.Host.state c.recover_log.new.h in
    let fault = c.in_err-recover_log.field-0.0 in
    rw (p.1, p.2) (λ t image is.
    RecoversLogs-failed F (number + 1) ALL_LOGS image fault old new (omega arith)
    (RecoversLogs-turn F number image old mid (omega arith) (c.loop-number.invariant.takes t image is) (Some fault) new (c.in_err-recover_log.ensures.takes t (reads mid.now.words) refl)))

pub returns-in_err-recover_log-clause-leaves : goal.returns-in_err-recover_log-clause-leaves
returns-in_err-recover_log-clause-leaves g c =
    let p = err_from_is_err_and c.from_residual.result c.from_residual.ensures.1 in
    let F = c.args.frames in
    let number = c.loop-number.number in
    let old = g.H.Host.state c.args.h.now in
    let mid = g.H.Host.state c.loop-number.h in
    let new = g.H.Host.state c.recover_log.new.h in
    let fault = c.in_err-recover_log.field-0.0 in
    rw (p.1, p.2) (λ t image rested is.
    let so_far = c.loop-number.invariant.leaves t image rested is in
    RecoversLogsAtEachMoment-turn F number image old mid (omega arith) (c.loop-number.invariant.takes t image is) (Some fault) new (c.in_err-recover_log.ensures.takes t (reads mid.now.words) refl) so_far
    (c.in_err-recover_log.ensures.leaves t (reads mid.now.words) (so_far.rested refl) refl))

pub returns-in_err-recover_log-clause-any : goal.returns-in_err-recover_log-clause-any
returns-in_err-recover_log-clause-any g c =
    let p = err_from_is_err_and c.from_residual.result c.from_residual.ensures.1 in
    rw (p.1, p.2) (λ t. Changes-then Anything (Some c.in_err-recover_log.field-0.0) (g.H.Host.state c.args.h.now) (g.H.Host.state c.loop-number.h) (g.H.Host.state c.recover_log.new.h)
    (c.loop-number.invariant.any t) (c.in_err-recover_log.ensures.any t))

pub returns-clause-marks : goal.returns-clause-marks
returns-clause-marks g c = λ t image is number few. let all : c.loop-number.number ≡ ALL_LOGS = omega arith in c.loop-number.invariant.marks t image is number (omega arith)

pub returns-clause-takes : goal.returns-clause-takes
returns-clause-takes g c = λ t image is.
    let all : c.loop-number.number ≡ ALL_LOGS = omega arith in
    subst (λ (n : ℕ). RecoversLogs c.args.frames n image None (g.H.Host.state c.args.h.now) (g.H.Host.state c.loop-number.h)) all (c.loop-number.invariant.takes t image is)
