use Rattle.std.proofs.Common.{◌≡◌, ◌∙◌, Some, None, true, false, option_map, sym, ap, subst}
use Rattle.std.proofs.lemmas.Result.{err_from_is_err_and}
use Rattle.pm_model.specs.Words.{IsRested}
use Rattle.pm_model.specs.Moments.{State}
use Rattle.pm_model.proofs.Reading.{Changes-read, still_reads}
use Rattle.pm_model.proofs.Changes.{Changes-then}
use Rattle.log_replay.specs.Replaying.{Anything}
use Rattle.recover.specs.Judging.{mark_judged}
use Rattle.recover.specs.RecoveredLogs.{RecoversLog, RecoversLogAtEachMoment}
use Rattle.recover.proofs.Accepting.{of_none, not_accepted_gives_nothing}
use Rattle.recover.proofs.LogRecovered.{RecoversLog-still, RecoversLogAtEachMoment-still}
use Rattle.recover.proofs.LogsRecovered.{RecoversLog-unread}
use Rattle.recover.proofs.client_logs.recover_log.Goals as goal

pub returns-in_err-judged-clause-takes : goal.returns-in_err-judged-clause-takes
returns-in_err-judged-clause-takes g c =
    let p = err_from_is_err_and c.from_residual.result c.from_residual.ensures.1 in
    rw (p.1, p.2) (λ t image is. RecoversLog-unread c.args.frames c.args.number image _ _ _ (Changes-read c.in_err-judged.ensures.only_reads t))

pub returns-in_err-judged-clause-leaves : goal.returns-in_err-judged-clause-leaves
returns-in_err-judged-clause-leaves g c =
    let p = err_from_is_err_and c.from_residual.result c.from_residual.ensures.1 in
    rw (p.1, p.2) (λ t image rested is. RecoversLogAtEachMoment-still c.args.frames c.args.number image (g.H.Host.state c.args.h.now) is rested _ _ (c.judge_log.ensures.only_reads.stays t))

pub returns-in_default-clause-mark : goal.returns-in_default-clause-mark
returns-in_default-clause-mark g c = λ t image is. sym (ap (option_map mark_judged) c.in_default.is) ∙ (c.in_ok-judged.ensures.judged t image is).verdict

pub returns-in_default-clause-takes : goal.returns-in_default-clause-takes
returns-in_default-clause-takes g c = λ t image is.
    let other = of_none c.args.frames c.args.number image (sym (returns-in_default-clause-mark g c t image is)) in
    RecoversLog-still c.args.frames c.args.number image (g.H.Host.state c.args.h.now) is None _ (λ cut. absurd (let it : None ≡ Some _ = cut in cc)) (c.judge_log.ensures.only_reads.stays t)
    (not_accepted_gives_nothing c.args.frames c.args.number image other) (λ none accepted. absurd (let it : false ≡ true = sym other ∙ accepted in cc))

pub returns-in_default-clause-leaves : goal.returns-in_default-clause-leaves
returns-in_default-clause-leaves g c = λ t image rested is. RecoversLogAtEachMoment-still c.args.frames c.args.number image (g.H.Host.state c.args.h.now) is rested None _ (c.judge_log.ensures.only_reads.stays t)

pub returns-in_err-settle_judged-clause-takes : goal.returns-in_err-settle_judged-clause-takes
returns-in_err-settle_judged-clause-takes g c =
    let p = err_from_is_err_and c.from_residual-in_err-settle_judged.result c.from_residual-in_err-settle_judged.ensures.1 in
    let read = c.judge_log.ensures.only_reads in
    rw (p.1, p.2) (λ t image is.
    let it = c.in_ok-judged.ensures.judged t image is in
    subst (λ (s : State). RecoversLog c.args.frames c.args.number image (Some c.in_err-settle_judged.field-0.0) s (g.H.Host.state c.settle_judged.new.h)) (read.stays t)
    (c.in_err-settle_judged.ensures.takes t image (still_reads read t is) (sym (ap (option_map mark_judged) c.in-Some.is) ∙ it.verdict) (rw c.in-Some.is at it.copied)))

pub returns-in_err-settle_judged-clause-leaves : goal.returns-in_err-settle_judged-clause-leaves
returns-in_err-settle_judged-clause-leaves g c =
    let p = err_from_is_err_and c.from_residual-in_err-settle_judged.result c.from_residual-in_err-settle_judged.ensures.1 in
    let read = c.judge_log.ensures.only_reads in
    rw (p.1, p.2) (λ t image rested is.
    let it = c.in_ok-judged.ensures.judged t image is in
    subst (λ (s : State). RecoversLogAtEachMoment c.args.frames c.args.number image (Some c.in_err-settle_judged.field-0.0) s (g.H.Host.state c.settle_judged.new.h)) (read.stays t)
    (c.in_err-settle_judged.ensures.leaves t image (subst (λ (s : State). IsRested s.now.words) (sym (read.stays t)) rested) (still_reads read t is)
    (sym (ap (option_map mark_judged) c.in-Some.is) ∙ it.verdict) (rw c.in-Some.is at it.copied)))

pub returns-clause-mark : goal.returns-clause-mark
returns-clause-mark g c = λ t image is. sym (ap (option_map mark_judged) c.in-Some.is) ∙ (c.in_ok-judged.ensures.judged t image is).verdict

pub returns-clause-takes : goal.returns-clause-takes
returns-clause-takes g c = λ t image is.
    let read = c.judge_log.ensures.only_reads in
    let it = c.in_ok-judged.ensures.judged t image is in
    subst (λ (s : State). RecoversLog c.args.frames c.args.number image None s (g.H.Host.state c.settle_judged.new.h)) (read.stays t)
    (c.in_ok-settle_judged.ensures.takes t image (still_reads read t is) (sym (ap (option_map mark_judged) c.in-Some.is) ∙ it.verdict) (rw c.in-Some.is at it.copied))

pub returns-clause-leaves : goal.returns-clause-leaves
returns-clause-leaves g c = λ t image rested is.
    let read = c.judge_log.ensures.only_reads in
    let it = c.in_ok-judged.ensures.judged t image is in
    subst (λ (s : State). RecoversLogAtEachMoment c.args.frames c.args.number image None s (g.H.Host.state c.settle_judged.new.h)) (read.stays t)
    (c.in_ok-settle_judged.ensures.leaves t image (subst (λ (s : State). IsRested s.now.words) (sym (read.stays t)) rested) (still_reads read t is)
    (sym (ap (option_map mark_judged) c.in-Some.is) ∙ it.verdict) (rw c.in-Some.is at it.copied))

pub returns-in_err-judged-clause-any : goal.returns-in_err-judged-clause-any
returns-in_err-judged-clause-any g c =
    let p = err_from_is_err_and c.from_residual.result c.from_residual.ensures.1 in
    rw (p.1, p.2) (λ t. Changes-read c.in_err-judged.ensures.only_reads t)

pub returns-in_default-clause-any : goal.returns-in_default-clause-any
returns-in_default-clause-any g c = λ t. Changes-read c.in_ok-judged.ensures.only_reads t

pub returns-in_err-settle_judged-clause-any : goal.returns-in_err-settle_judged-clause-any
returns-in_err-settle_judged-clause-any g c =
    let p = err_from_is_err_and c.from_residual-in_err-settle_judged.result c.from_residual-in_err-settle_judged.ensures.1 in
    rw (p.1, p.2) (λ t. Changes-then Anything (Some c.in_err-settle_judged.field-0.0) _ (g.H.Host.state c.judge_log.new.h) _ (Changes-read c.in_ok-judged.ensures.only_reads t) (c.in_err-settle_judged.ensures.any t))

pub returns-clause-any : goal.returns-clause-any
returns-clause-any g c = λ t. Changes-then Anything None _ (g.H.Host.state c.judge_log.new.h) _ (Changes-read c.in_ok-judged.ensures.only_reads t) (c.in_ok-settle_judged.ensures.any t)
