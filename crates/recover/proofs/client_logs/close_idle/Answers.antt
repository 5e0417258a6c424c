use Rattle.std.proofs.Common.{◌≡◌, ◌∙◌, ℕ, Some, None, sym, ap, subst}
use Rattle.std.proofs.lemmas.Result.{err_from_is_err_and}
use Rattle.pm_model.specs.Words.{reads}
use Rattle.pm_model.specs.Counts.{fault_of}
use Rattle.pm_model.specs.Moments.{State}
use Rattle.pm_model.specs.Changes.{only, Persists, Changes, written}
use Rattle.pm_model.proofs.Changes.{Changes-wider}
use Rattle.pud_defs.specs.declared.log_words.TheConstants.{CLOSED_GATE}
use Rattle.pud_defs.specs.Formats.Image.{Image}
use Rattle.pud_defs.specs.Logging.Settled.{log_number_at}
use Rattle.log_replay.specs.Replaying.{Anything}
use Rattle.recover.proofs.Accepting.{of_closed, closed_gives_nothing}
use Rattle.recover.proofs.LogRecovered.{RecoversLog-still, RecoversLogAtEachMoment-still, RecoversLog-closed, RecoversLogAtEachMoment-closed}
use Rattle.recover.proofs.client_logs.close_idle.Goals as goal

pub returns-in_err-gate-clause-takes : goal.returns-in_err-gate-clause-takes
returns-in_err-gate-clause-takes g c =
    let p = err_from_is_err_and c.from_residual.result c.from_residual.ensures.1 in
    rw (p.1, p.2) (λ t image is verdict.
    RecoversLog-still c.args.frames c.args.number image (g.H.Host.state c.args.h.now) is _ _ c.in_err-gate.ensures.only_reads.never_cut (c.load.ensures.only_reads.stays t)
    (closed_gives_nothing c.args.frames c.args.number image verdict) (λ none. absurd (let it : None ≡ Some _ = sym none in cc)))

pub returns-in_err-gate-clause-leaves : goal.returns-in_err-gate-clause-leaves
returns-in_err-gate-clause-leaves g c =
    let p = err_from_is_err_and c.from_residual.result c.from_residual.ensures.1 in
    rw (p.1, p.2) (λ t image rested is verdict. RecoversLogAtEachMoment-still c.args.frames c.args.number image (g.H.Host.state c.args.h.now) is rested _ _ (c.load.ensures.only_reads.stays t))

pub returns-then-gate-eq-CLOSED_GATE-clause-takes : goal.returns-then-gate-eq-CLOSED_GATE-clause-takes
returns-then-gate-eq-CLOSED_GATE-clause-takes g c = λ t image is verdict.
    let gate = ap (λ (k : ℕ). reads (g.H.Host.state c.args.h.now).now.words k) (sym c.log_number_at-at.ensures) ∙ sym (c.in_ok-gate.ensures.value t) in
    RecoversLog-still c.args.frames c.args.number image (g.H.Host.state c.args.h.now) is None _ (λ cut. absurd (let it : None ≡ Some _ = cut in cc)) (c.load.ensures.only_reads.stays t)
    (closed_gives_nothing c.args.frames c.args.number image verdict)
    (λ none accepted. ap (λ (i : Image). i (log_number_at c.args.frames c.args.number)) (sym is) ∙ gate ∙ c.if-gate-eq-CLOSED_GATE.true)

pub returns-then-gate-eq-CLOSED_GATE-clause-leaves : goal.returns-then-gate-eq-CLOSED_GATE-clause-leaves
returns-then-gate-eq-CLOSED_GATE-clause-leaves g c = λ t image rested is verdict. RecoversLogAtEachMoment-still c.args.frames c.args.number image (g.H.Host.state c.args.h.now) is rested None _ (c.load.ensures.only_reads.stays t)

pub returns-clause-takes : goal.returns-clause-takes
returns-clause-takes g c = λ t image is verdict.
    let persists = subst (λ (k : ℕ). Persists (only k CLOSED_GATE) (fault_of c.persist_word.result) (g.H.Host.state c.load.new.self) (g.H.Host.state c.persist_word.new.h)) c.log_number_at-at.ensures (c.persist_word.ensures.persists t) in
    RecoversLog-closed c.args.frames c.args.number image (g.H.Host.state c.args.h.now) is _ _
    (subst (λ (s : State). Persists (only (log_number_at c.args.frames c.args.number) CLOSED_GATE) (fault_of c.persist_word.result) s (g.H.Host.state c.persist_word.new.h)) (c.load.ensures.only_reads.stays t) persists)
    (of_closed c.args.frames c.args.number image verdict).0 (closed_gives_nothing c.args.frames c.args.number image verdict)

pub returns-clause-leaves : goal.returns-clause-leaves
returns-clause-leaves g c = λ t image rested is verdict.
    let persists = subst (λ (k : ℕ). Persists (only k CLOSED_GATE) (fault_of c.persist_word.result) (g.H.Host.state c.load.new.self) (g.H.Host.state c.persist_word.new.h)) c.log_number_at-at.ensures (c.persist_word.ensures.persists t) in
    RecoversLogAtEachMoment-closed c.args.frames c.args.number image (g.H.Host.state c.args.h.now) is _ _
    (subst (λ (s : State). Persists (only (log_number_at c.args.frames c.args.number) CLOSED_GATE) (fault_of c.persist_word.result) s (g.H.Host.state c.persist_word.new.h)) (c.load.ensures.only_reads.stays t) persists)
    (of_closed c.args.frames c.args.number image verdict).0 (closed_gives_nothing c.args.frames c.args.number image verdict) rested

pub returns-clause-any : goal.returns-clause-any
returns-clause-any g c = λ t.
    let changes = (c.persist_word.ensures.persists t).changes in
    let wide = Changes-wider (written (only c.log_number_at-at.result CLOSED_GATE)) Anything (fault_of c.persist_word.result) (g.H.Host.state c.load.new.self) (g.H.Host.state c.persist_word.new.h) (λ k v new. tt) changes in
    subst (λ (s : State). Changes Anything (fault_of c.persist_word.result) s (g.H.Host.state c.persist_word.new.h)) (c.load.ensures.only_reads.stays t) wide
