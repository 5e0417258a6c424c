use Rattle.std.proofs.Common.{◌≡◌, inl, true, false, None, sym, ap, subst, ◌∙◌}
use Rattle.std.proofs.lemmas.Result.{err_from_is_err_and}
use Rattle.pm_model.specs.Counts.{Counts, fault_of}
use Rattle.pm_model.specs.Words.{reads}
use Rattle.pm_model.specs.Changes.{Write, Changes, Persists, only}
use Rattle.pm_model.proofs.Changes.{Changes-fence, Changes-wider}
use Rattle.pud_defs.specs.declared.log_words.TheConstants.{CLOSED_GATE}
use Rattle.log_store.specs.Store.{OpenLog}
use Rattle.log_replay.specs.Replaying.{Anything}
use Rattle.log_replay.proofs.Applying.{any_then, any_wider}
use Rattle.word_transaction.specs.Running.{ByCommit, ByCommitOf}
use Rattle.word_transaction.proofs.Committed.{gate_moves, gate_closes, CommitsTransaction-fence, CommitsTransaction-move, CommitsTransaction-close}
use Rattle.word_transaction.specs.Scope.{pending_in}
use Rattle.word_transaction.proofs.Pending.{defers-unknown}
use Rattle.word_transaction.proofs.Settled.{pending_open}
use Rattle.word_transaction.proofs.Redone.{CommitsTransaction-redone, named_redone}
use Rattle.word_transaction.proofs.WordTransaction.commit.Goals as goal

-- ---- the fence failed

pub returns-in_err-fence-clause-ends : goal.returns-in_err-fence-clause-ends
returns-in_err-fence-clause-ends g c =
    let p = err_from_is_err_and c.from_residual.result c.from_residual.ensures.1 in
    rw (p.1, p.2) (λ t size same scope es before is r can. CommitsTransaction-fence size c.args.self es scope before _ is r _ _ (c.in_err-fence.ensures.state t))

pub returns-in_err-fence-clause-gate : goal.returns-in_err-fence-clause-gate
returns-in_err-fence-clause-gate g c =
    let p = err_from_is_err_and c.from_residual.result c.from_residual.ensures.1 in
    rw (p.1, p.2) (λ t es opened none. Changes-fence (ByCommit c.args.self) _ _ _ (c.in_err-fence.ensures.state t))

pub returns-in_err-fence-clause-any : goal.returns-in_err-fence-clause-any
returns-in_err-fence-clause-any g c =
    let p = err_from_is_err_and c.from_residual.result c.from_residual.ensures.1 in
    rw (p.1, p.2) (λ t. Changes-fence Anything _ _ _ (c.in_err-fence.ensures.state t))

-- ---- the range was not moved

pub returns-in_err-to_committing-clause-ends : goal.returns-in_err-to_committing-clause-ends
returns-in_err-to_committing-clause-ends g c =
    let p = err_from_is_err_and c.from_residual-in_err-to_committing.result c.from_residual-in_err-to_committing.ensures.1 in
    rw (p.1, p.2, ← c.self.view_is) (λ t size same scope es before is r can.
    CommitsTransaction-move size _ es scope before _ is r _ _ _ (record { fence = c.in_ok-fence.ensures.state t; move = c.in_err-to_committing.ensures.persists t }))

pub returns-in_err-to_committing-clause-gate : goal.returns-in_err-to_committing-clause-gate
returns-in_err-to_committing-clause-gate g c =
    let p = err_from_is_err_and c.from_residual-in_err-to_committing.result c.from_residual-in_err-to_committing.ensures.1 in
    rw (p.1, p.2, ← c.self.view_is) (λ t es opened none.
    gate_moves _ _ _ _ _ (record { fence = c.in_ok-fence.ensures.state t; move = c.in_err-to_committing.ensures.persists t }))

pub returns-in_err-to_committing-clause-any : goal.returns-in_err-to_committing-clause-any
returns-in_err-to_committing-clause-any g c =
    let p = err_from_is_err_and c.from_residual-in_err-to_committing.result c.from_residual-in_err-to_committing.ensures.1 in
    rw (p.1, p.2) (λ t.
    any_wider (ByCommit c.self.inside.log) _ _ _
    (gate_moves _ _ _ _ _ (record { fence = c.in_ok-fence.ensures.state t; move = c.in_err-to_committing.ensures.persists t })))

-- ---- values are deferred: the log is replayed

pub returns-then-asked-clause-ends : goal.returns-then-asked-clause-ends
returns-then-asked-clause-ends g c =
    let old = g.H.Host.state c.args.h.now in
    let fault = fault_of c.settle_log.result in
    let size_now = ap (λ (n : Counts). n.size) (c.in_ok-to_committing.ensures.cause ∙ c.in_ok-fence.ensures.cause) in
    rw (← c.self.view_is) (λ t size same scope es before is r can.
    let some = sym c.defers-asked.ensures ∙ c.if-asked.true in
    CommitsTransaction-redone size _ es scope before old is r c.args.frames c.at-at.result fault _ _ _ c.at-at.ensures (can some)
    (record { fence = c.in_ok-fence.ensures.state t; move = c.in_ok-to_committing.ensures.persists t })
    (λ may. c.settle_log.ensures.settles t size (same ∙ sym size_now) es may) (λ may durable. c.settle_log.ensures.moments t size (same ∙ sym size_now) es may durable))

pub returns-then-asked-clause-gate : goal.returns-then-asked-clause-gate
returns-then-asked-clause-gate g c =
    rw (← c.self.view_is) (λ t es opened none.
    let some = sym c.defers-asked.ensures ∙ c.if-asked.true in
    absurd (let it : true ≡ false = sym some ∙ none in cc))

pub returns-then-asked-clause-any : goal.returns-then-asked-clause-any
returns-then-asked-clause-any g c = λ t.
    any_then (fault_of c.settle_log.result) _ _ _
    (any_wider (ByCommit c.self.inside.log) None _ _
    (gate_moves _ _ _ _ _ (record { fence = c.in_ok-fence.ensures.state t; move = c.in_ok-to_committing.ensures.persists t })))
    (c.settle_log.ensures.any t)

-- ---- no values are deferred: the log is closed

pub returns-clause-ends : goal.returns-clause-ends
returns-clause-ends g c =
    let fault = fault_of c.close.result in
    rw (← c.self.view_is) (λ t size same scope es before is r can.
    let none = defers-unknown es _ r.opened.defers_known (sym c.defers-asked.ensures ∙ c.if-asked.false) in
    let close = subst (λ (l : OpenLog). Persists (only l.gate_at CLOSED_GATE) fault (g.H.Host.state c.to_committing.new.h) (g.H.Host.state c.close.new.h)) c.in_ok-to_committing.ensures.moved (c.close.ensures.persists t) in
    CommitsTransaction-close size _ es scope before _ is r fault _ _ _ none (record { fence = c.in_ok-fence.ensures.state t; move = c.in_ok-to_committing.ensures.persists t }) close)

pub returns-clause-gate : goal.returns-clause-gate
returns-clause-gate g c =
    let fault = fault_of c.close.result in
    rw (← c.self.view_is) (λ t es opened none.
    let close = subst (λ (l : OpenLog). Persists (only l.gate_at CLOSED_GATE) fault (g.H.Host.state c.to_committing.new.h) (g.H.Host.state c.close.new.h)) c.in_ok-to_committing.ensures.moved (c.close.ensures.persists t) in
    gate_closes _ fault _ _ _ _ (record { fence = c.in_ok-fence.ensures.state t; move = c.in_ok-to_committing.ensures.persists t }) close)

pub returns-clause-any : goal.returns-clause-any
returns-clause-any g c =
    let fault = fault_of c.close.result in
    λ t.
    let close = subst (λ (l : OpenLog). Persists (only l.gate_at CLOSED_GATE) fault (g.H.Host.state c.to_committing.new.h) (g.H.Host.state c.close.new.h)) c.in_ok-to_committing.ensures.moved (c.close.ensures.persists t) in
    any_wider (ByCommit c.self.inside.log) fault _ _ (gate_closes _ fault _ _ _ _ (record { fence = c.in_ok-fence.ensures.state t; move = c.in_ok-to_committing.ensures.persists t }) close)

-- ---- which words it writes

pub returns-in_err-fence-clause-names : goal.returns-in_err-fence-clause-names
returns-in_err-fence-clause-names g c =
    let p = err_from_is_err_and c.from_residual.result c.from_residual.ensures.1 in
    rw (p.1, p.2) (λ t size same scope es before is r can.
    Changes-fence (ByCommitOf c.args.self (pending_in scope.place c.args.self.gate_at (reads (g.H.Host.state c.args.h.now).now.words))) _ _ _ (c.in_err-fence.ensures.state t))

pub returns-in_err-to_committing-clause-names : goal.returns-in_err-to_committing-clause-names
returns-in_err-to_committing-clause-names g c =
    let p = err_from_is_err_and c.from_residual-in_err-to_committing.result c.from_residual-in_err-to_committing.ensures.1 in
    rw (p.1, p.2, ← c.self.view_is) (λ t size same scope es before is r can.
    let log = c.self.inside.log in
    Changes-wider (ByCommit log) (ByCommitOf log (pending_in scope.place log.gate_at (reads (g.H.Host.state c.args.h.now).now.words))) _ _ _ (λ k v by. inl by)
    (gate_moves _ _ _ _ _ (record { fence = c.in_ok-fence.ensures.state t; move = c.in_err-to_committing.ensures.persists t })))

pub returns-then-asked-clause-names : goal.returns-then-asked-clause-names
returns-then-asked-clause-names g c =
    let old = g.H.Host.state c.args.h.now in
    let fault = fault_of c.settle_log.result in
    let size_now = ap (λ (n : Counts). n.size) (c.in_ok-to_committing.ensures.cause ∙ c.in_ok-fence.ensures.cause) in
    rw (← c.self.view_is) (λ t size same scope es before is r can.
    let log = c.self.inside.log in
    let some = sym c.defers-asked.ensures ∙ c.if-asked.true in
    subst (λ (write : Write). Changes (ByCommitOf log write) fault old (g.H.Host.state c.settle_log.new.h)) (sym (pending_open scope.place log es old.now.words r.opened))
    (named_redone size log es scope before old is r c.args.frames c.at-at.result fault _ _ _ c.at-at.ensures (can some)
    (record { fence = c.in_ok-fence.ensures.state t; move = c.in_ok-to_committing.ensures.persists t }) (λ may. c.settle_log.ensures.settles t size (same ∙ sym size_now) es may) (λ may durable. c.settle_log.ensures.moments t size (same ∙ sym size_now) es may durable)))

pub returns-clause-names : goal.returns-clause-names
returns-clause-names g c =
    let fault = fault_of c.close.result in
    rw (← c.self.view_is) (λ t size same scope es before is r can.
    let log = c.self.inside.log in
    let close = subst (λ (l : OpenLog). Persists (only l.gate_at CLOSED_GATE) fault (g.H.Host.state c.to_committing.new.h) (g.H.Host.state c.close.new.h)) c.in_ok-to_committing.ensures.moved (c.close.ensures.persists t) in
    Changes-wider (ByCommit log) (ByCommitOf log (pending_in scope.place log.gate_at (reads (g.H.Host.state c.args.h.now).now.words))) fault _ _ (λ k v by. inl by)
    (gate_closes _ fault _ _ _ _ (record { fence = c.in_ok-fence.ensures.state t; move = c.in_ok-to_committing.ensures.persists t }) close))
