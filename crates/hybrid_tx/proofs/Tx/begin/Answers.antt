use Rattle.std.proofs.Common.{[], refl, sym, subst, arith}
use Rattle.std.proofs.lemmas.Result.{err_from_is_err_and}
use Rattle.log_store.specs.Store.{OpenLog}
use Rattle.hybrid_tx.specs.PoolScopes.{pool_scope, finished_of}
use Rattle.hybrid_tx.specs.Objects.Transactions.{IsOpenOn}
use Rattle.hybrid_tx.proofs.PoolScope.{is_scope}
use Rattle.hybrid_tx.proofs.FinishedPuddles.{finished_placed}
use Rattle.hybrid_tx.proofs.Objects.Opening.{IsIdle-finished, IsOpenOn-begun}
use Rattle.hybrid_tx.proofs.Tx.begin.Goals as goal

pub returns-in_err-words-clause-runs : goal.returns-in_err-words-clause-runs
returns-in_err-words-clause-runs g c =
    let p = err_from_is_err_and c.from_residual.result c.from_residual.ensures.1 in
    let gate = c.log_number_at-gate.ensures in
    let few = c.requires.known in
    rw (p.1, p.2, ← gate) (λ t at before placed idle.
    c.in_err-words.ensures.runs t _ refl (pool_scope c.args.frames (finished_of at)) before (is_scope c.args.frames _ _ (finished_of at) (finished_placed c.args.frames at placed) c.requires.device (omega arith))
    (IsIdle-finished c.args.frames at _ before _ idle))

pub returns-clause-runs : goal.returns-clause-runs
returns-clause-runs g c =
    let gate = c.log_number_at-gate.ensures in
    let few = c.requires.known in
    rw (← gate) (λ t at before placed idle.
    c.in_ok-words.ensures.runs t _ refl (pool_scope c.args.frames (finished_of at)) before (is_scope c.args.frames _ _ (finished_of at) (finished_placed c.args.frames at placed) c.requires.device (omega arith))
    (IsIdle-finished c.args.frames at _ before _ idle))

pub returns-clause-open : goal.returns-clause-open
returns-clause-open g c =
    let gate = c.log_number_at-gate.ensures in
    let few = c.requires.known in
    let new = g.H.Host.state c.begin.new.h in
    rw (← gate) (λ t at before placed idle types k is.
    let scope = is_scope c.args.frames (g.H.Host.counts c.args.h.now).size c.log_number_at-gate.result at placed c.requires.device (omega arith) in
    subst (λ (l : OpenLog). IsOpenOn c.args.frames at types l before k k [] new.now.words) (sym c.in_ok-words.ensures.opened)
    (IsOpenOn-begun c.args.frames _ at types before _ k _ new scope idle is
    (c.in_ok-words.ensures.runs t _ refl (pool_scope c.args.frames (finished_of at)) before (is_scope c.args.frames _ _ (finished_of at) (finished_placed c.args.frames at placed) c.requires.device (omega arith))
    (IsIdle-finished c.args.frames at _ before _ idle))))
