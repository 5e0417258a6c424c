use Rattle.std.proofs.Common.{Some, refl}
use Rattle.std.proofs.lemmas.Result.{err_from_is_err_and}
use Rattle.pm_model.specs.Counts.{fault_of}
use Rattle.daemon_memory.proofs.Commands.Keeping.{KeepsRest-changes, KeepsRest-then}
use Rattle.pool_transaction.proofs.PuddlesFinished.FinishedPools.{Rewrites-first, Rewrites-both}
use Rattle.pool_transaction.proofs.changing.finish_both.Goals as goal

pub returns-in_err-finish-clause-rewrites : goal.returns-in_err-finish-clause-rewrites
returns-in_err-finish-clause-rewrites g c =
    let p = err_from_is_err_and c.from_residual.result c.from_residual.ensures.1 in
    rw (p.1, p.2) (λ t idle low.
    Rewrites-first c.args.frames c.args.ordinal c.args.pool.now c.finish.new.pool (Some c.in_err-finish.field-0.0) (g.H.Host.state c.args.h.now) (g.H.Host.state c.finish.new.h)
    (c.in_err-finish.ensures.rewrites t _ refl idle low))

pub returns-in_err-finish-clause-rest : goal.returns-in_err-finish-clause-rest
returns-in_err-finish-clause-rest g c = λ t. KeepsRest-changes _ _ _ _ (c.in_err-finish.ensures.any t)

pub returns-clause-rewrites : goal.returns-clause-rewrites
returns-clause-rewrites g c = λ t idle low.
    Rewrites-both c.args.frames c.args.ordinal c.args.pool.now c.finish.new.pool c.finish-2.new.pool (fault_of c.finish-2.result) (g.H.Host.state c.args.h.now) (g.H.Host.state c.finish.new.h) (g.H.Host.state c.finish-2.new.h)
    c.in_ok-finish.ensures.pool (c.in_ok-finish.ensures.rewrites t _ refl idle low) idle low (λ idle low. c.finish-2.ensures.rewrites t _ refl idle low)

pub returns-clause-rest : goal.returns-clause-rest
returns-clause-rest g c = λ t. KeepsRest-then _ _ _ (KeepsRest-changes _ _ _ _ (c.in_ok-finish.ensures.any t)) (KeepsRest-changes _ _ _ _ (c.finish-2.ensures.any t))
