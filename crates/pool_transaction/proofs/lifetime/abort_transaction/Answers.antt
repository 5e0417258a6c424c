use Rattle.std.proofs.Common.{subst}
use Rattle.pm_model.specs.Counts.{fault_of}
use Rattle.daemon_memory.specs.Memory.{ActiveTransaction}
use Rattle.daemon_memory.proofs.Commands.Keeping.{KeepsRest-changes}
use Rattle.pool_transaction.proofs.Lifetimes.ActiveEnds.{Undoes, NamesUndo, aborts_active}
use Rattle.pool_transaction.proofs.lifetime.abort_transaction.Goals as goal

pub returns-clause-aborts : goal.returns-clause-aborts
returns-clause-aborts g c = λ t known size w memory runs.
    aborts_active size w memory c.args.opened known (g.H.Host.state c.args.h.now) c.args.frames (g.H.Host.counts c.args.h.now).size runs (fault_of c.abort.result) (g.H.Host.state c.abort.new.h)
    (subst (λ (h : ActiveTransaction). Undoes c.args.frames (g.H.Host.counts c.args.h.now).size h.tx.log (fault_of c.abort.result) (g.H.Host.state c.args.h.now) (g.H.Host.state c.abort.new.h)) c.opened.view_is (c.abort.ensures.closes t))
    (subst (λ (h : ActiveTransaction). NamesUndo c.args.frames (g.H.Host.counts c.args.h.now).size h.tx.log (fault_of c.abort.result) (g.H.Host.state c.args.h.now) (g.H.Host.state c.abort.new.h)) c.opened.view_is (c.abort.ensures.names t))

pub returns-clause-rest : goal.returns-clause-rest
returns-clause-rest g c = λ t. KeepsRest-changes _ _ _ _ (c.abort.ensures.any t)
