use Rattle.std.proofs.Common.{subst}
use Rattle.pm_model.specs.Counts.{fault_of}
use Rattle.daemon_memory.specs.Memory.{ActiveTransaction}
use Rattle.daemon_memory.proofs.Commands.Keeping.{KeepsRest-changes}
use Rattle.pool_transaction.proofs.Lifetimes.ActiveEnds.{Commits, NamesRedo, ClosesAlone, commits_active}
use Rattle.pool_transaction.proofs.lifetime.commit_transaction.Goals as goal

pub returns-clause-commits : goal.returns-clause-commits
returns-clause-commits g c = λ t known size w memory runs.
    commits_active size w memory c.args.opened known (g.H.Host.state c.args.h.now) c.args.frames (g.H.Host.counts c.args.h.now).size runs (fault_of c.commit.result) (g.H.Host.state c.commit.new.h)
    (subst (λ (h : ActiveTransaction). Commits c.args.frames (g.H.Host.counts c.args.h.now).size h.tx.log (fault_of c.commit.result) (g.H.Host.state c.args.h.now) (g.H.Host.state c.commit.new.h)) c.opened.view_is (c.commit.ensures.ends t))
    (subst (λ (h : ActiveTransaction). NamesRedo c.args.frames (g.H.Host.counts c.args.h.now).size h.tx.log (fault_of c.commit.result) (g.H.Host.state c.args.h.now) (g.H.Host.state c.commit.new.h)) c.opened.view_is (c.commit.ensures.names t))
    (subst (λ (h : ActiveTransaction). ClosesAlone h.tx.log (fault_of c.commit.result) (g.H.Host.state c.args.h.now) (g.H.Host.state c.commit.new.h)) c.opened.view_is (c.commit.ensures.gate t))

pub returns-clause-rest : goal.returns-clause-rest
returns-clause-rest g c = λ t. KeepsRest-changes _ _ _ _ (c.commit.ensures.any t)
