use Rattle.std.proofs.Common.{refl}
use Rattle.pm_model.specs.Counts.{fault_of}
use Rattle.hybrid_tx.proofs.Objects.PoolEnding.{CommitsOnPool-ends, names_committed}
use Rattle.hybrid_tx.proofs.Tx.commit.Goals as goal

pub returns-clause-ends : goal.returns-clause-ends
returns-clause-ends g c = rw (← c.self.view_is) (λ t pool types before graph_before now deferred placed device apart is_open can.
    CommitsOnPool-ends c.args.frames _ pool types _ before graph_before now deferred (fault_of c.commit.result) _ _ placed device apart is_open can
    (λ k es b scope r able. c.commit.ensures.ends t _ refl k es b scope r able))

pub returns-clause-names : goal.returns-clause-names
returns-clause-names g c = rw (← c.self.view_is) (λ t pool types before graph_before now deferred placed device apart is_open can.
    names_committed c.args.frames _ pool types _ before graph_before now deferred (fault_of c.commit.result) _ _ placed device apart is_open can
    (λ k es b scope r able. c.commit.ensures.names t _ refl k es b scope r able))
