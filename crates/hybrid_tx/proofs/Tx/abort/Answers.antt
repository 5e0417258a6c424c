use Rattle.std.proofs.Common.{refl}
use Rattle.pm_model.specs.Counts.{fault_of}
use Rattle.hybrid_tx.specs.PoolScopes.{pool_scope, finished_of}
use Rattle.hybrid_tx.proofs.Objects.PoolEnding.{AbortsOnPool-closes, names_aborted}
use Rattle.hybrid_tx.proofs.Tx.abort.Goals as goal

pub returns-clause-closes : goal.returns-clause-closes
returns-clause-closes g c = rw (← c.self.view_is) (λ t pool types before graph_before now deferred placed device apart is_open places one.
    AbortsOnPool-closes c.args.frames _ pool types _ before graph_before now deferred (fault_of c.abort.result) _ _ placed device apart is_open
    (λ es scope r. c.abort.ensures.closes t _ refl (pool_scope c.args.frames (finished_of pool)) es before scope r places one))

pub returns-clause-names : goal.returns-clause-names
returns-clause-names g c = rw (← c.self.view_is) (λ t pool types before graph_before now deferred placed device apart is_open places one.
    names_aborted c.args.frames _ pool types _ before graph_before now deferred (fault_of c.abort.result) _ _ placed device apart is_open
    (λ es scope r. c.abort.ensures.names t _ refl (pool_scope c.args.frames (finished_of pool)) es before scope r places one))
