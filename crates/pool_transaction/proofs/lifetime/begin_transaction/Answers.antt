use Rattle.std.proofs.Common.{Some, None}
use Rattle.std.proofs.lemmas.Result.{err_from_is_err_and}
use Rattle.daemon_memory.proofs.Commands.Keeping.{KeepsRest-changes}
use Rattle.pool_transaction.proofs.Lifetimes.Beginning.{Applies-begins}
use Rattle.pool_transaction.proofs.lifetime.begin_transaction.Goals as goal

pub returns-in_err-tx-clause-applies : goal.returns-in_err-tx-clause-applies
returns-in_err-tx-clause-applies g c =
    let p = err_from_is_err_and c.from_residual.result c.from_residual.ensures.1 in
    rw (p.1, p.2) (λ t size e w memory frames ready may place.
    let n = c.in_err-tx.ensures in
    Applies-begins size w memory c.args.frames c.args.client c.args.name c.args.slot c.args.number (Some c.in_err-tx.field-0.0) _ _ frames c.requires.slot c.requires.client c.requires.number may place ready (n.persists t) (n.runs t))

pub returns-clause-applies : goal.returns-clause-applies
returns-clause-applies g c = λ t size e w memory frames ready may place.
    let n = c.in_ok-tx.ensures in
    Applies-begins size w memory c.args.frames c.args.client c.args.name c.args.slot c.args.number None _ _ frames c.requires.slot c.requires.client c.requires.number may place ready (n.persists t) (n.runs t)

pub returns-in_err-tx-clause-rest : goal.returns-in_err-tx-clause-rest
returns-in_err-tx-clause-rest g c = λ t. KeepsRest-changes _ _ _ _ ((c.in_err-tx.ensures.persists t).changes)

pub returns-clause-rest : goal.returns-clause-rest
returns-clause-rest g c = λ t. KeepsRest-changes _ _ _ _ ((c.in_ok-tx.ensures.persists t).changes)

pub returns-in_err-tx-clause-writes : goal.returns-in_err-tx-clause-writes
returns-in_err-tx-clause-writes g c =
    let p = err_from_is_err_and c.from_residual.result c.from_residual.ensures.1 in
    rw (p.1, p.2) (λ t lowest. record { number = c.args.number; lowest = lowest; persists = c.in_err-tx.ensures.persists t })

pub returns-clause-writes : goal.returns-clause-writes
returns-clause-writes g c = λ t lowest. record { number = c.args.number; lowest = lowest; persists = c.in_ok-tx.ensures.persists t }
