use Rattle.std.proofs.lemmas.Result.{err_from_is_err_and}
use Rattle.word_transaction.proofs.Beginning.{KeepsRunning-begun}
use Rattle.word_transaction.proofs.WordTransaction.begin.Goals as goal

pub returns-in_err-log-clause-runs : goal.returns-in_err-log-clause-runs
returns-in_err-log-clause-runs g c =
    let p = err_from_is_err_and c.from_residual.result c.from_residual.ensures.1 in
    rw (p.1, p.2) (λ t size is scope before stands idle. KeepsRunning-begun size _ scope before _ _ _ stands idle (c.in_err-log.ensures.persists t))

pub returns-clause-runs : goal.returns-clause-runs
returns-clause-runs g c = λ t size is scope before stands idle. KeepsRunning-begun size _ scope before _ _ _ stands idle (c.in_ok-log.ensures.persists t)
