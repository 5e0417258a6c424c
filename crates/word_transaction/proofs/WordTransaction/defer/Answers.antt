use Rattle.word_transaction.proofs.Saving.{MayAppend-redo}
use Rattle.word_transaction.proofs.WordTransaction.defer.Goals as goal

pub returns-clause-runs : goal.returns-clause-runs
returns-clause-runs g c = λ t size is scope es before stands may running.
    c.append.ensures.runs t size is scope es before stands running (MayAppend-redo scope _ es before c.args.address c.args.vals.now _ may running)
