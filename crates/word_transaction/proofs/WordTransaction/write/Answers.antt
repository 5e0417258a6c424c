use Rattle.word_transaction.proofs.Writing.{KeepsRunning-written}
use Rattle.word_transaction.proofs.WordTransaction.write.Goals as goal

pub returns-clause-runs : goal.returns-clause-runs
returns-clause-runs g c = λ t size is scope es before stands running covered. KeepsRunning-written size scope _ es before _ _ _ _ stands running covered (c.write_range.ensures.writes t)
