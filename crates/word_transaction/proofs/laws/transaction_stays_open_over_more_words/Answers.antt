use Rattle.word_transaction.proofs.Growing.{IsRunning-wider}
use Rattle.word_transaction.proofs.laws.transaction_stays_open_over_more_words.Goals as goal

pub returns : goal.returns
returns c = λ g wide log es before words may place mine fresh running. IsRunning-wider g wide log es before words (record { may = may; place = place; has_word = mine }) fresh running
