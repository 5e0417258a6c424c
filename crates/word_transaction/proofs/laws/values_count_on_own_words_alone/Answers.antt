use Rattle.word_transaction.proofs.Growing.{IsRunning-values}
use Rattle.word_transaction.proofs.laws.values_count_on_own_words_alone.Goals as goal

pub returns : goal.returns
returns c = IsRunning-values
