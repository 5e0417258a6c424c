use Rattle.word_transaction.proofs.Images.{IsRunning-recovers}
use Rattle.word_transaction.proofs.laws.image_left_recovers_to_the_beginning.Goals as goal

pub returns : goal.returns
returns c = IsRunning-recovers
