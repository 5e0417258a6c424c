use Rattle.log_entry.proofs.Readings.{next-spelled}
use Rattle.log_entry.proofs.laws.encoded_words_are_read_back.Goals as goal

pub returns : goal.returns
returns c = λ image reader entry legal stands. next-spelled image reader entry legal stands
