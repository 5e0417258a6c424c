use Rattle.pm_model.proofs.Words.{Picks-reads}
use Rattle.pm_model.proofs.laws.what_is_read_may_be_left.Goals as goal

pub returns : goal.returns
returns c = λ words. Picks-reads words
