use Rattle.hybrid_tx.proofs.Objects.RootsSet.{root_set}
use Rattle.hybrid_tx.proofs.laws.stored_word_is_the_root.Goals as goal

pub returns : goal.returns
returns c = root_set
