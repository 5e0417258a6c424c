use Rattle.hybrid_tx.proofs.Objects.ObjectsMade.{new_stored}
use Rattle.hybrid_tx.proofs.laws.stored_words_make_the_object.Goals as goal

pub returns : goal.returns
returns c = new_stored
