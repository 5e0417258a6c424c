use Rattle.hybrid_tx.proofs.Open.OpenApart.{unmasked_by_another}
use Rattle.hybrid_tx.proofs.open_laws.words_of_one_are_masked_by_no_other.Goals as goal

pub returns : goal.returns
returns c = unmasked_by_another
