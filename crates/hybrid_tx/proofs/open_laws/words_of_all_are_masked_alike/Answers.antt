use Rattle.hybrid_tx.proofs.Open.ManyMasks.{open_masks_all}
use Rattle.hybrid_tx.proofs.open_laws.words_of_all_are_masked_alike.Goals as goal

pub returns : goal.returns
returns c = open_masks_all
