use Rattle.graph_laws.proofs.SameReads.StoredImages.{stored_in-same}
use Rattle.graph_laws.proofs.laws.images_that_agree_store_the_same.Goals as goal

pub returns : goal.returns
returns c = stored_in-same
