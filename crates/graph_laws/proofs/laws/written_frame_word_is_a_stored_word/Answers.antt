use Rattle.graph_laws.proofs.SameReads.StoredImages.{stored_in-written}
use Rattle.graph_laws.proofs.laws.written_frame_word_is_a_stored_word.Goals as goal

pub returns : goal.returns
returns c = stored_in-written
