use Rattle.graph_laws.proofs.SameReads.Unread.{graph_of-after}
use Rattle.graph_laws.proofs.laws.words_after_the_fields_are_not_read.Goals as goal

pub returns : goal.returns
returns c = graph_of-after
