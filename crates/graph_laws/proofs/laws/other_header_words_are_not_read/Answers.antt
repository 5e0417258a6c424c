use Rattle.graph_laws.proofs.SameReads.Unread.{graph_of-header}
use Rattle.graph_laws.proofs.laws.other_header_words_are_not_read.Goals as goal

pub returns : goal.returns
returns c = graph_of-header
