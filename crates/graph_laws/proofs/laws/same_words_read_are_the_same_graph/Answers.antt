use Rattle.graph_laws.proofs.SameReads.Unread.{graph_of-read}
use Rattle.graph_laws.proofs.laws.same_words_read_are_the_same_graph.Goals as goal

pub returns : goal.returns
returns c = graph_of-read
