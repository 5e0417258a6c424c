use Rattle.graph_laws.proofs.Exporting.Law.{contents_of-exported}
use Rattle.graph_laws.proofs.laws.exported_words_hold_the_graph.Goals as goal

pub returns : goal.returns
returns c = contents_of-exported
