use Rattle.graph_laws.proofs.Exporting.Law.{file_graph-exported}
use Rattle.graph_laws.proofs.laws.bytes_of_exported_words_are_a_file.Goals as goal

pub returns : goal.returns
returns c = file_graph-exported
