use Rattle.graph_laws.proofs.Exporting.Placed.{graph_of-placed}
use Rattle.graph_laws.proofs.laws.placed_frames_have_the_graph.Goals as goal

pub returns : goal.returns
returns c = graph_of-placed
