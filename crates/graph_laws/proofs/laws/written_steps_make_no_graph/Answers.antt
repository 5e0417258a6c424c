use Rattle.graph_laws.proofs.RewritingSteps.StepsStored.{graph_of-written_any}
use Rattle.graph_laws.proofs.laws.written_steps_make_no_graph.Goals as goal

pub returns : goal.returns
returns c = graph_of-written_any
