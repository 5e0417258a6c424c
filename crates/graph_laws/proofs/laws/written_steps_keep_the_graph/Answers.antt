use Rattle.graph_laws.proofs.RewritingSteps.StepsStored.{graph_of-written}
use Rattle.graph_laws.proofs.laws.written_steps_keep_the_graph.Goals as goal

pub returns : goal.returns
returns c = graph_of-written
