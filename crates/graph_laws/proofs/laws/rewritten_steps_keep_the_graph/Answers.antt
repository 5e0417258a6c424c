use Rattle.graph_laws.proofs.RewritingSteps.Rewritten.{graph_of-steps}
use Rattle.graph_laws.proofs.laws.rewritten_steps_keep_the_graph.Goals as goal

pub returns : goal.returns
returns c = graph_of-steps
