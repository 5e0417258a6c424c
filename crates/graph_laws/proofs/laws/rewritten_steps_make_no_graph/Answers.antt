use Rattle.graph_laws.proofs.RewritingSteps.Rewritten.{graph_of-steps_any}
use Rattle.graph_laws.proofs.laws.rewritten_steps_make_no_graph.Goals as goal

pub returns : goal.returns
returns c = graph_of-steps_any
