use Rattle.graph_laws.proofs.RewritingSteps.StepsStored.{steps_in-same}
use Rattle.graph_laws.proofs.laws.steps_are_written_by_the_frame.Goals as goal

pub returns : goal.returns
returns c = steps_in-same
