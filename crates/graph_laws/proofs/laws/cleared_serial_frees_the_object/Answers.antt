use Rattle.graph_laws.proofs.ObjectChanges.FreedObjects.{graph_of-freed}
use Rattle.graph_laws.proofs.laws.cleared_serial_frees_the_object.Goals as goal

pub returns : goal.returns
returns c = graph_of-freed
