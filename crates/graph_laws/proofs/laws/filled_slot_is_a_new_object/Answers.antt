use Rattle.graph_laws.proofs.ObjectChanges.NewObjects.{graph_of-new}
use Rattle.graph_laws.proofs.laws.filled_slot_is_a_new_object.Goals as goal

pub returns : goal.returns
returns c = graph_of-new
