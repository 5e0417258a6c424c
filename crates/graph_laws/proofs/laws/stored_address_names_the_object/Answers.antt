use Rattle.graph_laws.proofs.ObjectChanges.Fields.{graph_of-reference}
use Rattle.graph_laws.proofs.laws.stored_address_names_the_object.Goals as goal

pub returns : goal.returns
returns c = graph_of-reference
