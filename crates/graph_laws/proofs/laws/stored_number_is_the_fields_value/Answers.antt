use Rattle.graph_laws.proofs.ObjectChanges.Fields.{graph_of-number}
use Rattle.graph_laws.proofs.laws.stored_number_is_the_fields_value.Goals as goal

pub returns : goal.returns
returns c = graph_of-number
