use Rattle.graph_laws.proofs.ObjectChanges.Fields.{graph_of-null}
use Rattle.graph_laws.proofs.laws.stored_zero_is_null.Goals as goal

pub returns : goal.returns
returns c = graph_of-null
