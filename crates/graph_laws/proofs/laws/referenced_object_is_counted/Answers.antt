use Rattle.graph_laws.proofs.ObjectChanges.ReferenceCounts.{held-reference_count}
use Rattle.graph_laws.proofs.laws.referenced_object_is_counted.Goals as goal

pub returns : goal.returns
returns c = held-reference_count
