use Rattle.graph_laws.proofs.ObjectChanges.ReferenceCounts.{next_unused, reference_count-new}
use Rattle.graph_laws.proofs.laws.new_object_references_none.Goals as goal

pub returns : goal.returns
returns c = λ types st g q class id m is some. reference_count-new q class id m g some (next_unused types st g is)
