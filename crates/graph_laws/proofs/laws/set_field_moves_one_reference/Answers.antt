use Rattle.graph_laws.proofs.ObjectChanges.ReferenceCounts.{objects_sorted, reference_count-field}
use Rattle.graph_laws.proofs.laws.set_field_moves_one_reference.Goals as goal

pub returns : goal.returns
returns c = λ types st g q s f x was o is there field. reference_count-field q s f x was o g (objects_sorted types st g is) there field
