use Rattle.graph_laws.proofs.ObjectChanges.ReferenceCounts.{objects_sorted, reference_count-freed}
use Rattle.graph_laws.proofs.laws.freed_object_references_no_more.Goals as goal

pub returns : goal.returns
returns c = λ types st g q s o is there. reference_count-freed q s o g (objects_sorted types st g is) there
