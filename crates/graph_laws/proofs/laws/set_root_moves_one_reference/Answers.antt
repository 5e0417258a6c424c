use Rattle.graph_laws.proofs.ObjectChanges.ReferenceCounts.{reference_count-root}
use Rattle.graph_laws.proofs.laws.set_root_moves_one_reference.Goals as goal

pub returns : goal.returns
returns c = reference_count-root
