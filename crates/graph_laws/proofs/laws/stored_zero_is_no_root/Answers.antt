use Rattle.graph_laws.proofs.ObjectChanges.Roots.{graph_of-no_root}
use Rattle.graph_laws.proofs.laws.stored_zero_is_no_root.Goals as goal

pub returns : goal.returns
returns c = graph_of-no_root
