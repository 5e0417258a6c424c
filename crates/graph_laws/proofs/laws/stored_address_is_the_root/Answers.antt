use Rattle.graph_laws.proofs.ObjectChanges.Roots.{graph_of-root}
use Rattle.graph_laws.proofs.laws.stored_address_is_the_root.Goals as goal

pub returns : goal.returns
returns c = graph_of-root
