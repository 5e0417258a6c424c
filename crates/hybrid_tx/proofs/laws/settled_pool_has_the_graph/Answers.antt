use Rattle.hybrid_tx.proofs.Objects.PoolEnding.{settled_graph}
use Rattle.hybrid_tx.proofs.laws.settled_pool_has_the_graph.Goals as goal

pub returns : goal.returns
returns c = settled_graph
