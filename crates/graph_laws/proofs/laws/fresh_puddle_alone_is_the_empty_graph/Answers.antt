use Rattle.pud_defs.proofs.PoolGraphs.FreshGraph.{graph_of-fresh}
use Rattle.graph_laws.proofs.laws.fresh_puddle_alone_is_the_empty_graph.Goals as goal

pub returns : goal.returns
returns c = graph_of-fresh
