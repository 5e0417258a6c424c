use Rattle.pud_defs.proofs.PoolGraphs.TypeMore.{graph_of-more}
use Rattle.graph_laws.proofs.laws.graph_stays_under_one_type_more.Goals as goal

pub returns : goal.returns
returns c = graph_of-more
