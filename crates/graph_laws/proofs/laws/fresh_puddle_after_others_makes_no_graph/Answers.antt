use Rattle.graph_laws.proofs.FreshPuddles.StaysWild.{graph_of-wild}
use Rattle.graph_laws.proofs.laws.fresh_puddle_after_others_makes_no_graph.Goals as goal

pub returns : goal.returns
returns c = λ types st d word none grown. graph_of-wild types st d word grown none
