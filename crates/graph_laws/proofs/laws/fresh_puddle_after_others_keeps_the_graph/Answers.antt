use Rattle.graph_laws.proofs.FreshPuddles.Grown.{graph_of-grown}
use Rattle.graph_laws.proofs.laws.fresh_puddle_after_others_keeps_the_graph.Goals as goal

pub returns : goal.returns
returns c = λ types st g d word is grown. graph_of-grown types st d word grown g is
