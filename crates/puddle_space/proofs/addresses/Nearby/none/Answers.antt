use Rattle.std.proofs.lemmas.List.Elements.{All-replicate}
use Rattle.puddle_space.specs.Nearby.{AreNeighbours}
use Rattle.puddle_space.proofs.addresses.Nearby.none.Goals as goal

pub returns : goal.returns
returns c = λ t. All-replicate (AreNeighbours t) 16 c.none.result (c.none.ensures t)
