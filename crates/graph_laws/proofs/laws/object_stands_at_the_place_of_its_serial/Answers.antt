use Rattle.graph_laws.proofs.SameReads.Places.{object_in-place}
use Rattle.graph_laws.proofs.laws.object_stands_at_the_place_of_its_serial.Goals as goal

pub returns : goal.returns
returns c = object_in-place
