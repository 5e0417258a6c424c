use Rattle.graph_laws.proofs.Exporting.Placed.{pointers-kept, pointers-moved}
use Rattle.graph_laws.proofs.laws.placed_pointers_stand_for_the_same.Goals as goal

pub returns : goal.returns
returns c = record { kept = pointers-kept; moved = pointers-moved }
