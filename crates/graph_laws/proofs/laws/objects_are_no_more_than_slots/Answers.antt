use Rattle.graph_laws.proofs.SameReads.LiveSlots.{objects-most}
use Rattle.graph_laws.proofs.laws.objects_are_no_more_than_slots.Goals as goal

pub returns : goal.returns
returns c = λ types st g class is. objects-most class types st g is
