use Rattle.graph_laws.proofs.SameReads.LiveSlots.{objects-live}
use Rattle.graph_laws.proofs.laws.all_slots_are_live_with_as_many_objects.Goals as goal

pub returns : goal.returns
returns c = λ types st g class is. objects-live class types st g is
