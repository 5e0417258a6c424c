use Rattle.hybrid_tx.proofs.Objects.ObjectsFreed.{free_stored}
use Rattle.hybrid_tx.proofs.laws.cleared_serial_frees_the_object.Goals as goal

pub returns : goal.returns
returns c = free_stored
