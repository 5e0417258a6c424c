use Rattle.std.proofs.Common.{length}
use Rattle.soundness.proofs.names.+contains.Given as goal

abbrev pub decreases-contains : goal.decreases-contains
decreases-contains l = length l.names.now
