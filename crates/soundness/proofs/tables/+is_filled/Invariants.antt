use Rattle.std.proofs.Common.{length}
use Rattle.soundness.proofs.tables.+is_filled.Given as goal

abbrev pub decreases-is_filled : goal.decreases-is_filled
decreases-is_filled l = length l.bytes.now
