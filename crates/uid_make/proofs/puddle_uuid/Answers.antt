use Rattle.std.proofs.Common.{arith}
use Rattle.uid_make.proofs.puddle_uuid.Goals as goal

pub returns : goal.returns
returns c = omega arith
