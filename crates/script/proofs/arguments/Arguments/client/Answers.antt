use Rattle.std.proofs.Common.{arith}
use Rattle.script.proofs.Taken.{taken}
use Rattle.script.proofs.arguments.Arguments.client.Goals as goal

pub returns : goal.returns
returns c = grind (arith, taken)
