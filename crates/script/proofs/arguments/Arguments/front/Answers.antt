use Rattle.std.proofs.Common.{rules}
use Rattle.script.proofs.arguments.Arguments.front.Goals as goal

pub returns : goal.returns
returns c = search rules
