use Rattle.std.proofs.Common.{rules}
use Rattle.script.proofs.numbers.with_digit.Goals as goal

pub returns : goal.returns
returns c = search rules
