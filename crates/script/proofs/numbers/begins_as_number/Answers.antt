use Rattle.std.proofs.Common.{rules}
use Rattle.script.proofs.numbers.begins_as_number.Goals as goal

pub returns-in-len1-up : goal.returns-in-len1-up
returns-in-len1-up c = search rules
