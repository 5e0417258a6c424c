use Rattle.std.proofs.Common.{rules, arith}
use Rattle.std.proofs.lemmas.Grind.{common_steps}
use Rattle.puddle_space.proofs.addresses.word_in.Goals as goal

pub returns-clause-word : goal.returns-clause-word
returns-clause-word c = first_of (search rules, grind (arith, common_steps))
