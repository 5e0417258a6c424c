use Rattle.std.proofs.Common.{rules, arith}
use Rattle.std.proofs.lemmas.Grind.{common_steps}
use Rattle.puddle_space.proofs.bases.range_of.Goals as goal

pub returns-clause-found : goal.returns-clause-found
returns-clause-found c = first_of (search rules, grind (arith, common_steps))
