use Rattle.std.proofs.Common.{arith}
use Rattle.puddle_table.proofs.Placing.{none_put-below}
use Rattle.puddle_table.proofs.places.no_places.Goals as goal

pub invariant_of-result : goal.invariant_of-result
invariant_of-result c = let few = c.requires in (omega (arith, few), omega arith, none_put-below c.args.count)
