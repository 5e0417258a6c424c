use Rattle.std.proofs.Common.{arith}
use Rattle.known_pool.proofs.Releasing.{place_below}
use Rattle.known_pool.proofs.changes.place_of_slot.Goals as goal

pub overflow_cast-result : goal.overflow_cast-result
overflow_cast-result c = let below = place_below c.args.pool.now c.args.at.now c.requires.within in omega (arith, below)

pub returns-clause-below : goal.returns-clause-below
returns-clause-below c = let below = place_below c.args.pool.now c.args.at.now c.requires.within in omega (arith, below)
