use Rattle.known_pool.proofs.KnownKept.{IsKnown-kept}
use Rattle.known_pool.proofs.laws.known_pool_stays_known.Goals as goal

pub returns : goal.returns
returns c = IsKnown-kept
