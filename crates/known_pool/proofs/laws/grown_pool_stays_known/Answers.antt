use Rattle.known_pool.proofs.KnownChanged.{IsKnown-grown}
use Rattle.known_pool.proofs.laws.grown_pool_stays_known.Goals as goal

pub returns : goal.returns
returns c = IsKnown-grown
