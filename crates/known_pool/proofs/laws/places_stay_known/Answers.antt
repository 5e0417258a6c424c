use Rattle.known_pool.proofs.KnownKept.{IsKnown-counts}
use Rattle.known_pool.proofs.laws.places_stay_known.Goals as goal

pub returns : goal.returns
returns c = IsKnown-counts
