use Rattle.known_pool.proofs.KnownKept.{IsKnown-puddles}
use Rattle.known_pool.proofs.laws.puddles_alone_are_known.Goals as goal

pub returns : goal.returns
returns c = IsKnown-puddles
