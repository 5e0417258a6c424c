use Rattle.known_pool.proofs.KnownChanged.{IsKnown-rooted}
use Rattle.known_pool.proofs.laws.set_root_is_followed.Goals as goal

pub returns : goal.returns
returns c = IsKnown-rooted
