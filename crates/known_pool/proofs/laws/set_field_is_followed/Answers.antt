use Rattle.known_pool.proofs.KnownChanged.{IsKnown-set}
use Rattle.known_pool.proofs.laws.set_field_is_followed.Goals as goal

pub returns : goal.returns
returns c = IsKnown-set
