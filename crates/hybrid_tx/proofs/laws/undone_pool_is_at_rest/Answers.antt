use Rattle.hybrid_tx.proofs.Objects.PoolEnding.{IsAtRest-closed}
use Rattle.hybrid_tx.proofs.laws.undone_pool_is_at_rest.Goals as goal

pub returns : goal.returns
returns c = IsAtRest-closed
