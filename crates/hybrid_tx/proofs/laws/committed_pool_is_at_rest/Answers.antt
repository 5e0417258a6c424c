use Rattle.hybrid_tx.proofs.Objects.PoolEnding.{IsAtRest-ended}
use Rattle.hybrid_tx.proofs.laws.committed_pool_is_at_rest.Goals as goal

pub returns : goal.returns
returns c = IsAtRest-ended
