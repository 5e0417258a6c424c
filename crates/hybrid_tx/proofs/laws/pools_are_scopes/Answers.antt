use Rattle.hybrid_tx.proofs.PoolScope.{is_scope}
use Rattle.hybrid_tx.proofs.laws.pools_are_scopes.Goals as goal

pub returns : goal.returns
returns c = is_scope
