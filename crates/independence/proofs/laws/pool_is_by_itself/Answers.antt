use Rattle.independence.proofs.WholeRuns.{is_pool_by_itself}
use Rattle.independence.proofs.laws.pool_is_by_itself.Goals as goal

pub returns : goal.returns
returns c = is_pool_by_itself
