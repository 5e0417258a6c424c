use Rattle.independence.proofs.Runs.{are_independent}
use Rattle.independence.proofs.laws.pools_are_independent.Goals as goal

pub returns : goal.returns
returns c = are_independent
