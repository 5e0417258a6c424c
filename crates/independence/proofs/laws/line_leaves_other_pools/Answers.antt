use Rattle.independence.proofs.Turns.{leaves_others}
use Rattle.independence.proofs.laws.line_leaves_other_pools.Goals as goal

pub returns : goal.returns
returns c = leaves_others
