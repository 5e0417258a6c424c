use Rattle.nesting.proofs.Holders.{AreSessions-replicate}
use Rattle.nesting.proofs.Sessions.new.Goals as goal

pub invariant_of-result : goal.invariant_of-result
invariant_of-result c = AreSessions-replicate
