use Rattle.std.proofs.Common.{◌≡◌}
use Rattle.log_space.specs.Clearing.{clearing}
use Rattle.log_space.proofs.clearing.Given as goal

abbrev pub invariant-loop-client : goal.invariant-loop-client
invariant-loop-client l = l.batch ≡ clearing l.client
