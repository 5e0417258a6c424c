-- The gate of the log is the word at which the log was opened.
use Rattle.std.proofs.Common.{◌≡◌}
use Rattle.log_tests.proofs.appends.two_after.Given as goal

abbrev pub invariant-loop : goal.invariant-loop
invariant-loop g l = l.log.gate_at ≡ 64
