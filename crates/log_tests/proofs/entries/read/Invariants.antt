-- The reader reads the log of the device.
use Rattle.std.proofs.Common.{◌≡◌}
use Rattle.log_tests.proofs.entries.read.Given as goal

abbrev pub invariant-loop-row : goal.invariant-loop-row
invariant-loop-row g l = l.reader.log_at ≡ 8
