use Rattle.std.proofs.Common.{◌≤◌, vec_len}
use Rattle.pm_model.specs.declared.host.TheConstants.{FILE_READ_LIMIT}
use Rattle.pm_file.proofs.shelf.read_limited.Given as goal

abbrev pub invariant-loop : goal.invariant-loop
invariant-loop g l = vec_len l.bytes ≤ FILE_READ_LIMIT
