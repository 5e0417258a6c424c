use Rattle.std.proofs.Common.{◌≡◌, drop}
use Rattle.pm_mem.specs.Turns.{planned}
use Rattle.pm_mem.proofs.turns.pick_at.Given as goal

abbrev pub invariant-loop-cut : goal.invariant-loop-cut
invariant-loop-cut l = planned (drop l.cut-index l.cuts) l.step ≡ planned l.cuts l.step
