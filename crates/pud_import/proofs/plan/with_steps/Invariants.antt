use Rattle.std.proofs.Common.{◌≡◌, map, take}
use Rattle.pud_import.specs.Places.{with_steps}
use Rattle.pud_import.proofs.plan.with_steps.Given as goal

abbrev pub invariant-loop-added : goal.invariant-loop-added
invariant-loop-added l = l.new.items ≡ map (with_steps l.all) (take l.added-index l.puddles)
