use Rattle.std.proofs.Common.{◌+◌, ◌≤◌, not, eqb, take}
use Rattle.std.specs.List.{list_all}
use Rattle.puddle_space.specs.FreeRanges.{free_count, LeavesFree}
use Rattle.puddle_space.proofs.bases.mark_taken.Given as goal

abbrev pub invariant-loop-base : goal.invariant-loop-base
invariant-loop-base l = record {
  left : LeavesFree (λ base. list_all (λ other. not (eqb other base)) (take l.base-index l.taken)) l.initial.free l.free;
  few : free_count l.initial.free ≤ free_count l.free + l.base-index;
}
