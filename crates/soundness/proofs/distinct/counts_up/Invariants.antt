use Rattle.std.proofs.Common.{◌≡◌, ◌+◌, true, not, ◌||◌}
use Rattle.pud_defs.specs.RegistryTables.Spaces.{all_below}
use Rattle.soundness.specs.Distinct.{is_marked_at}
use Rattle.soundness.proofs.distinct.counts_up.Given as goal

abbrev pub invariant-loop-k : goal.invariant-loop-k
invariant-loop-k l = all_below l.k (λ j. is_marked_at l.marks l.slot j || not (is_marked_at l.marks l.slot (j + 1))) ≡ true
