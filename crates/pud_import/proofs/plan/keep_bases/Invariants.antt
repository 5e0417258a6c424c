use Rattle.std.proofs.Common.{◌≡◌, drop, eqb}
use Rattle.std.specs.List.{list_all}
use Rattle.pud_import.proofs.plan.keep_bases.Given as goal

abbrev pub invariant-loop-added : goal.invariant-loop-added
invariant-loop-added l = list_all (λ a. eqb a.puddle.base a.puddle.old_base) l.puddles ≡ list_all (λ a. eqb a.puddle.base a.puddle.old_base) (drop l.added-index l.puddles)
