use Rattle.std.proofs.Common.{◌≡◌, eqb, drop}
use Rattle.std.specs.List.{list_any}
use Rattle.pud_import.proofs.bases.has_base.Given as goal

abbrev pub invariant-loop-puddle : goal.invariant-loop-puddle
invariant-loop-puddle l = list_any (λ e. eqb e.1.base l.base) l.pool ≡ list_any (λ e. eqb e.1.base l.base) (drop l.puddle-index l.pool)
