use Rattle.std.proofs.Common.{◌≡◌, drop}
use Rattle.std.specs.List.{list_all}
use Rattle.pud_defs.specs.Formats.Bases.{is_legal_base}
use Rattle.pud_import.proofs.bases.are_legal.Given as goal

abbrev pub invariant-loop-puddle : goal.invariant-loop-puddle
invariant-loop-puddle l = list_all (λ e. is_legal_base e.1.base) l.pool ≡ list_all (λ e. is_legal_base e.1.base) (drop l.puddle-index l.pool)
