use Rattle.std.proofs.Common.{◌≡◌, eqb, drop}
use Rattle.std.specs.List.{list_any}
use Rattle.pud_import.proofs.new_places.is_among.Given as goal

abbrev pub invariant-loop-other : goal.invariant-loop-other
invariant-loop-other l = list_any (λ other. eqb other l.base) l.bases ≡ list_any (λ other. eqb other l.base) (drop l.other-index l.bases)
