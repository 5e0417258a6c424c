use Rattle.std.proofs.Common.{◌≡◌, ◌-◌, map, length}
use Rattle.std.specs.Ordering.{nat_cmp}
use Rattle.pud_defs.specs.PoolGraphs.ExportFile.{under_base}
use Rattle.pud_defs.specs.RegistryTables.Keyed.{are_distinct}
use Rattle.pud_import.proofs.bases.are_apart.Given as goal

abbrev pub invariant-loop-ordinal : goal.invariant-loop-ordinal
invariant-loop-ordinal l =
    let at = under_base (map (λ e. e.1) l.pool) in
    are_distinct nat_cmp at 0 (length l.pool) ≡ are_distinct nat_cmp at l.ordinal (length l.pool - l.ordinal)
