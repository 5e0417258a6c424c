use Rattle.std.proofs.Common.{◌≡◌, true}
use Rattle.pud_defs.specs.Formats.Geometry.{place_at}
use Rattle.pud_defs.specs.PoolGraphs.ExportFile.{is_plain_place}
use Rattle.pud_defs.specs.RegistryTables.Spaces.{all_below}
use Rattle.pud_import.specs.Sized.{types_in, stored_of}
use Rattle.pud_import.proofs.sized_file.SizedFile.is_plain_puddle.Given as goal

abbrev pub invariant-loop-slot : goal.invariant-loop-slot
invariant-loop-slot l = all_below l.slot (λ s. is_plain_place (types_in l.self) (stored_of l.self) (place_at l.ordinal s)) ≡ true
