use Rattle.std.proofs.Common.{◌≡◌, true}
use Rattle.pud_defs.specs.Formats.Geometry.{places_among}
use Rattle.pud_defs.specs.PoolGraphs.ExportFile.{is_plain_place}
use Rattle.pud_defs.specs.RegistryTables.Spaces.{all_below}
use Rattle.pud_import.specs.Sized.{types_in, stored_of}
use Rattle.pud_import.proofs.sized_file.SizedFile.has_plain_slots.Given as goal

abbrev pub invariant-loop-ordinal : goal.invariant-loop-ordinal
invariant-loop-ordinal l = all_below (places_among l.ordinal) (is_plain_place (types_in l.self) (stored_of l.self)) ≡ true
