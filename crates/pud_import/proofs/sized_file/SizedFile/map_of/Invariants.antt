use Rattle.std.proofs.Common.{◌≡◌}
use Rattle.pud_defs.specs.PoolGraphs.ExportFile.{file_type}
use Rattle.pud_defs.specs.RegistryTables.Types.{map_of}
use Rattle.pud_import.specs.Sized.{image_of_file, types_in}
use Rattle.pud_import.proofs.FileChecks.Numbered.{from_number}
use Rattle.pud_import.proofs.sized_file.SizedFile.map_of.Given as goal

abbrev pub invariant-loop-i : goal.invariant-loop-i
invariant-loop-i l = map_of l.id (types_in l.self) ≡ map_of l.id (from_number (file_type (image_of_file l.self)) l.i l.self.types)
