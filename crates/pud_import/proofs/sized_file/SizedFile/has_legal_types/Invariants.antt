use Rattle.std.proofs.Common.{◌≡◌}
use Rattle.pud_defs.specs.PoolGraphs.ExportFile.{file_type, are_file_types}
use Rattle.pud_import.specs.Sized.{image_of_file, types_in}
use Rattle.pud_import.proofs.FileChecks.Numbered.{from_number}
use Rattle.pud_import.proofs.FileChecks.TypesLegal.{rises}
use Rattle.pud_import.proofs.sized_file.SizedFile.has_legal_types.Given as goal

abbrev pub invariant-loop-i : goal.invariant-loop-i
invariant-loop-i l = are_file_types (types_in l.self) ≡ rises l.before (from_number (file_type (image_of_file l.self)) l.i l.self.types)
