use Rattle.std.proofs.Common.{◌≡◌}
use Rattle.std.specs.List.{list_all}
use Rattle.pud_defs.specs.PoolGraphs.ExportFile.{file_type}
use Rattle.pud_import.specs.Contents.{is_used_in}
use Rattle.pud_import.specs.Sized.{image_of_file, types_in, stored_of}
use Rattle.pud_import.proofs.FileChecks.Numbered.{from_number}
use Rattle.pud_import.proofs.sized_file.SizedFile.uses_types.Given as goal

abbrev pub invariant-loop-i : goal.invariant-loop-i
invariant-loop-i l =
    list_all (λ t. is_used_in (stored_of l.self) t.0) (types_in l.self) ≡ list_all (λ t. is_used_in (stored_of l.self) t.0) (from_number (file_type (image_of_file l.self)) l.i l.self.types)
