use Rattle.std.proofs.Common.{◌≡◌, true}
use Rattle.pud_defs.specs.Formats.Geometry.{place_at}
use Rattle.pud_defs.specs.RegistryTables.Spaces.{all_below}
use Rattle.pud_import.specs.Sized.{stored_of}
use Rattle.pud_import.proofs.FileChecks.UsedPlaces.{is_other}
use Rattle.pud_import.proofs.sized_file.SizedFile.is_used_by.Given as goal

abbrev pub invariant-loop-slot : goal.invariant-loop-slot
invariant-loop-slot l = all_below l.slot (λ s. is_other (stored_of l.self) l.id (place_at l.ordinal s)) ≡ true
