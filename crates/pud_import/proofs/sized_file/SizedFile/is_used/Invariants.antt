use Rattle.std.proofs.Common.{◌≡◌, true}
use Rattle.pud_defs.specs.Formats.Geometry.{places_among}
use Rattle.pud_defs.specs.RegistryTables.Spaces.{all_below}
use Rattle.pud_import.specs.Sized.{stored_of}
use Rattle.pud_import.proofs.FileChecks.UsedPlaces.{is_other}
use Rattle.pud_import.proofs.sized_file.SizedFile.is_used.Given as goal

abbrev pub invariant-loop-ordinal : goal.invariant-loop-ordinal
invariant-loop-ordinal l = all_below (places_among l.ordinal) (is_other (stored_of l.self) l.id) ≡ true
