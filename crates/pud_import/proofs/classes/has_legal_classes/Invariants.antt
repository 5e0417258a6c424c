use Rattle.std.proofs.Common.{◌≡◌, true, ltb}
use Rattle.pud_defs.specs.declared.space.TheConstants.{CLASSES}
use Rattle.pud_defs.specs.PoolGraphs.ExportFile.{file_class}
use Rattle.pud_defs.specs.RegistryTables.Spaces.{all_below}
use Rattle.pud_import.specs.Contents.{file_image}
use Rattle.pud_import.proofs.classes.has_legal_classes.Given as goal

abbrev pub invariant-loop-ordinal : goal.invariant-loop-ordinal
invariant-loop-ordinal l = all_below l.ordinal (λ o. ltb (file_class (file_image l.bytes) l.version l.types l.puddles o) CLASSES) ≡ true
