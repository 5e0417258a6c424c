use Rattle.std.proofs.Common.{◌≡◌, true}
use Rattle.pud_defs.specs.PoolGraphs.ExportFile.{is_zero}
use Rattle.pud_import.specs.Sized.{stored_of}
use Rattle.pud_import.proofs.sized_file.SizedFile.is_zero.Given as goal

abbrev pub invariant-loop-k : goal.invariant-loop-k
invariant-loop-k l = is_zero ((stored_of l.self).word l.ordinal) l.from l.k ≡ true
