use Rattle.std.proofs.Common.{◌≡◌, true}
use Rattle.pud_defs.specs.declared.space.TheConstants.{FRAME_HEADER_WORDS}
use Rattle.pud_defs.specs.PoolGraphs.ExportFile.{is_zero, header_words_read}
use Rattle.pud_defs.specs.RegistryTables.Spaces.{all_below}
use Rattle.pud_import.specs.Sized.{stored_of}
use Rattle.pud_import.proofs.sized_file.SizedFile.has_plain_headers.Given as goal

abbrev pub invariant-loop-ordinal : goal.invariant-loop-ordinal
invariant-loop-ordinal l = all_below l.ordinal (λ o. is_zero ((stored_of l.self).word o) (header_words_read o) FRAME_HEADER_WORDS) ≡ true
