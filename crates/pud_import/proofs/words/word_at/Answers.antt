use Rattle.std.proofs.Common.{◌∙◌}
use Rattle.pud_import.proofs.FileChecks.Spelled.{word_read}
use Rattle.pud_import.proofs.words.word_at.Goals as goal

pub returns : goal.returns
returns c = c.word_from.ensures ∙ word_read c.args.bytes.now c.args.k c.requires
