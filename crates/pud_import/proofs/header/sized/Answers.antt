use Rattle.std.proofs.Common.{sym, ◌∙◌, arith}
use Rattle.pud_import.proofs.FileChecks.FileParts.{sized_whole}
use Rattle.pud_import.proofs.header.sized.Goals as goal

pub returns-clause-sized : goal.returns-clause-sized
returns-clause-sized c =
    sized_whole c.args.bytes.now c.word_at-version.result c.word_at-types.result c.word_at-puddles.result c.word_at-version.ensures c.word_at-types.ensures c.word_at-puddles.ensures
    (omega (arith, c.if-bytes-file_words.false, c.file_words.ensures)) (sym c.has_header.ensures ∙ c.if-not-has_header.false) (sym c.has_legal_classes.ensures ∙ c.if-not-has_legal_classes.false)
