use Rattle.std.proofs.Common.{sym, ap, ◌∙◌}
use Rattle.pud_defs.specs.declared.space.TheConstants.{FRAME_HEADER_WORDS}
use Rattle.pud_defs.specs.PoolGraphs.ExportFile.{is_zero, header_words_read}
use Rattle.pud_defs.proofs.RegistryTables.Spaces.{all_below-more, all_below-fails, all_below-none}
use Rattle.pud_import.specs.Sized.{stored_of}
use Rattle.pud_import.proofs.sized_file.SizedFile.has_plain_headers.Goals as goal

pub loop-ordinal-init : goal.loop-ordinal-init
loop-ordinal-init c = all_below-none _

pub returns-then-not-is_zero : goal.returns-then-not-is_zero
returns-then-not-is_zero c =
    let word = (stored_of c.args.self.now).word in
    let o = c.loop-ordinal.ordinal in
    sym (all_below-fails c.args.self.now.puddles o (λ i. is_zero (word i) (header_words_read i) FRAME_HEADER_WORDS) c.loop-ordinal-test.true
    (ap (λ n. is_zero (word o) n FRAME_HEADER_WORDS) (sym c.header_words_read.ensures.read) ∙ sym c.is_zero.ensures ∙ c.if-not-is_zero.true))

pub loop-ordinal-preserved : goal.loop-ordinal-preserved
loop-ordinal-preserved c =
    let word = (stored_of c.args.self.now).word in
    let o = c.loop-ordinal.ordinal in
    all_below-more o (λ i. is_zero (word i) (header_words_read i) FRAME_HEADER_WORDS) c.loop-ordinal.invariant
    (ap (λ n. is_zero (word o) n FRAME_HEADER_WORDS) (sym c.header_words_read.ensures.read) ∙ sym c.is_zero.ensures ∙ c.if-not-is_zero.false)
