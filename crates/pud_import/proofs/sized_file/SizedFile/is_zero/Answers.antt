use Rattle.std.proofs.Common.{sym, ◌∙◌, arith}
use Rattle.pud_import.specs.Sized.{stored_of}
use Rattle.pud_import.proofs.FileChecks.Zeroes.{is_zero-start, is_zero-more, is_zero-fails, is_zero-end}
use Rattle.pud_import.proofs.sized_file.SizedFile.is_zero.Goals as goal

pub loop-k-init : goal.loop-k-init
loop-k-init c = is_zero-start ((stored_of c.args.self.now).word c.args.ordinal) c.args.from

pub returns-then-frame_word-ne0 : goal.returns-then-frame_word-ne0
returns-then-frame_word-ne0 c =
    sym (is_zero-fails ((stored_of c.args.self.now).word c.args.ordinal) c.args.from c.loop-k.k c.args.end c.loop-k.auto.k c.loop-k-test.true (λ e. c.if-frame_word-ne0.true (c.frame_word.ensures ∙ e)))

pub loop-k-preserved : goal.loop-k-preserved
loop-k-preserved c =
    is_zero-more ((stored_of c.args.self.now).word c.args.ordinal) c.args.from c.loop-k.k c.loop-k.auto.k c.loop-k.invariant (sym c.frame_word.ensures ∙ c.if-frame_word-ne0.false)

pub returns : goal.returns
returns c =
    let past = c.loop-k-test.false in
    sym (is_zero-end ((stored_of c.args.self.now).word c.args.ordinal) c.args.from c.loop-k.k c.args.end (omega arith) c.loop-k.invariant)
