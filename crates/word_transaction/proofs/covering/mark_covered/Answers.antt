use Rattle.std.proofs.Common.{◌≡◌, ◌+◌, ◌*◌, ◌%◌, ◌^◌, ◌<◌, ◌≤◌, ℕ, sym, ap, subst, ◌∙◌, arith}
use Rattle.pud_defs.specs.declared.space.TheConstants.{WORD_BYTES}
use Rattle.log_entry.specs.Reading.{entry_from}
use Rattle.word_transaction.specs.Coverage.{covers}
use Rattle.word_transaction.proofs.Marked.{MarksFirst, MarksFirst-start, MarksFirst-pass, MarksFirst-mark}
use Rattle.word_transaction.proofs.covering.mark_covered.Goals.{then-covers, else-covers}
use Rattle.word_transaction.proofs.covering.mark_covered.Goals as goal

-- The address of a word does not wrap around.
unwrapped : (address i count j : ℕ) → address + WORD_BYTES * count ≤ 2 ^ 64 → i < count → j ≡ i → (address + j * 8) % 2 ^ 64 ≡ address + WORD_BYTES * i
unwrapped address i count j fits below same = omega arith

pub loop-i-init : goal.loop-i-init
loop-i-init c = λ image fits. MarksFirst-start c.args.address (entry_from image c.args.entry.now) c.args.marks.now

pub loop-i-preserved : goal.loop-i-preserved
loop-i-preserved c = λ image fits.
    let address = c.args.address in
    let i = c.loop-i.i in
    let e = entry_from image c.args.entry.now in
    let start = c.args.marks.now in
    let so = c.loop-i.invariant image fits in
    let word = unwrapped address i c.args.count _ fits c.loop-i-test.true c.from.ensures in
    let told = ap (λ (a : ℕ). covers a e) (sym word) ∙ sym (c.covers.ensures image) in
    elim c.if-covers.branch [
      | then-covers w ↦ subst (MarksFirst address (i + 1) e start) (sym w.marks-is) (MarksFirst-mark address i e start c.loop-i.marks (omega arith) so (told ∙ w.if-covers.true))
      | else-covers w ↦ subst (MarksFirst address (i + 1) e start) (sym w.marks-is) (MarksFirst-pass address i e start c.loop-i.marks so (told ∙ w.if-covers.false))
    ]
