use Rattle.std.proofs.Common.{◌+◌, ◌*◌, arith, below_more, slice_index}
use Rattle.std.proofs.lemmas.Bool.{eqb-true}
use Rattle.std.proofs.lemmas.Nat.{le_or_l, le_or_r}
use Rattle.pm_file.proofs.Spelled.{word_of-zeroes}
use Rattle.pm_file.proofs.reading.is_blank.Goals as goal

pub loop-byte-preserved : goal.loop-byte-preserved
loop-byte-preserved c =
    let any = c.loop-byte.any in
    let byte = slice_index c.args.piece.now c.loop-byte.byte-index in
    below_more _ _
    (λ at lt. omega (arith, c.loop-byte.invariant at lt, le_or_l any byte))
    (omega (arith, le_or_r any byte))

pub returns : goal.returns
returns c = λ none place within.
    let zero = eqb-true c.loop-byte.any 0 none in
    word_of-zeroes _ place (λ i less. omega (arith, zero, within, less, c.loop-byte.invariant (8 * place + i) (omega (arith, within, less))))
