use Rattle.std.proofs.Common.{arith, sym, ◌∙◌}
use Rattle.pm_file.proofs.Spelled.{GoesOn-none, GoesOn-put, GoesOn-zero}
use Rattle.pm_file.proofs.reading.take_words.Goals.{then-word-ne0+in_ok-put_word, else-word-ne0}
use Rattle.pm_file.proofs.reading.take_words.Goals as goal

pub loop-place-init : goal.loop-place-init
loop-place-init c = record { len = omega arith; words = GoesOn-none _ _ _ }

pub loop-place-preserved : goal.loop-place-preserved
loop-place-preserved c =
    let on = c.loop-place.invariant.words in
    elim c.if-word-ne0.branch [
      | then-word-ne0+in_ok-put_word w ↦
          rw w.words-is
          (record {
            len = omega (arith, w.in_ok-put_word.ensures.len);
            words = GoesOn-put _ _ _ _ _ _ _ c.word_at-word.ensures w.in_ok-put_word.ensures.put on;
          })
      | else-word-ne0 w ↦
          rw w.words-is
          (record {
            len = omega arith;
            words = GoesOn-zero _ _ _ _ _ (sym c.word_at-word.ensures ∙ w.if-word-ne0.false) (omega arith) on;
          })
    ]
