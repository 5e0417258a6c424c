use Rattle.std.proofs.Common.{◌++◌, [], ◌∷◌, length-set, sym, ap₂, ◌∙◌, arith}
use Rattle.std.proofs.lemmas.List.{take_more_set}
use Rattle.std.proofs.lemmas.List.FromFn.{map-range_with_len_more}
use Rattle.pud_import.specs.Answers.{frame_and_puddle}
use Rattle.pud_import.specs.Sized.{image_of_file}
use Rattle.pud_import.proofs.sized_file.SizedFile.pool.Goals as goal

pub loop-ordinal-preserved : goal.loop-ordinal-preserved
loop-ordinal-preserved c =
    let f = c.args.self.now in
    let o = c.loop-ordinal.ordinal in
    let entry = frame_and_puddle (image_of_file f) f.version f.types f.puddles in
    let h = c.loop-ordinal.invariant in
    record {
      whole = length-set c.loop-ordinal.pool o (o, c.puddle.result) ∙ h.whole;
      so_far =
          take_more_set c.loop-ordinal.pool o (o, c.puddle.result) (omega (arith, h.whole, c.loop-ordinal-test.true))
          ∙ ap₂ (λ xs d. xs ++ (o, d) ∷ []) h.so_far c.puddle.ensures
          ∙ sym (map-range_with_len_more entry 0 o o (omega arith));
    }
