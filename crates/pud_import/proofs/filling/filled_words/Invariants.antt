use Rattle.std.proofs.Common.{◌≡◌, ◌<◌, ℕ, length, slice_index}
use Rattle.pud_defs.specs.declared.layout.TheConstants.{FRAME_WORDS}
use Rattle.pud_import.specs.Contents.{stored_held}
use Rattle.pud_import.specs.Filling.{filled_value}
use Rattle.pud_import.proofs.filling.filled_words.Given as goal

abbrev pub invariant-loop-w : goal.invariant-loop-w
invariant-loop-w l = record {
  whole : length l.words ≡ FRAME_WORDS;
  so_far : (k : ℕ) → k < l.w → slice_index l.words k ≡ filled_value (stored_held l.view) l.ordinal l.number k;
}
