-- The images that may be left while one word is written and after it, by the images before and that word.
use Rattle.std.proofs.Common.{◌≡◌, ◌⊎◌, inl, inr, ℕ, None}
use Rattle.pm_model.specs.Words.{Words, Picks}
use Rattle.pm_model.specs.Moments.{State}
use Rattle.pm_model.specs.Changes.{only, IsFrom, Persists, written as may_be_written}
use Rattle.pm_model.proofs.OneWord.{one_word, one_word_after}
use Rattle.pud_defs.specs.Formats.Image.{Image, image_with}
use Rattle.pud_defs.proofs.Formats.Images.{written_is}

pub image_of_one : (w v : ℕ) (before image : Image) → IsFrom (may_be_written (only w v)) before image → (image ≡ before) ⊎ (image ≡ image_with w v before)
image_of_one w v before image from = elim (one_word w v before image from) [
  | inl same ↦ inl same
  | inr new ↦ inr (written_is w v before image new.there new.others)
]

-- An image of these words, with v written to word w.
pub record IsWritten (words : Words) (w v : ℕ) (image : Image) : Type 0 where
  pub before : Image
  pub picked : Picks words before
  pub is : image ≡ image_with w v before

pub image_after_one : (w v : ℕ) (old new : State) (image : Image) → Persists (only w v) None old new → Picks new.now.words image → IsWritten old.now.words w v image
image_after_one w v old new image p picked =
    let h = one_word_after w v old new image p picked in
    record { before = h.before; picked = h.picked; is = written_is w v h.before image h.is.there h.is.others }
