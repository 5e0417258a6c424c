-- Reading an image after a word was written.
use Rattle.std.proofs.Common.{◌≡◌, inl, inr, ℕ, ◌≤◌, eqb, ne_eqb, eq-eqb, refl, sym, ap, ◌∙◌, arith}
use Rattle.std.proofs.lemmas.Bool.{cond-true, cond-false, cases_eq}
use Rattle.pud_defs.specs.Formats.Image.{Image, image_with, IsSameBelow}

pub written_there : (w v : ℕ) (image : Image) → image_with w v image w ≡ v
written_there w v image = cond-true (eqb w w) v (image w) (eq-eqb w w refl)

pub written_other : (w v : ℕ) (image : Image) (k : ℕ) → (k ≡ w → ⊥) → image_with w v image k ≡ image k
written_other w v image k h = cond-false (eqb k w) v (image k) (ne_eqb k w h)

-- an image with this value in the word, and with no other word changed, is the written image
pub written_is : (w v : ℕ) (image after : Image) → after w ≡ v → ((k : ℕ) → (k ≡ w → ⊥) → after k ≡ image k) → after ≡ image_with w v image
written_is w v image after there others =
    let each : (k : ℕ) → after k ≡ image_with w v image k = λ k. elim (cases_eq k w) [
      | inl here ↦ ap after here ∙ there ∙ sym (ap (image_with w v image) here ∙ written_there w v image)
      | inr apart ↦ others k apart ∙ sym (written_other w v image k apart)
    ] in
    λ i k. each k i

-- a write at the end or after it changes no word below the end
pub written_beyond : (w v end : ℕ) (image : Image) → end ≤ w → IsSameBelow end image (image_with w v image)
written_beyond w v end image h = record { at = λ k below. sym (written_other w v image k (λ e. absurd (omega arith))) }
