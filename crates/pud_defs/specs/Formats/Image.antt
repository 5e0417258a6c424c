-- An image: the value of each word of a device at one moment.
use Rattle.std.specs.Prelude.{◌≡◌, ℕ, ◌<◌, cond, ◌==◌}

-- The value of each word by its number. The number of words is kept apart. An image has a value for every number, but
-- nothing reads what lies beyond the last word.
abbrev pub Image : Type 0
Image = ℕ → ℕ

-- the image with the value v in word w
abbrev pub image_with : ℕ → ℕ → Image → Image
image_with w v image = λ k. cond (k == w) v (image k)

-- the two images have the same value in each word below the end
pub record IsSameBelow (end : ℕ) (i j : Image) : Type 0 where
  pub at : (k : ℕ) → k < end → i k ≡ j k
