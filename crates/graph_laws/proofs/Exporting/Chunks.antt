-- Lists that are made of pieces in a row, all of one length.
use Rattle.std.proofs.Common.{◌≡◌, ℕ, zero, suc, ◌+◌, ◌*◌, ◌<◌, ◌≤◌, List, [], ◌∷◌, ◌++◌, length, get_or, replicate, slice_index, refl, ap, ◌∙◌, arith}
use Rattle.std.specs.List.{flat_map, range_with_len}
use Rattle.std.proofs.Math.Nat.{mul-suc}
use Rattle.std.proofs.lemmas.List.{length-append, get_or_append_left, get_or-append-add}
use Rattle.std.proofs.lemmas.List.FromFn.{length-range_with_len, get_or-range_with_len}

module _ {X : Type 0} (f : X → List ℕ) (n : ℕ) (each : (x : X) → length (f x) ≡ n) where
  pub length-chunks : (xs : List X) → length (flat_map f xs) ≡ n * length xs
  length-chunks [] = omega arith
  length-chunks (x ∷ xs) = omega (arith, length-append (f x) (flat_map f xs), each x, length-chunks xs, mul-suc n (length xs))

  -- Word n * i + j of the list is word j of piece i.
  pub chunk : (xs : List X) (i j : ℕ) (e : X) → i < length xs → j < n → slice_index (flat_map f xs) (n * i + j) ≡ slice_index (f (get_or xs i e)) j
  chunk [] i j e below low = absurd (omega arith)
  chunk (x ∷ xs) zero j e below low =
      let at : n * 0 + j ≡ j = omega arith in
      ap (slice_index (f x ++ flat_map f xs)) at ∙ get_or_append_left (f x) (flat_map f xs) 0 j (omega (arith, each x))
  chunk (x ∷ xs) (suc i) j e below low =
      let at : n * suc i + j ≡ length (f x) + (n * i + j) = omega (arith, mul-suc n i, each x) in
      ap (slice_index (f x ++ flat_map f xs)) at ∙ get_or-append-add (f x) (flat_map f xs) (n * i + j) 0 ∙ chunk xs i j e (omega arith) low

-- The same for pieces that are given by their numbers.
module _ (f : ℕ → List ℕ) (n : ℕ) where
  pub length-range : (from count : ℕ) → ((x : ℕ) → from ≤ x → x < from + count → length (f x) ≡ n) → length (flat_map f (range_with_len from count)) ≡ n * count
  length-range from zero each = omega arith
  length-range from (suc count) each =
      omega (
        arith,
        length-append (f from) (flat_map f (range_with_len (from + 1) count)),
        each from (omega arith) (omega arith),
        length-range (from + 1) count (λ x low high. each x (omega arith) (omega arith)),
        mul-suc n count,
      )

  pub chunk-range_from : (from count : ℕ) → ((x : ℕ) → from ≤ x → x < from + count → length (f x) ≡ n) → (i j : ℕ) → i < count → j < n
      → slice_index (flat_map f (range_with_len from count)) (n * i + j) ≡ slice_index (f (from + i)) j
  chunk-range_from from zero each i j below low = absurd (omega arith)
  chunk-range_from from (suc count) each zero j below low =
      let at : n * 0 + j ≡ j = omega arith in
      let here : from ≡ from + 0 = omega arith in
      let rest = flat_map f (range_with_len (from + 1) count) in
      ap (slice_index (f from ++ rest)) at ∙ get_or_append_left (f from) rest 0 j (omega (arith, each from (omega arith) (omega arith))) ∙ ap (λ (x : ℕ). slice_index (f x) j) here
  chunk-range_from from (suc count) each (suc i) j below low =
      let rest = flat_map f (range_with_len (from + 1) count) in
      let at : n * suc i + j ≡ length (f from) + (n * i + j) = omega (arith, mul-suc n i, each from (omega arith) (omega arith)) in
      let next : from + 1 + i ≡ from + suc i = omega arith in
      ap (slice_index (f from ++ rest)) at ∙ get_or-append-add (f from) rest (n * i + j) 0
      ∙ chunk-range_from (from + 1) count (λ x l h. each x (omega arith) (omega arith)) i j (omega arith) low ∙ ap (λ (x : ℕ). slice_index (f x) j) next

  pub chunk-range : (count : ℕ) → ((x : ℕ) → x < count → length (f x) ≡ n) → (i j : ℕ) → i < count → j < n → slice_index (flat_map f (range_with_len 0 count)) (n * i + j) ≡ slice_index (f i) j
  chunk-range count each i j below low =
      let start : 0 + i ≡ i = omega arith in
      chunk-range_from 0 count (λ x l h. each x (omega arith)) i j below low ∙ ap (λ (x : ℕ). slice_index (f x) j) start

-- Each word of a list of zeroes is 0.
pub zeroes : (count i : ℕ) → slice_index (replicate count 0) i ≡ 0
zeroes zero i = refl
zeroes (suc count) zero = refl
zeroes (suc count) (suc i) = zeroes count i
