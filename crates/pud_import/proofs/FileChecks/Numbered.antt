-- Lists of what a function gives for the numbers from one on.
use Rattle.std.proofs.Common.{◌≡◌, ℕ, suc, ◌+◌, ◌-◌, ◌<◌, ◌≤◌, Bool, true, false, ◌&&◌, List, [], ◌∷◌, map, sym, ap, ◌∙◌, arith}
use Rattle.std.specs.List.{list_all, range_with_len}

-- what f gives for the numbers from i on and before n
abbrev pub from_number : {X : Type 0} → (ℕ → X) → (i n : ℕ) → List X
from_number f i n = map f (range_with_len i (n - i))

pub from_number-more : {X : Type 0} (f : ℕ → X) (i n : ℕ) → i < n → from_number f i n ≡ f i ∷ from_number f (i + 1) n
from_number-more f i n below = let e : n - i ≡ suc (n - (i + 1)) = omega arith in ap (λ k. map f (range_with_len i k)) e

pub from_number-end : {X : Type 0} (f : ℕ → X) (i n : ℕ) → n ≤ i → from_number f i n ≡ []
from_number-end f i n past = let e : n - i ≡ 0 = omega arith in ap (λ k. map f (range_with_len i k)) e

pub from_number-start : {X : Type 0} (f : ℕ → X) (n : ℕ) → map f (range_with_len 0 n) ≡ from_number f 0 n
from_number-start f n = let e : n ≡ n - 0 = omega arith in ap (λ k. map f (range_with_len 0 k)) e

module _ {X : Type 0} (test : X → Bool) (f : ℕ → X) (i n : ℕ) (x : X) (below : i < n) (here : x ≡ f i) where
  in_front : list_all test (from_number f i n) ≡ (test x && list_all test (from_number f (i + 1) n))
  in_front = ap (list_all test) (from_number-more f i n below) ∙ ap (λ y. test y && list_all test (from_number f (i + 1) n)) (sym here)

  pub list_all-more : test x ≡ true → list_all test (from_number f i n) ≡ list_all test (from_number f (i + 1) n)
  list_all-more passes = in_front ∙ ap (λ b. b && list_all test (from_number f (i + 1) n)) passes

  pub list_all-fails : test x ≡ false → list_all test (from_number f i n) ≡ false
  list_all-fails fails = in_front ∙ ap (λ b. b && list_all test (from_number f (i + 1) n)) fails
