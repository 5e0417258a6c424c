-- Serials in rising order: if one occurs twice, two equal ones are neighbours.
use Rattle.std.proofs.Common.{◌≡◌, ◌≢◌, ◌⊎◌, ℕ, ◌+◌, ◌-◌, ◌<◌, ◌≤◌, Bool, true, false, not, ◌&&◌, cond, eqb, nat_cmp, List, length, get_or, slice_index, Option, Some, None, is_some, eq-eqb, ne_eqb, inl, inr, refl, sym, ap, ◌∙◌, arith}
use Rattle.std.specs.Prelude.{option_map, unwrap_or}
use Rattle.std.specs.List.Sorted.{IsSorted, IsPermutation}
use Rattle.std.proofs.Math.Bool.{and-false}
use Rattle.std.proofs.lemmas.Bool.{cases_eq, cases_lt, eqb-false, false≢true, false_from_ne_true}
use Rattle.std.proofs.lemmas.Grind.{get_or_default_zero}
use Rattle.std.proofs.lemmas.List.Sorted.{IsNonDecreasingBy-from_sort, IsPermutation-sym}
use Rattle.std.proofs.lemmas.Map.Keys.{IsDistinct-from_apart, IsDistinct-IsPermutation, apart_from_distinct}
use Rattle.std.proofs.lemmas.Option.{none-some}
use Rattle.pud_defs.specs.PoolGraphs.Graph.{under_serial}
use Rattle.pud_defs.specs.RegistryTables.Keyed.{are_distinct, under}
use Rattle.pud_defs.proofs.KeyedTables.DistinctKeys.{some_under, eqb_turned}
use Rattle.pud_defs.proofs.KeyedTables.Keyed.{are_distinct_keys, distinct_keys}

-- Two places have the same serial, and are live.
abbrev pub is_shared : ℕ → ℕ → Bool
is_shared s q = not (eqb s 0) && eqb s q

pub is_shared-free : (s q : ℕ) → s ≡ 0 → is_shared s q ≡ false
is_shared-free s q free = ap (λ b. not b && eqb s q) (eq-eqb s 0 free)

is_shared-live : (s q : ℕ) → s ≢ 0 → is_shared s q ≡ eqb s q
is_shared-live s q live = ap (λ b. not b && eqb s q) (ne_eqb s 0 live)

pub is_shared-apart : (s q : ℕ) → s ≢ q → is_shared s q ≡ false
is_shared-apart s q apart = ap (λ b. not (eqb s 0) && b) (ne_eqb s q apart) ∙ and-false (not (eqb s 0))

is_shared-turned : (s q : ℕ) → is_shared s q ≡ is_shared q s
is_shared-turned s q = elim (cases_eq s q) [
  | inl same ↦ rw same refl
  | inr apart ↦ is_shared-apart s q apart ∙ sym (is_shared-apart q s (λ e. apart (sym e)))
]

-- No two of the first n places share a serial.
pub record AreApart (f : ℕ → ℕ) (n : ℕ) : Type 0 where
  pub each : (i j : ℕ) → i < j → j < n → is_shared (f i) (f j) ≡ false

-- ---- the test

abbrev placed : (ℕ → ℕ) → ℕ → Option (ℕ × ℕ)
placed f = under_serial f (λ p. p)

placed-free : (f : ℕ → ℕ) (i : ℕ) → f i ≡ 0 → placed f i ≡ None
placed-free f i free = ap (λ b. cond (not b) (Some (f i, i)) None) (eq-eqb _ _ free)

placed-live : (f : ℕ → ℕ) (i : ℕ) → f i ≢ 0 → placed f i ≡ Some (f i, i)
placed-live f i live = ap (λ b. cond (not b) (Some (f i, i)) None) (ne_eqb _ _ live)

-- Whether a place has this serial.
under_here : (f : ℕ → ℕ) (s p : ℕ) → s ≢ 0 → is_some (under nat_cmp s (under_serial f (λ q. q) p)) ≡ eqb (f p) s
under_here f s p live = elim (cases_eq (f p) 0) [
  | inl free ↦ ap (λ b. is_some (under nat_cmp s (cond (not b) (Some (f p, p)) None))) (eq-eqb _ _ free) ∙ sym (ne_eqb (f p) s (λ e. live (sym e ∙ free)))
  | inr used ↦ ap (λ b. is_some (under nat_cmp s (cond (not b) (Some (f p, p)) None))) (ne_eqb _ _ used) ∙ some_under s (f p) p ∙ eqb_turned s (f p)
]

-- A place is under the serial of a live place exactly if the two share it.
under_shared : (f : ℕ → ℕ) (i j : ℕ) → f i ≢ 0 → is_some (under nat_cmp (f i) (placed f j)) ≡ is_shared (f i) (f j)
under_shared f i j live = under_here f (f i) j live ∙ eqb_turned (f j) (f i) ∙ sym (is_shared-live (f i) (f j) live)

none_from : {A : Type 0} (o : Option A) → is_some o ≡ false → o ≡ None
none_from None none = refl
none_from (Some x) none = absurd (false≢true (sym none))

abbrev serial_of : Option (ℕ × ℕ) → ℕ
serial_of o = unwrap_or (option_map (λ (e : ℕ × ℕ). e.0) o) 0

pub are_distinct-apart : (f : ℕ → ℕ) (n : ℕ) → AreApart f n → are_distinct nat_cmp (placed f) 0 n ≡ true
are_distinct-apart f n apart = are_distinct_keys nat_cmp (placed f) 0 n (record {
  apart = λ i j low less high e is. elim (cases_eq (f i) 0) [
    | inl free ↦ absurd (none-some e (sym (placed-free f i free) ∙ is))
    | inr live ↦
        let same : f i ≡ e.0 = ap serial_of (sym (placed-live f i live) ∙ is) in
        ap (λ s. under nat_cmp s (placed f j)) (sym same)
        ∙ none_from (under nat_cmp (f i) (placed f j)) (under_shared f i j live ∙ apart.each i j less (omega (arith, high)))
  ];
})

pub apart-are_distinct : (f : ℕ → ℕ) (n : ℕ) → are_distinct nat_cmp (placed f) 0 n ≡ true → AreApart f n
apart-are_distinct f n distinct = record {
  each = λ i j less high. elim (cases_eq (f i) 0) [
    | inl free ↦ is_shared-free (f i) (f j) free
    | inr live ↦
        let none = (distinct_keys nat_cmp (placed f) 0 n distinct).apart i j (omega arith) less (omega (arith, high)) (f i, i) (placed-live f i live) in
        sym (under_shared f i j live) ∙ ap is_some none
  ];
}

-- ---- in another order

AreApart-permuted : (xs ys : List ℕ) → IsPermutation xs ys → AreApart (slice_index xs) (length xs) → AreApart (slice_index ys) (length ys)
AreApart-permuted xs ys moved apart =
    let distinct = IsDistinct-IsPermutation is_shared is_shared-turned xs ys moved
    (IsDistinct-from_apart is_shared xs (λ i j d less high. rw (get_or_default_zero xs i d (omega arith), get_or_default_zero xs j d high) (apart.each i j less high))) in
    record { each = λ i j less high. apart_from_distinct is_shared ys i j 0 distinct less high }

-- If the serials are in rising order, and no two neighbours share one, no two places share one.
AreApart-sorted : (xs : List ℕ) → IsSorted nat_cmp xs → ((k : ℕ) → k + 1 < length xs → is_shared (get_or xs k 0) (get_or xs (k + 1) 0) ≡ false) → AreApart (slice_index xs) (length xs)
AreApart-sorted xs sorted beside = record {
  each = λ i j less high. elim (cases_eq (get_or xs i 0) 0) [
    | inl free ↦ is_shared-free (get_or xs i 0) (get_or xs j 0) free
    | inr live ↦
        let rises = IsNonDecreasingBy-from_sort (λ (x : ℕ). x) xs sorted in
        let next = rises i (i + 1) 0 (omega arith) (omega arith) in
        let far = rises (i + 1) j 0 (omega arith) high in
        let apart = eqb-false _ _ (sym (is_shared-live (get_or xs i 0) (get_or xs (i + 1) 0) live) ∙ beside i (omega arith)) in
        is_shared-apart (get_or xs i 0) (get_or xs j 0) (λ same. apart (omega (arith, next, far, same)))
  ];
}

-- One more place, which is free or has another serial than the place before it.
pub beside-more : (ys : List ℕ) (place : ℕ) → 1 ≤ place → ((k : ℕ) → k + 1 < place → is_shared (get_or ys k 0) (get_or ys (k + 1) 0) ≡ false)
    → (get_or ys place 0 ≡ 0) ⊎ (get_or ys place 0 ≢ get_or ys (place - 1) 0) → (k : ℕ) → k + 1 < place + 1 → is_shared (get_or ys k 0) (get_or ys (k + 1) 0) ≡ false
beside-more ys place some before last k below = elim (cases_lt (k + 1) place) [
  | inl less ↦ before k less
  | inr not_less ↦
      let here : k + 1 ≡ place = omega (arith, below, not_less) in
      let front : k ≡ place - 1 = omega (arith, here) in
      elim last [
        | inl free ↦ is_shared-turned (get_or ys k 0) (get_or ys (k + 1) 0) ∙ is_shared-free (get_or ys (k + 1) 0) (get_or ys k 0) (ap (λ n. get_or ys n 0) here ∙ free)
        | inr apart ↦ is_shared-apart (get_or ys k 0) (get_or ys (k + 1) 0) (λ e. apart (ap (λ n. get_or ys n 0) (sym here) ∙ sym e ∙ ap (λ n. get_or ys n 0) front))
      ]
]

-- If no two neighbours in rising order share a serial, all serials are distinct.
pub are_distinct-sorted : (xs ys : List ℕ) → IsPermutation xs ys → IsSorted nat_cmp ys → ((k : ℕ) → k + 1 < length ys → is_shared (get_or ys k 0) (get_or ys (k + 1) 0) ≡ false)
    → are_distinct nat_cmp (under_serial (slice_index xs) (λ p. p)) 0 (length xs) ≡ true
are_distinct-sorted xs ys moved sorted beside = are_distinct-apart (slice_index xs) (length xs) (AreApart-permuted ys xs (IsPermutation-sym xs ys moved) (AreApart-sorted ys sorted beside))

pub are_distinct-shared : (xs ys : List ℕ) (place : ℕ) → IsPermutation xs ys → 1 ≤ place → place < length ys → get_or ys place 0 ≢ 0 → get_or ys place 0 ≡ get_or ys (place - 1) 0
    → are_distinct nat_cmp (under_serial (slice_index xs) (λ p. p)) 0 (length xs) ≡ false
are_distinct-shared xs ys place moved some below live same = false_from_ne_true _ (λ distinct.
    let apart = (AreApart-permuted xs ys moved (apart-are_distinct (slice_index xs) (length xs) distinct)).each (place - 1) place (omega (arith, some)) below in
    eqb-false (get_or ys (place - 1) 0) (get_or ys place 0) (sym (is_shared-live (get_or ys (place - 1) 0) (get_or ys place 0) (λ free. live (same ∙ free))) ∙ apart) (sym same))
