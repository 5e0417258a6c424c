-- The serials of the live places: how many they are, and that they are distinct if those of all places are.
use Rattle.std.proofs.Common.{◌≡◌, ◌≢◌, ℕ, zero, suc, ◌+◌, ◌-◌, ◌<◌, ◌≤◌, false, nat_cmp, List, [], ◌∷◌, length, slice_index, is_none, zero-le, inl, inr, refl, sym, ap, subst, ◌∙◌, arith, eq-eqb, ne_eqb}
use Rattle.std.specs.List.{AllByRecursion, IsDistinct}
use Rattle.std.proofs.lemmas.Bool.{cases_eq, cond-true, cond-false}
use Rattle.std.proofs.lemmas.Grind.{get_or_default_zero}
use Rattle.std.proofs.lemmas.Map.Keys.{IsDistinct-cons, IsDistinct-head, IsDistinct-tail, IsDistinct-from_apart, apart_from_distinct}
use Rattle.pud_defs.specs.PoolGraphs.Graph.{under_serial}
use Rattle.pud_defs.specs.RegistryTables.Keyed.{are_distinct, count_used}
use Rattle.pud_defs.proofs.KeyedTables.DistinctKeys.{same_tests}
use Rattle.pud_defs.proofs.PoolGraphs.Graphs.{under_serial-free, under_serial-used}
use Rattle.graph_read.specs.LiveSerials.{live_serials}
use Rattle.graph_read.proofs.SortedSerials.{is_shared, is_shared-free, is_shared-apart, are_distinct-apart, apart-are_distinct}

module _ (f : ℕ → ℕ) (from count : ℕ) where
  live-free : f from ≡ 0 → live_serials f from (suc count) ≡ live_serials f (from + 1) count
  unfolding live_serials
  live-free free = cond-true _ _ _ (eq-eqb (f from) 0 free)

  live-used : f from ≢ 0 → live_serials f from (suc count) ≡ f from ∷ live_serials f (from + 1) count
  unfolding live_serials
  live-used used = cond-false _ _ _ (ne_eqb (f from) 0 used)

-- ---- place by place

module _ (f : ℕ → ℕ) (p n : ℕ) where
  pub live_serials-free : p < n → f p ≡ 0 → live_serials f p (n - p) ≡ live_serials f (p + 1) (n - (p + 1))
  live_serials-free below free = let one : n - p ≡ suc (n - (p + 1)) = omega arith in ap (live_serials f p) one ∙ live-free f p (n - (p + 1)) free

  pub live_serials-used : p < n → f p ≢ 0 → live_serials f p (n - p) ≡ f p ∷ live_serials f (p + 1) (n - (p + 1))
  live_serials-used below used = let one : n - p ≡ suc (n - (p + 1)) = omega arith in ap (live_serials f p) one ∙ live-used f p (n - (p + 1)) used

  pub live_serials-end : n ≤ p → live_serials f p (n - p) ≡ []
  unfolding live_serials
  live_serials-end past = let none : n - p ≡ 0 = omega arith in ap (live_serials f p) none

-- ---- how many they are

pub length-live_serials : (f : ℕ → ℕ) (from count : ℕ) → length (live_serials f from count) ≡ count_used (under_serial f (λ p. p)) from count
unfolding live_serials count_used
length-live_serials f from zero = refl
length-live_serials f from (suc count) =
    let later = length-live_serials f (from + 1) count in
    elim (cases_eq (f from) 0) [
      | inl free ↦ ap length (live-free f from count free) ∙ later ∙ sym (cond-true _ _ _ (ap is_none (under_serial-free f (λ p. p) from free)))
      | inr used ↦
          let one : length (f from ∷ live_serials f (from + 1) count) ≡ count_used (under_serial f (λ p. p)) (from + 1) count + 1 = omega (arith, later) in
          ap length (live-used f from count used) ∙ one ∙ sym (cond-false _ _ _ (ap is_none (under_serial-used f (λ p. p) from used)))
    ]

-- ---- that they are distinct

-- What holds for the serial of each place holds for each of the list.
each_live : (P : ℕ → Type 0) (f : ℕ → ℕ) (from count : ℕ) → ((j : ℕ) → from ≤ j → j < from + count → P (f j)) → AllByRecursion P (live_serials f from count)
unfolding live_serials
each_live P f from zero each = tt
each_live P f from (suc count) each =
    let later = each_live P f (from + 1) count (λ j low high. each j (omega arith) (omega (arith, high))) in
    elim (cases_eq (f from) 0) [
      | inl free ↦ subst (AllByRecursion P) (sym (live-free f from count free)) later
      | inr used ↦ subst (AllByRecursion P) (sym (live-used f from count used)) (each from (omega arith) (omega arith), later)
    ]

-- What holds for each of the list holds for the serial of each live place.
live_each : (P : ℕ → Type 0) (f : ℕ → ℕ) (from count j : ℕ) → AllByRecursion P (live_serials f from count) → from ≤ j → j < from + count → f j ≢ 0 → P (f j)
live_each P f from zero j all low high used = absurd (omega (arith, low, high))
live_each P f from (suc count) j all low high used =
    elim (cases_eq j from) [
      | inl here ↦
          let first = subst (AllByRecursion P) (live-used f from count (λ free. used (ap f here ∙ free))) all in
          subst (λ (i : ℕ). P (f i)) (sym here) first.0
      | inr other ↦ elim (cases_eq (f from) 0) [
        | inl free ↦ live_each P f (from + 1) count j (subst (AllByRecursion P) (live-free f from count free) all) (omega arith) (omega (arith, high)) used
        | inr some ↦ live_each P f (from + 1) count j (subst (AllByRecursion P) (live-used f from count some) all).1 (omega arith) (omega (arith, high)) used
      ]
    ]

live_apart : (f : ℕ → ℕ) (from count : ℕ) → ((i j : ℕ) → from ≤ i → i < j → j < from + count → is_shared (f i) (f j) ≡ false) → IsDistinct is_shared (live_serials f from count)
unfolding IsDistinct live_serials
live_apart f from zero apart = tt
live_apart f from (suc count) apart =
    let later = live_apart f (from + 1) count (λ i j low less high. apart i j (omega arith) less (omega (arith, high))) in
    elim (cases_eq (f from) 0) [
      | inl free ↦ subst (IsDistinct is_shared) (sym (live-free f from count free)) later
      | inr used ↦ subst (IsDistinct is_shared) (sym (live-used f from count used)) (IsDistinct-cons is_shared (f from) (live_serials f (from + 1) count)
          (each_live (λ y. is_shared (f from) y ≡ false) f (from + 1) count (λ j low high. apart from j (omega arith) (omega arith) (omega (arith, high)))) later)
    ]

-- A live place shares its serial with no free place.
shared_live : (s q : ℕ) → s ≢ 0 → (q ≢ 0 → is_shared s q ≡ false) → is_shared s q ≡ false
shared_live s q used apart = elim (cases_eq q 0) [ inl free ↦ is_shared-apart s q (λ same. used (same ∙ free)) | inr some ↦ apart some ]

apart_live : (f : ℕ → ℕ) (from count i j : ℕ) → IsDistinct is_shared (live_serials f from count) → from ≤ i → i < j → j < from + count → is_shared (f i) (f j) ≡ false
apart_live f from zero i j distinct low less high = absurd (omega (arith, low, less, high))
apart_live f from (suc count) i j distinct low less high = elim (cases_eq (f from) 0) [
  | inl free ↦ elim (cases_eq i from) [
    | inl here ↦ is_shared-free (f i) (f j) (ap f here ∙ free)
    | inr other ↦ apart_live f (from + 1) count i j (subst (IsDistinct is_shared) (live-free f from count free) distinct) (omega arith) less (omega (arith, high))
  ]
  | inr used ↦
      let all = subst (IsDistinct is_shared) (live-used f from count used) distinct in
      elim (cases_eq i from) [
        | inl here ↦ subst (λ (k : ℕ). is_shared (f k) (f j) ≡ false) (sym here) (shared_live (f from) (f j) used (λ some.
            live_each (λ y. is_shared (f from) y ≡ false) f (from + 1) count j (IsDistinct-head is_shared (f from) (live_serials f (from + 1) count) all) (omega arith) (omega (arith, high)) some))
        | inr other ↦ apart_live f (from + 1) count i j (IsDistinct-tail is_shared (f from) (live_serials f (from + 1) count) all) (omega arith) less (omega (arith, high))
      ]
]

-- The serials of the live places are distinct exactly if those of all places are.
pub are_distinct-live : (f : ℕ → ℕ) (n : ℕ) (xs : List ℕ) → xs ≡ live_serials f 0 n → are_distinct nat_cmp (under_serial (slice_index xs) (λ p. p)) 0 (length xs) ≡ are_distinct nat_cmp (under_serial f (λ p. p)) 0 n
are_distinct-live f n xs is = same_tests _ _
    (λ distinct.
    let apart = apart-are_distinct (slice_index xs) (length xs) distinct in
    let listed = subst (IsDistinct is_shared) is (IsDistinct-from_apart is_shared xs (λ i j d less high. rw (get_or_default_zero xs i d (omega arith), get_or_default_zero xs j d high) (apart.each i j less high))) in
    are_distinct-apart f n (record { each = λ i j less high. apart_live f 0 n i j listed zero-le less (omega (arith, high)) }))
    (λ distinct.
    let apart = apart-are_distinct f n distinct in
    let listed = subst (IsDistinct is_shared) (sym is) (live_apart f 0 n (λ i j low less high. apart.each i j less (omega (arith, high)))) in
    are_distinct-apart (slice_index xs) (length xs) (record { each = λ i j less high. apart_from_distinct is_shared xs i j 0 listed less high }))
