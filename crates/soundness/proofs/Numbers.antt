-- The keys of used records: in a list that sorting decides, and as marks.
use Rattle.std.proofs.Common.{◌≡◌, ◌↔◌, ℕ, zero, suc, ◌+◌, ◌-◌, ◌*◌, ◌<◌, ◌≤◌, Bool, true, false, ◌&&◌, ◌||◌, eqb, List, [], ◌∷◌, length, get_or, Option, Some, None, is_some, refl, sym, ap, ap₂, subst, ◌∙◌, arith, add-one, eq-eqb}
use Rattle.std.specs.Prelude.{option_map}
use Rattle.std.specs.Option.{option_or}
use Rattle.std.specs.Ordering.{nat_cmp}
use Rattle.std.specs.Cmp.{unsigned_tied}
use Rattle.std.specs.List.{IsDistinct, AllByRecursion, list_any}
use Rattle.std.specs.List.Sorted.{IsPermutation, IsSorted}
use Rattle.std.proofs.lemmas.Bool.{and_parts, and_from, or_parts, or_from, not-true, not_from_false, eqb-true}
use Rattle.std.proofs.lemmas.List.Sorted.{IsPermutation-sym, IsNonDecreasingBy-from_sort}
use Rattle.std.proofs.lemmas.Map.Keys.{IsDistinct-head, IsDistinct-tail, IsDistinct-cons, IsDistinct-from_apart, IsDistinct-IsPermutation, IsDistinct-from_sorted, IsStrictlyIncreasing-from_distinct, sorted_from_strictly_increasing}
use Rattle.std.proofs.Math.Nat.{mod-eq_of_lt}
use Rattle.pud_defs.specs.RegistryTables.Keyed.{under, first_from, is_apart, are_distinct}
use Rattle.pud_defs.specs.RegistryTables.Puddles.{Member}
use Rattle.pud_defs.proofs.KeyedTables.DistinctKeys.{same_tests, none_by_some, some_or, some_under, eqb_turned}
use Rattle.soundness.specs.declared.distinct.TheConstants.{POOL_NUMBERS, OLD_BASES, PLACES}
use Rattle.soundness.specs.Distinct.{joined_key, mark_index, with_number}

-- ---- two numbers in one key

joined_same : (n a b x y : ℕ) → a < POOL_NUMBERS → b < POOL_NUMBERS → x < n → y < n → joined_key n a x ≡ joined_key n b y → a * n + x ≡ b * n + y
joined_same n a b x y pool_a pool_b low_a low_b same =
    sym (ap₂ (λ (p q : ℕ). p * n + q) (mod-eq_of_lt pool_a) (mod-eq_of_lt low_a)) ∙ same ∙ ap₂ (λ (p q : ℕ). p * n + q) (mod-eq_of_lt pool_b) (mod-eq_of_lt low_b)

-- keys tell apart pools below 64 and other numbers below 16, or below 2^45
pub told_by_places : (a b x y : ℕ) → a < POOL_NUMBERS → b < POOL_NUMBERS → x < 16 → y < 16 → (eqb b a && eqb x y) ≡ eqb (joined_key 16 a x) (joined_key 16 b y)
told_by_places a b x y pool_a pool_b low_a low_b = same_tests (eqb b a && eqb x y) (eqb (joined_key 16 a x) (joined_key 16 b y))
    (λ h. let parts = and_parts (eqb b a) (eqb x y) h in
    eq-eqb (joined_key 16 a x) (joined_key 16 b y) (ap₂ (λ (p q : ℕ). joined_key 16 p q) (sym (eqb-true b a parts.0)) (eqb-true x y parts.1)))
    (λ h.
    let e : a * 16 + x ≡ b * 16 + y = joined_same 16 a b x y pool_a pool_b low_a low_b (eqb-true (joined_key 16 a x) (joined_key 16 b y) h) in
    and_from (eqb b a) (eqb x y) (eq-eqb b a (omega arith)) (eq-eqb x y (omega arith)))

pub told_by_bases : (a b x y : ℕ) → a < POOL_NUMBERS → b < POOL_NUMBERS → x < OLD_BASES → y < OLD_BASES → (eqb b a && eqb x y) ≡ eqb (joined_key OLD_BASES a x) (joined_key OLD_BASES b y)
told_by_bases a b x y pool_a pool_b low_a low_b = same_tests (eqb b a && eqb x y) (eqb (joined_key OLD_BASES a x) (joined_key OLD_BASES b y))
    (λ h. let parts = and_parts (eqb b a) (eqb x y) h in
    eq-eqb (joined_key OLD_BASES a x) (joined_key OLD_BASES b y) (ap₂ (λ (p q : ℕ). joined_key OLD_BASES p q) (sym (eqb-true b a parts.0)) (eqb-true x y parts.1)))
    (λ h.
    let e : a * OLD_BASES + x ≡ b * OLD_BASES + y = joined_same OLD_BASES a b x y pool_a pool_b low_a low_b (eqb-true (joined_key OLD_BASES a x) (joined_key OLD_BASES b y) h) in
    and_from (eqb b a) (eqb x y) (eq-eqb b a (omega arith)) (eq-eqb x y (omega arith)))

pub place_below : (m : Member) → mark_index m < PLACES
place_below m = omega arith

-- ---- the list of the numbers

-- the numbers of the used records among `count` records, from a frame on
unfoldable pub numbers_from : (ℕ → Option ℕ) → (from count : ℕ) → List ℕ
numbers_from at from zero = []
numbers_from at from (suc count) = with_number (at from) (numbers_from at (from + 1) count)

pub no_numbers : (at : ℕ → Option ℕ) (from : ℕ) → numbers_from at from 0 ≡ []
unfolding numbers_from
no_numbers at from = refl

-- one more record before the others
pub more_numbers : (at : ℕ → Option ℕ) (end done : ℕ) → done < end → with_number (at (end - 1 - done)) (numbers_from at (end - done) done) ≡ numbers_from at (end - (done + 1)) (done + 1)
unfolding numbers_from
more_numbers at end done below =
    let here : end - 1 - done ≡ end - (done + 1) = omega arith in
    let next : end - done ≡ (end - (done + 1)) + 1 = omega arith in
    ap₂ (λ (i j : ℕ). with_number (at i) (numbers_from at j done)) here next ∙ ap (numbers_from at (end - (done + 1))) (sym (add-one done))

pub all_numbers : (at : ℕ → Option ℕ) (end done : ℕ) → end ≤ done → done ≤ end → numbers_from at (end - done) done ≡ numbers_from at 0 end
all_numbers at end done low high =
    let from : end - done ≡ 0 = omega arith in
    let count : done ≡ end = omega arith in
    ap₂ (numbers_from at) from count

-- ---- numbers that are all different

none_equal : (x : ℕ) (xs : List ℕ) → list_any (eqb x) xs ≡ false → AllByRecursion (λ y. eqb x y ≡ false) xs
none_equal x [] none = tt
none_equal x (y ∷ ys) none = let parts = or_parts (eqb x y) (list_any (eqb x) ys) none in (parts.0, none_equal x ys parts.1)

none_any : (x : ℕ) (xs : List ℕ) → AllByRecursion (λ y. eqb x y ≡ false) xs → list_any (eqb x) xs ≡ false
none_any x [] none = refl
none_any x (y ∷ ys) none = or_from (eqb x y) (list_any (eqb x) ys) none.0 (none_any x ys none.1)

module _ (at : ℕ → Option Member) (number : Member → ℕ) where
  found_here : (n j : ℕ) (o : Option Member) (later : Option ℕ) (xs : List ℕ) → is_some later ≡ list_any (eqb n) xs
      → is_some (option_or (under nat_cmp n (option_map (λ m. (number m, j)) o)) later) ≡ list_any (eqb n) (with_number (option_map number o) xs)
  found_here n j None later xs same = same
  found_here n j (Some m) later xs same =
      some_or (under nat_cmp n (Some (number m, j))) later
      ∙ ap₂ (λ (a b : Bool). a || b) (some_under n (number m) j) same

  found_listed : (n from count : ℕ) → is_some (first_from nat_cmp n (λ j. option_map (λ m. (number m, j)) (at j)) from count) ≡ list_any (eqb n) (numbers_from (λ j. option_map number (at j)) from count)
  unfolding first_from numbers_from
  found_listed n from zero = refl
  found_listed n from (suc count) =
      found_here n from (at from) (first_from nat_cmp n (λ j. option_map (λ m. (number m, j)) (at j)) (from + 1) count) (numbers_from (λ j. option_map number (at j)) (from + 1) count) (found_listed n (from + 1) count)

  differs_here : (j from count : ℕ) (o : Option Member) → is_apart nat_cmp (option_map (λ m. (number m, j)) o) (λ j. option_map (λ m. (number m, j)) (at j)) from count ≡ true
      → IsDistinct eqb (numbers_from (λ j. option_map number (at j)) from count) → IsDistinct eqb (with_number (option_map number o) (numbers_from (λ j. option_map number (at j)) from count))
  differs_here j from count None apart rest = rest
  differs_here j from count (Some m) apart rest =
      let xs = numbers_from (λ j. option_map number (at j)) from count in
      let found = first_from nat_cmp (number m) (λ j. option_map (λ m. (number m, j)) (at j)) from count in
      let none : is_some found ≡ false = not-true (is_some found) (sym (none_by_some found) ∙ apart) in
      IsDistinct-cons eqb (number m) xs (none_equal (number m) xs (sym (found_listed (number m) from count) ∙ none)) rest

  apart_here : (j from count : ℕ) (o : Option Member) → IsDistinct eqb (with_number (option_map number o) (numbers_from (λ j. option_map number (at j)) from count))
      → (is_apart nat_cmp (option_map (λ m. (number m, j)) o) (λ j. option_map (λ m. (number m, j)) (at j)) from count ≡ true) × IsDistinct eqb (numbers_from (λ j. option_map number (at j)) from count)
  apart_here j from count None distinct = (refl, distinct)
  apart_here j from count (Some m) distinct =
      let xs = numbers_from (λ j. option_map number (at j)) from count in
      let found = first_from nat_cmp (number m) (λ j. option_map (λ m. (number m, j)) (at j)) from count in (
        none_by_some found ∙ not_from_false (is_some found) (found_listed (number m) from count ∙ none_any (number m) xs (IsDistinct-head eqb (number m) xs distinct)),
        IsDistinct-tail eqb (number m) xs distinct,
      )

  distinct_listed : (from count : ℕ) → are_distinct nat_cmp (λ j. option_map (λ m. (number m, j)) (at j)) from count ≡ true → IsDistinct eqb (numbers_from (λ j. option_map number (at j)) from count)
  unfolding are_distinct numbers_from
  distinct_listed from zero h = IsDistinct-from_apart eqb [] (λ i j d less below. absurd (omega arith))
  distinct_listed from (suc count) h =
      let parts = and_parts (is_apart nat_cmp (option_map (λ m. (number m, from)) (at from)) (λ j. option_map (λ m. (number m, j)) (at j)) (from + 1) count) (are_distinct nat_cmp (λ j. option_map (λ m. (number m, j)) (at j)) (from + 1) count) h in
      differs_here from (from + 1) count (at from) parts.0 (distinct_listed (from + 1) count parts.1)

  listed_distinct : (from count : ℕ) → IsDistinct eqb (numbers_from (λ j. option_map number (at j)) from count) → are_distinct nat_cmp (λ j. option_map (λ m. (number m, j)) (at j)) from count ≡ true
  unfolding are_distinct numbers_from
  listed_distinct from zero h = refl
  listed_distinct from (suc count) h =
      let parts = apart_here from (from + 1) count (at from) h in
      and_from (is_apart nat_cmp (option_map (λ m. (number m, from)) (at from)) (λ j. option_map (λ m. (number m, j)) (at j)) (from + 1) count) (are_distinct nat_cmp (λ j. option_map (λ m. (number m, j)) (at j)) (from + 1) count)
      parts.0 (listed_distinct (from + 1) count parts.1)

  -- what decides about the list decides about the records
  pub decided_by_list : (answer : Bool) (count : ℕ) → ((answer ≡ true) ↔ IsDistinct eqb (numbers_from (λ j. option_map number (at j)) 0 count))
      → answer ≡ are_distinct nat_cmp (λ j. option_map (λ m. (number m, j)) (at j)) 0 count
  decided_by_list answer count decides = same_tests answer (are_distinct nat_cmp (λ j. option_map (λ m. (number m, j)) (at j)) 0 count)
      (λ h. listed_distinct 0 count (decides.0 h)) (λ h. decides.1 (distinct_listed 0 count h))

-- ---- a sorted list

-- if each number is below the next, all differ
pub differ_by_rise : (xs ys : List ℕ) → IsPermutation xs ys → ((k : ℕ) → k + 1 < length ys → get_or ys k 0 < get_or ys (k + 1) 0) → IsDistinct eqb xs
differ_by_rise xs ys moved rise =
    let sorted = IsDistinct-from_sorted nat_cmp ys (sorted_from_strictly_increasing ys rise) in
    let same = subst (λ (eq : ℕ → ℕ → Bool). IsDistinct eq ys) (λ p x y. unsigned_tied x y p) sorted in
    IsDistinct-IsPermutation eqb eqb_turned ys xs (IsPermutation-sym xs ys moved) same

-- if one is not, two of them are the same
pub same_by_no_rise : (xs ys : List ℕ) (k i : ℕ) → IsPermutation xs ys → IsSorted nat_cmp ys → i ≡ k + 1 → i < length ys → get_or ys i 0 ≤ get_or ys k 0 → IsDistinct eqb xs → ⊥
same_by_no_rise xs ys k i moved sorted next below falls distinct =
    let rises = IsStrictlyIncreasing-from_distinct ys (IsNonDecreasingBy-from_sort (λ x. x) ys sorted) (IsDistinct-IsPermutation eqb eqb_turned xs ys moved distinct) in
    let less : get_or ys k 0 < get_or ys (k + 1) 0 = rises k (omega arith) in
    let same : get_or ys i 0 ≡ get_or ys (k + 1) 0 = ap (λ (j : ℕ). get_or ys j 0) next in
    omega arith
