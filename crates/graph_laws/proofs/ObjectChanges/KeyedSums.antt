-- Sums over entries in ascending order of their keys, when an entry is put in or left out.
use Rattle.std.proofs.Common.{◌≡◌, ℕ, ◌+◌, not, cond, eqb, List, [], ◌∷◌, sum_by, Some, None, nat_cmp, T, refl, sym, ap, ◌∙◌, arith, eq-eqb, ne_eqb, inl, inr}
use Rattle.std.specs.declared.cmp.Ordering.TheVariants.{Less, Equal, Greater}
use Rattle.std.specs.Ordering.{is_eq, eq_by_cmp}
use Rattle.std.specs.FinMap.Entries.{by_order, put, find, is_sorted, is_sorted-put, is_sorted-where_key, find-put, find-where_key, same_entries}
use Rattle.std.proofs.lemmas.Bool.{cases_eq, cond-true, cond-false}
use Rattle.std.proofs.lemmas.Cmp.{nat_cmp_total}
use Rattle.std.proofs.lemmas.Option.{none-some}
use Rattle.std.proofs.lemmas.List.Sums.{sum_by-cons}
use Rattle.pud_defs.specs.RegistryTables.Keyed.{without}
use Rattle.pud_defs.proofs.RegistryTables.TypeLists.{same_test, same_number}

-- ---- the list without a key

module _ {X : Type 0} (k : ℕ) (es : List (ℕ × X)) where
  abbrev left : List (ℕ × X)
  left = without nat_cmp k es

  alike : (q x : ℕ) → nat_cmp q x ≡ Equal → not (eq_by_cmp nat_cmp k x) ≡ not (eq_by_cmp nat_cmp k q)
  alike q x tied = ap (λ n. not (eq_by_cmp nat_cmp k n)) (sym (same_number q x tied))

  found_left : (q : ℕ) → find nat_cmp q left ≡ cond (not (eqb k q)) (find nat_cmp q es) None
  found_left q = find-where_key nat_cmp (λ x. not (eq_by_cmp nat_cmp k x)) q (alike q) es ∙ ap (λ b. cond (not b) (find nat_cmp q es) None) (same_test k q)

  none_left : find nat_cmp k left ≡ None
  none_left = found_left k ∙ cond-false _ _ _ (ap not (eq-eqb k k refl))

  -- After an entry is put in, the same is found whether or not the key was there before.
  found_both : (v : X) (q : ℕ) → find nat_cmp q (put nat_cmp k v es) ≡ find nat_cmp q (put nat_cmp k v left)
  found_both v q =
      find-put nat_cmp nat_cmp_total q k v es
      ∙ ap (λ b. cond b (Some v) (find nat_cmp q es)) (same_test q k)
      ∙ elim (cases_eq q k) [
        | inl here ↦ cond-true _ _ _ (eq-eqb q k here) ∙ sym (cond-true _ _ _ (eq-eqb q k here))
        | inr other ↦ cond-false _ _ _ (ne_eqb q k other)
            ∙ sym (cond-false _ _ _ (ne_eqb q k other) ∙ found_left q ∙ cond-true _ _ _ (ap not (ne_eqb k q (λ same. other (sym same)))))
      ]
      ∙ sym (find-put nat_cmp nat_cmp_total q k v left ∙ ap (λ b. cond b (Some v) (find nat_cmp q left)) (same_test q k))

  found_again : (x : X) → find nat_cmp k es ≡ Some x → (q : ℕ) → find nat_cmp q (put nat_cmp k x es) ≡ find nat_cmp q es
  found_again x there q =
      find-put nat_cmp nat_cmp_total q k x es
      ∙ ap (λ b. cond b (Some x) (find nat_cmp q es)) (same_test q k)
      ∙ elim (cases_eq q k) [
        | inl here ↦ cond-true _ _ _ (eq-eqb q k here) ∙ sym there ∙ ap (λ n. find nat_cmp n es) (sym here)
        | inr other ↦ cond-false _ _ _ (ne_eqb q k other)
      ]

  module _ (sorted : T (is_sorted nat_cmp es)) where
    left_sorted : T (is_sorted nat_cmp left)
    left_sorted = is_sorted-where_key nat_cmp (λ x. not (eq_by_cmp nat_cmp k x)) es sorted

    put-without : (v : X) → put nat_cmp k v es ≡ put nat_cmp k v left
    put-without v = same_entries nat_cmp nat_cmp_total same_number _ _ (is_sorted-put nat_cmp nat_cmp_total k v es sorted) (is_sorted-put nat_cmp nat_cmp_total k v left left_sorted) (found_both v)

    put-again : (x : X) → find nat_cmp k es ≡ Some x → put nat_cmp k x es ≡ es
    put-again x there = same_entries nat_cmp nat_cmp_total same_number _ _ (is_sorted-put nat_cmp nat_cmp_total k x es sorted) sorted (found_again x there)

-- ---- sums

between : (a b c : ℕ) → a + (b + c) ≡ b + (a + c)
between a b c = omega arith

module _ {X : Type 0} (f : X → ℕ) where
  -- The sum over the values under all keys.
  abbrev pub sum_under : List (ℕ × X) → ℕ
  sum_under es = sum_by (λ e. f e.1) es

  pub sum-put_new : (k : ℕ) (v : X) (es : List (ℕ × X)) → find nat_cmp k es ≡ None → sum_under (put nat_cmp k v es) ≡ f v + sum_under es
  sum-put_new k v [] none = omega arith
  sum-put_new k v (e ∷ es) none =
      elim (nat_cmp k e.0) as (λ o. nat_cmp k e.0 ≡ o → sum_under (by_order o ((k, v) ∷ e ∷ es) ((e.0, v) ∷ es) (e ∷ put nat_cmp k v es)) ≡ f v + sum_under (e ∷ es)) [
        | Less ↦ λ p. sum_by-cons (λ (d : ℕ × X). f d.1) (k, v) (e ∷ es)
        | Equal ↦ λ p. absurd (none-some e.1 (sym none ∙ ap (λ r. cond (is_eq r) (Some e.1) (find nat_cmp k es)) p))
        | Greater ↦ λ p.
            let rest = sum-put_new k v es (sym (ap (λ r. cond (is_eq r) (Some e.1) (find nat_cmp k es)) p) ∙ none) in
            sum_by-cons (λ (d : ℕ × X). f d.1) e (put nat_cmp k v es) ∙ ap (λ (n : ℕ). f e.1 + n) rest ∙ between (f e.1) (f v) (sum_under es) ∙ sym (ap (λ (n : ℕ). f v + n) (sum_by-cons (λ (d : ℕ × X). f d.1) e es))
      ] refl

  module _ (k : ℕ) (x : X) (es : List (ℕ × X)) (sorted : T (is_sorted nat_cmp es)) (there : find nat_cmp k es ≡ Some x) where
    put_sum : (v : X) → sum_under (put nat_cmp k v es) ≡ f v + sum_under (without nat_cmp k es)
    put_sum v = ap sum_under (put-without k es sorted v) ∙ sum-put_new k v (without nat_cmp k es) (none_left k es)

    -- An entry is left out.
    pub sum-without : sum_under (without nat_cmp k es) + f x ≡ sum_under es
    sum-without = let whole : sum_under es ≡ f x + sum_under (without nat_cmp k es) = ap sum_under (sym (put-again k es sorted x there)) ∙ put_sum x in omega (arith, whole)

    -- An entry gets another value.
    pub sum-put_there : (v : X) → sum_under (put nat_cmp k v es) + f x ≡ sum_under es + f v
    sum-put_there v = omega (arith, put_sum v, sum-without)
