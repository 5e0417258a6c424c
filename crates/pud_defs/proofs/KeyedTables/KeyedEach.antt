-- What holds for each used place of a table holds for each entry of its list, and what holds for some place holds for
-- some entry.
use Rattle.std.proofs.Common.{◌≡◌, ℕ, zero, suc, ◌+◌, ◌<◌, ◌≤◌, Bool, true, false, ◌||◌, cond, List, [], ◌∷◌, Option, Some, None, refl, sym, ap, ap₂, ◌∙◌, ◌++◌, subst, arith}
use Rattle.std.specs.declared.cmp.Ordering.{Ordering}
use Rattle.std.specs.declared.cmp.Ordering.TheVariants.{Less, Equal, Greater}
use Rattle.std.specs.List.{AllByRecursion, flat_map, list_any, range_with_len}
use Rattle.std.specs.Ordering.{is_eq}
use Rattle.std.specs.Cmp.{IsTotalOrder}
use Rattle.std.specs.FinMap.Entries.{by_order, put, find}
use Rattle.std.proofs.lemmas.Option.{none-some}
use Rattle.pud_defs.specs.RegistryTables.Keyed.{put_entry, keyed}
use Rattle.pud_defs.proofs.KeyedTables.Keyed.{HasDistinctKeys, find-keyed, first_from_none}

module _ {K X : Type 0} (R : K → K → Ordering) (same : (k q : K) → R k q ≡ Equal → k ≡ q) (P : K × X → Type 0) where
  each-put : (k : K) (v : X) (es : List (K × X)) → P (k, v) → AllByRecursion P es → AllByRecursion P (put R k v es)
  each-put k v [] here others = (here, tt)
  each-put k v (e ∷ es) here others = elim (R k e.0) as (λ o. R k e.0 ≡ o → AllByRecursion P (by_order o ((k, v) ∷ e ∷ es) ((e.0, v) ∷ es) (e ∷ put R k v es))) [
    | Less ↦ λ p. (here, others)
    | Equal ↦ λ p. (subst (λ (x : K). P (x, v)) (same k e.0 p) here, others.1)
    | Greater ↦ λ p. (others.0, each-put k v es here others.1)
  ] refl

  each_in_front : (e : Option (K × X)) (es : List (K × X)) → ((d : K × X) → e ≡ Some d → P d) → AllByRecursion P es → AllByRecursion P (put_entry R e es)
  each_in_front None es here others = others
  each_in_front (Some e) es here others = each-put e.0 e.1 es (here e refl) others

  pub each-keyed : (at : ℕ → Option (K × X)) (from count : ℕ) → ((j : ℕ) → from ≤ j → j < from + count → (e : K × X) → at j ≡ Some e → P e) → AllByRecursion P (keyed R at from count)
  unfolding keyed
  each-keyed at from zero each = tt
  each-keyed at from (suc count) each =
      each_in_front (at from) (keyed R at (from + 1) count) (λ e is. each from (omega arith) (omega arith) e is) (each-keyed at (from + 1) count (λ j low high e is. each j (omega arith) (omega arith) e is))

-- if two texts are the same for each entry, they are the same for the list
pub flat_map-each : {X A : Type 0} (f g : X → List A) (xs : List X) → AllByRecursion (λ x. f x ≡ g x) xs → flat_map f xs ≡ flat_map g xs
flat_map-each f g [] each = refl
flat_map-each f g (x ∷ xs) each = ap₂ (λ front rest. front ++ rest) each.0 (flat_map-each f g xs each.1)

-- if Q follows from P, and P holds for each entry, then Q does
pub each-weaker : {X : Type 0} (P Q : X → Type 0) (xs : List X) → ((x : X) → P x → Q x) → AllByRecursion P xs → AllByRecursion Q xs
each-weaker P Q [] weaker each = tt
each-weaker P Q (x ∷ xs) weaker each = (weaker x each.0, each-weaker P Q xs weaker each.1)

-- ---- a test that some entry passes

turned : (a b c : Bool) → (a || (b || c)) ≡ (b || (a || c))
turned true true c = refl
turned true false c = refl
turned false true c = refl
turned false false c = refl

-- what is at the place passes the test
abbrev pub passes_there : {K X : Type 0} → (K × X → Bool) → Option (K × X) → Bool
passes_there test None = false
passes_there test (Some e) = test e

module _ {K X : Type 0} (R : K → K → Ordering) (test : K × X → Bool) where
  any-ordered : (o : Ordering) (e : K × X) (k : K) (v : X) (es : List (K × X)) → cond (is_eq o) (Some e.1) (find R k es) ≡ None
      → (find R k es ≡ None → list_any test (put R k v es) ≡ (test (k, v) || list_any test es))
      → list_any test (by_order o ((k, v) ∷ e ∷ es) ((e.0, v) ∷ es) (e ∷ put R k v es)) ≡ (test (k, v) || (test e || list_any test es))
  any-ordered Less e k v es none later = refl
  any-ordered Equal e k v es none later = absurd (none-some e.1 (sym none))
  any-ordered Greater e k v es none later = ap (λ b. test e || b) (later none) ∙ turned (test e) (test (k, v)) (list_any test es)

  any-put : (k : K) (v : X) (es : List (K × X)) → find R k es ≡ None → list_any test (put R k v es) ≡ (test (k, v) || list_any test es)
  any-put k v [] none = refl
  any-put k v (e ∷ es) none = any-ordered (R k e.0) e k v es none (any-put k v es)

  any-put_entry : (e : Option (K × X)) (es : List (K × X)) → ((d : K × X) → e ≡ Some d → find R d.0 es ≡ None) → list_any test (put_entry R e es) ≡ (passes_there test e || list_any test es)
  any-put_entry None es none = refl
  any-put_entry (Some e) es none = any-put e.0 e.1 es (none e refl)

  -- if no two records have one key, some entry passes exactly if some used place does
  pub any-keyed : (o : IsTotalOrder R) (f : ℕ → Option (K × X)) (from count : ℕ) → HasDistinctKeys R f from count → list_any test (keyed R f from count) ≡ list_any (λ j. passes_there test (f j)) (range_with_len from count)
  unfolding keyed
  any-keyed o f from zero h = refl
  any-keyed o f from (suc count) h =
      any-put_entry (f from) (keyed R f (from + 1) count)
      (λ d is. find-keyed R o d.0 f (from + 1) count ∙ first_from_none R d.0 f (from + 1) count (λ j low high. h.apart from j (omega arith) (omega arith) (omega arith) d is))
      ∙ ap (λ b. passes_there test (f from) || b) (any-keyed o f (from + 1) count (record { apart = λ i j low less high. h.apart i j (omega arith) less (omega arith) }))
