-- Laws of lists of types: what defining a type changes.
use Rattle.std.proofs.Common.{◌≡◌, ℕ, Bool, true, false, eqb, T, List, Some, nat_cmp, Equal, refl, sym, ap, ◌∙◌, ⊎_elim, arith, ne_eqb, eq-eqb}
use Rattle.std.specs.Ordering.{eq_by_cmp}
use Rattle.std.specs.FinMap.Entries.{is_sorted, find-put, is_sorted-put, same_entries}
use Rattle.std.proofs.lemmas.Bool.{cases_eq, cond-true, cond-false}
use Rattle.std.proofs.lemmas.Bool.Decides.{nat_tests}
use Rattle.std.proofs.lemmas.Cmp.{nat_cmp_total}
use Rattle.pud_defs.specs.RegistryTables.Types.{map_of, with_type}

-- ---- the order of numbers

pub same_test : (q x : ℕ) → eq_by_cmp nat_cmp q x ≡ eqb q x
same_test q x = grind (arith, nat_tests)

pub same_number : (x y : ℕ) → nat_cmp x y ≡ Equal → x ≡ y
same_number x y e = grind (arith, nat_tests)

-- a test that passes is true
pub true_when : (b : Bool) → T b → b ≡ true
true_when true passes = refl
true_when false passes = absurd passes

-- ---- defining a type

-- to define a type again with the same map changes nothing
pub with_type-same : (id map : ℕ) (types : List (ℕ × ℕ)) → T (is_sorted nat_cmp types) → map_of id types ≡ Some map → with_type id map types ≡ types
with_type-same id map types sorted there =
    same_entries nat_cmp nat_cmp_total same_number _ _ (is_sorted-put nat_cmp nat_cmp_total id map types sorted) sorted
    (λ q. find-put nat_cmp nat_cmp_total q id map types ∙ ⊎_elim
    (λ e. cond-true _ _ _ (same_test q id ∙ eq-eqb q id e) ∙ sym there ∙ ap (λ k. map_of k types) (sym e))
    (λ h. cond-false _ _ _ (same_test q id ∙ ne_eqb q id h))
    (cases_eq q id))

pub is_sorted-with_type : (id map : ℕ) (types : List (ℕ × ℕ)) → T (is_sorted nat_cmp types) → T (is_sorted nat_cmp (with_type id map types))
is_sorted-with_type id map types sorted = is_sorted-put nat_cmp nat_cmp_total id map types sorted
