-- The place for the slots of one class stays when that of another class is set.
use Rattle.std.proofs.Common.{◌≡◌, ◌⊎◌, inl, inr, ℕ, ◌≤◌, Bool, true, false, cond, eqb, refl, sym, subst, ◌∙◌, arith, eqb-true}
use Rattle.std.proofs.lemmas.Bool.{cases_eq}
use Rattle.pud_defs.specs.declared.space.TheConstants.{LARGE, SMALL}
use Rattle.known_pool.specs.declared.searches.FullBelow.{FullBelow}
use Rattle.known_pool.specs.Searches.{none_full, full_of, with_full}

none_by : (small large : Bool) (n : ℕ) → cond small n (cond large n n) ≡ n
none_by true large n = refl
none_by false true n = refl
none_by false false n = refl

pub full_of-none : (class : ℕ) → full_of class none_full ≡ 0
full_of-none class = none_by (eqb class SMALL) (eqb class LARGE) 0

same_by : (small large : Bool) (n s l : ℕ) → cond small (cond small n s) (cond large (cond large n l) 0) ≤ n
same_by true large n s l = omega arith
same_by false true n s l = omega arith
same_by false false n s l = omega arith

other_by : (small large other_small other_large : Bool) (n s l : ℕ) → (small ≡ true → other_small ≡ true → ⊥) → (large ≡ true → other_large ≡ true → ⊥)
    → cond small (cond other_small n s) (cond large (cond other_large n l) 0) ≡ cond small s (cond large l 0)
other_by true large true other_large n s l no_small no_large = absurd (no_small refl refl)
other_by true large false other_large n s l no_small no_large = refl
other_by false true other_small true n s l no_small no_large = absurd (no_large refl refl)
other_by false true other_small false n s l no_small no_large = refl
other_by false false other_small other_large n s l no_small no_large = refl

both : (class other which : ℕ) → (class ≡ other → ⊥) → eqb class which ≡ true → eqb other which ≡ true → ⊥
both class other which apart one two = apart (eqb-true class which one ∙ sym (eqb-true other which two))

-- The place that is set is that of the class, or the class is another one and its place stays.
pub full_of-with : (class other place : ℕ) (full : FullBelow) → ((class ≡ other) × (full_of class (with_full other place full) ≤ place)) ⊎ ((class ≡ other → ⊥) × (full_of class (with_full other place full) ≡ full_of class full))
full_of-with class other place full = elim (cases_eq class other) [
  | inl same ↦ inl (same, subst (λ (k : ℕ). full_of class (with_full k place full) ≤ place) same (same_by (eqb class SMALL) (eqb class LARGE) place full.small full.large))
  | inr apart ↦ inr (apart, other_by (eqb class SMALL) (eqb class LARGE) (eqb other SMALL) (eqb other LARGE) place full.small full.large (both class other SMALL apart) (both class other LARGE apart))
]

-- If no place lies past an end, none does after one is set that does not.
within_by : (a n end : ℕ) → a ≤ n → n ≤ end → a ≤ end
within_by a n end most few = omega (arith, most, few)

pub full_of-within : (class other place end : ℕ) (full : FullBelow) → place ≤ end → full_of class full ≤ end → full_of class (with_full other place full) ≤ end
full_of-within class other place end full few was = elim (full_of-with class other place full) [
  | inl same ↦ within_by _ place end same.1 few
  | inr apart ↦ subst (λ (n : ℕ). n ≤ end) (sym apart.1) was
]
