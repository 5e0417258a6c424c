-- Lists of fields that do not name a place, and lists in which one field changes.
use Rattle.std.proofs.Common.{◌≡◌, ℕ, zero, suc, Bool, true, false, not, eqb, List, [], ◌∷◌, map, set, Option, Some, None, refl, ap, ◌∙◌, eq-eqb, ne_eqb}
use Rattle.std.specs.List.{list_any, list_all}
use Rattle.std.proofs.lemmas.Bool.{and_parts, and_from, or_parts, not-true, both_ways}
use Rattle.pud_defs.specs.PoolGraphs.Graph.{Content, Number, Null, At, Nowhere, named_by, value_of, stands, all_stand, names_serial}
use Rattle.pud_defs.proofs.PoolGraphs.Contents.{names_only, name_only}

-- ---- what names other places only

-- The place is another one.
abbrev pub is_other : ℕ → ℕ → Bool
is_other p q = not (eqb q p)

module _ (s : ℕ → ℕ) (p : ℕ) where
  -- What stands for something names no free place.
  pub names_no_free : s p ≡ 0 → (c : Content) → stands s c ≡ true → names_only (is_other p) c ≡ true
  names_no_free free (Number v) stand = refl
  names_no_free free Null stand = refl
  names_no_free free (At q) stand = ap not (ne_eqb q p (λ e. both_ways (eqb (s q) 0) (not-true _ stand) (eq-eqb _ 0 (ap s e ∙ free))))
  names_no_free free Nowhere stand = refl

  name_no_frees : s p ≡ 0 → (cs : List Content) → list_all (stands s) cs ≡ true → list_all (names_only (is_other p)) cs ≡ true
  name_no_frees free [] stand = refl
  name_no_frees free (c ∷ cs) stand =
      let parts = and_parts (stands s c) (list_all (stands s) cs) stand in
      and_from _ _ (names_no_free free c parts.0) (name_no_frees free cs parts.1)

  pub name_no_free : s p ≡ 0 → (contents : Option (List Content)) → all_stand s contents ≡ true → name_only (is_other p) contents ≡ true
  name_no_free free None stand = refl
  name_no_free free (Some cs) stand = name_no_frees free cs stand

  -- If a value does not name a serial, it does not name the serial's place.
  names_no_serial : (c : Content) → names_serial (s p) (value_of s c) ≡ false → names_only (is_other p) c ≡ true
  names_no_serial (Number v) apart = refl
  names_no_serial Null apart = refl
  names_no_serial (At q) apart = ap not (ne_eqb q p (λ e. both_ways (eqb (s q) (s p)) apart (eq-eqb _ _ (ap s e))))
  names_no_serial Nowhere apart = refl

  pub name_no_serial : (cs : List Content) → list_any (names_serial (s p)) (map (value_of s) cs) ≡ false → list_all (names_only (is_other p)) cs ≡ true
  name_no_serial [] apart = refl
  name_no_serial (c ∷ cs) apart =
      let parts = or_parts (names_serial (s p) (value_of s c)) (list_any (names_serial (s p)) (map (value_of s) cs)) apart in
      and_from _ _ (names_no_serial c parts.0) (name_no_serial cs parts.1)

  -- A pointer that names another serial does not name the place.
  pub names_no_root : (c : Content) → eqb (named_by s c) (s p) ≡ false → names_only (is_other p) c ≡ true
  names_no_root (Number v) apart = refl
  names_no_root Null apart = refl
  names_no_root (At q) apart = ap not (ne_eqb q p (λ e. both_ways (eqb (s q) (s p)) apart (eq-eqb _ _ (ap s e))))
  names_no_root Nowhere apart = refl

-- ---- one field changes

pub list_all-set : {A : Type 0} (test : A → Bool) (xs : List A) (i : ℕ) (x : A) → list_all test xs ≡ true → test x ≡ true → list_all test (set xs i x) ≡ true
list_all-set test [] i x all here = refl
list_all-set test (y ∷ xs) zero x all here = and_from _ _ here (and_parts (test y) (list_all test xs) all).1
list_all-set test (y ∷ xs) (suc i) x all here =
    let parts = and_parts (test y) (list_all test xs) all in
    and_from _ _ parts.0 (list_all-set test xs i x parts.1 here)
