-- Each type of a file is defined, with its map, once those that were missing are defined, if none clashed.
use Rattle.std.proofs.Common.{◌≡◌, ◌⊎◌, inl, inr, ℕ, ◌<◌, Bool, true, false, not, ◌||◌, cond, eqb, List, [], ◌∷◌, Option, Some, None, is_none, nat_cmp, refl, sym, ap, subst, ◌∙◌, arith, ne_eqb, eq-eqb, T}
use Rattle.std.specs.Ordering.{is_lt}
use Rattle.std.specs.FinMap.Entries.{below_all, is_sorted, is_sorted-where_key, find-put, find-where_key}
use Rattle.std.proofs.lemmas.Bool.{cases_eq, cond-true, cond-false, and_parts, eqb-true}
use Rattle.std.proofs.lemmas.Bool.Decides.{nat_tests}
use Rattle.std.proofs.lemmas.Cmp.{nat_cmp_total}
use Rattle.std.proofs.lemmas.Option.{none-some, same_Some}
use Rattle.pud_defs.specs.RegistryTables.Types.{map_of, with_type}
use Rattle.pud_defs.specs.PoolGraphs.ExportFile.{are_file_types}
use Rattle.pud_defs.specs.StateMachine.Imports.{types_missing, with_types_defined}
use Rattle.pud_defs.specs.StateMachine.PoolChanges.{with_type_defined}
use Rattle.pud_defs.specs.StateMachine.Step.{is_other, is_clash, clashes_with}
use Rattle.pud_defs.specs.StateMachine.World.{StoredWorld}
use Rattle.pud_defs.proofs.RegistryTables.TypeLists.{same_test, same_number, true_when}

-- ---- types put into a list

-- the types with these put into them, one after the other
unfoldable all_with : List (ℕ × ℕ) → List (ℕ × ℕ) → List (ℕ × ℕ)
all_with [] types = types
all_with (t ∷ new) types = all_with new (with_type t.0 t.1 types)

found_or_none : (o : Option ℕ) → (o ≡ None) ⊎ ((m : ℕ) × (o ≡ Some m))
found_or_none None = inl refl
found_or_none (Some m) = inr (m, refl)

less : (x y : ℕ) → is_lt (nat_cmp x y) ≡ true → x < y
less x y is = grind (arith, nat_tests)

test_here : (id k : ℕ) (m : ℕ) (es : List (ℕ × ℕ)) → id ≡ k → map_of id ((k, m) ∷ es) ≡ Some m
test_here id k m es same = cond-true _ _ _ (same_test id k ∙ eq-eqb id k same)

test_other : (id : ℕ) (e : ℕ × ℕ) (es : List (ℕ × ℕ)) → (id ≡ e.0 → ⊥) → map_of id (e ∷ es) ≡ map_of id es
test_other id e es other = cond-false _ _ _ (same_test id e.0 ∙ ne_eqb id e.0 other)

put_here : (id k m : ℕ) (types : List (ℕ × ℕ)) → id ≡ k → map_of id (with_type k m types) ≡ Some m
put_here id k m types same = find-put nat_cmp nat_cmp_total id k m types ∙ cond-true _ _ _ (same_test id k ∙ eq-eqb id k same)

put_other : (id k m : ℕ) (types : List (ℕ × ℕ)) → (id ≡ k → ⊥) → map_of id (with_type k m types) ≡ map_of id types
put_other id k m types other = find-put nat_cmp nat_cmp_total id k m types ∙ cond-false _ _ _ (same_test id k ∙ ne_eqb id k other)

-- a type that is none of these does not change
all_with-other : (id : ℕ) (new types : List (ℕ × ℕ)) → map_of id new ≡ None → map_of id (all_with new types) ≡ map_of id types
unfolding all_with
all_with-other id [] types none = refl
all_with-other id (t ∷ new) types none = elim (cases_eq id t.0) [
  | inl same ↦ absurd (none-some t.1 (sym none ∙ test_here id t.0 t.1 new same))
  | inr other ↦ all_with-other id new (with_type t.0 t.1 types) (sym (test_other id t new other) ∙ none) ∙ put_other id t.0 t.1 types other
]

below_found : (k id m : ℕ) (es : List (ℕ × ℕ)) → below_all nat_cmp k es ≡ true → map_of id es ≡ Some m → k < id
below_found k id m [] all is = absurd (none-some m is)
below_found k id m (e ∷ es) all is =
    let parts = and_parts (is_lt (nat_cmp k e.0)) (below_all nat_cmp k es) all in
    elim (cases_eq id e.0) [
      | inl same ↦ let low = less k e.0 parts.0 in omega arith
      | inr other ↦ below_found k id m es parts.1 (sym (test_other id e es other) ∙ is)
    ]

-- and each of these has its map
all_with-there : (id m : ℕ) (new types : List (ℕ × ℕ)) → is_sorted nat_cmp new ≡ true → map_of id new ≡ Some m → map_of id (all_with new types) ≡ Some m
unfolding all_with
all_with-there id m [] types sorted is = absurd (none-some m is)
all_with-there id m (t ∷ new) types sorted is =
    let parts = and_parts (below_all nat_cmp t.0 new) (is_sorted nat_cmp new) sorted in
    elim (cases_eq id t.0) [
      | inl same ↦
          let rest : map_of id new ≡ None = elim (found_or_none (map_of id new)) [
            | inl none ↦ none
            | inr found ↦ let low = below_found t.0 id found.0 new parts.0 found.1 in absurd (omega arith)
          ] in
          all_with-other id new (with_type t.0 t.1 types) rest ∙ put_here id t.0 t.1 types same ∙ sym (test_here id t.0 t.1 new same) ∙ is
      | inr other ↦ all_with-there id m new (with_type t.0 t.1 types) parts.1 (sym (test_other id t new other) ∙ is)
    ]

-- ---- types of a file

-- a type that is defined has the same map in a file that does not clash
same_map : (types file : List (ℕ × ℕ)) (id m n : ℕ) → clashes_with types file ≡ false → map_of id types ≡ Some n → map_of id file ≡ Some m → n ≡ m
same_map types [] id m n none there is = absurd (none-some m is)
same_map types (t ∷ file) id m n none there is =
    let first : is_clash types t.0 t.1 ≡ false = or_left (is_clash types t.0 t.1) (clashes_with types file) none in
    let rest : clashes_with types file ≡ false = or_right (is_clash types t.0 t.1) (clashes_with types file) none in
    elim (cases_eq id t.0) [
      | inl same ↦
          let here : map_of t.0 types ≡ Some n = ap (λ (k : ℕ). map_of k types) (sym same) ∙ there in
          eqb-true n t.1 (not_false (eqb n t.1) (sym (ap (λ (o : Option ℕ). is_other t.1 o) here) ∙ first)) ∙ same_Some t.1 m (sym (test_here id t.0 t.1 file same) ∙ is)
      | inr other ↦ same_map types file id m n rest there (sym (test_other id t file other) ∙ is)
    ]
  where
    or_left : (a b : Bool) → (a || b) ≡ false → a ≡ false
    or_left true b e = e
    or_left false b e = refl

    or_right : (a b : Bool) → (a || b) ≡ false → b ≡ false
    or_right true b e = cc
    or_right false b e = e

    not_false : (b : Bool) → not b ≡ false → b ≡ true
    not_false true e = refl
    not_false false e = cc

typed_list : (new : List (ℕ × ℕ)) (s : StoredWorld) → (with_types_defined new s).types ≡ all_with new s.types
unfolding with_types_defined with_type_defined all_with
typed_list [] s = refl
typed_list (t ∷ new) s = typed_list new (with_type_defined t.0 t.1 s)

-- each type of the file is defined afterwards
pub defined_then : (file : List (ℕ × ℕ)) (s : StoredWorld) (id m : ℕ) → are_file_types file ≡ true → clashes_with s.types file ≡ false → map_of id file ≡ Some m → map_of id (with_types_defined (types_missing s.types file) s).types ≡ Some m
defined_then file s id m legal none is =
    let missing = types_missing s.types file in
    let test = λ (k : ℕ). is_none (map_of k s.types) in
    let listed : map_of id missing ≡ cond (test id) (map_of id file) None = find-where_key nat_cmp test id (λ x tied. ap test (sym (same_number id x tied))) file in
    let sorted : is_sorted nat_cmp file ≡ true = (and_parts _ (is_sorted nat_cmp file) legal).1 in
    let missing_sorted : is_sorted nat_cmp missing ≡ true = true_when (is_sorted nat_cmp missing) (is_sorted-where_key nat_cmp test file (subst T (sym sorted) tt)) in
    ap (map_of id) (typed_list missing s) ∙ elim (found_or_none (map_of id s.types)) [
      | inl free ↦ all_with-there id m missing s.types missing_sorted (listed ∙ cond-true (test id) (map_of id file) None (ap is_none free) ∙ is)
      | inr there ↦
          all_with-other id missing s.types (listed ∙ cond-false (test id) (map_of id file) None (ap is_none there.1))
          ∙ there.1 ∙ ap (λ (n : ℕ). Some n) (same_map s.types file id m there.0 none there.1 is)
    ]
