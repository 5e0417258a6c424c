-- The types of a file after its import: of all types that are defined then, those that its objects have.
use Rattle.std.proofs.Common.{◌≡◌, ℕ, ◌<◌, Bool, ◌&&◌, true, false, not, cond, eqb, T, List, [], ◌∷◌, Option, Some, None, is_none, nat_cmp, refl, sym, ap, ap₂, ◌∙◌, subst, arith, eqb-true, eq-eqb, inl, inr, zero-add}
use Rattle.std.specs.List.{list_any, list_all, range_with_len}
use Rattle.std.specs.Option.{option_or}
use Rattle.std.specs.Ordering.{is_lt, eq_by_cmp}
use Rattle.std.specs.FinMap.Entries.{below_all, is_sorted, find-put, find-where_key, is_sorted-where_key, same_entries}
use Rattle.std.proofs.lemmas.Bool.{cases_Bool, cond-true, cond-false, and_parts, or_parts, not-true, not-false, not_from_true}
use Rattle.std.proofs.lemmas.Bool.Decides.{nat_tests}
use Rattle.std.proofs.lemmas.Cmp.{nat_cmp_total}
use Rattle.std.proofs.lemmas.List.FromFn.{length-range_with_len, get_or-range_with_len}
use Rattle.std.proofs.lemmas.List.Folds.{Any-from_list_any}
use Rattle.std.proofs.lemmas.Option.{none-some, same_Some}
use Rattle.pud_defs.specs.RegistryTables.Types.{map_of}
use Rattle.pud_defs.specs.PoolGraphs.Stored.{Stored, places_of, class_at}
use Rattle.pud_defs.specs.PoolGraphs.Graph.{Graph, place_map, table_of, graph_of}
use Rattle.pud_defs.specs.PoolGraphs.ExportFile.{is_type_used, types_used}
use Rattle.pud_defs.specs.StateMachine.Imports.{types_missing, with_types_defined}
use Rattle.pud_defs.specs.StateMachine.Step.{is_other, is_clash, clashes_with}
use Rattle.pud_defs.specs.StateMachine.PoolChanges.{with_type_defined}
use Rattle.pud_defs.specs.StateMachine.World.{StoredWorld}
use Rattle.pud_defs.proofs.RegistryTables.TypeLists.{same_test, same_number, true_when}
use Rattle.pud_defs.proofs.PoolGraphs.TypeMore.{defined_there, fitting_some}
use Rattle.pud_defs.proofs.PoolGraphs.Graphs.{graph_of-each}
use Rattle.graph_laws.specs.Slots.{is_of_type}
use Rattle.graph_laws.proofs.SameReads.UsedTypes.{is_type_used-scanned}

-- ---- types that are found

-- a test that each type passes succeeds for each type that is found
found_passes : (test : ℕ × ℕ → Bool) (id m : ℕ) (types : List (ℕ × ℕ)) → list_all test types ≡ true → map_of id types ≡ Some m → test (id, m) ≡ true
found_passes test id m [] all there = absurd (none-some m there)
found_passes test id m (t ∷ types) all there =
    let parts = and_parts (test t) (list_all test types) all in
    elim (eq_by_cmp nat_cmp id t.0) as (λ b. eq_by_cmp nat_cmp id t.0 ≡ b → cond b (Some t.1) (map_of id types) ≡ Some m → test (id, m) ≡ true) [
      | true ↦ λ same is. let key : id ≡ t.0 = eqb-true id t.0 (sym (same_test id t.0) ∙ same) in let value : t.1 ≡ m = same_Some t.1 m is in ap₂ (λ (k v : ℕ). test (k, v)) key (sym value) ∙ parts.0
      | false ↦ λ other is. found_passes test id m types parts.1 is
    ] refl there

-- each type fails a test that none passes
none_passes : (test : ℕ × ℕ → Bool) (types : List (ℕ × ℕ)) → list_any test types ≡ false → list_all (λ t. not (test t)) types ≡ true
none_passes test [] none = refl
none_passes test (t ∷ types) none = let parts = or_parts (test t) (list_any test types) none in ap₂ (λ (a b : Bool). not a && b) parts.0 (none_passes test types parts.1)

found_fails : (test : ℕ × ℕ → Bool) (id m : ℕ) (types : List (ℕ × ℕ)) → list_any test types ≡ false → map_of id types ≡ Some m → test (id, m) ≡ false
found_fails test id m types none there = not-true (test (id, m)) (found_passes (λ t. not (test t)) id m types (none_passes test types none) there)

-- ---- types that are defined one after the other

lower_is_other : (k x : ℕ) → is_lt (nat_cmp k x) ≡ true → eq_by_cmp nat_cmp k x ≡ false
lower_is_other k x is = grind (arith, nat_tests)

-- an id that is below all ids is none of them
map_of-below : (id : ℕ) (types : List (ℕ × ℕ)) → below_all nat_cmp id types ≡ true → map_of id types ≡ None
map_of-below id [] below = refl
map_of-below id (t ∷ types) below =
    let parts = and_parts (is_lt (nat_cmp id t.0)) (below_all nat_cmp id types) below in
    cond-false _ _ _ (lower_is_other id t.0 parts.0) ∙ map_of-below id types parts.1

in_turn : (b : Bool) (map : ℕ) (more rest : Option ℕ) → (b ≡ true → more ≡ None) → option_or more (cond b (Some map) rest) ≡ option_or (cond b (Some map) more) rest
in_turn true map more rest none = ap (λ o. option_or o (Some map)) (none refl)
in_turn false map more rest none = refl

-- each new type has its own map, and all others keep theirs
map_of-defined : (id : ℕ) (types : List (ℕ × ℕ)) (s : StoredWorld) → is_sorted nat_cmp types ≡ true → map_of id (with_types_defined types s).types ≡ option_or (map_of id types) (map_of id s.types)
unfolding with_types_defined with_type_defined
map_of-defined id [] s sorted = refl
map_of-defined id (t ∷ types) s sorted =
    let parts = and_parts (below_all nat_cmp t.0 types) (is_sorted nat_cmp types) sorted in
    map_of-defined id types (with_type_defined t.0 t.1 s) parts.1
    ∙ ap (option_or (map_of id types)) (find-put nat_cmp nat_cmp_total id t.0 t.1 s.types)
    ∙ in_turn (eq_by_cmp nat_cmp id t.0) t.1 (map_of id types) (map_of id s.types)
    (λ same. let key : id ≡ t.0 = eqb-true id t.0 (sym (same_test id t.0) ∙ same) in ap (λ k. map_of k types) key ∙ map_of-below t.0 types parts.0)

-- ---- the types of an object

type_there : (types : List (ℕ × ℕ)) (st : Stored) (g : Graph) (p id : ℕ) → graph_of types st ≡ Some g → p < places_of st → is_of_type st id p ≡ true → (m : ℕ) × (map_of id types ≡ Some m)
type_there types st g p id is within there =
    let t = table_of types st in
    let parts = and_parts (not (eqb (t.serial p) 0)) (eqb (t.type_id p) id) there in
    let live : t.serial p ≡ 0 → ⊥ = λ free. let no : true ≡ false = sym parts.0 ∙ not_from_true _ (eq-eqb (t.serial p) 0 free) in cc in
    let there = defined_there t.serial st p (place_map types st p) ((graph_of-each types st g is).graph.sound p within live).stand in
    subst (λ k. (m : ℕ) × (map_of k types ≡ Some m)) (eqb-true (t.type_id p) id parts.1)
    (there.0, fitting_some (class_at st p) (map_of (t.type_id p) types) there.0 there.1)

-- if a graph is stored by these types, the type of each object is one of them
map_of-object : (types : List (ℕ × ℕ)) (st : Stored) (g : Graph) (id : ℕ) → graph_of types st ≡ Some g → is_type_used id g ≡ true → (m : ℕ) × (map_of id types ≡ Some m)
map_of-object types st g id is used =
    let places = range_with_len 0 (places_of st) in
    let found = Any-from_list_any (is_of_type st id) places (sym (is_type_used-scanned types st g id is) ∙ used) in
    let n = places_of st in
    let within : found.0 < n = omega (arith, length-range_with_len 0 n, found.2) in
    let at : found.1 ≡ found.0 = sym found.3 ∙ get_or-range_with_len 0 n found.0 found.1 within ∙ zero-add found.0 in
    type_there types st g found.1 id is (subst (λ p. p < n) (sym at) within) found.4

-- ---- which of the world's types a graph uses after an import

module _ (s : StoredWorld) (file : List (ℕ × ℕ)) (g : Graph) where
  abbrev missing : List (ℕ × ℕ)
  missing = types_missing s.types file

  abbrev later : List (ℕ × ℕ)
  later = (with_types_defined missing s).types

  map_of-missing : (id : ℕ) → map_of id missing ≡ cond (is_none (map_of id s.types)) (map_of id file) None
  map_of-missing id = find-where_key nat_cmp (λ k. is_none (map_of k s.types)) id (λ k same. ap (λ j. is_none (map_of j s.types)) (sym (same_number id k same))) file

  by_what_was : (m : ℕ) (was : Option ℕ) → is_other m was ≡ false → option_or (cond (is_none was) (Some m) None) was ≡ Some m
  by_what_was m None same = refl
  by_what_was m (Some n) same = ap Some (eqb-true n m (not-false (eqb n m) same))

  -- a type of the file is defined afterwards as the file has it
  map_of-later : (id m : ℕ) → is_sorted nat_cmp file ≡ true → clashes_with s.types file ≡ false → map_of id file ≡ Some m → map_of id later ≡ Some m
  map_of-later id m sorted apart there =
      map_of-defined id missing s (true_when _ (is_sorted-where_key nat_cmp (λ k. is_none (map_of k s.types)) file (subst T (sym sorted) tt)))
      ∙ ap (λ o. option_or o (map_of id s.types)) (map_of-missing id ∙ ap (λ o. cond (is_none (map_of id s.types)) o None) there)
      ∙ by_what_was m (map_of id s.types) (found_fails (λ t. is_clash s.types t.0 t.1) id m file apart there)

  -- the graph uses exactly the types of the file, if it uses each of them and has no others
  pub types_used-later : (st : Stored) → T (is_sorted nat_cmp later) → is_sorted nat_cmp file ≡ true → clashes_with s.types file ≡ false → graph_of file st ≡ Some g → list_all (λ t. is_type_used t.0 g) file ≡ true → types_used later g ≡ file
  types_used-later st order sorted apart is all =
      same_entries nat_cmp nat_cmp_total same_number _ _
      (is_sorted-where_key nat_cmp (λ k. is_type_used k g) later order)
      (subst T (sym sorted) tt)
      (λ id. find-where_key nat_cmp (λ k. is_type_used k g) id (λ k same. ap (λ j. is_type_used j g) (sym (same_number id k same))) later ∙ each id)
    where
      unused : (id : ℕ) (o : Option ℕ) → map_of id file ≡ o → is_type_used id g ≡ false → None ≡ o
      unused id None there not_used = refl
      unused id (Some m) there not_used = absurd (let no : true ≡ false = sym (found_passes (λ t. is_type_used t.0 g) id m file all there) ∙ not_used in cc)

      each : (id : ℕ) → cond (is_type_used id g) (map_of id later) None ≡ map_of id file
      each id = elim (cases_Bool (is_type_used id g)) [
        | inl used ↦ let found = map_of-object file st g id is used in cond-true _ _ _ used ∙ map_of-later id found.0 sorted apart found.1 ∙ sym found.1
        | inr not_used ↦ cond-false _ _ _ not_used ∙ unused id (map_of id file) refl not_used
      ]
