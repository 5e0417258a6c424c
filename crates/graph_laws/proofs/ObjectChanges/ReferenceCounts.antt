-- Reference counts when a graph changes.
use Rattle.std.proofs.Common.{◌≡◌, ℕ, zero, suc, ◌+◌, Bool, true, false, ◌||◌, cond, eqb, ltb, List, [], ◌∷◌, map, set, count_by, sum_by, Option, Some, None, option_map, nat_cmp, T, refl, sym, ap, ap₂, subst, ◌∙◌, arith, zero-add, ne_eqb}
use Rattle.std.specs.Prelude.{slice_get}
use Rattle.std.specs.List.{list_any, range_with_len}
use Rattle.std.specs.FinMap.Entries.{is_sorted}
use Rattle.std.proofs.lemmas.Bool.{cond-false, lt-ltb}
use Rattle.std.proofs.lemmas.Cmp.{nat_cmp_total}
use Rattle.std.proofs.lemmas.List.Sums.{sum_by-cons}
use Rattle.std.proofs.lemmas.Option.{none-some, same_Some}
use Rattle.pud_defs.specs.declared.objects.FieldValue.{FieldValue}
use Rattle.pud_defs.specs.declared.objects.FieldValue.TheVariants.{Num, Ref}
use Rattle.pud_defs.specs.Formats.TypeMap.{is_pointer}
use Rattle.pud_defs.specs.PoolGraphs.Stored.{Stored, places_of}
use Rattle.pud_defs.specs.PoolGraphs.Graph.{Object, Graph, table_of, place_of_serial, object_at, live, field_count, names_serial, object_in, is_referenced, next_serial_of, graph_of}
use Rattle.pud_defs.specs.PoolGraphs.GraphChanges.{blank_value, blank_object, object_with, with_object, with_some_object, with_field, with_new, without_object, with_root}
use Rattle.pud_defs.proofs.KeyedTables.Keyed.{is_sorted-keyed}
use Rattle.pud_defs.proofs.PoolGraphs.Graphs.{graph_of-each}
use Rattle.graph_laws.specs.ReferenceCounts.{times_named_by, pointers_to, reference_count}
use Rattle.graph_laws.proofs.ObjectChanges.KeyedSums.{sum-put_new, sum-without, sum-put_there}
use Rattle.graph_laws.proofs.SameReads.Places.{object_in-place}
use Rattle.graph_laws.proofs.SameReads.Words.{place_of_serial-some}

-- ---- graphs that are read

module _ (types : List (ℕ × ℕ)) (st : Stored) (g : Graph) (is : graph_of types st ≡ Some g) where
  -- The objects are in ascending order of their serials.
  pub objects_sorted : T (is_sorted nat_cmp g.objects)
  objects_sorted = subst (λ (k : Graph). T (is_sorted nat_cmp k.objects)) (graph_of-each types st g is).is (is_sorted-keyed nat_cmp nat_cmp_total (live (table_of types st)) 0 (places_of st))

  by_place : (s : ℕ) (p : Option ℕ) (o : Option Object) → place_of_serial s (table_of types st) (places_of st) ≡ p → option_map (object_at (table_of types st)) p ≡ o → g.next_serial ≡ s → o ≡ None
  by_place s None o place there next = sym there
  by_place s (Some p) o place there next =
      let h = graph_of-each types st g is in
      let live = place_of_serial-some (table_of types st) (places_of st) s p place in
      let sound = (h.graph.sound p live.within live.used).below in
      let same : next_serial_of st ≡ g.next_serial = ap (λ (k : Graph). k.next_serial) h.is in
      let serial = live.is in
      absurd (omega arith)

  -- no object has the next serial
  pub next_unused : object_in g.next_serial g ≡ None
  next_unused = by_place g.next_serial (place_of_serial g.next_serial (table_of types st) (places_of st)) (object_in g.next_serial g) refl (sym (object_in-place types st g g.next_serial is)) refl

-- ---- one change

-- A field gets another value.
pub reference_count-field : (q s f : ℕ) (x was : FieldValue) (o : Object) (g : Graph) → T (is_sorted nat_cmp g.objects) → object_in s g ≡ Some o → slice_get o.fields f ≡ Some was
    → reference_count q (with_field s f x g) + times_named_by q was ≡ reference_count q g + times_named_by q x
unfolding reference_count
reference_count-field q s f x was o g sorted there field =
    let after = object_with f x o in
    let named : with_field s f x g ≡ with_object s after g = ap (λ (d : Option Object). with_some_object s (option_map (object_with f x) d) g) there in
    let sums = sum-put_there (pointers_to q) s o g.objects sorted there after in
    let fields = fields_set o.fields f field in
    ap (λ (k : Graph). reference_count q k + times_named_by q was) named ∙ omega (arith, sums, fields)
  where
    fields_set : (vals : List FieldValue) (i : ℕ) → slice_get vals i ≡ Some was → count_by (names_serial q) (set vals i x) + times_named_by q was ≡ count_by (names_serial q) vals + times_named_by q x
    fields_set [] i none = absurd (none-some was none)
    fields_set (v ∷ vals) zero here =
        let is = same_Some v was here in
        ap (λ (n : ℕ). n + times_named_by q was) (sum_by-cons (times_named_by q) x vals) ∙ omega (arith, ap (times_named_by q) is) ∙ ap (λ (n : ℕ). n + times_named_by q x) (sym (sum_by-cons (times_named_by q) v vals))
    fields_set (v ∷ vals) (suc i) later =
        let rest = fields_set vals i later in
        ap (λ (n : ℕ). n + times_named_by q was) (sum_by-cons (times_named_by q) v (set vals i x)) ∙ omega (arith, rest) ∙ ap (λ (n : ℕ). n + times_named_by q x) (sym (sum_by-cons (times_named_by q) v vals))

-- The root changes.
pub reference_count-root : (q r : ℕ) (g : Graph) → reference_count q (with_root r g) + times_named_by q (Ref g.root) ≡ reference_count q g + times_named_by q (Ref r)
unfolding reference_count
reference_count-root q r g = omega arith

-- A blank object names no object.
blank_names : (q m f : ℕ) → (q ≡ 0 → ⊥) → times_named_by q (blank_value m f) ≡ 0
blank_names q m f some =
    elim (is_pointer m f) as (λ b. times_named_by q (cond b (Ref 0) (Num 0)) ≡ 0) [ true ↦ cond-false _ _ _ (ne_eqb 0 q (λ none. some (sym none))) | false ↦ refl ]

blanks_name : (q m : ℕ) (fs : List ℕ) → (q ≡ 0 → ⊥) → count_by (names_serial q) (map (blank_value m) fs) ≡ 0
blanks_name q m [] some = refl
blanks_name q m (f ∷ fs) some = sum_by-cons (times_named_by q) (blank_value m f) (map (blank_value m) fs) ∙ ap₂ (λ (a b : ℕ). a + b) (blank_names q m f some) (blanks_name q m fs some)

pub reference_count-new : (q class type_id m : ℕ) (g : Graph) → (q ≡ 0 → ⊥) → object_in g.next_serial g ≡ None → reference_count q (with_new (blank_object class type_id m) g) ≡ reference_count q g
unfolding reference_count
reference_count-new q class type_id m g some none =
    let sums = sum-put_new (pointers_to q) g.next_serial (blank_object class type_id m) g.objects none in
    let blank = blanks_name q m (range_with_len 0 (field_count m)) some in
    omega (arith, sums, blank)

-- An object is freed.
pub reference_count-freed : (q s : ℕ) (o : Object) (g : Graph) → T (is_sorted nat_cmp g.objects) → object_in s g ≡ Some o → reference_count q (without_object s g) + pointers_to q o ≡ reference_count q g
unfolding reference_count
reference_count-freed q s o g sorted there = omega (arith, sum-without (pointers_to q) s o g.objects sorted there)

-- ---- referenced or not

positive_sum : (a b : ℕ) → (ltb 0 a || ltb 0 b) ≡ ltb 0 (a + b)
positive_sum zero b = ap (ltb 0) (sym (zero-add b))
positive_sum (suc a) b = ap (λ t. t || ltb 0 b) (lt-ltb 0 (suc a) (omega arith)) ∙ sym (lt-ltb 0 (suc a + b) (omega arith))

any_counted : {X : Type 0} (test : X → Bool) (w : X → ℕ) → ((x : X) → test x ≡ ltb 0 (w x)) → (xs : List X) → list_any test xs ≡ ltb 0 (sum_by w xs)
any_counted test w each [] = refl
any_counted test w each (x ∷ xs) =
    ap₂ (λ a b. a || b) (each x) (any_counted test w each xs) ∙ positive_sum (w x) (sum_by w xs) ∙ ap (ltb 0) (sym (sum_by-cons w x xs))

once_positive : (b : Bool) → b ≡ ltb 0 (cond b 1 0)
once_positive true = refl
once_positive false = refl

-- An object is referenced exactly if its reference count is not 0.
pub held-reference_count : (s : ℕ) (g : Graph) → is_referenced s g ≡ ltb 0 (reference_count s g)
unfolding reference_count is_referenced
held-reference_count s g =
    ap₂ (λ a b. a || b) (once_positive (eqb g.root s))
    (any_counted (λ (e : ℕ × Object). list_any (names_serial s) e.1.fields) (λ (e : ℕ × Object). pointers_to s e.1) (λ e. any_counted (names_serial s) (times_named_by s) (λ v. once_positive (names_serial s v)) e.1.fields) g.objects)
    ∙ positive_sum (cond (eqb g.root s) 1 0) (sum_by (λ (e : ℕ × Object). pointers_to s e.1) g.objects)
