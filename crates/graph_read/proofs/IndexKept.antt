-- An index stays the index of its pool when the pool's graph changes.
use Rattle.std.proofs.Common.{◌≡◌, ℕ, ◌+◌, ◌-◌, ◌≤◌, ◌<◌, ◌^◌, ltb, List, [], ◌∷◌, Option, Some, None, option_map, refl, sym, ap, ap₂, subst, ◌∙◌, arith, eq-eqb, ne_eqb, inl, inr}
use Rattle.std.specs.Prelude.{slice_get}
use Rattle.std.proofs.lemmas.Bool.{cases_eq, cond-true, cond-false}
use Rattle.std.proofs.lemmas.List.Sums.{sum_by-cons}
use Rattle.std.proofs.lemmas.Option.{same_Some}
use Rattle.pud_defs.specs.declared.records.Puddle.{Puddle}
use Rattle.pud_defs.specs.declared.objects.FieldValue.{FieldValue}
use Rattle.pud_defs.specs.declared.objects.FieldValue.TheVariants.{Num, Ref}
use Rattle.pud_defs.specs.Formats.Image.{Image}
use Rattle.pud_defs.specs.PoolGraphs.Stored.{stored_in}
use Rattle.pud_defs.specs.PoolGraphs.Graph.{Object, Graph, object_in, is_referenced, graph_of}
use Rattle.pud_defs.specs.PoolGraphs.GraphChanges.{blank_object, with_field, with_new, without_object, with_root}
use Rattle.graph_laws.specs.ReferenceCounts.{times_named_by, reference_count}
use Rattle.graph_laws.proofs.ObjectChanges.ReferenceCounts.{objects_sorted, next_unused, reference_count-field, reference_count-root, reference_count-new, reference_count-freed, held-reference_count}
use Rattle.graph_read.specs.declared.index.Index.{Index}
use Rattle.graph_read.specs.Index.{kept_under, KeepsBut, unreferenced_at, place_kept, references_kept, HasReference, MayBeReferenced, names_one, after_retarget}
use Rattle.graph_read.specs.Indexed.{slot_at_place, kept_of, IsIndexBy, IsIndexOf, serial_named, references_left}
use Rattle.graph_read.specs.Reading.{place_in_pool}
use Rattle.graph_read.proofs.IndexBuilt.{named_once, placed_used}

-- ---- what an index answers

kept_place : (n : ℕ) (o : Option ℕ) → option_map place_kept (option_map (kept_of n) o) ≡ option_map slot_at_place o
kept_place n None = refl
kept_place n (Some p) = refl

module _ (place : ℕ → Option ℕ) (count : ℕ → ℕ) (x : Index) (is : IsIndexBy place count x) where
  -- The index answers where an object stands.
  pub found_by : (s : ℕ) → option_map place_kept (kept_under x s) ≡ option_map slot_at_place (place s)
  found_by s = ap (option_map place_kept) (is.each s) ∙ kept_place (count s) (place s)

  kept_by : (s p : ℕ) → place s ≡ Some p → kept_under x s ≡ Some (kept_of (count s) p)
  kept_by s p there = is.each s ∙ ap (option_map (kept_of (count s))) there

  -- The index answers how many references an object has.
  pub counted_by : (s p : ℕ) → place s ≡ Some p → references_kept (kept_under x s) ≡ count s
  counted_by s p there = ap references_kept (kept_by s p there)

  -- A pointer that names the object may be released, and one more pointer may name it.
  pub has_holder : (s p : ℕ) → place s ≡ Some p → 1 ≤ count s → HasReference (kept_under x s)
  has_holder s p there some = subst HasReference (sym (kept_by s p there)) some

  pub may_be_held : (s p : ℕ) → place s ≡ Some p → count s + 1 < 2 ^ 32 → MayBeReferenced (kept_under x s)
  may_be_held s p there room = subst MayBeReferenced (sym (kept_by s p there)) room

-- ---- places and counts

recounted : (n m : ℕ) (o : Option ℕ) → ((p : ℕ) → o ≡ Some p → m ≡ n) → option_map (kept_of n) o ≡ option_map (kept_of m) o
recounted n m None same = refl
recounted n m (Some p) same = ap (λ (j : ℕ). Some (kept_of j p)) (sym (same p refl))

-- If no place changes, and no count changes of a serial that has a place, the index stays.
pub IsIndexBy-same : (place later : ℕ → Option ℕ) (count after : ℕ → ℕ) (x : Index) → ((q : ℕ) → later q ≡ place q) → ((q p : ℕ) → place q ≡ Some p → after q ≡ count q) → IsIndexBy place count x → IsIndexBy later after x
IsIndexBy-same place later count after x stay counts is = record {
  each = λ q. is.each q ∙ recounted (count q) (after q) (place q) (counts q) ∙ ap (option_map (kept_of (after q))) (sym (stay q));
}

retargeted : (from to q n m : ℕ) (o : Option ℕ) → ((p : ℕ) → o ≡ Some p → names_one from q ≤ n) → ((p : ℕ) → o ≡ Some p → m + names_one from q ≡ n + names_one to q)
    → after_retarget from to q (option_map (kept_of n) o) ≡ option_map (kept_of m) o
retargeted from to q n m None had counts = refl
retargeted from to q n m (Some p) had counts =
    let low = had p refl in
    let sum = counts p refl in
    let same : n - names_one from q + names_one to q ≡ m = omega (arith, low, sum) in
    ap (λ (j : ℕ). Some (kept_of j p)) same

-- A pointer that named one serial names another one now.
pub IsIndexBy-moved : (place : ℕ → Option ℕ) (count after : ℕ → ℕ) (from to : ℕ) (x y : Index) → ((q : ℕ) → kept_under y q ≡ after_retarget from to q (kept_under x q))
    → ((q p : ℕ) → place q ≡ Some p → names_one from q ≤ count q) → ((q p : ℕ) → place q ≡ Some p → after q + names_one from q ≡ count q + names_one to q) → IsIndexBy place count x → IsIndexBy place after y
IsIndexBy-moved place count after from to x y moved had counts is = record {
  each = λ q. moved q ∙ ap (after_retarget from to q) (is.each q) ∙ retargeted from to q (count q) (after q) (place q) (had q) (counts q);
}

module _ (place later : ℕ → Option ℕ) (count after : ℕ → ℕ) (s : ℕ) (x y : Index) (others : (q : ℕ) → (q ≡ s → ⊥) → later q ≡ place q) (counts : (q p : ℕ) → (q ≡ s → ⊥) → place q ≡ Some p → after q ≡ count q) (is : IsIndexBy place count x) where
  other_kept : (q : ℕ) → (q ≡ s → ⊥) → kept_under x q ≡ option_map (kept_of (after q)) (later q)
  other_kept q other = is.each q ∙ recounted (count q) (after q) (place q) (λ p there. counts q p other there) ∙ ap (option_map (kept_of (after q))) (sym (others q other))

  -- One more object, which is not referenced.
  pub IsIndexBy-inserted : (p : ℕ) → KeepsBut x y s (Some (unreferenced_at (slot_at_place p))) → later s ≡ Some p → after s ≡ 0 → IsIndexBy later after y
  IsIndexBy-inserted p kept there none = record {
    each = λ q. kept q ∙ elim (cases_eq q s) [
      | inl here ↦ cond-true _ _ _ (eq-eqb s q (sym here)) ∙ sym (ap₂ (λ (n : ℕ) (o : Option ℕ). option_map (kept_of n) o) (ap after here ∙ none) (ap later here ∙ there))
      | inr other ↦ cond-false _ _ _ (ne_eqb s q (λ same. other (sym same))) ∙ other_kept q other
    ];
  }

  -- One object fewer.
  pub IsIndexBy-removed : KeepsBut x y s None → later s ≡ None → IsIndexBy later after y
  IsIndexBy-removed kept gone = record {
    each = λ q. kept q ∙ elim (cases_eq q s) [
      | inl here ↦ cond-true _ _ _ (eq-eqb s q (sym here)) ∙ sym (ap (option_map (kept_of (after q))) (ap later here ∙ gone))
      | inr other ↦ cond-false _ _ _ (ne_eqb s q (λ same. other (sym same))) ∙ other_kept q other
    ];
  }

-- ---- the index of a pool

module _ (F : ℕ) (at : List (ℕ × Puddle)) (types : List (ℕ × ℕ)) (image : Image) (g : Graph) (stored : graph_of types (stored_in F at image) ≡ Some g) (x : Index) (is : IsIndexOf F at types image x) where
  abbrev place : ℕ → Option ℕ
  place = place_in_pool F at image

  pub by_graph : IsIndexBy place (λ q. reference_count q g) x
  by_graph = subst (λ (k : Graph). IsIndexBy place (λ q. reference_count q k) x) (same_Some is.graph g (sym is.is ∙ stored)) is.index

  -- An object is referenced exactly if its count is not 0.
  pub held_by_index : (s p : ℕ) → place s ≡ Some p → is_referenced s g ≡ ltb 0 (references_kept (kept_under x s))
  held_by_index s p there = held-reference_count s g ∙ ap (ltb 0) (sym (counted_by place (λ q. reference_count q g) x by_graph s p there))

  module _ (later : Image) (h : Graph) (after : graph_of types (stored_in F at later) ≡ Some h) where
    -- If the graph and the places do not change, the index stays.
    pub index_same : h ≡ g → ((q : ℕ) → place_in_pool F at later q ≡ place q) → IsIndexOf F at types later x
    index_same same stay = record {
      graph = h;
      is = after;
      index = IsIndexBy-same place (place_in_pool F at later) (λ q. reference_count q g) (λ q. reference_count q h) x stay (λ q p there. ap (reference_count q) same) by_graph;
    }

    -- If a value names another serial and the places do not change, the retargeted index is that of the pool.
    moved_index : (was now : FieldValue) (y : Index) → ((q : ℕ) → place_in_pool F at later q ≡ place q) → ((q : ℕ) → kept_under y q ≡ after_retarget (serial_named was) (serial_named now) q (kept_under x q))
        → ((q : ℕ) → times_named_by q was ≤ reference_count q g) → ((q : ℕ) → reference_count q h + times_named_by q was ≡ reference_count q g + times_named_by q now) → IsIndexOf F at types later y
    moved_index was now y stay moved had counts = record {
      graph = h;
      is = after;
      index = IsIndexBy-same place (place_in_pool F at later) (λ q. reference_count q h) (λ q. reference_count q h) y stay (λ q p there. refl)
          (IsIndexBy-moved place (λ q. reference_count q g) (λ q. reference_count q h) (serial_named was) (serial_named now) x y moved
          (λ q p there. let low = had q in let once = named_once q was (placed_used F at image q p there) in omega (arith, low, once))
          (λ q p there.
          let sum = counts q in
          let used = placed_used F at image q p there in
          let out = named_once q was used in
          let in_ = named_once q now used in
          omega (arith, sum, out, in_))
          by_graph);
    }

  -- A field is set.
  pub index_set : (later : Image) (s f : ℕ) (now was : FieldValue) (o : Object) (y : Index) → object_in s g ≡ Some o → slice_get o.fields f ≡ Some was → graph_of types (stored_in F at later) ≡ Some (with_field s f now g)
      → ((q : ℕ) → place_in_pool F at later q ≡ place q) → ((q : ℕ) → kept_under y q ≡ after_retarget (serial_named was) (serial_named now) q (kept_under x q)) → IsIndexOf F at types later y
  index_set later s f now was o y there field after stay moved =
      let sorted = objects_sorted types (stored_in F at image) g stored in
      moved_index later (with_field s f now g) after was now y stay moved
      (λ q. let emptied = reference_count-field q s f (Num 0) was o g sorted there field in omega (arith, emptied))
      (λ q. reference_count-field q s f now was o g sorted there field)

  root_counted : (q : ℕ) → times_named_by q (Ref g.root) ≤ reference_count q g
  unfolding reference_count
  root_counted q = omega arith

  -- The root is set.
  pub index_rooted : (later : Image) (r : ℕ) (y : Index) → graph_of types (stored_in F at later) ≡ Some (with_root r g) → ((q : ℕ) → place_in_pool F at later q ≡ place q)
      → ((q : ℕ) → kept_under y q ≡ after_retarget g.root r q (kept_under x q)) → IsIndexOf F at types later y
  index_rooted later r y after stay moved = moved_index later (with_root r g) after (Ref g.root) (Ref r) y stay moved root_counted (λ q. reference_count-root q r g)

  -- An object is made, and nothing names it.
  pub index_made : (later : Image) (class type_id m p : ℕ) (y : Index) → graph_of types (stored_in F at later) ≡ Some (with_new (blank_object class type_id m) g) → reference_count g.next_serial g ≡ 0
      → place_in_pool F at later g.next_serial ≡ Some p → ((q : ℕ) → (q ≡ g.next_serial → ⊥) → place_in_pool F at later q ≡ place q) → KeepsBut x y g.next_serial (Some (unreferenced_at (slot_at_place p)))
      → IsIndexOf F at types later y
  index_made later class type_id m p y after unnamed there others kept =
      let unused = next_unused types (stored_in F at image) g stored in
      let blank = blank_object class type_id m in
      record {
        graph = with_new blank g;
        is = after;
        index = IsIndexBy-inserted place (place_in_pool F at later) (λ q. reference_count q g) (λ q. reference_count q (with_new blank g)) g.next_serial x y others
            (λ q k other before. reference_count-new q class type_id m g (placed_used F at image q k before) unused) by_graph p kept there
            (reference_count-new g.next_serial class type_id m g (placed_used F at later g.next_serial p there) unused ∙ unnamed);
      }

  -- ---- an object is freed: its fields are released one after the other, and then its serial is removed

  pub index_begins_to_free : (s : ℕ) (o : Object) → object_in s g ≡ Some o → IsIndexBy place (references_left g s o.fields) x
  index_begins_to_free s o there =
      IsIndexBy-same place place (λ q. reference_count q g) (references_left g s o.fields) x (λ q. refl) (λ q p known. reference_count-freed q s o g (objects_sorted types (stored_in F at image) g stored) there) by_graph

pub index_releases : (F : ℕ) (at : List (ℕ × Puddle)) (image : Image) (g : Graph) (s : ℕ) (v : FieldValue) (left : List FieldValue) (x y : Index) → ((q : ℕ) → kept_under y q ≡ after_retarget (serial_named v) 0 q (kept_under x q))
    → IsIndexBy (place_in_pool F at image) (references_left g s (v ∷ left)) x → IsIndexBy (place_in_pool F at image) (references_left g s left) y
index_releases F at image g s v left x y moved is =
    IsIndexBy-moved (place_in_pool F at image) (references_left g s (v ∷ left)) (references_left g s left) (serial_named v) 0 x y moved
    (λ q p there. let once = named_once q v (placed_used F at image q p there) in let sum = sum_by-cons (times_named_by q) v left in omega (arith, once, sum))
    (λ q p there.
    let used = placed_used F at image q p there in
    let once = named_once q v used in
    let null : names_one 0 q ≡ 0 = sym (named_once q (Num 0) used) in
    let sum = sum_by-cons (times_named_by q) v left in
    omega (arith, once, null, sum))
    is

pub index_freed : (F : ℕ) (at : List (ℕ × Puddle)) (types : List (ℕ × ℕ)) (image later : Image) (g : Graph) (s : ℕ) (x y : Index) → graph_of types (stored_in F at later) ≡ Some (without_object s g)
    → place_in_pool F at later s ≡ None → ((q : ℕ) → (q ≡ s → ⊥) → place_in_pool F at later q ≡ place_in_pool F at image q) → KeepsBut x y s None
    → IsIndexBy (place_in_pool F at image) (references_left g s []) x → IsIndexOf F at types later y
index_freed F at types image later g s x y after gone others kept is = record {
  graph = without_object s g;
  is = after;
  index = IsIndexBy-removed (place_in_pool F at image) (place_in_pool F at later) (references_left g s []) (λ q. reference_count q (without_object s g)) s x y others (λ q p other there. omega arith) is kept gone;
}
