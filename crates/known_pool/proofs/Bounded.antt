-- The reference count of a pool's object: it is small enough to be kept, and it is 0 if the serial was not given yet.
use Rattle.std.proofs.Common.{◌≡◌, ℕ, ◌+◌, ◌*◌, ◌<◌, ◌≤◌, Bool, true, false, true≢false, not, cond, eqb, ltb, leb-true, List, [], ◌∷◌, length, map, count_by, sum_by, Option, Some, None, nat_cmp, refl, sym, ap, ap₂, subst, ◌∙◌, arith, ne_eqb}
use Rattle.std.specs.List.{AllByRecursion, list_all}
use Rattle.std.proofs.lemmas.Bool.{and_parts, cond-false, cond_both, ltb-true}
use Rattle.std.proofs.lemmas.List.{length-map}
use Rattle.std.proofs.lemmas.List.FromFn.{length-map-range_with_len}
use Rattle.std.proofs.lemmas.List.Sums.{sum_by-cons, count_by-le-length}
use Rattle.std.proofs.lemmas.Option.{none-some, same_Some}
use Rattle.pud_defs.specs.declared.records.Slot.{Slot}
use Rattle.pud_defs.specs.declared.layout.TheConstants.{MAX_FIELDS}
use Rattle.pud_defs.specs.declared.space.TheConstants.{SLOT_FIELDS_WORD, ROOT_WORD}
use Rattle.pud_defs.specs.Formats.Geometry.{class_slots, ordinal_of, slot_of}
use Rattle.pud_defs.proofs.Formats.Geometry.{few_slots}
use Rattle.pud_defs.specs.RegistryTables.Keyed.{keyed}
use Rattle.pud_defs.specs.PoolGraphs.Stored.{Stored, places_of, place_word, slot_state}
use Rattle.pud_defs.specs.PoolGraphs.Graph.{Content, content, Number, Null, At, Nowhere, place_map, table_of, slot_contents, contents_or_none, Object, object_at, live, serial_and_place, stands, all_stand, value_of, named_by, names_serial, Graph, graph_of, next_serial_of, root_of, field_count}
use Rattle.pud_defs.proofs.PoolGraphs.Contents.{names_only, name_only, contents_by_within, pointee_at_within}
use Rattle.pud_defs.proofs.PoolGraphs.Graphs.{graph_of-each, length-live}
use Rattle.pud_defs.proofs.KeyedTables.Keyed.{count_used_most}
use Rattle.pud_defs.proofs.KeyedTables.KeyedEach.{each-keyed}
use Rattle.pud_defs.proofs.RegistryTables.TypeLists.{same_number}
use Rattle.graph_laws.specs.ReferenceCounts.{times_named_by, pointers_to, reference_count}
use Rattle.graph_laws.proofs.SameReads.Words.{few_fields}
use Rattle.puddle_header.specs.Places.{place_of_slot}
use Rattle.graph_read.specs.declared.index.Index.{Index}
use Rattle.graph_read.specs.Index.{kept_under, KeepsBut, unreferenced_at}
use Rattle.graph_read.specs.Indexed.{slot_at_place}
use Rattle.known_pool.specs.Indexes.{after_made}

-- The bound of a sum in which no part is more than `most`.
sum_by-most : {X : Type 0} (w : X → ℕ) (most : ℕ) (xs : List X) → AllByRecursion (λ x. w x ≤ most) xs → sum_by w xs ≤ most * length xs
sum_by-most w most [] each = omega arith
sum_by-most w most (x ∷ xs) each =
    let first = each.0 in
    let rest = sum_by-most w most xs each.1 in
    omega (arith, sum_by-cons w x xs, first, rest)

live_at : {A : Type 0} (P : ℕ × A → Type 0) (serial : ℕ) (value : A) → (e : ℕ × A) → (b : Bool) → cond b (Some (serial, value)) None ≡ Some e → (b ≡ true → P (serial, value)) → P e
live_at P serial value e true is there = subst P (same_Some (serial, value) e is) (there refl)
live_at P serial value e false is there = absurd (none-some e is)

-- ---- at most one for the root, and one for each field

module _ (types : List (ℕ × ℕ)) (st : Stored) (q : ℕ) where
  few_contents : (p : ℕ) (type : Option ℕ) → length (contents_or_none (slot_contents st p type)) ≤ MAX_FIELDS
  few_contents p None = omega arith
  few_contents p (Some m) =
      let few = few_fields m in
      omega (arith, length-map-range_with_len (λ f. content st.puddles m p f (place_word st p (SLOT_FIELDS_WORD + f))) 0 (field_count m), few)

  few_pointers : (p : ℕ) → pointers_to q (object_at (table_of types st) p) ≤ MAX_FIELDS
  few_pointers p =
      let t = table_of types st in
      let most = count_by-le-length (names_serial q) (object_at t p).fields in
      let few = few_contents p (place_map types st p) in
      omega (arith, most, length-map (contents_or_none (t.contents p)) (value_of t.serial), few)

pub reference_count-most : (types : List (ℕ × ℕ)) (st : Stored) (g : Graph) (q : ℕ) → graph_of types st ≡ Some g → reference_count q g ≤ 1 + MAX_FIELDS * places_of st
unfolding reference_count
reference_count-most types st g q is =
    let h = graph_of-each types st g is in
    let t = table_of types st in
    let n = places_of st in
    let objects = keyed nat_cmp (live t) 0 n in
    let each = each-keyed nat_cmp same_number (λ (e : ℕ × Object). pointers_to q e.1 ≤ MAX_FIELDS) (live t) 0 n
    (λ j low high e here. live_at (λ (e : ℕ × Object). pointers_to q e.1 ≤ MAX_FIELDS) (t.serial j) (object_at t j) e (slot_state (t.serial j)).is_live here (λ used. few_pointers types st q j)) in
    let sum = sum_by-most (λ (e : ℕ × Object). pointers_to q e.1) MAX_FIELDS objects each in
    let used = count_used_most (serial_and_place t) 0 n in
    let root = cond_both (eqb g.root q) 1 0 (λ (k : ℕ). k ≤ 1) (λ yes. omega arith) (λ no. omega arith) in
    let same = ap (λ (k : Graph). sum_by (λ (e : ℕ × Object). pointers_to q e.1) k.objects) h.is in
    omega (arith, sum, used, length-live t n h.graph.distinct, root, same)

-- ---- no reference to a serial that was not given yet

module _ (types : List (ℕ × ℕ)) (st : Stored) (g : Graph) (is : graph_of types st ≡ Some g) where
  abbrev serial : ℕ → ℕ
  serial = (table_of types st).serial

  abbrev n : ℕ
  n = places_of st

  abbrev next : ℕ
  next = next_serial_of st

  next_positive : 1 ≤ next
  next_positive = leb-true 1 next (and_parts _ _ (graph_of-each types st g is).graph.legal).0

  -- What stands for something names a serial below the next one, or none.
  named_below : (c : Content) → stands serial c ≡ true → names_only (λ p. ltb p n) c ≡ true → named_by serial c < next
  named_below (Number v) stand within = next_positive
  named_below Null stand within = next_positive
  named_below (At p) stand within = ((graph_of-each types st g is).graph.sound p (ltb-true p n within) (λ free. absurd (true≢false (sym stand ∙ ap (λ (k : ℕ). not (eqb k 0)) free)))).below
  named_below Nowhere stand within = absurd (true≢false (sym stand))

  value_unnamed : (c : Content) → stands serial c ≡ true → names_only (λ p. ltb p n) c ≡ true → times_named_by next (value_of serial c) ≡ 0
  value_unnamed (Number v) stand within = refl
  value_unnamed Null stand within = let some = next_positive in cond-false _ _ _ (ne_eqb 0 next (λ e. absurd (omega (arith, some, e))))
  value_unnamed (At p) stand within = let below = named_below (At p) stand within in cond-false _ _ _ (ne_eqb (serial p) next (λ e. absurd (omega (arith, below, e))))
  value_unnamed Nowhere stand within = absurd (true≢false (sym stand))

  values_unnamed : (cs : List Content) → list_all (stands serial) cs ≡ true → list_all (names_only (λ p. ltb p n)) cs ≡ true → count_by (names_serial next) (map (value_of serial) cs) ≤ 0
  values_unnamed [] stand within = omega arith
  values_unnamed (c ∷ cs) stand within =
      let a = and_parts _ _ stand in
      let b = and_parts _ _ within in
      let one = value_unnamed c a.0 b.0 in
      let rest = values_unnamed cs a.1 b.1 in
      omega (arith, sum_by-cons (times_named_by next) (value_of serial c) (map (value_of serial) cs), one, rest)

  contents_unnamed : (contents : Option (List Content)) → all_stand serial contents ≡ true → name_only (λ p. ltb p n) contents ≡ true → count_by (names_serial next) (map (value_of serial) (contents_or_none contents)) ≤ 0
  contents_unnamed None stand within = omega arith
  contents_unnamed (Some cs) stand within = values_unnamed cs stand within

  object_unnamed : (p : ℕ) → p < n → (slot_state (serial p)).is_live ≡ true → pointers_to next (object_at (table_of types st) p) ≤ 0
  object_unnamed p below used =
      contents_unnamed ((table_of types st).contents p)
      ((graph_of-each types st g is).graph.sound p below (λ free. absurd (true≢false (sym used ∙ ap (λ (k : ℕ). not (eqb k 0)) free)))).stand
      (contents_by_within st p (place_map types st p))

  pub next_unnamed : reference_count g.next_serial g ≡ 0
  unfolding reference_count
  next_unnamed =
      let h = graph_of-each types st g is in
      let t = table_of types st in
      let objects = keyed nat_cmp (live t) 0 n in
      let each = each-keyed nat_cmp same_number (λ (e : ℕ × Object). pointers_to next e.1 ≤ 0) (live t) 0 n
      (λ j low high e here. live_at (λ (e : ℕ × Object). pointers_to next e.1 ≤ 0) (t.serial j) (object_at t j) e (slot_state (t.serial j)).is_live here (object_unnamed j (omega (arith, high)))) in
      let sum = sum_by-most (λ (e : ℕ × Object). pointers_to next e.1) 0 objects each in
      let below = named_below (root_of st) h.graph.top_stands (pointee_at_within st.puddles 0 0 (st.word 0 ROOT_WORD)) in
      let one : ℕ = 1 in
      let zero_ : ℕ = 0 in
      let root : cond (eqb (named_by serial (root_of st)) next) one zero_ ≡ zero_ = cond-false _ _ _ (ne_eqb (named_by serial (root_of st)) next (λ e. absurd (omega (arith, below, e)))) in
      let none : sum_by (λ (e : ℕ × Object). pointers_to next e.1) objects ≡ 0 = omega (arith, sum) in
      ap (λ (k : Graph). reference_count k.next_serial k) (sym h.is) ∙ omega (arith, root, none)

-- ---- slots

-- The place of a slot is that of its ordinal and number.
pub slot_of_place : (slot : Slot) → slot.slot < class_slots slot.class → slot_at_place (place_of_slot slot) ≡ (slot.ordinal, slot.slot)
slot_of_place slot below =
    let few = few_slots slot.class in
    let ordinal : ordinal_of (place_of_slot slot) ≡ slot.ordinal = omega (arith, few, below) in
    let number : slot_of (place_of_slot slot) ≡ slot.slot = omega (arith, few, below) in
    ap₂ (λ (o n : ℕ). (o, n)) ordinal number

-- What is kept about an object in a slot is what is kept about one at the slot's place.
pub slot_at_slot : (x y : Index) (s : ℕ) (slot : Slot) → slot.slot < class_slots slot.class → ((q : ℕ) → kept_under y q ≡ after_made s slot q (kept_under x q)) → KeepsBut x y s (Some (unreferenced_at (slot_at_place (place_of_slot slot))))
slot_at_slot x y s slot below each =
    subst (λ (place : ℕ × ℕ). KeepsBut x y s (Some (unreferenced_at place))) (sym (slot_of_place slot below)) each
