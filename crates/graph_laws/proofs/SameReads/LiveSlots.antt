-- How many objects there are if each slot is live, and if one is free.
use Rattle.std.proofs.Common.{◌≡◌, ◌↔◌, ℕ, zero, suc, ◌+◌, ◌-◌, ◌*◌, ◌<◌, ◌≤◌, Bool, ◌&&◌, cond, eqb, ltb, List, [], ◌∷◌, map, length, Some, nat_cmp, refl, sym, ap, ap₂, ◌∙◌, ⊎_elim, arith, eq-eqb}
use Rattle.std.specs.Prelude.{slice_get, count_by}
use Rattle.std.proofs.lemmas.Bool.{cases_eq, cases_Bool, cond-true, cond-false, and_from, and_parts, and_left, and_right, lt-ltb, le-ltb, eqb-true}
use Rattle.std.proofs.lemmas.Cmp.{nat_cmp_total}
use Rattle.std.proofs.lemmas.List.Sums.{sum_by-cons}
use Rattle.pud_defs.specs.declared.records.Puddle.{Puddle}
use Rattle.pud_defs.specs.Formats.Geometry.{class_slots, ordinal_of, slot_of, places_among, slots_among}
use Rattle.pud_defs.specs.PoolGraphs.Stored.{Stored, places_of, class_of, class_at, is_slot, place_serial}
use Rattle.pud_defs.specs.PoolGraphs.Graph.{Object, Graph, Table, table_of, live, object_at, graph_of}
use Rattle.pud_defs.proofs.Formats.Geometry.{few_slots}
use Rattle.pud_defs.proofs.RegistryTables.PoolsCounted.{sum_places, sum_places-same, worth, sum-keyed}
use Rattle.pud_defs.proofs.PoolGraphs.Graphs.{under_serial-free, under_serial-used, distinct_live, graph_of-each}
use Rattle.graph_laws.specs.Slots.{AreAllLive}
use Rattle.graph_laws.proofs.SameReads.Words.{live_in_slot}

-- ---- sums over places

sum_split : (f : ℕ → ℕ) (from a b : ℕ) → sum_places f from (a + b) ≡ sum_places f from a + sum_places f (from + a) b
unfolding sum_places
sum_split f from zero b =
    let none : 0 + b ≡ b = omega arith in
    let here : from + 0 ≡ from = omega arith in
    let plain : sum_places f from b ≡ 0 + sum_places f from b = omega arith in
    ap (sum_places f from) none ∙ plain ∙ sym (ap (λ (n : ℕ). 0 + sum_places f n b) here)
sum_split f from (suc a) b =
    let size : suc a + b ≡ suc (a + b) = omega arith in
    let next : from + 1 + a ≡ from + suc a = omega arith in
    let rest : sum_places f (from + 1) (a + b) ≡ sum_places f (from + 1) a + sum_places f (from + suc a) b =
    sum_split f (from + 1) a b ∙ ap (λ (n : ℕ). sum_places f (from + 1) a + sum_places f n b) next in
    let whole : f from + sum_places f (from + 1) (a + b) ≡ f from + sum_places f (from + 1) a + sum_places f (from + suc a) b = omega (arith, rest) in
    ap (sum_places f from) size ∙ whole

sum_ones : (f : ℕ → ℕ) (from count : ℕ) → ((j : ℕ) → from ≤ j → j < from + count → f j ≡ 1) → sum_places f from count ≡ count
unfolding sum_places
sum_ones f from zero each = refl
sum_ones f from (suc count) each =
    let here = each from (omega arith) (omega arith) in
    let rest = sum_ones f (from + 1) count (λ j low high. each j (omega arith) (omega arith)) in
    omega (arith, here, rest)

sum_zeros : (f : ℕ → ℕ) (from count : ℕ) → ((j : ℕ) → from ≤ j → j < from + count → f j ≡ 0) → sum_places f from count ≡ 0
unfolding sum_places
sum_zeros f from zero each = refl
sum_zeros f from (suc count) each =
    let here = each from (omega arith) (omega arith) in
    let rest = sum_zeros f (from + 1) count (λ j low high. each j (omega arith) (omega arith)) in
    omega (arith, here, rest)

sum_most : (f g : ℕ → ℕ) (from count : ℕ) → ((j : ℕ) → from ≤ j → j < from + count → f j ≤ g j) → sum_places f from count ≤ sum_places g from count
unfolding sum_places
sum_most f g from zero each = omega arith
sum_most f g from (suc count) each =
    let here = each from (omega arith) (omega arith) in
    let rest = sum_most f g (from + 1) count (λ j low high. each j (omega arith) (omega arith)) in
    omega (arith, here, rest)

-- If no place has more and the sums are equal, each place has the same.
sum_tight : (f g : ℕ → ℕ) (from count : ℕ) → ((j : ℕ) → from ≤ j → j < from + count → f j ≤ g j) → sum_places f from count ≡ sum_places g from count
    → (j : ℕ) → from ≤ j → j < from + count → f j ≡ g j
unfolding sum_places
sum_tight f g from zero each same j low high = absurd (omega arith)
sum_tight f g from (suc count) each same j low high =
    let here = each from (omega arith) (omega arith) in
    let rest = sum_most f g (from + 1) count (λ k l h. each k (omega arith) (omega arith)) in
    let later : sum_places f (from + 1) count ≡ sum_places g (from + 1) count = omega arith in
    ⊎_elim
    (λ first. let now : f from ≡ g from = omega arith in ap f first ∙ now ∙ sym (ap g first))
    (λ other. sum_tight f g (from + 1) count (λ k l h. each k (omega arith) (omega arith)) later j (omega arith) (omega arith))
    (cases_eq j from)

-- ---- the slots of a class

module _ (class : ℕ) where
  -- 1 if the place is a slot of a puddle of the class, and else 0
  one_slot : (of p : ℕ) → ℕ
  one_slot of p = cond (ltb (slot_of p) (class_slots of) && eqb of class) 1 0

  -- the sum over the places of one puddle
  slots_of_one : (o of : ℕ) → sum_places (one_slot of) (places_among o) (places_among 1) ≡ cond (eqb of class) (class_slots of) 0
  unfolding one_slot
  slots_of_one o of =
      let few = few_slots of in
      let from = places_among o in
      let n = class_slots of in
      let rest = places_among 1 - n in
      let whole : places_among 1 ≡ n + rest = omega arith in
      let behind : sum_places (one_slot of) (from + n) rest ≡ 0 =
      sum_zeros (one_slot of) (from + n) rest (λ j low high. cond-false _ _ _ (and_left _ _ (le-ltb (slot_of j) n (let here : ordinal_of j ≡ o = omega arith in omega arith)))) in
      ap (sum_places (one_slot of) from) whole ∙ sum_split (one_slot of) from n rest ∙ ⊎_elim
      (λ is.
      let ones = sum_ones (one_slot of) from n (λ j low high. cond-true _ _ _ (and_from _ _ (lt-ltb (slot_of j) n (let here : ordinal_of j ≡ o = omega arith in omega arith)) is)) in
      omega (arith, ones, behind) ∙ sym (cond-true _ _ _ is))
      (λ other.
      let none = sum_zeros (one_slot of) from n (λ j low high. cond-false _ _ _ (and_right _ _ other)) in
      omega (arith, none, behind) ∙ sym (cond-false _ _ _ other))
      (cases_Bool (eqb of class))

  class_in : List Puddle → (o p : ℕ) → ℕ
  class_in puddles o p = class_of (slice_get puddles (ordinal_of p - o))

  times_more : (a b : ℕ) → a + a * b ≡ a * (1 + b)
  times_more a b = grind arith

  times_none : (a b : ℕ) → 0 + a * b ≡ a * (0 + b)
  times_none a b = grind arith

  more_slots : (of : ℕ) (classes : List ℕ) → cond (eqb of class) (class_slots of) 0 + slots_among class classes ≡ slots_among class (of ∷ classes)
  more_slots of classes =
      let rest = count_by (λ c. eqb c class) classes in
      let many : count_by (λ c. eqb c class) (of ∷ classes) ≡ cond (eqb of class) 1 0 + rest = sum_by-cons (λ (c : ℕ). cond (eqb c class) 1 0) of classes in
      ⊎_elim
      (λ is.
      let own : cond (eqb of class) (class_slots of) 0 ≡ class_slots class = cond-true _ _ _ is ∙ ap class_slots (eqb-true of class is) in
      let one : count_by (λ c. eqb c class) (of ∷ classes) ≡ 1 + rest = many ∙ ap (λ (n : ℕ). n + rest) (cond-true (eqb of class) 1 0 is) in
      ap (λ (n : ℕ). n + slots_among class classes) own ∙ times_more (class_slots class) rest ∙ sym (ap (λ (n : ℕ). class_slots class * n) one))
      (λ other.
      let own : cond (eqb of class) (class_slots of) 0 ≡ 0 = cond-false _ _ _ other in
      let none : count_by (λ c. eqb c class) (of ∷ classes) ≡ 0 + rest = many ∙ ap (λ (n : ℕ). n + rest) (cond-false (eqb of class) 1 0 other) in
      ap (λ (n : ℕ). n + slots_among class classes) own ∙ times_none (class_slots class) rest ∙ sym (ap (λ (n : ℕ). class_slots class * n) none))
      (cases_Bool (eqb of class))

  slots_of_none : (o from : ℕ) → sum_places (λ p. one_slot (class_in [] o p) p) from 0 ≡ slots_among class []
  unfolding sum_places
  slots_of_none o from = omega arith

  -- the sum over the places of all puddles from an ordinal on
  slots_from : (puddles : List Puddle) (o : ℕ) → sum_places (λ p. one_slot (class_in puddles o p) p) (places_among o) (places_among (length puddles)) ≡ slots_among class (map (λ d. d.class) puddles)
  unfolding class_in
  slots_from [] o = slots_of_none o (places_among o)
  slots_from (d ∷ puddles) o =
      let f = λ (p : ℕ). one_slot (class_in (d ∷ puddles) o p) p in
      let size : places_among (length (d ∷ puddles)) ≡ places_among 1 + places_among (length puddles) = omega arith in
      let next : places_among o + places_among 1 ≡ places_among (o + 1) = omega arith in
      let first : sum_places f (places_among o) (places_among 1) ≡ cond (eqb d.class class) (class_slots d.class) 0 =
      sum_places-same f (one_slot d.class) (places_among o) (places_among 1)
      (λ p low high. let here : ordinal_of p - o ≡ 0 = omega arith in ap (λ (i : ℕ). one_slot (class_of (slice_get (d ∷ puddles) i)) p) here)
      ∙ slots_of_one o d.class in
      let rest : sum_places f (places_among (o + 1)) (places_among (length puddles)) ≡ slots_among class (map (λ d. d.class) puddles) =
      sum_places-same f (λ p. one_slot (class_in puddles (o + 1) p) p) (places_among (o + 1)) (places_among (length puddles))
      (λ p low high. let behind : ordinal_of p - o ≡ suc (ordinal_of p - (o + 1)) = omega arith in ap (λ (i : ℕ). one_slot (class_of (slice_get (d ∷ puddles) i)) p) behind)
      ∙ slots_from puddles (o + 1) in
      ap (sum_places f (places_among o)) size
      ∙ sum_split f (places_among o) (places_among 1) (places_among (length puddles))
      ∙ ap (λ (n : ℕ). sum_places f (places_among o) (places_among 1) + sum_places f n (places_among (length puddles))) next
      ∙ ap₂ (λ (a b : ℕ). a + b) first rest
      ∙ more_slots d.class (map (λ d. d.class) puddles)

-- ---- the objects of a class

module _ (class : ℕ) (types : List (ℕ × ℕ)) (st : Stored) (g : Graph) (is : graph_of types st ≡ Some g) where
  abbrev t : Table
  t = table_of types st

  abbrev n : ℕ
  n = places_of st

  abbrev weight : ℕ × Object → ℕ
  weight e = cond (eqb e.1.class class) 1 0

  -- what a place counts as an object of the class, and what as a slot of the class
  abbrev object_there : ℕ → ℕ
  object_there p = worth nat_cmp weight (live t p)

  abbrev slot_there : ℕ → ℕ
  slot_there p = cond (is_slot st p && eqb (class_at st p) class) 1 0

  objects-counted : count_by (λ e. eqb e.1.class class) g.objects ≡ sum_places object_there 0 n
  objects-counted =
      let h = graph_of-each types st g is in
      ap (λ (k : Graph). count_by (λ e. eqb e.1.class class) k.objects) (sym h.is) ∙ sum-keyed nat_cmp weight nat_cmp_total (live t) 0 n (distinct_live t n h.graph.distinct)

  slots-counted : sum_places slot_there 0 n ≡ slots_among class (map (λ d. d.class) st.puddles)
  unfolding class_in one_slot
  slots-counted =
      sum_places-same slot_there (λ p. one_slot class (class_in class st.puddles 0 p) p) 0 n
      (λ p low high. let same : ordinal_of p ≡ ordinal_of p - 0 = omega arith in ap (λ (i : ℕ). one_slot class (class_of (slice_get st.puddles i)) p) same)
      ∙ ap (λ (from : ℕ). sum_places (λ p. one_slot class (class_in class st.puddles 0 p) p) from n) (let start : 0 ≡ places_among 0 = omega arith in start)
      ∙ slots_from class st.puddles 0

  live_there : (p : ℕ) → (place_serial st p ≡ 0 → ⊥) → object_there p ≡ slot_there p
  live_there p used =
      ap (worth nat_cmp weight) (under_serial-used t.serial (object_at t) p used)
      ∙ sym (ap (λ (b : Bool). cond (b && eqb (class_at st p) class) 1 0) (live_in_slot st p used))

  free_there : (p : ℕ) → place_serial st p ≡ 0 → object_there p ≡ 0
  free_there p free = ap (worth nat_cmp weight) (under_serial-free t.serial (object_at t) p free)

  object_most : (p : ℕ) → object_there p ≤ slot_there p
  object_most p = ⊎_elim
      (λ free. let none = free_there p free in omega arith)
      (λ used. let same = live_there p used in omega arith)
      (cases_eq (place_serial st p) 0)

  pub objects-most : count_by (λ e. eqb e.1.class class) g.objects ≤ slots_among class (map (λ d. d.class) st.puddles)
  objects-most = omega (arith, objects-counted, slots-counted, sum_most object_there slot_there 0 n (λ j low high. object_most j))

  all_there : AreAllLive class st → (p : ℕ) → p < n → object_there p ≡ slot_there p
  all_there all p below = ⊎_elim
      (λ free. free_there p free ∙ sym (cond-false _ _ _ (⊎_elim
      (λ yes. let parts = and_parts (is_slot st p) (eqb (class_at st p) class) yes in absurd (all.each p below (record { slot = parts.0; of_class = eqb-true (class_at st p) class parts.1 }) free))
      (λ no. no)
      (cases_Bool (is_slot st p && eqb (class_at st p) class)))))
      (λ used. live_there p used)
      (cases_eq (place_serial st p) 0)

  pub objects-live : AreAllLive class st ↔ (count_by (λ e. eqb e.1.class class) g.objects ≡ slots_among class (map (λ d. d.class) st.puddles))
  objects-live = (
    λ all. objects-counted ∙ sum_places-same object_there slot_there 0 n (λ p low high. all_there all p (omega arith)) ∙ slots-counted,
    λ many. record {
      each = λ p below slot free.
          let same = sum_tight object_there slot_there 0 n (λ j low high. object_most j) (sym objects-counted ∙ many ∙ sym slots-counted) p (omega arith) (omega arith) in
          let none = free_there p free in
          let one : slot_there p ≡ 1 = cond-true _ _ _ (and_from _ _ slot.slot (eq-eqb (class_at st p) class slot.of_class)) in
          absurd (omega arith);
    },
  )
