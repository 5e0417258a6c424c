-- Steps of rewriting keep the graph: what was read over the old bases reads the same over the pool's bases.
use Rattle.std.proofs.Common.{◌≡◌, ℕ, zero, suc, ◌+◌, ◌<◌, ◌≤◌, true, false, ◌&&◌, cond, eqb, ltb, leb, eq-eqb, List, [], ◌∷◌, map, set, length, Option, Some, None, option_map, refl, sym, ap, ap₂, ◌∙◌, ⊎_elim, arith}
use Rattle.std.specs.Prelude.{slice_get}
use Rattle.std.proofs.lemmas.Bool.{cases_eq, cases_lt, cases_Bool, cond-true, cond-false, lt-ltb, le-ltb, le-leb, leb-true, ltb-true, eqb-true, and_parts, and_from, both_ways}
use Rattle.std.proofs.lemmas.List.{length-set}
use Rattle.std.specs.Option.{option_or}
use Rattle.std.proofs.lemmas.Option.{none-some, same_Some, slice_get-map, slice_get_within}
use Rattle.pud_defs.specs.declared.space.TheConstants.{SLOT_FIELDS_WORD, NEXT_SERIAL_WORD, ROOT_WORD}
use Rattle.pud_defs.specs.declared.records.Puddle.{Puddle}
use Rattle.pud_defs.specs.Formats.TypeMap.{is_pointer}
use Rattle.pud_defs.specs.Formats.Geometry.{class_slots, class_slot_at, ordinal_of, slot_of, places_among}
use Rattle.pud_defs.specs.RegistryTables.Types.{map_of}
use Rattle.pud_defs.specs.PoolGraphs.Stored.{Stored, places_of, class_of, class_at, place_word, place_serial}
use Rattle.pud_defs.specs.PoolGraphs.Graph.{Content, Number, Null, At, Nowhere, fitting, place_map, table_of, slot_contents, slot_in, place_in, at_place, target, over_old, puddles_by, pointee_at, content, field_count, stands, all_stand, has_header, headers_fit, Graph, root_of, graph_of}
use Rattle.pud_defs.specs.RegistryTables.Spaces.{all_below}
use Rattle.pud_defs.proofs.RegistryTables.Spaces.{all_below-same}
use Rattle.pud_defs.proofs.PoolGraphs.Graphs.{graph_of-each}
use Rattle.graph_laws.specs.Changes.{AreBases, with_words}
use Rattle.pud_defs.specs.RegistryTables.Puddles.{moved_to}
use Rattle.graph_laws.specs.Rewriting.{rewritten, rewritten_field, with_some_puddle, with_frontier, advanced, passes_slot, is_passed, passes_root, RewritesSteps, anywhere, LeadSomewhere}
use Rattle.graph_laws.proofs.SameReads.Words.{slot_contents-each, has_header-same}
use Rattle.graph_laws.proofs.SameReads.Pointers.{target-address}
use Rattle.graph_laws.proofs.SameReads.Same.{StandsSame, graph_of-same, list_all-range_each}

-- ---- a list in which one entry is set

pub slice_get-set_there : {A : Type 0} (xs : List A) (i : ℕ) (x : A) → i < length xs → slice_get (set xs i x) i ≡ Some x
slice_get-set_there [] i x below = absurd (omega arith)
slice_get-set_there (y ∷ xs) zero x below = refl
slice_get-set_there (y ∷ xs) (suc i) x below = slice_get-set_there xs i x (omega arith)

pub slice_get-set_other : {A : Type 0} (xs : List A) (i j : ℕ) (x : A) → (j ≡ i → ⊥) → slice_get (set xs i x) j ≡ slice_get xs j
slice_get-set_other [] i j x other = refl
slice_get-set_other (y ∷ xs) zero zero x other = absurd (other refl)
slice_get-set_other (y ∷ xs) zero (suc j) x other = refl
slice_get-set_other (y ∷ xs) (suc i) zero x other = refl
slice_get-set_other (y ∷ xs) (suc i) (suc j) x other = slice_get-set_other xs i j x (λ e. other (ap (λ k. suc k) e))

pub map-set : {A B : Type 0} (f : A → B) (xs : List A) (i : ℕ) (x : A) → map f (set xs i x) ≡ set (map f xs) i (f x)
map-set f [] i x = refl
map-set f (y ∷ xs) zero x = refl
map-set f (y ∷ xs) (suc i) x = ap (λ ys. f y ∷ ys) (map-set f xs i x)

-- The place to which a pointer leads does not depend on frontiers.
place_in-moved : (first : ℕ) (puddles : List Puddle) (o n : ℕ) (home : Puddle) (v : ℕ) → slice_get puddles o ≡ Some home → place_in first (set puddles o (moved_to n home)) v ≡ place_in first puddles v
unfolding place_in
place_in-moved first [] o n home v here = absurd (none-some home here)
place_in-moved first (d ∷ puddles) zero n home v here =
    ap (λ (e : Puddle). option_or (option_map (λ k. first + k) (slot_in e v)) (place_in (first + places_among 1) puddles v)) (sym (same_Some d home here))
place_in-moved first (d ∷ puddles) (suc o) n home v here =
    ap (λ (later : Option ℕ). option_or (option_map (λ k. first + k) (slot_in d v)) later) (place_in-moved (first + places_among 1) puddles o n home v here)

-- An old base does not change it either.
classes-old : (puddles : List Puddle) → map (λ d. d.class) (map over_old puddles) ≡ map (λ d. d.class) puddles
classes-old [] = refl
classes-old (d ∷ puddles) = ap (λ (cs : List ℕ). d.class ∷ cs) (classes-old puddles)

-- ---- a puddle with another frontier

module _ (puddles : List Puddle) (o n : ℕ) (home : Puddle) (here : slice_get puddles o ≡ Some home) where
  abbrev moved : List Puddle
  moved = with_frontier o n puddles

  moved_is : moved ≡ set puddles o (moved_to n home)
  moved_is = ap (λ d. with_some_puddle o (option_map (moved_to n) d) puddles) here

  length-moved : length moved ≡ length puddles
  length-moved = ap length moved_is ∙ length-set puddles o (moved_to n home)

  moved_there : slice_get moved o ≡ Some (moved_to n home)
  moved_there = ap (λ ds. slice_get ds o) moved_is ∙ slice_get-set_there puddles o (moved_to n home) (slice_get_within puddles o home here)

  moved_other : (i : ℕ) → (i ≡ o → ⊥) → slice_get moved i ≡ slice_get puddles i
  moved_other i other = ap (λ ds. slice_get ds i) moved_is ∙ slice_get-set_other puddles o i (moved_to n home) other

  target-moved : (v : ℕ) → target moved v ≡ target puddles v
  unfolding target
  target-moved v = ap (λ (place : Option ℕ). cond (eqb v 0) Null (at_place place)) (ap (λ (ds : List Puddle). place_in 0 ds v) moved_is ∙ place_in-moved 0 puddles o n home v here)

  target-old_moved : (v : ℕ) → target (map over_old moved) v ≡ target (map over_old puddles) v
  unfolding target
  target-old_moved v =
      ap (λ (place : Option ℕ). cond (eqb v 0) Null (at_place place))
      (ap (λ (ds : List Puddle). place_in 0 ds v) (ap (map over_old) moved_is ∙ map-set over_old puddles o (moved_to n home))
      ∙ place_in-moved 0 (map over_old puddles) o n (over_old home) v (slice_get-map over_old puddles o ∙ ap (option_map over_old) here))

  target-by_moved : (p : Option Puddle) (step v : ℕ) → target (puddles_by moved p step) v ≡ target (puddles_by puddles p step) v
  target-by_moved None step v = refl
  target-by_moved (Some p) step v =
      ⊎_elim
      (λ now. ap (λ (ds : List Puddle). target ds v) (cond-true _ _ _ now) ∙ target-moved v ∙ sym (ap (λ (ds : List Puddle). target ds v) (cond-true _ _ _ now)))
      (λ old. ap (λ (ds : List Puddle). target ds v) (cond-false _ _ _ old) ∙ target-old_moved v ∙ sym (ap (λ (ds : List Puddle). target ds v) (cond-false _ _ _ old)))
      (cases_Bool (ltb step p.frontier))

  -- A pointer of another puddle, or of a step on the same side of the frontier, stands for the same.
  pointee_at-kept : (i step v : ℕ) → (i ≡ o → ltb step n ≡ ltb step home.frontier) → pointee_at moved i step v ≡ pointee_at puddles i step v
  pointee_at-kept i step v side =
      ⊎_elim
      (λ e.
      ap (λ p. target (puddles_by moved p step) v) (ap (slice_get moved) e ∙ moved_there)
      ∙ target-by_moved (Some (moved_to n home)) step v
      ∙ ap (λ b. target (cond b puddles (map over_old puddles)) v) (side e)
      ∙ sym (ap (λ p. target (puddles_by puddles p step) v) (ap (slice_get puddles) e ∙ here)))
      (λ other. ap (λ p. target (puddles_by moved p step) v) (moved_other i other) ∙ target-by_moved (slice_get puddles i) step v)
      (cases_eq i o)

  -- The header still is that of the puddle.
  has_header-moved : (k : ℕ) (word : ℕ → ℕ) → has_header k word (slice_get moved k) ≡ has_header k word (slice_get puddles k)
  has_header-moved k word =
      ⊎_elim
      (λ e. ap (has_header k word) (ap (slice_get moved) e ∙ moved_there) ∙ sym (ap (has_header k word) (ap (slice_get puddles) e ∙ here)))
      (λ other. ap (has_header k word) (moved_other k other))
      (cases_eq k o)

  -- Its class does not change.
  class-moved : (i : ℕ) → class_of (slice_get moved i) ≡ class_of (slice_get puddles i)
  class-moved i =
      ⊎_elim
      (λ e. ap class_of (ap (slice_get moved) e ∙ moved_there) ∙ sym (ap class_of (ap (slice_get puddles) e ∙ here)))
      (λ other. ap class_of (moved_other i other))
      (cases_eq i o)

  -- ---- a pointer that is rewritten

  module _ (serial : ℕ → ℕ) (bases : AreBases (map (λ d. d.base) puddles)) where
    target-rewritten : (v : ℕ) → stands serial (target (map over_old puddles) v) ≡ true → target puddles (rewritten puddles v) ≡ target (map over_old puddles) v
    target-rewritten v stand = target-address puddles (map over_old puddles) serial v bases (classes-old puddles) stand

    -- At a step that the frontier passes, the rewritten pointer stands for the same.
    pointee_at-rewritten : (step v : ℕ) → home.frontier ≤ step → step < n → stands serial (pointee_at puddles o step v) ≡ true → pointee_at moved o step (rewritten puddles v) ≡ pointee_at puddles o step v
    pointee_at-rewritten step v old now stand =
        let was = ap (λ p. target (puddles_by puddles p step) v) here ∙ ap (λ ds. target ds v) (cond-false _ _ _ (le-ltb step home.frontier old)) in
        ap (λ p. target (puddles_by moved p step) (rewritten puddles v)) moved_there
        ∙ target-by_moved (Some (moved_to n home)) step (rewritten puddles v)
        ∙ ap (λ ds. target ds (rewritten puddles v)) (cond-true _ _ _ (lt-ltb step n now))
        ∙ target-rewritten v (sym (ap (stands serial) was) ∙ stand)
        ∙ sym was

headers-advanced : (st : Stored) (o m : ℕ) (home : Puddle) (here : slice_get st.puddles o ≡ Some home) (word : ℕ → ℕ → ℕ) → ((k j : ℕ) → j < 3 → word k j ≡ st.word k j) → headers_fit (advanced o m word st) ≡ headers_fit st
unfolding headers_fit
headers-advanced st o m home here word same =
    let now = with_frontier o m st.puddles in
    ap (λ c. all_below c (λ k. has_header k (word k) (slice_get now k))) (length-moved st.puddles o m home here)
    ∙ all_below-same (length st.puddles) (λ k. has_header k (word k) (slice_get now k)) (λ k. has_header k (st.word k) (slice_get st.puddles k))
    (λ k below.
    has_header-moved st.puddles o m home here k (word k)
    ∙ has_header-same k (word k) (st.word k) (slice_get st.puddles k) (same k 0 (omega arith)) (same k 1 (omega arith)) (same k 2 (omega arith)))

-- ---- sides of the frontier

-- A step that is passed lies between the two frontiers.
passed_step : (o n m p : ℕ) → is_passed o n m p ≡ true → (ordinal_of p ≡ o) × ((n ≤ slot_of p + 1) × (slot_of p + 1 < m))
passed_step o n m p passed =
    let parts = and_parts (eqb (ordinal_of p) o) (passes_slot n m (slot_of p)) passed in
    let between = and_parts (leb n (slot_of p + 1)) (ltb (slot_of p + 1) m) parts.1 in
    (eqb-true (ordinal_of p) o parts.0, (leb-true n (slot_of p + 1) between.0, ltb-true (slot_of p + 1) m between.1))

-- Any other step is on the same side of both frontiers.
same_side : (n m step : ℕ) → n ≤ m → (leb n step && ltb step m) ≡ false → ltb step m ≡ ltb step n
same_side n m step more out = ⊎_elim
    (λ below. lt-ltb step m (omega arith) ∙ sym (lt-ltb step n below))
    (λ from. ⊎_elim
    (λ inside. absurd (both_ways _ out (and_from _ _ (le-leb n step from) (lt-ltb step m inside))))
    (λ following. le-ltb step m following ∙ sym (le-ltb step n from))
    (cases_lt step m))
    (cases_lt step n)

side_kept : (o n m p : ℕ) → n ≤ m → is_passed o n m p ≡ false → ordinal_of p ≡ o → ltb (slot_of p + 1) m ≡ ltb (slot_of p + 1) n
side_kept o n m p more out here = same_side n m (slot_of p + 1) more (sym (ap (λ b. b && passes_slot n m (slot_of p)) (eq-eqb (ordinal_of p) o here)) ∙ out)

root_side_kept : (o n m : ℕ) → n ≤ m → passes_root o n m ≡ false → 0 ≡ o → ltb 0 m ≡ ltb 0 n
root_side_kept o n m more out here = ⊎_elim
    (λ first. ⊎_elim
    (λ moves. absurd (both_ways _ out (and_from _ _ (eq-eqb o 0 (sym here)) (and_from _ _ (eq-eqb n 0 first) (lt-ltb 0 m moves)))))
    (λ still. le-ltb 0 m still ∙ sym (le-ltb 0 n (omega arith)))
    (cases_lt 0 m))
    (λ later. lt-ltb 0 m (omega arith) ∙ sym (lt-ltb 0 n (omega arith)))
    (cases_eq n 0)

-- ---- a graph leads somewhere

stands-somewhere : (serial : ℕ → ℕ) (c : Content) → stands serial c ≡ true → stands anywhere c ≡ true
stands-somewhere serial (Number v) stand = refl
stands-somewhere serial Null stand = refl
stands-somewhere serial (At p) stand = refl
stands-somewhere serial Nowhere stand = stand

field-stands : (st : Stored) (serial : ℕ → ℕ) (p m f : ℕ) (type : Option ℕ) → type ≡ Some m → f < field_count m → all_stand serial (slot_contents st p type) ≡ true
    → stands serial (content st.puddles m p f (place_word st p (SLOT_FIELDS_WORD + f))) ≡ true
field-stands st serial p m f type is low stand =
    list_all-range_each (stands serial) (λ (i : ℕ). content st.puddles m p i (place_word st p (SLOT_FIELDS_WORD + i))) 0 (field_count m)
    (ap (λ t. all_stand serial (slot_contents st p t)) (sym is) ∙ stand) f (omega arith) (omega arith)

pub LeadSomewhere-graph : (types : List (ℕ × ℕ)) (st : Stored) (g : Graph) (o n m : ℕ) → graph_of types st ≡ Some g → LeadSomewhere types st o n m
LeadSomewhere-graph types st g o n m is =
    let h = graph_of-each types st g is in
    let serial = (table_of types st).serial in
    record {
      root = λ passed. stands-somewhere serial (root_of st) h.graph.top_stands;
      fields = λ p k f below used map low passed.
          stands-somewhere serial (content st.puddles k p f (place_word st p (SLOT_FIELDS_WORD + f))) (field-stands st serial p k f (place_map types st p) map low (h.graph.sound p below used).stand);
    }

-- ---- so many steps

module _ (types : List (ℕ × ℕ)) (st : Stored) (word : ℕ → ℕ → ℕ) (o m : ℕ) (home : Puddle) (here : slice_get st.puddles o ≡ Some home) (more : home.frontier ≤ m) (bases : AreBases (map (λ d. d.base) st.puddles)) (rewrites : RewritesSteps types st word o home.frontier m) (lead : LeadSomewhere types st o home.frontier m) where
  abbrev after : Stored
  after = advanced o m word st

  root-advanced : root_of after ≡ root_of st
  root-advanced =
      let v = st.word 0 ROOT_WORD in
      ⊎_elim
      (λ passed.
      let parts = and_parts (eqb o 0) (eqb home.frontier 0 && ltb 0 m) passed in
      let start = and_parts (eqb home.frontier 0) (ltb 0 m) parts.1 in
      let first : 0 ≡ o = sym (eqb-true o 0 parts.0) in
      let zero_frontier = eqb-true home.frontier 0 start.0 in
      ap (pointee_at after.puddles 0 0) (rewrites.root ∙ cond-true _ _ _ passed)
      ∙ ap (λ i. pointee_at after.puddles i 0 (rewritten st.puddles v)) first
      ∙ pointee_at-rewritten st.puddles o m home here anywhere bases 0 v (omega arith) (ltb-true 0 m start.1) (ap (λ i. stands anywhere (pointee_at st.puddles i 0 v)) (sym first) ∙ lead.root passed)
      ∙ ap (λ i. pointee_at st.puddles i 0 v) (sym first))
      (λ out.
      ap (pointee_at after.puddles 0 0) (rewrites.root ∙ cond-false _ _ _ out)
      ∙ pointee_at-kept st.puddles o m home here 0 0 v (λ same. root_side_kept o home.frontier m more out same))
      (cases_Bool (passes_root o home.frontier m))

  content-passed : (k p f v : ℕ) → is_passed o home.frontier m p ≡ true → stands anywhere (content st.puddles k p f v) ≡ true → content after.puddles k p f (rewritten_field st.puddles k f v) ≡ content st.puddles k p f v
  content-passed k p f v passed stand =
      let step = slot_of p + 1 in
      let parts = passed_step o home.frontier m p passed in
      let there = ap (λ i. pointee_at st.puddles i step v) parts.0 in
      ⊎_elim
      (λ pointer.
      let was = cond-true (is_pointer k f) (pointee_at st.puddles (ordinal_of p) step v) (Number v) pointer in
      cond-true _ _ _ pointer
      ∙ ap (pointee_at after.puddles (ordinal_of p) step) (cond-true (is_pointer k f) (rewritten st.puddles v) v pointer)
      ∙ ap (λ i. pointee_at after.puddles i step (rewritten st.puddles v)) parts.0
      ∙ pointee_at-rewritten st.puddles o m home here anywhere bases step v parts.1.0 parts.1.1 (sym (ap (stands anywhere) (was ∙ there)) ∙ stand)
      ∙ sym there
      ∙ sym was)
      (λ number. cond-false _ _ _ number ∙ ap (λ (n : ℕ). Number n) (cond-false (is_pointer k f) (rewritten st.puddles v) v number) ∙ sym (cond-false _ _ _ number))
      (cases_Bool (is_pointer k f))

  content-out : (k p f v : ℕ) → is_passed o home.frontier m p ≡ false → content after.puddles k p f v ≡ content st.puddles k p f v
  content-out k p f v out = ap (λ (c : Content). cond (is_pointer k f) c (Number v))
      (pointee_at-kept st.puddles o m home here (ordinal_of p) (slot_of p + 1) v (λ same. side_kept o home.frontier m p more out same))

  class_after : (p : ℕ) → class_at after p ≡ class_at st p
  class_after p = class-moved st.puddles o m home here (ordinal_of p)

  -- The class of a place does not change, so its words are found where they were.
  word_after : (p k : ℕ) → place_word after p k ≡ place_word (with_words word st) p k
  word_after p k = ap (λ (c : ℕ). word (ordinal_of p) (class_slot_at c (slot_of p) + k)) (class_after p)

  serial_after : (p : ℕ) → place_serial after p ≡ place_serial (with_words word st) p
  serial_after p = ap₂ (λ (c w : ℕ). cond (ltb (slot_of p) (class_slots c)) w 0) (class_after p) (word_after p 0)

  field-advanced : (p k f : ℕ) → p < places_of st → (place_serial st p ≡ 0 → ⊥) → place_map types st p ≡ Some k → f < field_count k
      → content after.puddles k p f (place_word after p (SLOT_FIELDS_WORD + f)) ≡ content st.puddles k p f (place_word st p (SLOT_FIELDS_WORD + f))
  field-advanced p k f below used is low =
      let v = place_word st p (SLOT_FIELDS_WORD + f) in
      let now = word_after p (SLOT_FIELDS_WORD + f) ∙ rewrites.fields p k f below used is low in
      ⊎_elim
      (λ passed. ap (content after.puddles k p f) (now ∙ cond-true _ _ _ passed) ∙ content-passed k p f v passed (lead.fields p k f below used is low passed))
      (λ out. ap (content after.puddles k p f) (now ∙ cond-false _ _ _ out) ∙ content-out k p f v out)
      (cases_Bool (is_passed o home.frontier m p))

  steps_stand : StandsSame types st after
  steps_stand = record {
    puddles = length-moved st.puddles o m home here;
    headers = headers-advanced st o m home here word (λ k j few. rewrites.headers k j (omega arith) (λ first at. absurd (omega arith)));
    next = rewrites.headers 0 NEXT_SERIAL_WORD (omega arith) (λ first at. absurd (omega arith));
    root = root-advanced;
    classes = class_after;
    serials = λ p below. serial_after p ∙ rewrites.serials p below;
    type_ids = λ p below used. word_after p 1 ∙ rewrites.type_ids p below used;
    contents = λ p below used.
        ap₂ (λ (c k : ℕ). slot_contents after p (fitting c (map_of k types))) (class_after p) (word_after p 1 ∙ rewrites.type_ids p below used)
        ∙ slot_contents-each st after p (place_map types st p) (λ k f is low. field-advanced p k f below used is low);
  }

-- If the passed pointers lead somewhere, the pool has the same graph after the steps, or it has none either.
pub graph_of-steps_any : (types : List (ℕ × ℕ)) (st : Stored) (word : ℕ → ℕ → ℕ) (o m : ℕ) (home : Puddle) → AreBases (map (λ d. d.base) st.puddles) → slice_get st.puddles o ≡ Some home → home.frontier ≤ m
    → LeadSomewhere types st o home.frontier m → RewritesSteps types st word o home.frontier m → graph_of types (advanced o m word st) ≡ graph_of types st
graph_of-steps_any types st word o m home bases here more lead rewrites = graph_of-same types st (advanced o m word st) (steps_stand types st word o m home here more bases rewrites lead)

pub graph_of-steps : (types : List (ℕ × ℕ)) (st : Stored) (g : Graph) (word : ℕ → ℕ → ℕ) (o m : ℕ) (home : Puddle) → graph_of types st ≡ Some g → AreBases (map (λ d. d.base) st.puddles)
    → slice_get st.puddles o ≡ Some home → home.frontier ≤ m → RewritesSteps types st word o home.frontier m → graph_of types (advanced o m word st) ≡ Some g
graph_of-steps types st g word o m home is bases here more rewrites = graph_of-steps_any types st word o m home bases here more (LeadSomewhere-graph types st g o home.frontier m is) rewrites ∙ is
