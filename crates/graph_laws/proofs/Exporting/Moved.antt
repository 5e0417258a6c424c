-- What is exported of a pool has the pool's graph, whatever bases the pool's pointers were read over.
use Rattle.std.proofs.Common.{◌≡◌, ℕ, ◌+◌, ◌<◌, ◌≤◌, true, cond, eqb, ltb, List, [], ◌∷◌, map, length, slice_index, Option, Some, option_map, refl, sym, ap, subst, ◌∙◌, ⊎_elim, arith, eq-eqb}
use Rattle.std.specs.Prelude.{slice_get}
use Rattle.std.specs.Option.{option_or}
use Rattle.std.proofs.lemmas.Bool.{cases_eq, cases_Bool, cond-true, cond-false, cond_both, and_from, lt-ltb, ltb-true}
use Rattle.std.proofs.lemmas.List.{length-map}
use Rattle.std.proofs.lemmas.Option.{slice_get-map}
use Rattle.pud_defs.specs.declared.space.TheConstants.{FRAME_MAGIC, FRAME_HEADER_WORDS, NEXT_SERIAL_WORD, ROOT_WORD, SLOT_SERIAL_WORD, SLOT_TYPE_WORD, SLOT_FIELDS_WORD}
use Rattle.pud_defs.specs.declared.records.Puddle.{Puddle}
use Rattle.pud_defs.specs.Formats.TypeMap.{is_pointer}
use Rattle.pud_defs.specs.Formats.Geometry.{class_slots, class_slot_at, steps_of, ordinal_of, slot_of, places_among}
use Rattle.pud_defs.proofs.Formats.Geometry.{some_words}
use Rattle.pud_defs.specs.RegistryTables.Types.{map_of}
use Rattle.pud_defs.specs.RegistryTables.Spaces.{all_below}
use Rattle.pud_defs.specs.PoolGraphs.Stored.{Stored, places_of, class_of, class_at, is_slot, place_words, place_word, place_serial, IsLivePlace}
use Rattle.pud_defs.specs.PoolGraphs.Graph.{Number, Null, Table, table_of, slot_contents, slot_in, place_in, at_place, target, over_old, puddles_by, pointee_at, content, field_count, fitting, place_map, stands, has_header, headers_fit, Graph, next_serial_of, root_of, graph_of}
use Rattle.pud_defs.specs.PoolGraphs.Exported.{address_of, exported_field, exported_object, uuid_number_of, exported_header}
use Rattle.pud_defs.proofs.RegistryTables.Spaces.{all_below-from}
use Rattle.pud_defs.proofs.PoolGraphs.TypeMore.{defined_there}
use Rattle.pud_defs.proofs.PoolGraphs.Graphs.{IsGraph, HasGraph, graph_of-each}
use Rattle.graph_laws.specs.Changes.{AreBases}
use Rattle.graph_laws.proofs.SameReads.Words.{live_in_slot, serial_there, room_of_map}
use Rattle.graph_laws.proofs.SameReads.Pointers.{there_is_puddle, target-address}
use Rattle.graph_laws.proofs.SameReads.Same.{StandsSame, graph_of-kept, slot_contents-stands}
use Rattle.graph_laws.proofs.Exporting.Pieces.{at_rest, IsExported, class-exported, slot-free, slot-live, object_field}
use Rattle.graph_laws.proofs.Exporting.Chunks.{zeroes}

-- ---- puddles at rest

-- The place to which a pointer leads does not depend on old bases or frontiers.
place_in-at_rest : (first : ℕ) (puddles : List Puddle) (v : ℕ) → place_in first (map at_rest puddles) v ≡ place_in first puddles v
unfolding place_in
place_in-at_rest first [] v = refl
place_in-at_rest first (d ∷ puddles) v = ap (λ (later : Option ℕ). option_or (option_map (λ slot. first + slot) (slot_in d v)) later) (place_in-at_rest (first + places_among 1) puddles v)

target-at_rest : (puddles : List Puddle) (v : ℕ) → target (map at_rest puddles) v ≡ target puddles v
unfolding target
target-at_rest puddles v = ap (λ (place : Option ℕ). cond (eqb v 0) Null (at_place place)) (place_in-at_rest 0 puddles v)

classes-old : (puddles : List Puddle) → map (λ d. d.class) (map over_old puddles) ≡ map (λ d. d.class) puddles
classes-old [] = refl
classes-old (d ∷ puddles) = ap (λ (cs : List ℕ). d.class ∷ cs) (classes-old puddles)

module _ (puddles : List Puddle) (o : ℕ) (d : Puddle) (here : slice_get puddles o ≡ Some d) where
  at_rest_there : slice_get (map at_rest puddles) o ≡ Some (at_rest d)
  at_rest_there = slice_get-map at_rest puddles o ∙ ap (option_map at_rest) here

  -- In puddles at rest each pointer is read over the bases.
  pointee_at-at_rest : (step v : ℕ) → step < steps_of d → pointee_at (map at_rest puddles) o step v ≡ target puddles v
  pointee_at-at_rest step v low =
      ap (λ (p : Option Puddle). target (puddles_by (map at_rest puddles) p step) v) at_rest_there
      ∙ ap (λ (read : List Puddle). target read v) (cond-true _ _ _ (lt-ltb step (steps_of d) low))
      ∙ target-at_rest puddles v

  -- Whatever bases a pointer is read over, they are those of puddles of the same classes.
  classes-read : (step : ℕ) → map (λ d. d.class) (puddles_by puddles (slice_get puddles o) step) ≡ map (λ d. d.class) puddles
  classes-read step =
      ap (λ (p : Option Puddle). map (λ (e : Puddle). e.class) (puddles_by puddles p step)) here
      ∙ cond_both (ltb step d.frontier) puddles (map over_old puddles) (λ (read : List Puddle). map (λ (e : Puddle). e.class) read ≡ map (λ (e : Puddle). e.class) puddles) (λ rewritten. refl) (λ old. classes-old puddles)

  -- By its new address a pointer stands for what it stood for before.
  pointee_at-moved : (serial : ℕ → ℕ) (step v : ℕ) → AreBases (map (λ d. d.base) puddles) → step < steps_of d → stands serial (pointee_at puddles o step v) ≡ true
      → pointee_at (map at_rest puddles) o step (address_of puddles (pointee_at puddles o step v)) ≡ pointee_at puddles o step v
  pointee_at-moved serial step v bases low stand =
      pointee_at-at_rest step (address_of puddles (pointee_at puddles o step v)) low
      ∙ target-address puddles (puddles_by puddles (slice_get puddles o) step) serial v bases (classes-read step) stand

-- ---- a pool

module _ (types : List (ℕ × ℕ)) (st later : Stored) (bases : AreBases (map (λ d. d.base) st.puddles)) (some : 1 ≤ length st.puddles) (exported : IsExported types st later) (g : Graph) (stored : HasGraph types st g) where
  abbrev t : Table
  t = table_of types st

  abbrev h : IsGraph (next_serial_of st) (root_of st) t (places_of st)
  h = stored.graph

  -- ---- headers

  header_there : (o : ℕ) → o < length st.puddles → has_header o (later.word o) (slice_get later.puddles o) ≡ true
  unfolding exported_header
  header_there o below =
      let d = there_is_puddle st.puddles o below in
      let word = λ (k : ℕ) (low : k < FRAME_HEADER_WORDS). exported.headers o k below low in
      ap (has_header o (later.word o)) (ap (λ ds. slice_get ds o) exported.puddles ∙ at_rest_there st.puddles o d.0 d.1)
      ∙ and_from _ _
      (and_from _ _ (eq-eqb (later.word o 0) FRAME_MAGIC (word 0 (omega arith))) (eq-eqb (later.word o 1) d.0.number (word 1 (omega arith) ∙ ap uuid_number_of d.1)))
      (eq-eqb (later.word o 2) o (word 2 (omega arith)))

  headers-moved : headers_fit later ≡ true
  unfolding headers_fit
  headers-moved =
      ap (λ count. all_below count (λ o. has_header o (later.word o) (slice_get later.puddles o))) (ap length exported.puddles ∙ length-map st.puddles at_rest)
      ∙ all_below-from (length st.puddles) (λ o. has_header o (later.word o) (slice_get later.puddles o)) header_there

  next-moved : next_serial_of later ≡ next_serial_of st
  unfolding exported_header
  next-moved = exported.headers 0 NEXT_SERIAL_WORD (omega arith) (omega arith)

  root_word : later.word 0 ROOT_WORD ≡ address_of st.puddles (root_of st)
  unfolding exported_header
  root_word = exported.headers 0 ROOT_WORD (omega arith) (omega arith)

  root-moved : root_of later ≡ root_of st
  root-moved =
      let first = there_is_puddle st.puddles 0 (omega arith) in
      ap (pointee_at later.puddles 0 0) root_word
      ∙ ap (λ ds. pointee_at ds 0 0 (address_of st.puddles (root_of st))) exported.puddles
      ∙ pointee_at-moved st.puddles 0 first.0 first.1 t.serial 0 (st.word 0 ROOT_WORD) bases (omega arith) h.top_stands

  -- ---- slots

  -- The type of each live object is defined.
  pub class-moved : (p : ℕ) → class_at later p ≡ class_at st p
  class-moved p = class-exported st later exported.puddles p

  -- The type of each live object is defined, and the object has room in its slot.
  pub map_there : (p : ℕ) → p < places_of st → IsLivePlace st p → (m : ℕ) × (place_map types st p ≡ Some m)
  map_there p within used = defined_there t.serial st p (place_map types st p) (h.sound p within used).stand

  live_word : (p m j : ℕ) → p < places_of st → j < place_words st p → IsLivePlace st p → place_map types st p ≡ Some m → place_word later p j ≡ slice_index (exported_object st p (Some m)) j
  live_word p m j within low used is = exported.slots p j within (live_in_slot st p used) low ∙ ap (λ words. slice_index words j) (slot-live types st p used ∙ ap (exported_object st p) is)

  serial_word : (p : ℕ) → p < places_of st → is_slot st p ≡ true → place_word later p SLOT_SERIAL_WORD ≡ place_serial st p
  serial_word p within slot =
      let some = some_words (class_at st p) in
      ⊎_elim
      (λ free. exported.slots p SLOT_SERIAL_WORD within slot (omega arith) ∙ ap (λ words. slice_index words SLOT_SERIAL_WORD) (slot-free types st p free) ∙ zeroes (place_words st p) SLOT_SERIAL_WORD ∙ sym free)
      (λ used. let m = map_there p within used in live_word p m.0 SLOT_SERIAL_WORD within (omega arith) used m.1 ∙ sym (serial_there st p slot))
      (cases_eq (place_serial st p) 0)

  pub serial-moved : (p : ℕ) → p < places_of st → place_serial later p ≡ t.serial p
  serial-moved p within =
      let class = ap (λ (c : ℕ). ltb (slot_of p) (class_slots c)) (class-moved p) in
      ⊎_elim
      (λ slot. cond-true _ _ _ (class ∙ slot) ∙ serial_word p within slot)
      (λ none. cond-false _ _ _ (class ∙ none) ∙ sym (cond-false _ _ _ none))
      (cases_Bool (is_slot st p))

  pub type-moved : (p : ℕ) → p < places_of st → IsLivePlace st p → place_word later p SLOT_TYPE_WORD ≡ t.type_id p
  type-moved p within used = let some = some_words (class_at st p) in let m = map_there p within used in live_word p m.0 SLOT_TYPE_WORD within (omega arith) used m.1

  field-moved : (p m f : ℕ) → p < places_of st → IsLivePlace st p → place_map types st p ≡ Some m → f < field_count m → stands t.serial (content st.puddles m p f (place_word st p (SLOT_FIELDS_WORD + f))) ≡ true
      → content later.puddles m p f (place_word later p (SLOT_FIELDS_WORD + f)) ≡ content st.puddles m p f (place_word st p (SLOT_FIELDS_WORD + f))
  field-moved p m f within used is below stand =
      let v = place_word st p (SLOT_FIELDS_WORD + f) in
      let o = ordinal_of p in
      let step = slot_of p + 1 in
      let was = pointee_at st.puddles o step v in
      let home = there_is_puddle st.puddles o (omega arith) in
      let room = room_of_map types st p m is in
      let slot : slot_of p < class_slots home.0.class = subst (λ (c : ℕ). slot_of p < class_slots c) (ap class_of home.1) (ltb-true (slot_of p) (class_slots (class_at st p)) (live_in_slot st p used)) in
      let word : place_word later p (SLOT_FIELDS_WORD + f) ≡ exported_field st m p f = live_word p m (SLOT_FIELDS_WORD + f) within (omega arith) used is ∙ object_field types st p m f below in
      ap (content later.puddles m p f) word ∙ ⊎_elim
      (λ pointer.
      let here : content st.puddles m p f v ≡ was = cond-true _ _ _ pointer in
      cond-true _ _ _ pointer
      ∙ ap (pointee_at later.puddles o step) (cond-true (is_pointer m f) (address_of st.puddles was) v pointer)
      ∙ ap (λ ds. pointee_at ds o step (address_of st.puddles was)) exported.puddles
      ∙ pointee_at-moved st.puddles o home.0 home.1 t.serial step v bases (omega arith) (sym (ap (stands t.serial) here) ∙ stand)
      ∙ sym here)
      (λ number. cond-false _ _ _ number ∙ ap (λ (k : ℕ). Number k) (cond-false (is_pointer m f) (address_of st.puddles was) v number) ∙ sym (cond-false _ _ _ number))
      (cases_Bool (is_pointer m f))

  stands_same : StandsSame types st later
  stands_same = record {
    puddles = ap length exported.puddles ∙ length-map st.puddles at_rest;
    headers = headers-moved ∙ sym stored.headers;
    next = next-moved;
    root = root-moved;
    classes = class-moved;
    serials = serial-moved;
    type_ids = type-moved;
    contents = λ p within used.
        ap (slot_contents later p) (λ i. fitting (class-moved p i) (map_of (type-moved p within used i) types))
        ∙ slot_contents-stands st later p t.serial (place_map types st p) (h.sound p within used).stand (λ m f is below stand. field-moved p m f within used is below stand);
  }

pub graph_of-exported : (types : List (ℕ × ℕ)) (st later : Stored) (g : Graph) → AreBases (map (λ d. d.base) st.puddles) → 1 ≤ length st.puddles → IsExported types st later → graph_of types st ≡ Some g → graph_of types later ≡ Some g
graph_of-exported types st later g bases some exported is =
    graph_of-kept types st later g (stands_same types st later bases some exported g (graph_of-each types st g is)) is
