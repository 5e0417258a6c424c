-- A free slot is filled under the next serial: the graph has one more object, and each of its fields is 0 or null.
use Rattle.std.proofs.Common.{◌≡◌, ℕ, ◌+◌, ◌-◌, ◌<◌, ◌≤◌, true, List, [], ◌∷◌, map, Option, Some, None, slice_get, nat_cmp, refl, sym, ap, ap₂, subst, ◌∙◌, ⊎_elim, arith}
use Rattle.std.specs.List.{range_with_len}
use Rattle.std.specs.FinMap.Entries.{put}
use Rattle.std.proofs.lemmas.Bool.{cases_Bool, cond-true, cond-false, and_parts, and_from, leb-true, le-leb}
use Rattle.pud_defs.specs.declared.layout.TheConstants.{NUMBER_LIMIT}
use Rattle.pud_defs.specs.declared.records.Puddle.{Puddle}
use Rattle.pud_defs.specs.Formats.TypeMap.{is_pointer}
use Rattle.pud_defs.specs.Formats.Geometry.{class_slot_words, class_slot_at, ordinal_of, slot_of}
use Rattle.pud_defs.proofs.Formats.Geometry.{same_slot}
use Rattle.pud_defs.specs.RegistryTables.Types.{map_of}
use Rattle.pud_defs.specs.PoolGraphs.Stored.{Stored, places_of, class_of, class_at, place_begins, place_words}
use Rattle.pud_defs.specs.PoolGraphs.Graph.{Content, Table, fits_class, fitting, table_of, slot_contents, contents_or_none, content, field_count, pointee_at, object_at, value_of, stands, all_stand, is_next_serial, Object, Graph, next_serial_of, root_of, graph_stored, graph_of}
use Rattle.pud_defs.proofs.PoolGraphs.Contents.{list_all-range}
use Rattle.pud_defs.proofs.PoolGraphs.Graphs.{HasGraph, graph_of-each}
use Rattle.pud_defs.specs.PoolGraphs.GraphChanges.{blank_value, blank_object, with_new}
use Rattle.graph_laws.specs.Changes.{with_words, IsMade}
use Rattle.graph_laws.proofs.ObjectChanges.ContentLists.{names_no_free, name_no_free}
use Rattle.graph_laws.proofs.ObjectChanges.TableChanges.{IsSameBut, IsUnnamed, root-unnamed, IsGraph-unnamed, distinct-new, objects-new}
use Rattle.graph_laws.proofs.SameReads.Words.{begins_low, serial_there, map-range_same, KeepsOthers, same_but, graph_of-words}
use Rattle.graph_laws.proofs.SameReads.Pointers.{pointee_at-null}

-- ---- fields of 0

map-map_each : {X Y : Type 0} (f : ℕ → X) (h : X → Y) (g : ℕ → Y) (each : (k : ℕ) → h (f k) ≡ g k) (ks : List ℕ) → map h (map f ks) ≡ map g ks
map-map_each f h g each [] = refl
map-map_each f h g each (k ∷ ks) = ap₂ (λ x xs. x ∷ xs) (each k) (map-map_each f h g each ks)

module _ (puddles : List Puddle) (m p : ℕ) (serial : ℕ → ℕ) where
  blank_stands : (f : ℕ) → stands serial (content puddles m p f 0) ≡ true
  blank_stands f = ⊎_elim
      (λ pointer. ap (stands serial) (cond-true _ _ _ pointer ∙ pointee_at-null puddles (ordinal_of p) (slot_of p + 1) 0 refl))
      (λ number. ap (stands serial) (cond-false _ _ _ number))
      (cases_Bool (is_pointer m f))

  value_of-blank : (f : ℕ) → value_of serial (content puddles m p f 0) ≡ blank_value m f
  value_of-blank f = ⊎_elim
      (λ pointer. ap (value_of serial) (cond-true _ _ _ pointer ∙ pointee_at-null puddles (ordinal_of p) (slot_of p + 1) 0 refl) ∙ sym (cond-true _ _ _ pointer))
      (λ number. ap (value_of serial) (cond-false _ _ _ number) ∙ sym (cond-false _ _ _ number))
      (cases_Bool (is_pointer m f))

-- A word lies in the slot of one place only.
one_place : (st : Stored) (q p k : ℕ) → k < place_words st q → ordinal_of q ≡ ordinal_of p → place_begins st p ≤ place_begins st q + k → place_begins st q + k < place_begins st p + place_words st p → q ≡ p
one_place st q p k low same above below =
    let class : class_at st q ≡ class_at st p = ap (λ (o : ℕ). class_of (slice_get st.puddles o)) same in
    let j = place_begins st q + k - place_begins st p in
    let fits : k < class_slot_words (class_at st p) = subst (λ (c : ℕ). k < class_slot_words c) class low in
    let within : j < class_slot_words (class_at st p) = omega arith in
    let one : class_slot_at (class_at st p) (slot_of q) + k ≡ class_slot_at (class_at st p) (slot_of p) + j = sym (ap (λ (c : ℕ). class_slot_at c (slot_of q) + k) class) ∙ omega arith in
    let slot : slot_of q ≡ slot_of p = same_slot (class_at st p) (slot_of q) (slot_of p) k j fits within one in
    omega arith

-- ---- the graph

module _ (types : List (ℕ × ℕ)) (st : Stored) (word : ℕ → ℕ → ℕ) (p type_id m : ℕ) (made : IsMade types st word p type_id m) where
  abbrev before : Table
  before = table_of types st

  abbrev after : Table
  after = table_of types (with_words word st)

  header_kept : (o k : ℕ) → k < 64 → (o ≡ 0 → k ≡ 3 → ⊥) → word o k ≡ st.word o k
  header_kept o k low apart = made.others o k (λ same above below. absurd (let first = begins_low st p in omega arith)) apart

  others_kept : KeepsOthers st word p
  others_kept = record {
    each = λ q k other low. made.others (ordinal_of q) (place_begins st q + k)
        (λ same above below. other (one_place st q p k low same above below))
        (λ first at. absurd (let low_word = begins_low st q in omega arith));
  }

  serial_after : after.serial p ≡ next_serial_of st
  serial_after = serial_there (with_words word st) p made.slot ∙ made.serial_word

  abbrev blanks : List Content
  blanks = map (λ f. content st.puddles m p f 0) (range_with_len 0 (field_count m))

  contents_after : after.contents p ≡ Some blanks
  contents_after =
      ap (λ (t : ℕ). slot_contents (with_words word st) p (fitting (class_at st p) (map_of t types))) made.type_word
      ∙ ap (λ (o : Option ℕ). slot_contents (with_words word st) p (fitting (class_at st p) o)) made.defined
      ∙ ap (slot_contents (with_words word st) p) (cond-true (fits_class (class_at st p) m) (Some m) None made.room)
      ∙ ap (λ (cs : List Content). Some cs) (map-range_same _ _ (field_count m) (λ f below. ap (content st.puddles m p f) (made.fields f below)))

  stand_after : all_stand after.serial (after.contents p) ≡ true
  stand_after = ap (all_stand after.serial) contents_after ∙ list_all-range (stands after.serial) (λ f. content st.puddles m p f 0) (blank_stands st.puddles m p after.serial) 0 (field_count m)

  object_after : object_at after p ≡ blank_object (class_at st p) type_id m
  object_after =
      let fields =
      ap (λ o. map (value_of after.serial) (contents_or_none o)) contents_after
      ∙ map-map_each (λ f. content st.puddles m p f 0) (value_of after.serial) (blank_value m) (value_of-blank st.puddles m p after.serial) (range_with_len 0 (field_count m)) in
      let type = made.type_word in
      λ i. record { type_id = type i; class = class_at st p; fields = fields i }

  module _ (g : Graph) (h : HasGraph types st g) (room : next_serial_of st < NUMBER_LIMIT) where
    positive : 1 ≤ next_serial_of st
    positive = leb-true _ _ (and_parts _ _ h.graph.legal).0

    same : IsSameBut before after (places_of st) p
    same = same_but types st word p made.within others_kept

    unnamed : IsUnnamed (root_of st) before (places_of st) p
    unnamed = record {
      root = names_no_free before.serial p made.free (root_of st) h.graph.top_stands;
      each = λ q below other used. name_no_free before.serial p made.free (before.contents q) (h.graph.sound q below used).stand;
    }

    fresh : (q : ℕ) → q < places_of st → (before.serial q ≡ 0 → ⊥) → before.serial q ≡ after.serial p → ⊥
    fresh q below used e = let low = (h.graph.sound q below used).below in let now = serial_after in absurd (omega arith)

    now_used : after.serial p ≡ 0 → ⊥
    now_used free = let low = positive in let now = serial_after in absurd (omega arith)

    legal : is_next_serial (next_serial_of st + 1) ≡ true
    legal = and_from _ _ (le-leb 1 (next_serial_of st + 1) (omega arith)) (le-leb (next_serial_of st + 1) NUMBER_LIMIT (omega arith))

    graph_after : graph_of types (with_words word st) ≡ Some (with_new (blank_object (class_at st p) type_id m) g)
    graph_after =
        let n = places_of st in
        let next = next_serial_of st in
        let top = root_of st in
        let serial = serial_after in
        let root = root-unnamed before after n p same next top h.graph unnamed in
        let objects = objects-new before after n p same next top h.graph unnamed made.free fresh now_used ∙ ap₂ (λ (k : ℕ) (o : Object). put nat_cmp k o (graph_stored types st).objects) serial object_after in
        graph_of-words types st word (next + 1) top _ h.headers
        (λ o k low few. header_kept o k (omega arith) (λ first at. absurd (omega arith)))
        made.next_word
        (ap (pointee_at st.puddles 0 0) (header_kept 0 4 (omega arith) (λ first at. absurd (omega arith))))
        (IsGraph-unnamed before after n p same next top h.graph unnamed (next + 1) (omega arith) legal (distinct-new before after n p same next top h.graph unnamed made.free fresh now_used)
        (λ used. record { below = let now = serial in omega arith; stand = stand_after }))
        (λ i. record { next_serial = next + 1; root = root i; objects = objects i })
        ∙ ap (λ (k : Graph). Some (with_new (blank_object (class_at st p) type_id m) k)) h.is

pub graph_of-new : (types : List (ℕ × ℕ)) (st : Stored) (g : Graph) (word : ℕ → ℕ → ℕ) (p type_id m : ℕ) → graph_of types st ≡ Some g → next_serial_of st < NUMBER_LIMIT → IsMade types st word p type_id m
    → graph_of types (with_words word st) ≡ Some (with_new (blank_object (class_at st p) type_id m) g)
graph_of-new types st g word p type_id m is room made = graph_after types st word p type_id m made g (graph_of-each types st g is) room
