-- The word of a field is stored: the object at the place has another value in the field, and nothing else changes.
use Rattle.std.proofs.Common.{◌≡◌, ℕ, ◌+◌, ◌<◌, true, false, List, map, set, length, Option, Some, get_or, not, ne_eqb, nat_cmp, option_map, refl, sym, ap, ap₂, ◌∙◌, ⊎_elim, arith}
use Rattle.std.specs.List.{range_with_len}
use Rattle.std.specs.FinMap.Entries.{put}
use Rattle.std.proofs.lemmas.Bool.{cases_eq, cond-true, cond-false}
use Rattle.std.proofs.lemmas.List.{same_lists, length-set, get_or-set_same, get_or-set_other, map-set}
use Rattle.std.proofs.lemmas.List.FromFn.{get_or-map-range_with_len, length-map-range_with_len}
use Rattle.pud_defs.specs.declared.space.TheConstants.{FRAME_HEADER_WORDS, SLOT_FIELDS_WORD}
use Rattle.pud_defs.specs.declared.records.Puddle.{Puddle}
use Rattle.pud_defs.specs.declared.objects.FieldValue.{FieldValue}
use Rattle.pud_defs.specs.declared.objects.FieldValue.TheVariants.{Num, Ref}
use Rattle.pud_defs.specs.Formats.TypeMap.{is_pointer}
use Rattle.pud_defs.specs.Formats.Geometry.{ordinal_of, slot_of}
use Rattle.pud_defs.specs.RegistryTables.Types.{map_of}
use Rattle.pud_defs.specs.PoolGraphs.Stored.{Stored, places_of, class_at, place_word, place_begins, place_words}
use Rattle.pud_defs.specs.PoolGraphs.Graph.{Content, Number, Table, fitting, place_map, table_of, slot_contents, contents_or_none, content, field_count, pointee_at, place_of_serial, object_at, named_by, value_of, stands, all_stand, Object, Graph, next_serial_of, root_of, graph_stored, graph_of}
use Rattle.pud_defs.proofs.PoolGraphs.Graphs.{HasGraph, graph_of-each}
use Rattle.pud_defs.specs.PoolGraphs.GraphChanges.{object_with, with_some_object, with_field}
use Rattle.graph_laws.specs.Changes.{IsAddress, IsField, with_field_word, with_word, with_words}
use Rattle.graph_laws.proofs.ObjectChanges.ContentLists.{list_all-set}
use Rattle.graph_laws.proofs.ObjectChanges.TableChanges.{IsSameBut, find-live, serials_still, IsGraph-in_place, objects-in_place}
use Rattle.pud_defs.proofs.Formats.Geometry.{some_words}
use Rattle.graph_laws.proofs.SameReads.Words.{room_of_map, serial-same, slot_word-header, slot_word-there, slot_word-other, slot_word-others, same_but, IsLive, place_of_serial-some, graph_of-words}
use Rattle.graph_laws.proofs.SameReads.Pointers.{pointee_at-null, pointee_at-address}

-- If one value of a range is different, the list has that one value set.
map-range_set : {X : Type 0} (f g : ℕ → X) (n i : ℕ) → ((k : ℕ) → k < n → (k ≡ i → ⊥) → f k ≡ g k) → map f (range_with_len 0 n) ≡ set (map g (range_with_len 0 n)) i (f i)
map-range_set f g n i same = same_lists _ _
    (length-map-range_with_len f 0 n ∙ sym (length-set (map g (range_with_len 0 n)) i (f i) ∙ length-map-range_with_len g 0 n))
    (λ k d below.
    let size = length-map-range_with_len f 0 n in
    let other_size = length-map-range_with_len g 0 n in
    let within : k < n = omega arith in
    get_or-map-range_with_len f 0 n k k d within (omega arith) ∙ ⊎_elim
    (λ e.
    let inside : i < length (map g (range_with_len 0 n)) = omega arith in
    ap f e ∙ sym (ap (λ j. get_or (set (map g (range_with_len 0 n)) i (f i)) j d) e ∙ get_or-set_same (map g (range_with_len 0 n)) i (f i) d inside))
    (λ other. same k within other ∙ sym (get_or-set_other (map g (range_with_len 0 n)) i k (f i) d other ∙ get_or-map-range_with_len g 0 n k k d within (omega arith)))
    (cases_eq k i))

module _ (types : List (ℕ × ℕ)) (st : Stored) (p m f v : ℕ) (below : f < field_count m) where
  -- the words after the store
  abbrev later : ℕ → ℕ → ℕ
  later = with_word (ordinal_of p) (place_begins st p + (SLOT_FIELDS_WORD + f)) v st.word

  abbrev before : Table
  before = table_of types st

  abbrev after : Table
  after = table_of types (with_words later st)

  module _ (defined : place_map types st p ≡ Some m) where
    few : SLOT_FIELDS_WORD + f < place_words st p
    few = let room = room_of_map types st p m defined in omega arith

    header_kept : (o k : ℕ) → k < FRAME_HEADER_WORDS → later o k ≡ st.word o k
    header_kept o k low = slot_word-header p (SLOT_FIELDS_WORD + f) v st few o k low

    word_kept : (k : ℕ) → k < place_words st p → (k ≡ SLOT_FIELDS_WORD + f → ⊥) → place_word (with_words later st) p k ≡ place_word st p k
    word_kept k low other = slot_word-other p (SLOT_FIELDS_WORD + f) v st few p k low (λ same at. other at)

    serial_kept : after.serial p ≡ before.serial p
    serial_kept = serial-same st later p (λ slot. let some = some_words (class_at st p) in word_kept 0 (omega arith) (λ at. absurd (omega arith)))

    type_kept : after.type_id p ≡ before.type_id p
    type_kept = let some = some_words (class_at st p) in word_kept 1 (omega arith) (λ at. absurd (omega arith))

    -- What the fields stood for before.
    abbrev contents : List Content
    contents = map (λ k. content st.puddles m p k (place_word st p (SLOT_FIELDS_WORD + k))) (range_with_len 0 (field_count m))

    contents_before : before.contents p ≡ Some contents
    contents_before = ap (slot_contents st p) defined

    contents_after : after.contents p ≡ Some (set contents f (content st.puddles m p f v))
    contents_after =
        let now = λ (k : ℕ). content st.puddles m p k (place_word (with_words later st) p (SLOT_FIELDS_WORD + k)) in
        let was = λ (k : ℕ). content st.puddles m p k (place_word st p (SLOT_FIELDS_WORD + k)) in
        let room = room_of_map types st p m defined in
        ap (λ (t : ℕ). slot_contents (with_words later st) p (fitting (class_at st p) (map_of t types))) type_kept
        ∙ ap (slot_contents (with_words later st) p) defined
        ∙ ap (λ (cs : List Content). Some cs)
        (map-range_set now was (field_count m) f (λ k low other. ap (content st.puddles m p k) (word_kept (SLOT_FIELDS_WORD + k) (omega arith) (λ at. other (omega arith))))
        ∙ ap (set contents f) (ap (content st.puddles m p f) (slot_word-there p (SLOT_FIELDS_WORD + f) v st few)))

    -- The object at the place has another value in the field.
    object_after : (x : FieldValue) → after.serial ≡ before.serial → value_of before.serial (content st.puddles m p f v) ≡ x → object_at after p ≡ object_with f x (object_at before p)
    object_after x serials value =
        let fields =
        ap₂ (λ (s : ℕ → ℕ) (o : Option (List Content)). map (value_of s) (contents_or_none o)) serials contents_after
        ∙ map-set (value_of before.serial) contents f (content st.puddles m p f v)
        ∙ ap₂ (λ (o : Option (List Content)) (w : FieldValue). set (map (value_of before.serial) (contents_or_none o)) f w) (sym contents_before) value in
        let type = type_kept in
        λ i. record { type_id = type i; class = class_at st p; fields = fields i }

    -- ---- the graph

    module _ (is_live : IsLive before (places_of st) (before.serial p) p) where
      same : IsSameBut before after (places_of st) p
      same = same_but types st later p is_live.within (slot_word-others p (SLOT_FIELDS_WORD + f) v st few)

      -- Suppose that the field now stands for something, and that its value is x.
      module _ (g : Graph) (x : FieldValue) (h : HasGraph types st g) (stand : stands before.serial (content st.puddles m p f v) ≡ true) (value : value_of before.serial (content st.puddles m p f v) ≡ x) where
        all_stand_after : all_stand before.serial (after.contents p) ≡ true
        all_stand_after =
            ap (all_stand before.serial) contents_after
            ∙ list_all-set (stands before.serial) contents f (content st.puddles m p f v) (sym (ap (all_stand before.serial) contents_before) ∙ (h.graph.sound p is_live.within is_live.used).stand) stand

        graph_after : graph_of types (with_words later st) ≡ Some (with_some_object (before.serial p) (Some (object_with f x (object_at before p))) (graph_stored types st))
        graph_after =
            let serials = serials_still before after (places_of st) p same serial_kept in
            let object = object_after x serials value in
            let objects = objects-in_place before after (places_of st) p same serial_kept h.graph.distinct is_live.used ∙ ap (λ (o : Object). put nat_cmp (before.serial p) o (graph_stored types st).objects) object in
            graph_of-words types st later (next_serial_of st) (root_of st) _ h.headers
            (λ o k low few. header_kept o k (omega arith))
            (header_kept 0 3 (omega arith))
            (ap (pointee_at st.puddles 0 0) (header_kept 0 4 (omega arith)))
            (IsGraph-in_place before after (places_of st) p same serial_kept (next_serial_of st) (root_of st) all_stand_after h.graph)
            (λ i. record { next_serial = next_serial_of st; root = named_by (serials i) (root_of st); objects = objects i })

        field_after : graph_of types (with_words later st) ≡ Some (with_field (before.serial p) f x g)
        field_after =
            let found = find-live before (places_of st) p h.graph.distinct is_live.within is_live.used in
            graph_after
            ∙ sym (ap (λ (o : Option Object). Some (with_some_object (before.serial p) (option_map (object_with f x) o) (graph_stored types st))) found)
            ∙ ap (λ (k : Graph). Some (with_field (before.serial p) f x k)) h.is

-- The word of a field is stored. If it stands for something, and its value is x, the graph has x in the field.
graph_of-field : (types : List (ℕ × ℕ)) (st : Stored) (g : Graph) (s p m f v : ℕ) (x : FieldValue) → graph_of types st ≡ Some g → IsField types st s p m f
    → stands (table_of types st).serial (content st.puddles m p f v) ≡ true → value_of (table_of types st).serial (content st.puddles m p f v) ≡ x
    → graph_of types (with_field_word p f v st) ≡ Some (with_field s f x g)
graph_of-field types st g s p m f v x is field stand value =
    let t = table_of types st in
    let there = place_of_serial-some t (places_of st) s p field.place in
    let word : place_begins st p + SLOT_FIELDS_WORD + f ≡ place_begins st p + (SLOT_FIELDS_WORD + f) = omega arith in
    ap (λ k. graph_of types (with_words (with_word (ordinal_of p) k v st.word) st)) word
    ∙ field_after types st p m f v field.below field.defined (record { within = there.within; is = refl; used = there.used }) g x (graph_of-each types st g is) stand value
    ∙ ap (λ k. Some (with_field k f x g)) there.is

-- ---- the three kinds of words

content_number : (puddles : List Puddle) (m p f v : ℕ) → is_pointer m f ≡ false → content puddles m p f v ≡ Number v
content_number puddles m p f v number = cond-false _ _ _ number

content_pointer : (puddles : List Puddle) (m p f v : ℕ) → is_pointer m f ≡ true → content puddles m p f v ≡ pointee_at puddles (ordinal_of p) (slot_of p + 1) v
content_pointer puddles m p f v pointer = cond-true _ _ _ pointer

pub graph_of-number : (types : List (ℕ × ℕ)) (st : Stored) (g : Graph) (s p m f v : ℕ) → graph_of types st ≡ Some g → IsField types st s p m f → is_pointer m f ≡ false
    → graph_of types (with_field_word p f v st) ≡ Some (with_field s f (Num v) g)
graph_of-number types st g s p m f v is field number =
    let serial = (table_of types st).serial in
    let content = content_number st.puddles m p f v number in
    graph_of-field types st g s p m f v (Num v) is field (ap (stands serial) content) (ap (value_of serial) content)

pub graph_of-null : (types : List (ℕ × ℕ)) (st : Stored) (g : Graph) (s p m f : ℕ) → graph_of types st ≡ Some g → IsField types st s p m f → is_pointer m f ≡ true
    → graph_of types (with_field_word p f 0 st) ≡ Some (with_field s f (Ref 0) g)
graph_of-null types st g s p m f is field pointer =
    let serial = (table_of types st).serial in
    let content = content_pointer st.puddles m p f 0 pointer ∙ pointee_at-null st.puddles (ordinal_of p) (slot_of p + 1) 0 refl in
    graph_of-field types st g s p m f 0 (Ref 0) is field (ap (stands serial) content) (ap (value_of serial) content)

pub graph_of-reference : (types : List (ℕ × ℕ)) (st : Stored) (g : Graph) (s p m f v r q : ℕ) → graph_of types st ≡ Some g → IsField types st s p m f → is_pointer m f ≡ true
    → place_of_serial r (table_of types st) (places_of st) ≡ Some q → IsAddress st.puddles (ordinal_of p) (slot_of p + 1) q v
    → graph_of types (with_field_word p f v st) ≡ Some (with_field s f (Ref r) g)
graph_of-reference types st g s p m f v r q is field pointer named address =
    let t = table_of types st in
    let target = place_of_serial-some t (places_of st) r q named in
    let content = content_pointer st.puddles m p f v pointer ∙ pointee_at-address st.puddles (ordinal_of p) (slot_of p + 1) q v address in
    graph_of-field types st g s p m f v (Ref r) is field
    (ap (stands t.serial) content ∙ ap not (ne_eqb (t.serial q) 0 target.used))
    (ap (value_of t.serial) content ∙ ap (λ k. Ref k) target.is)
