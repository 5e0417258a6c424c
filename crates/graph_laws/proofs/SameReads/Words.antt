-- What is read of a pool with other words: its headers, its table of slots, and its graph.
use Rattle.std.proofs.Common.{◌≡◌, ℕ, ◌+◌, ◌<◌, ◌≤◌, true, leb, List, map, length, Option, Some, None, nat_cmp, refl, sym, ap, ap₂, subst, ◌∙◌, ⊎_elim, arith, eq-eqb, ne_eqb}
use Rattle.std.specs.Prelude.{slice_get}
use Rattle.std.specs.List.{range_with_len}
use Rattle.std.proofs.lemmas.Bool.{cases_eq, cases_Bool, cond-true, cond-false, cond_both, and_left, and_right, and_from, leb-true, ltb-true, eqb-true}
use Rattle.std.proofs.lemmas.List.{same_lists}
use Rattle.std.proofs.lemmas.List.FromFn.{get_or-map-range_with_len, length-map-range_with_len}
use Rattle.std.proofs.lemmas.Option.{none-some, cond_some}
use Rattle.pud_defs.specs.declared.layout.TheConstants.{FRAME_WORDS, MAX_FIELDS}
use Rattle.pud_defs.specs.declared.space.TheConstants.{FRAME_HEADER_WORDS, SLOT_SERIAL_WORD, SLOT_FIELDS_WORD, NEXT_SERIAL_WORD, ROOT_WORD}
use Rattle.pud_defs.specs.declared.records.Puddle.{Puddle}
use Rattle.pud_defs.specs.Formats.TypeMap.{map_fields}
use Rattle.pud_defs.specs.Formats.Geometry.{class_slots, class_slot_words, class_slot_at, ordinal_of, slot_of}
use Rattle.pud_defs.specs.RegistryTables.Types.{map_of}
use Rattle.pud_defs.specs.RegistryTables.Keyed.{under}
use Rattle.pud_defs.specs.Formats.Headers.{is_header}
use Rattle.pud_defs.proofs.Formats.Geometry.{some_words, slot_low, slot_end, same_slot}
use Rattle.pud_defs.specs.PoolGraphs.Stored.{Stored, places_of, class_of, class_at, is_slot, place_word, place_serial, place_begins, place_words}
use Rattle.pud_defs.specs.PoolGraphs.Graph.{Content, Table, table_of, slot_contents, content, field_count, fits_class, fitting, place_map, pointee_at, serial_and_place, place_of_serial, has_header, headers_fit, Graph, graph_by, graph_of}
use Rattle.pud_defs.proofs.RegistryTables.Spaces.{all_below-same}
use Rattle.pud_defs.proofs.RegistryTables.TypeLists.{same_test}
use Rattle.pud_defs.proofs.KeyedTables.Keyed.{first_from_some}
use Rattle.pud_defs.proofs.PoolGraphs.Graphs.{under_serial-free, under_serial-used, IsGraph, graph_of-from}
use Rattle.graph_laws.specs.Changes.{with_word, with_words, with_slot_word}
use Rattle.graph_laws.proofs.ObjectChanges.TableChanges.{IsSameBut}

-- ---- the words of a slot

-- A slot begins after the header.
pub begins_low : (st : Stored) (p : ℕ) → FRAME_HEADER_WORDS ≤ place_begins st p
begins_low st p = slot_low (class_at st p) (slot_of p)

-- The words of a slot lie within the frame.
pub word_within : (st : Stored) (p j : ℕ) → is_slot st p ≡ true → j < place_words st p → place_begins st p + j < FRAME_WORDS
word_within st p j slot low = let end = slot_end (class_at st p) (slot_of p) (ltb-true (slot_of p) (class_slots (class_at st p)) slot) in omega arith

fitting_room : (class : ℕ) (o : Option ℕ) (m : ℕ) → fitting class o ≡ Some m → SLOT_FIELDS_WORD + field_count m ≤ class_slot_words class
fitting_room class None m is = absurd (none-some m is)
fitting_room class (Some x) m is =
    let found = cond_some (fits_class class x) x m is in
    subst (λ (y : ℕ). SLOT_FIELDS_WORD + field_count y ≤ class_slot_words class) found.1 (leb-true (SLOT_FIELDS_WORD + field_count x) (class_slot_words class) found.0)

-- If a place has the map of its type, the slot has room for the fields.
pub room_of_map : (types : List (ℕ × ℕ)) (st : Stored) (p m : ℕ) → place_map types st p ≡ Some m → SLOT_FIELDS_WORD + field_count m ≤ place_words st p
room_of_map types st p m is = fitting_room (class_at st p) _ m is

-- ---- serials

pub serial_there : (st : Stored) (p : ℕ) → is_slot st p ≡ true → place_serial st p ≡ place_word st p SLOT_SERIAL_WORD
serial_there st p slot = cond-true _ _ _ slot

-- A live place is a slot.
pub live_in_slot : (st : Stored) (p : ℕ) → (place_serial st p ≡ 0 → ⊥) → is_slot st p ≡ true
live_in_slot st p used = ⊎_elim (λ slot. slot) (λ none. absurd (used (cond-false _ _ _ none))) (cases_Bool (is_slot st p))

-- With other words the serial of a place is the same if the word of its slot is.
pub serial-same : (st : Stored) (later : ℕ → ℕ → ℕ) (p : ℕ) → (is_slot st p ≡ true → place_word (with_words later st) p SLOT_SERIAL_WORD ≡ place_word st p SLOT_SERIAL_WORD)
    → place_serial (with_words later st) p ≡ place_serial st p
serial-same st later p same = ⊎_elim
    (λ slot. cond-true _ _ _ slot ∙ same slot ∙ sym (cond-true _ _ _ slot))
    (λ none. cond-false _ _ _ none ∙ sym (cond-false _ _ _ none))
    (cases_Bool (is_slot st p))

-- ---- one word

pub with_word-there : (o k v : ℕ) (word : ℕ → ℕ → ℕ) → with_word o k v word o k ≡ v
with_word-there o k v word = cond-true _ _ _ (and_from _ _ (eq-eqb o o refl) (eq-eqb k k refl))

pub with_word-other : (o k v : ℕ) (word : ℕ → ℕ → ℕ) (other at : ℕ) → (other ≡ o → at ≡ k → ⊥) → with_word o k v word other at ≡ word other at
with_word-other o k v word other at apart = ⊎_elim
    (λ same. cond-false _ _ _ (and_right _ _ (ne_eqb at k (apart same))))
    (λ differs. cond-false _ _ _ (and_left _ _ (ne_eqb other o differs)))
    (cases_eq other o)

-- ---- one word of a slot

module _ (p j v : ℕ) (st : Stored) (few : j < place_words st p) where
  abbrev slot_written : Stored
  slot_written = with_slot_word p j v st

  -- no word of a header changes
  pub slot_word-header : (o k : ℕ) → k < FRAME_HEADER_WORDS → slot_written.word o k ≡ st.word o k
  slot_word-header o k low = with_word-other _ _ v st.word o k (λ same at. absurd (let above = begins_low st p in omega arith))

  pub slot_word-there : place_word slot_written p j ≡ v
  slot_word-there = with_word-there (ordinal_of p) (place_begins st p + j) v st.word

  pub slot_word-other : (q k : ℕ) → k < place_words st q → (q ≡ p → k ≡ j → ⊥) → place_word slot_written q k ≡ place_word st q k
  slot_word-other q k low apart =
      with_word-other _ _ v st.word (ordinal_of q) (place_begins st q + k)
      (λ same at.
      let class : class_at st q ≡ class_at st p = ap (λ (o : ℕ). class_of (slice_get st.puddles o)) same in
      let fits : k < class_slot_words (class_at st p) = subst (λ (c : ℕ). k < class_slot_words c) class low in
      let one : class_slot_at (class_at st p) (slot_of q) + k ≡ class_slot_at (class_at st p) (slot_of p) + j = sym (ap (λ (c : ℕ). class_slot_at c (slot_of q) + k) class) ∙ at in
      let slot : slot_of q ≡ slot_of p = same_slot (class_at st p) (slot_of q) (slot_of p) k j fits few one in
      let word : class_slot_at (class_at st p) (slot_of q) ≡ class_slot_at (class_at st p) (slot_of p) = ap (class_slot_at (class_at st p)) slot in
      let here : q ≡ p = omega arith in
      let there : k ≡ j = omega arith in
      apart here there)

-- ---- headers

pub has_header-same : (ordinal : ℕ) (f g : ℕ → ℕ) (p : Option Puddle) → f 0 ≡ g 0 → f 1 ≡ g 1 → f 2 ≡ g 2 → has_header ordinal f p ≡ has_header ordinal g p
has_header-same ordinal f g None magic number place = refl
has_header-same ordinal f g (Some p) magic number place = λ i. is_header p.number ordinal (magic i) (number i) (place i)

pub headers_fit-same : (st : Stored) (later : ℕ → ℕ → ℕ) → ((o k : ℕ) → o < length st.puddles → k < 3 → later o k ≡ st.word o k) → headers_fit (with_words later st) ≡ headers_fit st
unfolding headers_fit
headers_fit-same st later same =
    all_below-same (length st.puddles) (λ o. has_header o (later o) (slice_get st.puddles o)) (λ o. has_header o (st.word o) (slice_get st.puddles o))
    (λ o below. has_header-same o (later o) (st.word o) (slice_get st.puddles o) (same o 0 below (omega arith)) (same o 1 below (omega arith)) (same o 2 below (omega arith)))

-- ---- fields

pub few_fields : (m : ℕ) → field_count m ≤ MAX_FIELDS
few_fields m = cond_both (leb (map_fields m) MAX_FIELDS) (map_fields m) MAX_FIELDS (λ n. n ≤ MAX_FIELDS) (λ few. leb-true _ _ few) (λ many. let all : MAX_FIELDS ≤ MAX_FIELDS = omega arith in all)

pub map-range_same : {X : Type 0} (f g : ℕ → X) (n : ℕ) → ((k : ℕ) → k < n → f k ≡ g k) → map f (range_with_len 0 n) ≡ map g (range_with_len 0 n)
map-range_same f g n same = same_lists _ _
    (length-map-range_with_len f 0 n ∙ sym (length-map-range_with_len g 0 n))
    (λ k d below.
    let within : k < n = omega (arith, length-map-range_with_len f 0 n) in
    get_or-map-range_with_len f 0 n k k d within (omega arith) ∙ same k within ∙ sym (get_or-map-range_with_len g 0 n k k d within (omega arith)))

-- If each field stands for the same, the contents are the same.
pub slot_contents-each : (st later : Stored) (p : ℕ) (type : Option ℕ)
    → ((m f : ℕ) → type ≡ Some m → f < field_count m
    → content later.puddles m p f (place_word later p (SLOT_FIELDS_WORD + f)) ≡ content st.puddles m p f (place_word st p (SLOT_FIELDS_WORD + f)))
    → slot_contents later p type ≡ slot_contents st p type
slot_contents-each st later p None same = refl
slot_contents-each st later p (Some m) same =
    ap (λ (cs : List Content). Some cs)
    (map-range_same (λ f. content later.puddles m p f (place_word later p (SLOT_FIELDS_WORD + f))) (λ f. content st.puddles m p f (place_word st p (SLOT_FIELDS_WORD + f))) (field_count m)
    (λ f below. same m f refl below))

-- If the words of the fields are the same, the contents are the same.
pub slot_contents-same : (st : Stored) (later : ℕ → ℕ → ℕ) (p : ℕ) (type : Option ℕ)
    → ((m f : ℕ) → type ≡ Some m → f < field_count m → place_word (with_words later st) p (SLOT_FIELDS_WORD + f) ≡ place_word st p (SLOT_FIELDS_WORD + f))
    → slot_contents (with_words later st) p type ≡ slot_contents st p type
slot_contents-same st later p type same = slot_contents-each st (with_words later st) p type (λ m f is below. ap (content st.puddles m p f) (same m f is below))

-- ---- the table

-- Only the words of one place may differ.
pub record KeepsOthers (st : Stored) (later : ℕ → ℕ → ℕ) (p : ℕ) : Type 0 where
  pub each : (q k : ℕ) → (q ≡ p → ⊥) → k < place_words st q → place_word (with_words later st) q k ≡ place_word st q k

pub slot_word-others : (p j v : ℕ) (st : Stored) → j < place_words st p → KeepsOthers st (with_word (ordinal_of p) (place_begins st p + j) v st.word) p
slot_word-others p j v st few = record { each = λ q k other low. slot_word-other p j v st few q k low (λ same at. other same) }

pub same_but : (types : List (ℕ × ℕ)) (st : Stored) (later : ℕ → ℕ → ℕ) (p : ℕ) → p < places_of st → KeepsOthers st later p → IsSameBut (table_of types st) (table_of types (with_words later st)) (places_of st) p
same_but types st later p within h = record {
  within = within;
  serial = λ q other. serial-same st later q (λ slot. let some = some_words (class_at st q) in h.each q 0 other (omega arith));
  class = λ q below other used. refl;
  type_id = λ q below other used. let some = some_words (class_at st q) in h.each q 1 other (omega arith);
  contents = λ q below other used.
      let some = some_words (class_at st q) in
      ap (λ (k : ℕ). slot_contents (with_words later st) q (fitting (class_at st q) (map_of k types))) (h.each q 1 other (omega arith))
      ∙ slot_contents-same st later q (place_map types st q) (λ m f is few. let room = room_of_map types st q m is in h.each q (SLOT_FIELDS_WORD + f) other (omega arith));
}

-- ---- a live place

-- The place is that of the object of serial s.
pub record IsLive (t : Table) (n s p : ℕ) : Type 0 where
  pub within : p < n
  pub is : t.serial p ≡ s
  pub used : t.serial p ≡ 0 → ⊥

there_is : (t : Table) (n s p i : ℕ) → i < n → under nat_cmp s (serial_and_place t i) ≡ Some p → IsLive t n s p
there_is t n s p i within here = ⊎_elim
    (λ free. absurd (none-some p (sym (ap (under nat_cmp s) (under_serial-free t.serial (λ (q : ℕ). q) i free)) ∙ here)))
    (λ used.
    let found = cond_some _ i p (sym (ap (under nat_cmp s) (under_serial-used t.serial (λ (q : ℕ). q) i used)) ∙ here) in
    subst (λ q. IsLive t n s q) found.1 (record { within = within; is = sym (eqb-true s (t.serial i) (sym (same_test s (t.serial i)) ∙ found.0)); used = used }))
    (cases_eq (t.serial i) 0)

pub place_of_serial-some : (t : Table) (n s p : ℕ) → place_of_serial s t n ≡ Some p → IsLive t n s p
place_of_serial-some t n s p found = let first = first_from_some nat_cmp s (serial_and_place t) 0 n p found in let high = first.1.high in there_is t n s p first.0 (omega arith) first.1.here

-- ---- the graph

-- With other words the pool has a graph, which its next serial and what its root stands for tell.
pub graph_of-words : (types : List (ℕ × ℕ)) (st : Stored) (later : ℕ → ℕ → ℕ) (next : ℕ) (top : Content) (g : Graph)
    → headers_fit st ≡ true → ((o k : ℕ) → o < length st.puddles → k < 3 → later o k ≡ st.word o k)
    → later 0 NEXT_SERIAL_WORD ≡ next → pointee_at st.puddles 0 0 (later 0 ROOT_WORD) ≡ top
    → IsGraph next top (table_of types (with_words later st)) (places_of st) → graph_by next top (table_of types (with_words later st)) (places_of st) ≡ g
    → graph_of types (with_words later st) ≡ Some g
graph_of-words types st later next top g headers same is_next is_top graph is =
    let u = table_of types (with_words later st) in
    let n = places_of st in
    graph_of-from types (with_words later st) g (record {
      headers = headers_fit-same st later same ∙ headers;
      graph = subst (λ (k : ℕ). IsGraph k (pointee_at st.puddles 0 0 (later 0 ROOT_WORD)) u n) (sym is_next) (subst (λ (c : Content). IsGraph next c u n) (sym is_top) graph);
      is = ap₂ (λ (k : ℕ) (c : Content). graph_by k c u n) is_next is_top ∙ is;
    })
