-- If words are the same wherever they are read, they stand for the same. A word that is not read changes nothing.
use Rattle.std.proofs.Common.{◌≡◌, ℕ, ◌+◌, ◌<◌, ◌≤◌, List, Some, refl, sym, ap, ◌∙◌, arith}
use Rattle.std.proofs.lemmas.Option.{same_Some}
use Rattle.pud_defs.specs.declared.space.TheConstants.{FRAME_HEADER_WORDS, FRAME_ORDINAL_WORD, ROOT_WORD, SLOT_SERIAL_WORD, SLOT_TYPE_WORD, SLOT_FIELDS_WORD}
use Rattle.pud_defs.specs.Formats.Geometry.{ordinal_of}
use Rattle.pud_defs.specs.RegistryTables.Types.{map_of}
use Rattle.pud_defs.specs.PoolGraphs.Stored.{Stored, places_of, class_at, place_serial, place_begins, place_words, IsFreePlace, IsLivePlace}
use Rattle.pud_defs.specs.PoolGraphs.Graph.{slot_contents, field_count, fitting, place_map, pointee_at, graph_of}
use Rattle.graph_laws.specs.Changes.{with_word, with_words, with_slot_word}
use Rattle.graph_laws.specs.Reads.{ReadsSame}
use Rattle.graph_laws.proofs.SameReads.Words.{begins_low, room_of_map, serial-same, with_word-other, slot_word-header, slot_word-other, headers_fit-same, slot_contents-same}
use Rattle.pud_defs.proofs.Formats.Geometry.{some_words}
use Rattle.graph_laws.proofs.SameReads.Same.{StandsSame, graph_of-same}

pub stands_same : (types : List (ℕ × ℕ)) (st : Stored) (word : ℕ → ℕ → ℕ) → ReadsSame types st word → StandsSame types st (with_words word st)
stands_same types st word h = record {
  puddles = refl;
  headers = headers_fit-same st word (λ o k low few. h.headers o k low (omega arith));
  next = h.next;
  root = ap (pointee_at st.puddles 0 0) h.root;
  classes = λ p. refl;
  serials = h.slots.serials;
  type_ids = h.slots.type_ids;
  contents = λ p below used.
      ap (λ (k : ℕ). slot_contents (with_words word st) p (fitting (class_at st p) (map_of k types))) (h.slots.type_ids p below used)
      ∙ slot_contents-same st word p (place_map types st p) (λ m f is low. h.slots.fields p m f below used is low);
}

pub graph_of-read : (types : List (ℕ × ℕ)) (st : Stored) (word : ℕ → ℕ → ℕ) → ReadsSame types st word → graph_of types (with_words word st) ≡ graph_of types st
graph_of-read types st word h = graph_of-same types st (with_words word st) (stands_same types st word h)

-- ---- one word

-- A word of a frame's header that is not read does not change the graph.
pub graph_of-header : (types : List (ℕ × ℕ)) (st : Stored) (o k v : ℕ) → FRAME_ORDINAL_WORD < k → k < FRAME_HEADER_WORDS → (o ≡ 0 → ROOT_WORD < k) → graph_of types (with_words (with_word o k v st.word) st) ≡ graph_of types st
graph_of-header types st o k v low high behind =
    let slot = λ (p j : ℕ). with_word-other o k v st.word (ordinal_of p) (place_begins st p + j) (λ same at. absurd (let above = begins_low st p in omega arith)) in
    graph_of-read types st (with_word o k v st.word) (record {
      headers = λ other j within few. with_word-other o k v st.word other j (λ same at. absurd (omega arith));
      next = with_word-other o k v st.word 0 3 (λ same at. let above = behind (sym same) in absurd (omega arith));
      root = with_word-other o k v st.word 0 4 (λ same at. let above = behind (sym same) in absurd (omega arith));
      slots = record { serials = λ p below. serial-same st (with_word o k v st.word) p (λ there. slot p 0); type_ids = λ p below used. slot p 1; fields = λ p m f below used is few. slot p (2 + f) };
    })

-- A word of a slot does not change the graph if it is not read: the place is free, or the word comes after the fields.
unread_slot : (types : List (ℕ × ℕ)) (st : Stored) (p j v : ℕ) → 0 < j → j < place_words st p
    → (p < places_of st → IsLivePlace st p → j ≡ SLOT_TYPE_WORD → ⊥)
    → ((m f : ℕ) → IsLivePlace st p → place_map types st p ≡ Some m → f < field_count m → j ≡ SLOT_FIELDS_WORD + f → ⊥)
    → graph_of types (with_slot_word p j v st) ≡ graph_of types st
unread_slot types st p j v low high no_type no_field =
    let word = with_word (ordinal_of p) (place_begins st p + j) v st.word in
    let header = slot_word-header p j v st high in
    let slot = slot_word-other p j v st high in
    graph_of-read types st word (record {
      headers = λ o k within few. header o k (omega arith);
      next = header 0 3 (omega arith);
      root = header 0 4 (omega arith);
      slots = record {
        serials = λ q below. serial-same st word q (λ there. let some = some_words (class_at st q) in slot q 0 (omega arith) (λ here at. absurd (omega arith)));
        type_ids = λ q below used. let some = some_words (class_at st q) in slot q 1 (omega arith) (λ here at. no_type (omega arith) (λ free. used (ap (place_serial st) here ∙ free)) (sym at));
        fields = λ q m f below used is few.
            let room = room_of_map types st q m is in
            slot q (2 + f) (omega arith) (λ here at. no_field m f (λ free. used (ap (place_serial st) here ∙ free)) (ap (place_map types st) (sym here) ∙ is) few (sym at));
      };
    })

-- A word of a free slot, other than the serial, does not change the graph.
pub graph_of-free_word : (types : List (ℕ × ℕ)) (st : Stored) (p j v : ℕ) → IsFreePlace st p → SLOT_SERIAL_WORD < j → j < place_words st p → graph_of types (with_slot_word p j v st) ≡ graph_of types st
graph_of-free_word types st p j v free low high = unread_slot types st p j v low high (λ within used at. used free) (λ m f used is few at. used free)

-- A word of a slot that comes after its fields does not change the graph.
pub graph_of-after : (types : List (ℕ × ℕ)) (st : Stored) (p m j v : ℕ) → place_map types st p ≡ Some m → SLOT_FIELDS_WORD + field_count m ≤ j → j < place_words st p → graph_of types (with_slot_word p j v st) ≡ graph_of types st
graph_of-after types st p m j v defined behind high =
    unread_slot types st p j v (omega arith) high (λ within used at. absurd (omega arith))
    (λ other f used is few at. let same : field_count other ≡ field_count m = ap field_count (same_Some other m (sym is ∙ defined)) in absurd (omega arith))
