-- In an export each word that is not read is 0.
use Rattle.std.proofs.Common.{◌≡◌, ℕ, ◌+◌, ◌-◌, ◌<◌, ◌≤◌, true, false, not, eqb, ltb, List, [], ◌∷◌, ◌++◌, map, length, replicate, slice_index, Some, sym, ap, ◌∙◌, ⊎_elim, arith, eq-eqb, ne_eqb}
use Rattle.std.specs.Prelude.{slice_get}
use Rattle.std.proofs.lemmas.Bool.{cases_eq, cases_Bool, cond-false, and_from, or_left, or_right}
use Rattle.pud_defs.specs.Formats.Geometry.{class_slots, class_slot_words, slot_of}
use Rattle.std.proofs.lemmas.List.{get_or-append-add, length-map}
use Rattle.pud_defs.specs.declared.space.TheConstants.{FRAME_MAGIC, FRAME_HEADER_WORDS, NEXT_SERIAL_WORD, ROOT_WORD, SLOT_SERIAL_WORD, SLOT_FIELDS_WORD}
use Rattle.pud_defs.specs.RegistryTables.Types.{map_of}
use Rattle.pud_defs.specs.PoolGraphs.Stored.{Stored, places_of, class_at, is_slot, place_words, place_word, place_serial}
use Rattle.pud_defs.specs.PoolGraphs.Graph.{field_count, fitting, place_map, Graph, next_serial_of, root_of, graph_of}
use Rattle.pud_defs.specs.PoolGraphs.ExportFile.{types_used, is_zero, header_words_read, object_words_read, slot_words_read, is_plain_place, is_plain}
use Rattle.pud_defs.specs.PoolGraphs.Exported.{address_of, uuid_number_of, for_pool, exported_object, exported_header}
use Rattle.pud_defs.proofs.RegistryTables.Spaces.{all_below-from}
use Rattle.pud_defs.proofs.PoolGraphs.Graphs.{graph_of-each}
use Rattle.graph_laws.specs.Changes.{AreBases}
use Rattle.graph_laws.proofs.Exporting.Chunks.{zeroes}
use Rattle.graph_laws.proofs.Exporting.Pieces.{at_rest, IsExported, slot-free, slot-live, object_rest}
use Rattle.graph_laws.proofs.Exporting.Moved.{map_there, class-moved, serial-moved, type-moved}
use Rattle.graph_laws.proofs.SameReads.Words.{live_in_slot}
use Rattle.graph_laws.proofs.SameReads.UsedTypes.{map_of-live}

pub is_zero-from : (word : ℕ → ℕ) (from end : ℕ) → ((k : ℕ) → from ≤ k → k < end → word k ≡ 0) → is_zero word from end ≡ true
is_zero-from word from end each = all_below-from (end - from) (λ i. eqb (word (from + i)) 0) (λ i below. eq-eqb _ 0 (each (from + i) (omega arith) (omega arith)))

-- ---- headers

for_pool-other : (o v : ℕ) → (o ≡ 0 → ⊥) → for_pool o v ≡ 0
for_pool-other o v other = cond-false _ _ _ (ne_eqb o 0 other)

module _ (st : Stored) (o : ℕ) where
  -- The words of a header are 0 after those that some ordinal has.
  header_after : (k : ℕ) → header_words_read 0 ≤ k → slice_index (exported_header st o) k ≡ 0
  unfolding exported_header
  header_after k high =
      let front : List ℕ = FRAME_MAGIC ∷ uuid_number_of (slice_get st.puddles o) ∷ o ∷ for_pool o (next_serial_of st) ∷ for_pool o (address_of st.puddles (root_of st)) ∷ [] in
      let rest : List ℕ = replicate (FRAME_HEADER_WORDS - 5) 0 in
      let at : k ≡ length front + (k - 5) = omega arith in
      ap (slice_index (front ++ rest)) at ∙ get_or-append-add front rest (k - 5) 0 ∙ zeroes (FRAME_HEADER_WORDS - 5) (k - 5)

  header_other : (k : ℕ) → (o ≡ 0 → ⊥) → header_words_read o ≤ k → slice_index (exported_header st o) k ≡ 0
  unfolding exported_header
  header_other k other high =
      let least : header_words_read o ≡ header_words_read 1 = cond-false (eqb o 0) (header_words_read 0) (header_words_read 1) (ne_eqb o 0 other) in
      ⊎_elim
      (λ next. ap (slice_index (exported_header st o)) next ∙ for_pool-other o (next_serial_of st) other)
      (λ later. ⊎_elim
      (λ root. ap (slice_index (exported_header st o)) root ∙ for_pool-other o (address_of st.puddles (root_of st)) other)
      (λ following. header_after k (omega arith))
      (cases_eq k ROOT_WORD))
      (cases_eq k NEXT_SERIAL_WORD)

  header_rest : (k : ℕ) → header_words_read o ≤ k → slice_index (exported_header st o) k ≡ 0
  header_rest k high = ⊎_elim
      (λ first. let most : header_words_read o ≡ header_words_read 0 = ap header_words_read first in header_after k (omega arith))
      (λ other. header_other k other high)
      (cases_eq o 0)

-- ---- slots

module _ (types : List (ℕ × ℕ)) (st later : Stored) (bases : AreBases (map (λ d. d.base) st.puddles)) (some : 1 ≤ length st.puddles) (exported : IsExported types st later) (g : Graph) (is : graph_of types st ≡ Some g) where
  abbrev used : List (ℕ × ℕ)
  used = types_used types g

  slot_rest : (p j : ℕ) → p < places_of st → is_slot st p ≡ true → slot_words_read used later p ≤ j → j < place_words st p → place_word later p j ≡ 0
  slot_rest p j within slot high low = ⊎_elim
      (λ free. exported.slots p j within slot low ∙ ap (λ words. slice_index words j) (slot-free types st p free) ∙ zeroes (place_words st p) j)
      (λ live.
      let stored = graph_of-each types st g is in
      let m = map_there types st later bases some exported g stored p within live in
      let serial = serial-moved types st later bases some exported g stored p within in
      let type = type-moved types st later bases some exported g stored p within live in
      let count : slot_words_read used later p ≡ SLOT_FIELDS_WORD + field_count m.0 =
      cond-false _ _ _ (ne_eqb (place_serial later p) 0 (λ e. live (sym serial ∙ e)))
      ∙ ap object_words_read ((λ i. fitting (class-moved types st later bases some exported g stored p i) (map_of (type i) used)) ∙ ap (fitting (class_at st p)) (map_of-live types g st p is within live) ∙ m.1) in
      exported.slots p j within slot low
      ∙ ap (λ words. slice_index words j) (slot-live types st p live ∙ ap (exported_object st p) m.1)
      ∙ object_rest types st p m.0 j (omega arith))
      (cases_eq (place_serial st p) 0)

  plain_place : (p : ℕ) → p < places_of st → is_plain_place used later p ≡ true
  plain_place p within =
      let stored = graph_of-each types st g is in
      let class = class-moved types st later bases some exported g stored p in
      let same : is_slot later p ≡ is_slot st p = ap (λ (c : ℕ). ltb (slot_of p) (class_slots c)) class in
      let words : place_words later p ≡ place_words st p = ap class_slot_words class in
      ⊎_elim
      (λ slot. or_right (not (is_slot later p)) _ (is_zero-from (place_word later p) (slot_words_read used later p) (place_words later p) (λ j high low. slot_rest p j within slot high (omega arith))))
      (λ none. or_left (not (is_slot later p)) _ (ap not (same ∙ none)))
      (cases_Bool (is_slot st p))

  pub is_plain-exported : is_plain used later ≡ true
  unfolding is_plain
  is_plain-exported =
      let puddles : length later.puddles ≡ length st.puddles = ap length exported.puddles ∙ length-map st.puddles at_rest in
      and_from _ _
      (all_below-from (length later.puddles) (λ o. is_zero (later.word o) (header_words_read o) FRAME_HEADER_WORDS)
      (λ o below. is_zero-from (later.word o) (header_words_read o) FRAME_HEADER_WORDS (λ k high low. exported.headers o k (omega arith) low ∙ header_rest st o k high)))
      (all_below-from (places_of later) (is_plain_place used later) (λ p below. plain_place p (omega arith)))
