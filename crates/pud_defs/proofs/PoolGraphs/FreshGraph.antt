-- A pool of one fresh puddle has the graph in which nothing has been made yet.
use Rattle.std.proofs.Common.{◌≡◌, ℕ, ◌+◌, ◌-◌, ◌<◌, ◌≤◌, true, List, [], ◌∷◌, Some, None, nat_cmp, replicate, refl, sym, ap, ◌∙◌, arith, eq-eqb}
use Rattle.std.specs.Prelude.{slice_index}
use Rattle.std.proofs.lemmas.Bool.{and_from, cond_both, ltb-true}
use Rattle.std.proofs.lemmas.List.{get_or_append_left, get_or-append_right, get_or-replicate}
use Rattle.std.proofs.lemmas.Option.{none-some}
use Rattle.pud_defs.specs.declared.layout.TheConstants.{FRAME_WORDS}
use Rattle.pud_defs.specs.declared.space.TheConstants.{NEXT_SERIAL_WORD, ROOT_WORD}
use Rattle.pud_defs.specs.declared.records.Puddle.{Puddle}
use Rattle.pud_defs.specs.Formats.Geometry.{ordinal_of, slot_of, places_among}
use Rattle.pud_defs.proofs.Formats.Geometry.{slot_low, some_words, slot_end}
use Rattle.pud_defs.specs.RegistryTables.Spaces.{all_below}
use Rattle.pud_defs.specs.Formats.Frames.{fresh_header, fresh_frame}
use Rattle.pud_defs.specs.PoolGraphs.Stored.{Stored, class_at, is_slot, place_word, place_serial, place_begins}
use Rattle.pud_defs.specs.PoolGraphs.Graph.{Null, table_of, object_at, live, named_by, stands, is_next_serial, headers_fit, root_of, graph_stored, graph_of, empty_graph}
use Rattle.pud_defs.proofs.KeyedTables.Keyed.{keyed-none}
use Rattle.pud_defs.proofs.PoolGraphs.Contents.{target-null}
use Rattle.pud_defs.proofs.PoolGraphs.Graphs.{IsGraph, under_serial-free, graph_of-from}

-- ---- the words of a fresh frame

-- after the header they are 0
pub fresh_word : (number ordinal k : ℕ) → 4 ≤ k → k < FRAME_WORDS → slice_index (fresh_frame number ordinal) k ≡ 0
unfolding fresh_frame
fresh_word number ordinal k low high =
    get_or-append_right (fresh_header number ordinal) (replicate (FRAME_WORDS - 4) 0) 4 k 0 refl low ∙ get_or-replicate (FRAME_WORDS - 4) (k - 4) 0 0 (omega arith)

-- before that they are the words of the header
pub fresh_header_words : (number ordinal k : ℕ) → k < 4 → slice_index (fresh_frame number ordinal) k ≡ slice_index (fresh_header number ordinal) k
unfolding fresh_frame
fresh_header_words number ordinal k below = get_or_append_left (fresh_header number ordinal) (replicate (FRAME_WORDS - 4) 0) 0 k below

-- ---- the graph

module _ (types : List (ℕ × ℕ)) (p : Puddle) (word : ℕ → ℕ → ℕ) (fresh : (k : ℕ) → k < FRAME_WORDS → word 0 k ≡ slice_index (fresh_frame p.number 0) k) where
  abbrev alone : Stored
  alone = record { puddles = p ∷ []; word = word }

  header_word : (k : ℕ) → k < 4 → word 0 k ≡ slice_index (fresh_header p.number 0) k
  header_word k below = fresh k (omega arith) ∙ fresh_header_words p.number 0 k below

  headers : headers_fit alone ≡ true
  unfolding headers_fit all_below
  headers =
      and_from _ _ (and_from _ _ (eq-eqb _ _ (header_word 0 (omega arith))) (eq-eqb _ _ (header_word 1 (omega arith)))) (eq-eqb _ _ (header_word 2 (omega arith)))

  first_next : word 0 NEXT_SERIAL_WORD ≡ 1
  first_next = header_word 3 (omega arith)

  no_root : root_of alone ≡ Null
  no_root = target-null _ _ (fresh ROOT_WORD (omega arith) ∙ fresh_word p.number 0 ROOT_WORD (omega arith) (omega arith))

  free_serial : (q : ℕ) → q < places_among 1 → place_serial alone q ≡ 0
  free_serial q below = cond_both (is_slot alone q) (place_word alone q 0) 0 (λ v. v ≡ 0)
      (λ there.
      let ordinal : ordinal_of q ≡ 0 = omega arith in
      let k = place_begins alone q + 0 in
      let low = slot_low (class_at alone q) (slot_of q) in
      let some = some_words (class_at alone q) in
      let high = slot_end (class_at alone q) (slot_of q) (ltb-true _ _ there) in
      ap (λ o. word o k) ordinal ∙ fresh k (omega arith) ∙ fresh_word p.number 0 k (omega arith) (omega arith))
      (λ none. refl)

  free_place : (q : ℕ) → q < places_among 1 → live (table_of types alone) q ≡ None
  free_place q below = let t = table_of types alone in under_serial-free t.serial (object_at t) q (free_serial q below)

  is_graph : IsGraph (word 0 NEXT_SERIAL_WORD) (root_of alone) (table_of types alone) (places_among 1)
  is_graph = record {
    legal = ap is_next_serial first_next;
    top_stands = ap (stands (table_of types alone).serial) no_root;
    distinct = record { apart = λ i j low less high e is. absurd (none-some e (sym (under_serial-free (table_of types alone).serial (λ (q : ℕ). q) i (free_serial i (omega arith))) ∙ is)) };
    sound = λ q below used. absurd (used (free_serial q below));
  }

  nothing_made : graph_stored types alone ≡ empty_graph
  nothing_made =
      let root = ap (named_by (table_of types alone).serial) no_root in
      let none = keyed-none nat_cmp (live (table_of types alone)) 0 (places_among 1) (λ q low high. free_place q (omega arith)) in
      λ i. record { next_serial = first_next i; root = root i; objects = none i }

  pub graph_of-fresh : graph_of types alone ≡ Some empty_graph
  graph_of-fresh = graph_of-from types alone empty_graph (record { headers = headers; graph = is_graph; is = nothing_made })
