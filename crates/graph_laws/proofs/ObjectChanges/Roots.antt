-- The root pointer is stored: the graph has another root.
use Rattle.std.proofs.Common.{◌≡◌, ℕ, ◌+◌, true, not, ltb, List, Some, refl, sym, ap, ◌∙◌, arith, ne_eqb}
use Rattle.pud_defs.specs.declared.space.TheConstants.{ROOT_WORD}
use Rattle.pud_defs.specs.Formats.Geometry.{ordinal_of}
use Rattle.pud_defs.specs.RegistryTables.Types.{map_of}
use Rattle.pud_defs.specs.PoolGraphs.Stored.{Stored, places_of, class_at, place_begins}
use Rattle.pud_defs.specs.PoolGraphs.Graph.{fitting, place_map, Content, table_of, slot_contents, pointee_at, place_of_serial, named_by, stands, Graph, next_serial_of, graph_stored, graph_of}
use Rattle.pud_defs.proofs.PoolGraphs.Contents.{names_only, pointee_at_within, contents_by_within}
use Rattle.pud_defs.proofs.PoolGraphs.Graphs.{IsGraph, HasGraph, IsSameTable, IsGraph-same, graph_by-same, graph_of-each}
use Rattle.pud_defs.specs.PoolGraphs.GraphChanges.{with_root}
use Rattle.graph_laws.specs.Changes.{IsAddress, with_word, with_words, with_root_word}
use Rattle.graph_laws.proofs.SameReads.Words.{begins_low, serial-same, with_word-there, with_word-other, slot_contents-same, place_of_serial-some, graph_of-words}
use Rattle.graph_laws.proofs.SameReads.Pointers.{pointee_at-null, pointee_at-address}

module _ (types : List (ℕ × ℕ)) (st : Stored) (v : ℕ) where
  abbrev later : ℕ → ℕ → ℕ
  later = with_word 0 ROOT_WORD v st.word

  kept : (o k : ℕ) → (k ≡ ROOT_WORD → ⊥) → later o k ≡ st.word o k
  kept o k other = with_word-other _ _ v st.word o k (λ same at. other at)

  slots_kept : IsSameTable (table_of types st) (table_of types (with_words later st)) (places_of st)
  slots_kept = record {
    serial = λ p below. serial-same st later p (λ slot. kept (ordinal_of p) (place_begins st p + 0) (λ at. absurd (let low = begins_low st p in omega arith)));
    class = λ p below used. refl;
    type_id = λ p below used. kept (ordinal_of p) (place_begins st p + 1) (λ at. absurd (let low = begins_low st p in omega arith));
    contents = λ p below used.
        ap (λ (k : ℕ). slot_contents (with_words later st) p (fitting (class_at st p) (map_of k types))) (kept (ordinal_of p) (place_begins st p + 1) (λ at. absurd (let low = begins_low st p in omega arith)))
        ∙ slot_contents-same st later p (place_map types st p) (λ m f is few. kept (ordinal_of p) (place_begins st p + (2 + f)) (λ at. absurd (let low = begins_low st p in omega arith)));
    within = λ p below used. contents_by_within st p (place_map types st p);
  }

  graph_after : (g : Graph) (s : ℕ) (top : Content) → HasGraph types st g → pointee_at st.puddles 0 0 v ≡ top → stands (table_of types st).serial top ≡ true → named_by (table_of types st).serial top ≡ s
      → graph_of types (with_words later st) ≡ Some (with_root s g)
  graph_after g s top h is stand names =
      let t = table_of types st in
      let n = places_of st in
      let next = next_serial_of st in
      let within = ap (names_only (λ q. ltb q n)) (sym is) ∙ pointee_at_within st.puddles 0 0 v in
      let graph : IsGraph next top t n = record { legal = h.graph.legal; top_stands = stand; distinct = h.graph.distinct; sound = h.graph.sound } in
      graph_of-words types st later next top (with_root s (graph_stored types st)) h.headers
      (λ o k low few. kept o k (λ at. absurd (omega arith)))
      (kept 0 3 (λ at. absurd (omega arith)))
      (ap (pointee_at st.puddles 0 0) (with_word-there 0 ROOT_WORD v st.word) ∙ is)
      (IsGraph-same t (table_of types (with_words later st)) n slots_kept next top within graph)
      (graph_by-same t (table_of types (with_words later st)) n slots_kept next top within ∙ ap (λ k. with_root k (graph_stored types st)) names)
      ∙ ap (λ (k : Graph). Some (with_root s k)) h.is

pub graph_of-no_root : (types : List (ℕ × ℕ)) (st : Stored) (g : Graph) → graph_of types st ≡ Some g → graph_of types (with_root_word 0 st) ≡ Some (with_root 0 g)
graph_of-no_root types st g is =
    let null = pointee_at-null st.puddles 0 0 0 refl in
    graph_after types st 0 g 0 _ (graph_of-each types st g is) null refl refl

pub graph_of-root : (types : List (ℕ × ℕ)) (st : Stored) (g : Graph) (s q v : ℕ) → graph_of types st ≡ Some g → place_of_serial s (table_of types st) (places_of st) ≡ Some q → IsAddress st.puddles 0 0 q v
    → graph_of types (with_root_word v st) ≡ Some (with_root s g)
graph_of-root types st g s q v is found address =
    let t = table_of types st in
    let target = place_of_serial-some t (places_of st) s q found in
    graph_after types st v g s _ (graph_of-each types st g is) (pointee_at-address st.puddles 0 0 q v address) (ap not (ne_eqb (t.serial q) 0 target.used)) target.is
