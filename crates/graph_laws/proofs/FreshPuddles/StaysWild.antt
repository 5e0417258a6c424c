-- If there was no graph, a fresh puddle after the others makes none: no pointer leads to a live slot of it.
use Rattle.std.proofs.Common.{◌≡◌, ◌⊎◌, inl, inr, ℕ, ◌+◌, ◌<◌, ◌≤◌, true, false, not, eqb, ltb, List, [], ◌∷◌, ◌++◌, length, Option, Some, None, option_map, refl, sym, ap, ap₂, subst, ◌∙◌, ⊎_elim, arith, eq-eqb, map, length-append}
use Rattle.std.specs.Prelude.{cond, slice_get}
use Rattle.std.specs.Option.{option_or}
use Rattle.std.proofs.lemmas.Bool.{cases_Bool, cond-true, cond-false}
use Rattle.std.proofs.lemmas.List.{length_push, length-map, map-append}
use Rattle.std.proofs.lemmas.Option.{none-some, same_Some, slice_get-get_or}
use Rattle.pud_defs.specs.declared.space.TheConstants.{SLOT_TYPE_WORD, SLOT_FIELDS_WORD, NEXT_SERIAL_WORD, ROOT_WORD}
use Rattle.pud_defs.specs.declared.records.Puddle.{Puddle}
use Rattle.pud_defs.specs.Formats.TypeMap.{is_pointer}
use Rattle.pud_defs.specs.Formats.Geometry.{class_slots, class_slot_at, ordinal_of, slot_of, places_among}
use Rattle.pud_defs.specs.RegistryTables.Types.{map_of}
use Rattle.pud_defs.specs.PoolGraphs.Stored.{Stored, places_of, place_word, class_of, class_at, place_serial}
use Rattle.pud_defs.specs.PoolGraphs.Graph.{fitting, place_map, Content, Number, Null, Table, table_of, slot_contents, slot_in, place_in, at_place, target, over_old, puddles_by, pointee_at, content, stands, has_header, headers_fit, Graph, next_serial_of, root_of, graph_stored, graph_of}
use Rattle.pud_defs.proofs.RegistryTables.Spaces.{all_below-each, all_below-from}
use Rattle.pud_defs.proofs.PoolGraphs.Contents.{name_only, names_only, place_in_within, pointee_at_within, contents_by_within}
use Rattle.pud_defs.proofs.PoolGraphs.Graphs.{IsGraph, IsSameTable, IsGraph-same, graph_of-each, graph_of-from}
use Rattle.graph_laws.specs.Reads.{with_puddle, IsGrown}
use Rattle.graph_laws.proofs.SameReads.Words.{has_header-same}
use Rattle.graph_laws.proofs.SameReads.Same.{slot_contents-stands}
use Rattle.graph_laws.proofs.FreshPuddles.Grown.{slice_get-front}

-- ---- pointers over fewer bases

or_low : (first : ℕ) (o later : Option ℕ) (p : ℕ) → (later ≡ Some p → first ≤ p) → option_or (option_map (λ k. first + k) o) later ≡ Some p → first ≤ p
or_low first None later p more is = more is
or_low first (Some k) later p more is = let e : first + k ≡ p = same_Some (first + k) p is in omega arith

place_in-low : (first : ℕ) (puddles : List Puddle) (v p : ℕ) → place_in first puddles v ≡ Some p → first ≤ p
unfolding place_in
place_in-low first [] v p is = absurd (none-some p is)
place_in-low first (puddle ∷ puddles) v p is =
    or_low first (slot_in puddle v) (place_in (first + places_among 1) puddles v) p (λ there. let low = place_in-low (first + places_among 1) puddles v p there in omega arith) is

or_shorter : (o later longer : Option ℕ) (p bound : ℕ) → (longer ≡ Some p → (later ≡ Some p) ⊎ (bound ≤ p)) → option_or o longer ≡ Some p → (option_or o later ≡ Some p) ⊎ (bound ≤ p)
or_shorter None later longer p bound more is = more is
or_shorter (Some q) later longer p bound more is = inl is

place_in-shorter : (first : ℕ) (puddles more : List Puddle) (v p : ℕ) → place_in first (puddles ++ more) v ≡ Some p → (place_in first puddles v ≡ Some p) ⊎ (first + places_among (length puddles) ≤ p)
unfolding place_in
place_in-shorter first [] more v p is = inr (let low = place_in-low first more v p is in omega arith)
place_in-shorter first (puddle ∷ puddles) more v p is =
    or_shorter (option_map (λ k. first + k) (slot_in puddle v)) (place_in (first + places_among 1) puddles v) (place_in (first + places_among 1) (puddles ++ more) v) p (first + places_among (length (puddle ∷ puddles)))
    (λ there. ⊎_elim (λ here. inl here) (λ past. inr (omega arith)) (place_in-shorter (first + places_among 1) puddles more v p there)) is

at_place-shorter : (serial : ℕ → ℕ) (o longer : Option ℕ) → stands serial (at_place longer) ≡ true → ((p : ℕ) → longer ≡ Some p → (serial p ≡ 0 → ⊥) → o ≡ Some p) → at_place o ≡ at_place longer
at_place-shorter serial o None stand more = cc
at_place-shorter serial o (Some p) stand more = ap at_place (more p refl (λ free. absurd (let no : false ≡ true = sym (ap not (eq-eqb (serial p) 0 free)) ∙ stand in cc)))

target-shorter : (serial : ℕ → ℕ) (puddles more : List Puddle) (v : ℕ) → stands serial (target (puddles ++ more) v) ≡ true
    → ((p : ℕ) → place_in 0 (puddles ++ more) v ≡ Some p → (serial p ≡ 0 → ⊥) → place_in 0 puddles v ≡ Some p) → target puddles v ≡ target (puddles ++ more) v
unfolding target
target-shorter serial puddles more v stand shorter =
    ⊎_elim
    (λ null. cond-true _ _ _ null ∙ sym (cond-true _ _ _ null))
    (λ used.
    let is = cond-false (eqb v 0) Null (at_place (place_in 0 (puddles ++ more) v)) used in
    cond-false (eqb v 0) Null (at_place (place_in 0 puddles v)) used
    ∙ at_place-shorter serial (place_in 0 puddles v) (place_in 0 (puddles ++ more) v) (sym (ap (stands serial) is) ∙ stand) shorter
    ∙ sym is)
    (cases_Bool (eqb v 0))

-- The puddles over which a puddle's pointers are read are as many as before, and then one more.
record HasMore (puddles : List Puddle) (d holder : Puddle) (step : ℕ) : Type 0 where
  more : Puddle
  is : puddles_by (puddles ++ d ∷ []) (Some holder) step ≡ puddles_by puddles (Some holder) step ++ more ∷ []
  size : length (puddles_by puddles (Some holder) step) ≡ length puddles

puddles_by-more : (puddles : List Puddle) (d holder : Puddle) (step : ℕ) → HasMore puddles d holder step
puddles_by-more puddles d holder step =
    ⊎_elim
    (λ rewritten.
    let was = cond-true (ltb step holder.frontier) puddles (map over_old puddles) rewritten in
    record {
      more = d;
      is = cond-true _ _ _ rewritten ∙ ap (λ read. read ++ d ∷ []) (sym was);
      size = ap (λ (read : List Puddle). length read) was;
    })
    (λ old.
    let was = cond-false (ltb step holder.frontier) puddles (map over_old puddles) old in
    record {
      more = over_old d;
      is = cond-false _ _ _ old ∙ map-append over_old puddles (d ∷ []) ∙ ap (λ read. read ++ over_old d ∷ []) (sym was);
      size = ap (λ (read : List Puddle). length read) was ∙ length-map puddles over_old;
    })
    (cases_Bool (ltb step holder.frontier))

module _ (serial : ℕ → ℕ) (puddles : List Puddle) (d : Puddle) (free : (p : ℕ) → places_among (length puddles) ≤ p → p < places_among (length puddles) + places_among 1 → serial p ≡ 0) where
  held_at : (o step v : ℕ) (holder : Puddle) → slice_get puddles o ≡ Some holder → o < length puddles → stands serial (pointee_at (puddles ++ d ∷ []) o step v) ≡ true
      → pointee_at puddles o step v ≡ pointee_at (puddles ++ d ∷ []) o step v
  held_at o step v holder there below stand =
      let b = puddles_by-more puddles d holder step in
      let read = puddles_by puddles (Some holder) step in
      let was : pointee_at puddles o step v ≡ target read v = ap (λ p. target (puddles_by puddles p step) v) there in
      let now : pointee_at (puddles ++ d ∷ []) o step v ≡ target (read ++ b.more ∷ []) v =
      ap (λ p. target (puddles_by (puddles ++ d ∷ []) p step) v) (slice_get-front puddles (d ∷ []) o below ∙ there) ∙ ap (λ (l : List Puddle). target l v) b.is in
      was
      ∙ target-shorter serial read (b.more ∷ []) v (sym (ap (stands serial) now) ∙ stand)
      (λ p is used. ⊎_elim
      (λ here. here)
      (λ past.
      let within = place_in_within 0 (read ++ b.more ∷ []) v p is in
      absurd (used (free p (omega (arith, past, b.size)) (omega (arith, within, b.size, length-append read (b.more ∷ []))))))
      (place_in-shorter 0 read (b.more ∷ []) v p is))
      ∙ sym now

  pub pointee_at-shorter : (o step v : ℕ) → o < length puddles → stands serial (pointee_at (puddles ++ d ∷ []) o step v) ≡ true → pointee_at puddles o step v ≡ pointee_at (puddles ++ d ∷ []) o step v
  pointee_at-shorter o step v below stand = held_at o step v _ (slice_get-get_or puddles o d below) below stand

  content-shorter : (m p f v : ℕ) → ordinal_of p < length puddles → stands serial (content (puddles ++ d ∷ []) m p f v) ≡ true → content puddles m p f v ≡ content (puddles ++ d ∷ []) m p f v
  content-shorter m p f v below stand =
      ⊎_elim
      (λ pointer.
      let is = cond-true (is_pointer m f) (pointee_at (puddles ++ d ∷ []) (ordinal_of p) (slot_of p + 1) v) (Number v) pointer in
      cond-true _ _ _ pointer ∙ pointee_at-shorter (ordinal_of p) (slot_of p + 1) v below (sym (ap (stands serial) is) ∙ stand) ∙ sym is)
      (λ number. cond-false _ _ _ number ∙ sym (cond-false _ _ _ number))
      (cases_Bool (is_pointer m f))

-- ---- the graph

module _ (types : List (ℕ × ℕ)) (st : Stored) (d : Puddle) (word : ℕ → ℕ → ℕ) (grown : IsGrown st d word) where
  abbrev later : Stored
  later = with_puddle d word st

  abbrev before : Table
  before = table_of types st

  abbrev after : Table
  after = table_of types later

  abbrev n : ℕ
  n = places_of st

  places : places_of later ≡ n + places_among 1
  places = omega (arith, length_push st.puddles d)

  class_kept : (p : ℕ) → p < n → class_at st p ≡ class_at later p
  class_kept p below = sym (ap class_of (slice_get-front st.puddles (d ∷ []) (ordinal_of p) (omega arith)))

  kept : (p k : ℕ) → p < n → place_word st p k ≡ place_word later p k
  kept p k below = sym (grown.others (ordinal_of p) _ (omega arith)) ∙ ap (λ (c : ℕ). word (ordinal_of p) (class_slot_at c (slot_of p) + k)) (class_kept p below)

  serial_kept : (p : ℕ) → p < n → place_serial st p ≡ place_serial later p
  serial_kept p below = ap₂ (λ (c w : ℕ). cond (ltb (slot_of p) (class_slots c)) w 0) (class_kept p below) (kept p 0 below)

  headers_before : headers_fit later ≡ true → headers_fit st ≡ true
  unfolding headers_fit
  headers_before fit =
      let size = length_push st.puddles d in
      all_below-from (length st.puddles) (λ o. has_header o (st.word o) (slice_get st.puddles o)) (λ o low.
      sym (has_header-same o (word o) (st.word o) (slice_get st.puddles o) (grown.others o 0 low) (grown.others o 1 low) (grown.others o 2 low))
      ∙ sym (ap (has_header o (word o)) (slice_get-front st.puddles (d ∷ []) o low))
      ∙ all_below-each (length later.puddles) (λ k. has_header k (word k) (slice_get later.puddles k)) fit o (omega arith))

  module _ (next : ℕ) (top : Content) (h : IsGraph next top after (n + places_among 1)) where
    same_contents : (p : ℕ) → p < n → (after.serial p ≡ 0 → ⊥) → before.contents p ≡ after.contents p
    same_contents p below used =
        ap₂ (λ (c k : ℕ). slot_contents st p (fitting c (map_of k types))) (class_kept p below) (kept p SLOT_TYPE_WORD below)
        ∙ slot_contents-stands later st p after.serial (place_map types later p) (h.sound p (omega arith) used).stand
        (λ m f is low stand. ap (content st.puddles m p f) (kept p (SLOT_FIELDS_WORD + f) below) ∙ content-shorter after.serial st.puddles d grown.free m p f (place_word later p (SLOT_FIELDS_WORD + f)) (omega arith) stand)

    same_table : IsSameTable after before n
    same_table = record {
      serial = serial_kept;
      class = λ p below used. class_kept p below;
      type_id = λ p below used. kept p 1 below;
      contents = same_contents;
      within = λ p below used. ap (name_only (λ q. ltb q n)) (sym (same_contents p below used)) ∙ contents_by_within st p (place_map types st p);
    }

    IsGraph-prefix : IsGraph next top after n
    IsGraph-prefix = record {
      legal = h.legal;
      top_stands = h.top_stands;
      distinct = record { apart = λ i j low less high e is. h.distinct.apart i j low less (omega arith) e is };
      sound = λ p below used. h.sound p (omega arith) used;
    }

  had_graph : (g : Graph) → graph_of types later ≡ Some g → graph_of types st ≡ Some (graph_stored types st)
  had_graph g is =
      let h = graph_of-each types later g is in
      let next = next_serial_of later in
      let top = root_of later in
      let graph = subst (λ (k : ℕ). IsGraph next top after k) places h.graph in
      let first : next ≡ next_serial_of st = grown.others 0 NEXT_SERIAL_WORD grown.some in
      let root : root_of st ≡ top =
      ap (pointee_at st.puddles 0 0) (sym (grown.others 0 ROOT_WORD grown.some)) ∙ pointee_at-shorter after.serial st.puddles d grown.free 0 0 (word 0 ROOT_WORD) grown.some graph.top_stands in
      let within = ap (names_only (λ q. ltb q n)) (sym root) ∙ pointee_at_within st.puddles 0 0 (st.word 0 ROOT_WORD) in
      graph_of-from types st (graph_stored types st) (record {
        headers = headers_before h.headers;
        graph =
            subst (λ (k : ℕ). IsGraph k (root_of st) before n) first
            (subst (λ (c : Content). IsGraph next c before n) (sym root) (IsGraph-same after before n (same_table next top graph) next top within (IsGraph-prefix next top graph)));
        is = refl;
      })

  pub graph_of-wild : graph_of types st ≡ None → graph_of types later ≡ None
  graph_of-wild none = by_graph (graph_of types later) refl
    where
      by_graph : (o : Option Graph) → graph_of types later ≡ o → graph_of types later ≡ None
      by_graph None is = is
      by_graph (Some g) is = absurd (none-some (graph_stored types st) (sym none ∙ had_graph g is))
