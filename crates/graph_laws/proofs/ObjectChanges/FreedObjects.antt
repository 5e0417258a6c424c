-- If nothing names an object and its serial is cleared, the graph has the object no more.
use Rattle.std.proofs.Common.{◌≡◌, ℕ, ◌+◌, ◌<◌, Bool, false, eqb, List, [], ◌∷◌, Some, nat_cmp, refl, sym, ap, ap₂, ◌∙◌, ⊎_elim, arith}
use Rattle.std.specs.Ordering.{eq_by_cmp}
use Rattle.std.specs.List.{list_any}
use Rattle.std.specs.FinMap.Entries.{find}
use Rattle.std.proofs.lemmas.Bool.{cases_Bool, cond-true, cond-false, cond_both, or_parts}
use Rattle.std.proofs.lemmas.Option.{none-some, same_Some}
use Rattle.pud_defs.specs.declared.space.TheConstants.{FRAME_HEADER_WORDS, SLOT_SERIAL_WORD}
use Rattle.pud_defs.specs.Formats.Geometry.{ordinal_of}
use Rattle.pud_defs.specs.PoolGraphs.Stored.{Stored, places_of, class_at, is_slot, place_word, place_words, place_begins}
use Rattle.pud_defs.specs.PoolGraphs.Graph.{Table, table_of, contents_or_none, pointee_at, place_of_serial, object_at, names_serial, Object, Graph, next_serial_of, root_of, graph_stored, graph_of, is_referenced}
use Rattle.pud_defs.proofs.PoolGraphs.Graphs.{IsGraph, HasGraph, graph_of-each}
use Rattle.pud_defs.specs.PoolGraphs.GraphChanges.{without_object}
use Rattle.graph_laws.specs.Changes.{with_word, with_words, with_serial_word}
use Rattle.graph_laws.proofs.ObjectChanges.ContentLists.{name_no_serial, names_no_root}
use Rattle.graph_laws.proofs.ObjectChanges.TableChanges.{IsUnnamed, find-live, root-unnamed, IsGraph-unnamed, distinct-freed, objects-freed}
use Rattle.pud_defs.proofs.Formats.Geometry.{some_words}
use Rattle.graph_laws.proofs.SameReads.Words.{slot_word-header, slot_word-there, slot_word-others, same_but, IsLive, place_of_serial-some, graph_of-words}

-- A test that fails for each entry fails for the entry that is found.
none_of_found : {X : Type 0} (test : X → Bool) (es : List (ℕ × X)) (k : ℕ) (x : X) → list_any (λ (e : ℕ × X). test e.1) es ≡ false → find nat_cmp k es ≡ Some x → test x ≡ false
none_of_found {X = X} test [] k x none found = absurd (none-some x found)
none_of_found {X = X} test (e ∷ es) k x none found =
    let parts = or_parts (test e.1) (list_any (λ (d : ℕ × X). test d.1) es) none in
    ⊎_elim
    (λ here. ap test (sym (same_Some e.1 x (sym (cond-true _ _ _ here) ∙ found))) ∙ parts.0)
    (λ other. none_of_found test es k x parts.1 (sym (cond-false _ _ _ other) ∙ found))
    (cases_Bool (eq_by_cmp nat_cmp k e.0))

-- If nothing names the serial of a place, nothing names the place.
unnamed_if_not_held : (types : List (ℕ × ℕ)) (st : Stored) (p : ℕ) → IsGraph (next_serial_of st) (root_of st) (table_of types st) (places_of st) → is_referenced ((table_of types st).serial p) (graph_stored types st) ≡ false
    → IsUnnamed (root_of st) (table_of types st) (places_of st) p
unfolding is_referenced
unnamed_if_not_held types st p h apart =
    let t = table_of types st in
    let g = graph_stored types st in
    let test = λ (o : Object). list_any (names_serial (t.serial p)) o.fields in
    let parts = or_parts (eqb g.root (t.serial p)) (list_any (λ e. test e.1) g.objects) apart in
    record {
      root = names_no_root t.serial p (root_of st) parts.0;
      each = λ q below other used. name_no_serial t.serial p (contents_or_none (t.contents q)) (none_of_found test g.objects (t.serial q) (object_at t q) parts.1 (find-live t (places_of st) q h.distinct below used));
    }

module _ (types : List (ℕ × ℕ)) (st : Stored) (p : ℕ) where
  abbrev later : ℕ → ℕ → ℕ
  later = with_word (ordinal_of p) (place_begins st p + SLOT_SERIAL_WORD) 0 st.word

  abbrev before : Table
  before = table_of types st

  abbrev after : Table
  after = table_of types (with_words later st)

  some : SLOT_SERIAL_WORD < place_words st p
  some = let words = some_words (class_at st p) in omega arith

  now_free : after.serial p ≡ 0
  now_free = cond_both (is_slot st p) (place_word (with_words later st) p SLOT_SERIAL_WORD) 0 (λ v. v ≡ 0) (λ slot. slot_word-there p SLOT_SERIAL_WORD 0 st some) (λ none. refl)

  header_kept : (o k : ℕ) → k < FRAME_HEADER_WORDS → later o k ≡ st.word o k
  header_kept o k low = slot_word-header p SLOT_SERIAL_WORD 0 st some o k low

  graph_after : (g : Graph) → HasGraph types st g → IsLive before (places_of st) (before.serial p) p → is_referenced (before.serial p) (graph_stored types st) ≡ false → graph_of types (with_words later st) ≡ Some (without_object (before.serial p) g)
  graph_after g h is_live apart =
      let n = places_of st in
      let next = next_serial_of st in
      let top = root_of st in
      let same = same_but types st later p is_live.within (slot_word-others p SLOT_SERIAL_WORD 0 st some) in
      let unnamed = unnamed_if_not_held types st p h.graph apart in
      let root = root-unnamed before after n p same next top h.graph unnamed in
      let objects = objects-freed before after n p same next top h.graph unnamed is_live.used now_free in
      graph_of-words types st later next top _ h.headers
      (λ o k low few. header_kept o k (omega arith))
      (header_kept 0 3 (omega arith))
      (ap (pointee_at st.puddles 0 0) (header_kept 0 4 (omega arith)))
      (IsGraph-unnamed before after n p same next top h.graph unnamed next (omega arith) h.graph.legal (distinct-freed before after n p same next top h.graph unnamed is_live.used now_free) (λ used. absurd (used now_free)))
      (λ i. record { next_serial = next; root = root i; objects = objects i })
      ∙ ap (λ (k : Graph). Some (without_object (before.serial p) k)) h.is

pub graph_of-freed : (types : List (ℕ × ℕ)) (st : Stored) (g : Graph) (s p : ℕ) → graph_of types st ≡ Some g → place_of_serial s (table_of types st) (places_of st) ≡ Some p → is_referenced s g ≡ false
    → graph_of types (with_serial_word p 0 st) ≡ Some (without_object s g)
graph_of-freed types st g s p is found apart =
    let t = table_of types st in
    let there = place_of_serial-some t (places_of st) s p found in
    let h = graph_of-each types st g is in
    let alone : is_referenced (t.serial p) (graph_stored types st) ≡ false = ap₂ is_referenced there.is h.is ∙ apart in
    graph_after types st p g h (record { within = there.within; is = refl; used = there.used }) alone ∙ ap (λ k. Some (without_object k g)) there.is
