-- If the same is read of two pools, they have the same graph.
use Rattle.std.proofs.Common.{◌≡◌, ℕ, zero, suc, ◌+◌, ◌<◌, ◌≤◌, Bool, true, List, map, length, Option, Some, None, refl, sym, ap, subst, ◌∙◌, ⊎_elim, arith}
use Rattle.std.specs.List.{range_with_len, list_all}
use Rattle.std.proofs.lemmas.Bool.{cases_eq, and_parts}
use Rattle.pud_defs.specs.declared.space.TheConstants.{SLOT_FIELDS_WORD, ROOT_WORD}
use Rattle.pud_defs.specs.Formats.Geometry.{places_among}
use Rattle.pud_defs.specs.PoolGraphs.Stored.{Stored, places_of, class_at, place_word}
use Rattle.pud_defs.specs.PoolGraphs.Graph.{Content, table_of, slot_contents, content, field_count, place_map, stands, all_stand, headers_fit, Graph, next_serial_of, root_of, graph_by, graph_of}
use Rattle.pud_defs.proofs.PoolGraphs.Contents.{pointee_at_within, contents_by_within}
use Rattle.pud_defs.proofs.PoolGraphs.Graphs.{IsGraph, IsSameTable, IsGraph-same, graph_by-same, graph_of-each, graph_of-from}
use Rattle.graph_laws.proofs.SameReads.Words.{map-range_same}

-- ---- fields that stand

pub list_all-range_each : {X : Type 0} (test : X → Bool) (f : ℕ → X) (from count : ℕ) → list_all test (map f (range_with_len from count)) ≡ true → (k : ℕ) → from ≤ k → k < from + count → test (f k) ≡ true
list_all-range_each test f from zero all k low high = absurd (omega arith)
list_all-range_each test f from (suc count) all k low high =
    let parts = and_parts (test (f from)) (list_all test (map f (range_with_len (from + 1) count))) all in
    ⊎_elim
    (λ here. ap (λ j. test (f j)) here ∙ parts.0)
    (λ other. list_all-range_each test f (from + 1) count parts.1 k (omega arith) (omega arith))
    (cases_eq k from)

-- If each field stands for the same as before, and it stood for something, the contents are the same.
pub slot_contents-stands : (st later : Stored) (p : ℕ) (serial : ℕ → ℕ) (type : Option ℕ) → all_stand serial (slot_contents st p type) ≡ true
    → ((m f : ℕ) → type ≡ Some m → f < field_count m → stands serial (content st.puddles m p f (place_word st p (SLOT_FIELDS_WORD + f))) ≡ true
    → content later.puddles m p f (place_word later p (SLOT_FIELDS_WORD + f)) ≡ content st.puddles m p f (place_word st p (SLOT_FIELDS_WORD + f)))
    → slot_contents later p type ≡ slot_contents st p type
slot_contents-stands st later p serial None stand same = refl
slot_contents-stands st later p serial (Some m) stand same =
    let was = λ (f : ℕ). content st.puddles m p f (place_word st p (SLOT_FIELDS_WORD + f)) in
    ap (λ (cs : List Content). Some cs)
    (map-range_same (λ f. content later.puddles m p f (place_word later p (SLOT_FIELDS_WORD + f))) was (field_count m)
    (λ f below. same m f refl below (list_all-range_each (stands serial) was 0 (field_count m) stand f (omega arith) (omega arith))))

-- ---- what is read

-- What is read of the second pool is the same as what is read of the first.
pub record StandsSame (types : List (ℕ × ℕ)) (st later : Stored) : Type 0 where
  pub puddles : length later.puddles ≡ length st.puddles
  pub headers : headers_fit later ≡ headers_fit st
  pub next : next_serial_of later ≡ next_serial_of st
  pub root : root_of later ≡ root_of st
  pub classes : (p : ℕ) → class_at later p ≡ class_at st p
  pub serials : (p : ℕ) → p < places_of st → (table_of types later).serial p ≡ (table_of types st).serial p
  pub type_ids : (p : ℕ) → p < places_of st → ((table_of types st).serial p ≡ 0 → ⊥) → (table_of types later).type_id p ≡ (table_of types st).type_id p
  pub contents : (p : ℕ) → p < places_of st → ((table_of types st).serial p ≡ 0 → ⊥) → (table_of types later).contents p ≡ (table_of types st).contents p

same_table : (types : List (ℕ × ℕ)) (st later : Stored) → StandsSame types st later → IsSameTable (table_of types st) (table_of types later) (places_of st)
same_table types st later same = record {
  serial = same.serials;
  class = λ p below used. same.classes p;
  type_id = same.type_ids;
  contents = same.contents;
  within = λ p below used. contents_by_within st p (place_map types st p);
}

pub graph_of-kept : (types : List (ℕ × ℕ)) (st later : Stored) (g : Graph) → StandsSame types st later → graph_of types st ≡ Some g → graph_of types later ≡ Some g
graph_of-kept types st later g same is =
    let h = graph_of-each types st g is in
    let t = table_of types st in
    let u = table_of types later in
    let places : places_of later ≡ places_of st = ap (λ n. places_among n) same.puddles in
    let slots = same_table types st later same in
    let within = pointee_at_within st.puddles 0 0 (st.word 0 ROOT_WORD) in
    graph_of-from types later g (record {
      headers = same.headers ∙ h.headers;
      graph =
          subst (λ (n : ℕ). IsGraph (next_serial_of later) (root_of later) u n) (sym places)
          (subst (λ (n : ℕ). IsGraph n (root_of later) u (places_of st)) (sym same.next)
          (subst (λ (c : Content). IsGraph (next_serial_of st) c u (places_of st)) (sym same.root) (IsGraph-same t u (places_of st) slots (next_serial_of st) (root_of st) within h.graph)));
      is = (λ i. graph_by (same.next i) (same.root i) u (places i)) ∙ graph_by-same t u (places_of st) slots (next_serial_of st) (root_of st) within ∙ h.is;
    })

StandsSame-back : (types : List (ℕ × ℕ)) (st later : Stored) → StandsSame types st later → StandsSame types later st
StandsSame-back types st later same =
    let places = same.puddles in
    record {
      puddles = sym same.puddles;
      headers = sym same.headers;
      next = sym same.next;
      root = sym same.root;
      classes = λ p. sym (same.classes p);
      serials = λ p below. sym (same.serials p (omega arith));
      type_ids = λ p below used. let within : p < places_of st = omega arith in sym (same.type_ids p within (λ free. used (same.serials p within ∙ free)));
      contents = λ p below used. let within : p < places_of st = omega arith in sym (same.contents p within (λ free. used (same.serials p within ∙ free)));
    }

each_way : {A : Type 0} (a b : Option A) → ((x : A) → a ≡ Some x → b ≡ Some x) → ((x : A) → b ≡ Some x → a ≡ Some x) → b ≡ a
each_way None None there back = refl
each_way None (Some x) there back = sym (back x refl)
each_way (Some x) b there back = there x refl

-- If the same is read of a pool, it has the same graph, or it has none either.
pub graph_of-same : (types : List (ℕ × ℕ)) (st later : Stored) → StandsSame types st later → graph_of types later ≡ graph_of types st
graph_of-same types st later same = each_way (graph_of types st) (graph_of types later) (λ g. graph_of-kept types st later g same) (λ g. graph_of-kept types later st g (StandsSame-back types st later same))
