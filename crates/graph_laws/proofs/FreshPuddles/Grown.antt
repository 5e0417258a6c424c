-- A fresh puddle after the others: each pointer leads where it led, and the graph is the same.
use Rattle.std.proofs.Common.{◌≡◌, ℕ, zero, suc, ◌+◌, ◌<◌, ◌≤◌, true, cond, eqb, ltb, List, [], ◌∷◌, ◌++◌, length, Option, Some, None, nat_cmp, option_map, refl, sym, ap, ap₂, subst, ◌∙◌, ⊎_elim, arith}
use Rattle.std.specs.Prelude.{slice_get}
use Rattle.std.specs.Option.{option_or}
use Rattle.std.proofs.lemmas.Bool.{cases_lt, cases_Bool, cond-true, cond-false}
use Rattle.std.proofs.lemmas.List.{length_push, map-append}
use Rattle.std.proofs.lemmas.Option.{none-some}
use Rattle.pud_defs.specs.declared.space.TheConstants.{SLOT_FIELDS_WORD, NEXT_SERIAL_WORD, ROOT_WORD}
use Rattle.pud_defs.specs.declared.records.Puddle.{Puddle}
use Rattle.pud_defs.specs.Formats.TypeMap.{is_pointer}
use Rattle.pud_defs.specs.Formats.Geometry.{class_slots, class_slot_at, ordinal_of, slot_of, places_among}
use Rattle.pud_defs.specs.RegistryTables.Types.{map_of}
use Rattle.pud_defs.specs.RegistryTables.Keyed.{put_entry, keyed, under}
use Rattle.pud_defs.specs.PoolGraphs.Stored.{Stored, places_of, class_of, class_at, place_word, place_serial}
use Rattle.pud_defs.specs.PoolGraphs.Graph.{Content, Number, Null, Table, fitting, place_map, table_of, slot_contents, slot_in, place_in, at_place, target, over_old, puddles_by, pointee_at, content, live, object_at, named_by, stands, has_header, headers_fit, Graph, next_serial_of, root_of, graph_by, graph_of}
use Rattle.pud_defs.proofs.RegistryTables.Spaces.{all_below-each, all_below-from}
use Rattle.pud_defs.proofs.KeyedTables.Keyed.{keyed-none}
use Rattle.pud_defs.proofs.PoolGraphs.Contents.{pointee_at_within, contents_by_within}
use Rattle.pud_defs.proofs.PoolGraphs.Graphs.{under_serial-free, IsGraph, IsSameTable, IsGraph-same, graph_by-same, graph_of-each, graph_of-from}
use Rattle.graph_laws.specs.Reads.{with_puddle, IsGrown}
use Rattle.graph_laws.proofs.SameReads.Words.{has_header-same}
use Rattle.graph_laws.proofs.SameReads.Same.{slot_contents-stands}

-- ---- a list with one more at its end

pub slice_get-front : {A : Type 0} (xs ys : List A) (i : ℕ) → i < length xs → slice_get (xs ++ ys) i ≡ slice_get xs i
slice_get-front [] ys i below = absurd (omega arith)
slice_get-front (x ∷ xs) ys zero below = refl
slice_get-front (x ∷ xs) ys (suc i) below = slice_get-front xs ys i (omega arith)

pub slice_get-push : {A : Type 0} (xs : List A) (x : A) → slice_get (xs ++ x ∷ []) (length xs) ≡ Some x
slice_get-push [] x = refl
slice_get-push (y ∷ xs) x = slice_get-push xs x

-- ---- pointers over more bases

or_longer : (o later longer : Option ℕ) (p : ℕ) → (later ≡ Some p → longer ≡ Some p) → option_or o later ≡ Some p → option_or o longer ≡ Some p
or_longer None later longer p more is = more is
or_longer (Some q) later longer p more is = is

place_in-longer : (first : ℕ) (puddles more : List Puddle) (v p : ℕ) → place_in first puddles v ≡ Some p → place_in first (puddles ++ more) v ≡ Some p
unfolding place_in
place_in-longer first [] more v p is = absurd (none-some p is)
place_in-longer first (puddle ∷ puddles) more v p is =
    or_longer (option_map (λ k. first + k) (slot_in puddle v)) (place_in (first + places_among 1) puddles v) (place_in (first + places_among 1) (puddles ++ more) v) p (place_in-longer (first + places_among 1) puddles more v p) is

at_place-longer : (serial : ℕ → ℕ) (o longer : Option ℕ) → stands serial (at_place o) ≡ true → ((p : ℕ) → o ≡ Some p → longer ≡ Some p) → at_place longer ≡ at_place o
at_place-longer serial None longer stand more = cc
at_place-longer serial (Some p) longer stand more = ap at_place (more p refl)

target-longer : (serial : ℕ → ℕ) (puddles more : List Puddle) (v : ℕ) → stands serial (target puddles v) ≡ true → target (puddles ++ more) v ≡ target puddles v
unfolding target
target-longer serial puddles more v stand =
    ⊎_elim
    (λ null. cond-true _ _ _ null ∙ sym (cond-true _ _ _ null))
    (λ used.
    let was = cond-false (eqb v 0) Null (at_place (place_in 0 puddles v)) used in
    cond-false (eqb v 0) Null (at_place (place_in 0 (puddles ++ more) v)) used
    ∙ at_place-longer serial (place_in 0 puddles v) (place_in 0 (puddles ++ more) v) (sym (ap (stands serial) was) ∙ stand) (λ p is. place_in-longer 0 puddles more v p is)
    ∙ sym was)
    (cases_Bool (eqb v 0))

-- The puddles over which a puddle's pointers are read are the same as before, and then more.
puddles_by-longer : (puddles : List Puddle) (d : Puddle) (o : Option Puddle) (step : ℕ) → (more : List Puddle) × (puddles_by (puddles ++ d ∷ []) o step ≡ puddles_by puddles o step ++ more)
puddles_by-longer puddles d None step = ([], refl)
puddles_by-longer puddles d (Some p) step =
    ⊎_elim
    (λ rewritten. (d ∷ [], cond-true _ _ _ rewritten ∙ ap (λ read. read ++ d ∷ []) (sym (cond-true _ _ _ rewritten))))
    (λ old. (over_old d ∷ [], cond-false _ _ _ old ∙ map-append over_old puddles (d ∷ []) ∙ ap (λ read. read ++ over_old d ∷ []) (sym (cond-false _ _ _ old))))
    (cases_Bool (ltb step p.frontier))

pointee_at-longer : (serial : ℕ → ℕ) (puddles : List Puddle) (d : Puddle) (o step v : ℕ) → o < length puddles → stands serial (pointee_at puddles o step v) ≡ true → pointee_at (puddles ++ d ∷ []) o step v ≡ pointee_at puddles o step v
pointee_at-longer serial puddles d o step v below stand =
    let more = puddles_by-longer puddles d (slice_get puddles o) step in
    ap (λ p. target (puddles_by (puddles ++ d ∷ []) p step) v) (slice_get-front puddles (d ∷ []) o below)
    ∙ ap (λ read. target read v) more.1
    ∙ target-longer serial (puddles_by puddles (slice_get puddles o) step) more.0 v stand

content-longer : (serial : ℕ → ℕ) (puddles : List Puddle) (d : Puddle) (m p f v : ℕ) → ordinal_of p < length puddles → stands serial (content puddles m p f v) ≡ true → content (puddles ++ d ∷ []) m p f v ≡ content puddles m p f v
content-longer serial puddles d m p f v below stand =
    ⊎_elim
    (λ pointer.
    let was = cond-true (is_pointer m f) (pointee_at puddles (ordinal_of p) (slot_of p + 1) v) (Number v) pointer in
    cond-true _ _ _ pointer ∙ pointee_at-longer serial puddles d (ordinal_of p) (slot_of p + 1) v below (sym (ap (stands serial) was) ∙ stand) ∙ sym was)
    (λ number. cond-false _ _ _ number ∙ sym (cond-false _ _ _ number))
    (cases_Bool (is_pointer m f))

-- ---- the free places after the others

keyed-longer : {X : Type 0} (at : ℕ → Option (ℕ × X)) (from count more : ℕ) → ((j : ℕ) → from + count ≤ j → j < from + count + more → at j ≡ None) → keyed nat_cmp at from (count + more) ≡ keyed nat_cmp at from count
unfolding keyed
keyed-longer at from zero more none = let all : zero + more ≡ more = omega arith in ap (keyed nat_cmp at from) all ∙ keyed-none nat_cmp at from more (λ j low high. none j (omega arith) (omega arith))
keyed-longer at from (suc count) more none =
    let one : suc count + more ≡ suc (count + more) = omega arith in
    ap (keyed nat_cmp at from) one ∙ ap (put_entry nat_cmp (at from)) (keyed-longer at (from + 1) count more (λ j low high. none j (omega arith) (omega arith)))

module _ (u : Table) (n more : ℕ) (free : (p : ℕ) → n ≤ p → p < n + more → u.serial p ≡ 0) (next : ℕ) (top : Content) where
  IsGraph-longer : IsGraph next top u n → IsGraph next top u (n + more)
  IsGraph-longer h = record {
    legal = h.legal;
    top_stands = h.top_stands;
    distinct = record {
      apart = λ i j low less high e is. ⊎_elim
          (λ below. h.distinct.apart i j low less (omega arith) e is)
          (λ following. ap (under nat_cmp e.0) (under_serial-free u.serial (λ (p : ℕ). p) j (free j following (omega arith))))
          (cases_lt j n);
    };
    sound = λ p below used. ⊎_elim (λ low. h.sound p low used) (λ following. absurd (used (free p following below))) (cases_lt p n);
  }

  graph_by-longer : graph_by next top u (n + more) ≡ graph_by next top u n
  graph_by-longer = ap (λ es. record { next_serial = next; root = named_by u.serial top; objects = es })
      (keyed-longer (live u) 0 n more (λ p low high. under_serial-free u.serial (object_at u) p (free p (omega arith) (omega arith))))

-- ---- the graph

module _ (types : List (ℕ × ℕ)) (st : Stored) (d : Puddle) (word : ℕ → ℕ → ℕ) (grown : IsGrown st d word) where
  abbrev later : Stored
  later = with_puddle d word st

  abbrev before : Table
  before = table_of types st

  abbrev after : Table
  after = table_of types later

  headers_after : headers_fit st ≡ true → headers_fit later ≡ true
  unfolding headers_fit
  headers_after fit =
      let size = length_push st.puddles d in
      let count = length st.puddles in
      all_below-from (length later.puddles) (λ o. has_header o (word o) (slice_get later.puddles o)) (λ o below. ⊎_elim
      (λ low.
      ap (has_header o (word o)) (slice_get-front st.puddles (d ∷ []) o low)
      ∙ has_header-same o (word o) (st.word o) (slice_get st.puddles o) (grown.others o 0 low) (grown.others o 1 low) (grown.others o 2 low)
      ∙ all_below-each count (λ k. has_header k (st.word k) (slice_get st.puddles k)) fit o low)
      (λ high.
      let last : o ≡ count = omega arith in
      ap (λ k. has_header k (word k) (slice_get later.puddles k)) last ∙ ap (has_header count (word count)) (slice_get-push st.puddles d) ∙ grown.header)
      (cases_lt o count))

  class_kept : (p : ℕ) → p < places_of st → class_at later p ≡ class_at st p
  class_kept p below = ap class_of (slice_get-front st.puddles (d ∷ []) (ordinal_of p) (omega arith))

  kept : (p k : ℕ) → p < places_of st → place_word later p k ≡ place_word st p k
  kept p k below = ap (λ (c : ℕ). word (ordinal_of p) (class_slot_at c (slot_of p) + k)) (class_kept p below) ∙ grown.others (ordinal_of p) _ (omega arith)

  serial_kept : (p : ℕ) → p < places_of st → place_serial later p ≡ place_serial st p
  serial_kept p below = ap₂ (λ (c w : ℕ). cond (ltb (slot_of p) (class_slots c)) w 0) (class_kept p below) (kept p 0 below)

  same_table : (next : ℕ) → IsGraph next (root_of st) before (places_of st) → IsSameTable before after (places_of st)
  same_table next h = record {
    serial = serial_kept;
    class = λ p below used. class_kept p below;
    type_id = λ p below used. kept p 1 below;
    contents = λ p below used.
        ap₂ (λ (c k : ℕ). slot_contents later p (fitting c (map_of k types))) (class_kept p below) (kept p 1 below)
        ∙ slot_contents-stands st later p before.serial (place_map types st p) (h.sound p below used).stand
        (λ m f is low stand. ap (content later.puddles m p f) (kept p (SLOT_FIELDS_WORD + f) below) ∙ content-longer before.serial st.puddles d m p f (place_word st p (SLOT_FIELDS_WORD + f)) (omega arith) stand);
    within = λ p below used. contents_by_within st p (place_map types st p);
  }

  pub graph_of-grown : (g : Graph) → graph_of types st ≡ Some g → graph_of types later ≡ Some g
  graph_of-grown g is =
      let h = graph_of-each types st g is in
      let n = places_of st in
      let next = next_serial_of st in
      let top = root_of st in
      let places : places_of later ≡ n + places_among 1 = omega (arith, length_push st.puddles d) in
      let slots = same_table next h.graph in
      let within = pointee_at_within st.puddles 0 0 (st.word 0 ROOT_WORD) in
      let first : word 0 NEXT_SERIAL_WORD ≡ next = grown.others 0 NEXT_SERIAL_WORD grown.some in
      let root : root_of later ≡ top = ap (pointee_at later.puddles 0 0) (grown.others 0 ROOT_WORD grown.some) ∙ pointee_at-longer before.serial st.puddles d 0 0 (st.word 0 ROOT_WORD) grown.some h.graph.top_stands in
      graph_of-from types later g (record {
        headers = headers_after h.headers;
        graph =
            subst (λ (k : ℕ). IsGraph (next_serial_of later) (root_of later) after k) (sym places)
            (subst (λ (k : ℕ). IsGraph k (root_of later) after (n + places_among 1)) (sym first)
            (subst (λ (c : Content). IsGraph next c after (n + places_among 1)) (sym root)
            (IsGraph-longer after n (places_among 1) grown.free next top (IsGraph-same before after n slots next top within h.graph))));
        is = (λ i. graph_by (first i) (root i) after (places i)) ∙ graph_by-longer after n (places_among 1) grown.free next top ∙ graph_by-same before after n slots next top within ∙ h.is;
      })
