-- How an index is built: what is listed, and what is counted field by field and slot by slot.
use Rattle.std.proofs.Common.{◌≡◌, ◌≢◌, ℕ, ◌+◌, ◌-◌, ◌<◌, ◌≤◌, ◌^◌, Bool, true, false, not, ◌&&◌, cond, eqb, List, [], ◌∷◌, map, count_by, sum_by, Option, Some, None, option_map, IfSome, nat_cmp, refl, sym, ap, ap₂, subst, ◌∙◌, arith, zero-add, eq-eqb, ne_eqb, inl, inr}
use Rattle.std.specs.List.{range_with_len}
use Rattle.std.specs.Option.{option_or}
use Rattle.std.proofs.Math.Bool.{and-false}
use Rattle.std.proofs.Math.Nat.{add_comm}
use Rattle.std.proofs.lemmas.Bool.{cases_eq, cond-true, cond-false}
use Rattle.std.proofs.lemmas.Cmp.{nat_cmp_total}
use Rattle.std.proofs.lemmas.List.{map-id}
use Rattle.std.proofs.lemmas.List.FromFn.{sum_by-map-range_with_len_more}
use Rattle.std.proofs.lemmas.List.Sums.{sum_by-cons}
use Rattle.pud_defs.specs.declared.records.Puddle.{Puddle}
use Rattle.pud_defs.specs.declared.objects.FieldValue.{FieldValue}
use Rattle.pud_defs.specs.declared.objects.FieldValue.TheVariants.{Num, Ref}
use Rattle.pud_defs.specs.Formats.Image.{Image}
use Rattle.pud_defs.specs.PoolGraphs.Graph.{Content, Number, Null, At, Nowhere, Table, Object, Graph, under_serial, table_of, contents_or_none, object_at, live, value_of, named_by, names_serial, root_of, graph_of}
use Rattle.pud_defs.specs.RegistryTables.Keyed.{under, first_from}
use Rattle.pud_defs.specs.PoolGraphs.Stored.{Stored, stored_in, places_of}
use Rattle.pud_defs.proofs.KeyedTables.Keyed.{first_from_step}
use Rattle.pud_defs.proofs.RegistryTables.TypeLists.{same_test}
use Rattle.pud_defs.proofs.PoolGraphs.Graphs.{under_serial-free, under_serial-used, graph_of-each, distinct_live}
use Rattle.pud_defs.proofs.RegistryTables.PoolsCounted.{sum_places-same, worth, sum-keyed}
use Rattle.graph_laws.specs.ReferenceCounts.{times_named_by, pointers_to, reference_count}
use Rattle.graph_laws.proofs.SameReads.Words.{place_of_serial-some}
use Rattle.puddle_header.specs.Places.{places_in}
use Rattle.graph_read.specs.declared.index.Kept.{Kept}
use Rattle.graph_read.specs.declared.index.Index.{Index}
use Rattle.graph_read.specs.Checking.{serials_in, with_serials}
use Rattle.graph_read.specs.Index.{kept_under, HasRoom, with_more_references, names_one, after_retain}
use Rattle.graph_read.specs.Indexed.{kept_of, IsIndexOf, serial_named, after_list, Gains, HasAtMost, contents_name, place_names, places_name}
use Rattle.graph_read.specs.Reading.{table_in, place_in_pool}
use Rattle.graph_read.proofs.Judging.{same_places}
use Rattle.graph_read.proofs.Numbers.{field_content, sum_places-listed}

-- ---- places

guard_free : (n q : ℕ) → n ≡ 0 → (eqb n q && not (eqb q 0)) ≡ false
guard_free n q free = elim (cases_eq q 0) [
  | inl none ↦ ap (λ b. eqb n q && not b) (eq-eqb q 0 none) ∙ and-false (eqb n q)
  | inr some ↦ ap (λ b. b && not (eqb q 0)) (ne_eqb n q (λ same. some (sym same ∙ free)))
]

-- One more place before the others is one more place that is listed.
listed_there : (f : ℕ → ℕ) (p q : ℕ) (later : Option ℕ)
    → option_map (kept_of 0) (option_or (under nat_cmp q (under_serial f (λ n. n) p)) later) ≡ after_list (f p) p q (option_map (kept_of 0) later)
listed_there f p q later = elim (cases_eq (f p) 0) [
  | inl free ↦
      ap (λ (o : Option (ℕ × ℕ)). option_map (kept_of 0) (option_or (under nat_cmp q o) later)) (under_serial-free f (λ n. n) p free)
      ∙ sym (cond-false _ _ _ (guard_free (f p) q free))
  | inr used ↦
      ap (λ (o : Option (ℕ × ℕ)). option_map (kept_of 0) (option_or (under nat_cmp q o) later)) (under_serial-used f (λ n. n) p used)
      ∙ elim (cases_eq (f p) q) [
        | inl here ↦
            ap (λ b. option_map (kept_of 0) (option_or (cond b (Some p) None) later)) (same_test q (f p) ∙ eq-eqb q (f p) (sym here))
            ∙ sym (cond-true _ _ _ (ap₂ (λ a b. a && not b) (eq-eqb (f p) q here) (ne_eqb q 0 (λ none. used (here ∙ none)))))
        | inr other ↦
            ap (λ b. option_map (kept_of 0) (option_or (cond b (Some p) None) later)) (same_test q (f p) ∙ ne_eqb q (f p) (λ same. other (sym same)))
            ∙ sym (cond-false _ _ _ (ap (λ a. a && not (eqb q 0)) (ne_eqb (f p) q other)))
      ]
]

pub listed_more : (f : ℕ → ℕ) (p n q : ℕ) (old new : Option Kept) → 0 < p → p ≤ n → old ≡ option_map (kept_of 0) (first_from nat_cmp q (under_serial f (λ n. n)) p (n - p)) → new ≡ after_list (f (p - 1)) (p - 1) q old
    → new ≡ option_map (kept_of 0) (first_from nat_cmp q (under_serial f (λ n. n)) (p - 1) (n - (p - 1)))
listed_more f p n q old new some within so_far is =
    let back : p - 1 + 1 ≡ p = omega arith in
    let at = under_serial f (λ n. n) in
    is ∙ ap (after_list (f (p - 1)) (p - 1) q) so_far
    ∙ sym (ap (option_map (kept_of 0)) (first_from_step nat_cmp q at (p - 1) n (omega arith) ∙ ap (λ m. option_or (under nat_cmp q (at (p - 1))) (first_from nat_cmp q at m (n - m))) back)
    ∙ listed_there f (p - 1) q (first_from nat_cmp q at p (n - p)))

-- A free place is not listed.
pub listed_none : (f : ℕ → ℕ) (p n q : ℕ) (old : Option Kept) → p < n → f p ≡ 0 → old ≡ option_map (kept_of 0) (first_from nat_cmp q (under_serial f (λ n. n)) (p + 1) (n - (p + 1)))
    → old ≡ option_map (kept_of 0) (first_from nat_cmp q (under_serial f (λ n. n)) p (n - p))
listed_none f p n q old below free so_far =
    let at = under_serial f (λ n. n) in
    so_far
    ∙ sym (ap (option_map (kept_of 0)) (first_from_step nat_cmp q at p n below
    ∙ ap (λ (o : Option (ℕ × ℕ)). option_or (under nat_cmp q o) (first_from nat_cmp q at (p + 1) (n - (p + 1)))) (under_serial-free f (λ n. n) p free)))

-- ---- counts

more_none : (k : Kept) → with_more_references 0 k ≡ k
more_none k = let same : k.references + 0 ≡ k.references = omega arith in λ i. record { ordinal = k.ordinal; slot = k.slot; references = same i }

more_twice : (a b : ℕ) (k : Kept) → with_more_references b (with_more_references a k) ≡ with_more_references (a + b) k
more_twice a b k = let same : k.references + a + b ≡ k.references + (a + b) = omega arith in λ i. record { ordinal = k.ordinal; slot = k.slot; references = same i }

option_none : (o : Option Kept) → o ≡ option_map (with_more_references 0) o
option_none None = refl
option_none (Some k) = ap (λ (j : Kept). Some j) (sym (more_none k))

option_twice : (a b : ℕ) (o : Option Kept) → option_map (with_more_references b) (option_map (with_more_references a) o) ≡ option_map (with_more_references (a + b)) o
option_twice a b None = refl
option_twice a b (Some k) = ap (λ (j : Kept). Some j) (more_twice a b k)

pub Gains-none : (more : ℕ → ℕ) (x : Index) → ((q : ℕ) → more q ≡ 0) → Gains more x x
Gains-none more x none = record { each = λ q. option_none (kept_under x q) ∙ ap (λ n. option_map (with_more_references n) (kept_under x q)) (sym (none q)) }

pub Gains-then : (a b all : ℕ → ℕ) (x y z : Index) → Gains a x y → Gains b y z → ((q : ℕ) → a q + b q ≡ all q) → Gains all x z
Gains-then a b all x y z first then_ sum = record {
  each = λ q. then_.each q ∙ ap (option_map (with_more_references (b q))) (first.each q) ∙ option_twice (a q) (b q) (kept_under x q) ∙ ap (λ n. option_map (with_more_references n) (kept_under x q)) (sum q);
}

pub Gains-same : (a b : ℕ → ℕ) (x y : Index) → ((q : ℕ) → a q ≡ b q) → Gains a x y → Gains b x y
Gains-same a b x y same gains = record { each = λ q. gains.each q ∙ ap (λ n. option_map (with_more_references n) (kept_under x q)) (same q) }

-- A pointer names a serial at most once.
once_at_most : (to q : ℕ) → names_one to q ≤ 1
once_at_most to q = elim (eqb to q && not (eqb q 0)) as (λ b. cond b 1 0 ≤ 1) [ true ↦ omega arith | false ↦ omega arith ]

held_at_most : (to q n : ℕ) (old : Option Kept) → IfSome old (λ k. k.references ≤ n) → IfSome (after_retain to q old) (λ k. k.references ≤ n + 1)
held_at_most to q n None few = few
held_at_most to q n (Some k) few = let one = once_at_most to q in omega arith

pub HasAtMost-held : (to n m : ℕ) (x y : Index) → HasAtMost n x → ((q : ℕ) → kept_under y q ≡ after_retain to q (kept_under x q)) → n + 1 ≡ m → HasAtMost m y
HasAtMost-held to n m x y few held next =
    subst (λ (j : ℕ). HasAtMost j y) next (record { each = λ q. subst (λ (o : Option Kept). IfSome o (λ k. k.references ≤ n + 1)) (sym (held q)) (held_at_most to q n (kept_under x q) (few.each q)) })

fewer : (n m : ℕ) (o : Option Kept) → n ≤ m → IfSome o (λ k. k.references ≤ n) → IfSome o (λ k. k.references ≤ m)
fewer n m None le few = few
fewer n m (Some k) le few = omega arith

pub HasAtMost-more : (n m : ℕ) (x : Index) → n ≤ m → HasAtMost n x → HasAtMost m x
HasAtMost-more n m x le few = record { each = λ q. fewer n m (kept_under x q) le (few.each q) }

room_for : (n : ℕ) (o : Option Kept) → n + 1 < 2 ^ 32 → IfSome o (λ k. k.references ≤ n) → IfSome o HasRoom
room_for n None low few = few
room_for n (Some k) low few = omega arith

pub has_room : (n : ℕ) (x : Index) → HasAtMost n x → n + 1 < 2 ^ 32 → (s : ℕ) → IfSome (kept_under x s) HasRoom
has_room n x few low s = room_for n (kept_under x s) low (few.each s)

-- what is listed has no reference yet
none_held_of : (o : Option ℕ) → IfSome (option_map (kept_of 0) o) (λ k. k.references ≤ 0)
none_held_of None = tt
none_held_of (Some p) = omega arith

pub HasAtMost-listed : (place : ℕ → Option ℕ) (x : Index) → ((q : ℕ) → kept_under x q ≡ option_map (kept_of 0) (place q)) → HasAtMost 0 x
HasAtMost-listed place x listed = record { each = λ q. subst (λ (o : Option Kept). IfSome o (λ k. k.references ≤ 0)) (sym (listed q)) (none_held_of (place q)) }

-- ---- fields

-- How often the first `count` fields name a serial.
abbrev pub fields_name : (ℕ → ℕ) → Stored → (place m count s : ℕ) → ℕ
fields_name serial st place m count s = sum_by (λ c. names_one (named_by serial c) s) (map (field_content st place m) (range_with_len 0 count))

pub fields_name-more : (serial : ℕ → ℕ) (st : Stored) (place m f named q : ℕ) → named ≡ named_by serial (field_content st place m f) → fields_name serial st place m f q + names_one named q ≡ fields_name serial st place m (f + 1) q
fields_name-more serial st place m f named q is =
    ap (λ n. fields_name serial st place m f q + names_one n q) is
    ∙ sym (sum_by-map-range_with_len_more (λ c. names_one (named_by serial c) q) (field_content st place m) 0 f f (zero-add f))

-- ---- places

pub place_names-free : (t : Table) (p s : ℕ) → t.serial p ≡ 0 → place_names t p s ≡ 0
place_names-free t p s free = cond-true _ _ _ (eq-eqb _ 0 free)

pub place_names-live : (t : Table) (p s : ℕ) → t.serial p ≢ 0 → place_names t p s ≡ contents_name t.serial (t.contents p) s
place_names-live t p s used = cond-false _ _ _ (ne_eqb _ 0 used)

pub places_name-more : (t : Table) (p s : ℕ) → places_name t p s + place_names t p s ≡ places_name t (p + 1) s
places_name-more t p s =
    sym (ap (sum_by (λ k. place_names t k s)) (sym (map-id (range_with_len 0 (p + 1))))
    ∙ sum_by-map-range_with_len_more (λ k. place_names t k s) (λ k. k) 0 p p (zero-add p)
    ∙ ap (λ ps. sum_by (λ k. place_names t k s) ps + place_names t p s) (map-id (range_with_len 0 p)))

pub places_name-free : (t : Table) (p s : ℕ) → t.serial p ≡ 0 → places_name t p s ≡ places_name t (p + 1) s
places_name-free t p s free = let more = places_name-more t p s in let none = place_names-free t p s free in omega (arith, more, none)

-- ---- the graph

abbrev once : Bool → ℕ
once b = cond b 1 0

-- A value names a serial other than 0 as often as the serial that the value names tells.
pub named_once : (q : ℕ) (v : FieldValue) → (q ≡ 0 → ⊥) → times_named_by q v ≡ names_one (serial_named v) q
named_once q (Num n) some = sym (cond-false _ _ _ (ap (λ b. b && not (eqb q 0)) (ne_eqb 0 q (λ none. some (sym none)))))
named_once q (Ref r) some =
    elim (eqb r q) as (λ a. once a ≡ once (a && not (eqb q 0))) [ true ↦ ap (λ b. once (not b)) (sym (ne_eqb q 0 some)) | false ↦ refl ]

content_once : (q : ℕ) (serial : ℕ → ℕ) (c : Content) → (q ≡ 0 → ⊥) → times_named_by q (value_of serial c) ≡ names_one (named_by serial c) q
content_once q serial (Number v) some = named_once q (Num v) some
content_once q serial Null some = named_once q (Ref 0) some
content_once q serial (At p) some = named_once q (Ref (serial p)) some
content_once q serial Nowhere some = named_once q (Ref 0) some

values_counted : (q : ℕ) (serial : ℕ → ℕ) (contents : List Content) → (q ≡ 0 → ⊥) → count_by (names_serial q) (map (value_of serial) contents) ≡ sum_by (λ c. names_one (named_by serial c) q) contents
values_counted q serial [] some = refl
values_counted q serial (c ∷ contents) some =
    sum_by-cons (times_named_by q) (value_of serial c) (map (value_of serial) contents)
    ∙ ap₂ (λ (a b : ℕ). a + b) (content_once q serial c some) (values_counted q serial contents some)
    ∙ sym (sum_by-cons (λ d. names_one (named_by serial d) q) c contents)

contents_counted : (q : ℕ) (serial : ℕ → ℕ) (contents : Option (List Content)) → (q ≡ 0 → ⊥) → count_by (names_serial q) (map (value_of serial) (contents_or_none contents)) ≡ contents_name serial contents q
contents_counted q serial None some = refl
contents_counted q serial (Some contents) some = values_counted q serial contents some

worth_named : (q : ℕ) (t : Table) (p : ℕ) → (q ≡ 0 → ⊥) → worth nat_cmp (λ (e : ℕ × Object). pointers_to q e.1) (live t p) ≡ place_names t p q
worth_named q t p some = elim (cases_eq (t.serial p) 0) [
  | inl free ↦ ap (worth nat_cmp (λ (e : ℕ × Object). pointers_to q e.1)) (under_serial-free t.serial (object_at t) p free) ∙ sym (place_names-free t p q free)
  | inr used ↦
      ap (worth nat_cmp (λ (e : ℕ × Object). pointers_to q e.1)) (under_serial-used t.serial (object_at t) p used)
      ∙ contents_counted q t.serial (t.contents p) some
      ∙ sym (place_names-live t p q used)
]

-- The reference counts of a graph are those that are counted over the slots of its pool and its root.
reference_count-places : (types : List (ℕ × ℕ)) (st : Stored) (g : Graph) (q : ℕ) → graph_of types st ≡ Some g → (q ≡ 0 → ⊥)
    → places_name (table_of types st) (places_of st) q + names_one (named_by (serials_in st) (root_of st)) q ≡ reference_count q g
unfolding reference_count
reference_count-places types st g q is some =
    let h = graph_of-each types st g is in
    let t = table_of types st in
    let n = places_of st in
    let root = named_once q (Ref (named_by t.serial (root_of st))) some in
    let objects = sum-keyed nat_cmp (λ (e : ℕ × Object). pointers_to q e.1) nat_cmp_total (live t) 0 n (distinct_live t n h.graph.distinct)
    ∙ sum_places-same _ (λ p. place_names t p q) 0 n (λ j low high. worth_named q t j some)
    ∙ sum_places-listed (λ p. place_names t p q) 0 n in
    sym (ap (reference_count q) (sym h.is) ∙ ap₂ (λ (a b : ℕ). a + b) root objects ∙ add_comm _ _)

counted_kept : (m r total : ℕ) (o : Option ℕ) → ((p : ℕ) → o ≡ Some p → m + r ≡ total) → option_map (with_more_references r) (option_map (with_more_references m) (option_map (kept_of 0) o)) ≡ option_map (kept_of total) o
counted_kept m r total None sums = refl
counted_kept m r total (Some p) sums =
    let sum = sums p refl in
    let same : 0 + m + r ≡ total = omega (arith, sum) in
    ap (λ (j : ℕ). Some (kept_of j p)) same

-- No object stands at a place under serial 0.
pub placed_used : (F : ℕ) (at : List (ℕ × Puddle)) (image : Image) (q p : ℕ) → place_in_pool F at image q ≡ Some p → q ≡ 0 → ⊥
placed_used F at image q p there none = let live = place_of_serial-some (table_in F at image) (places_in at) q p there in live.used (live.is ∙ none)

-- What was listed and counted of a pool is the pool's index.
pub index_built : (F : ℕ) (at : List (ℕ × Puddle)) (types : List (ℕ × ℕ)) (image : Image) (g : Graph) (serial : ℕ → ℕ) (n root : ℕ) (listed counted x : Index) → graph_of types (stored_in F at image) ≡ Some g
    → serial ≡ serials_in (stored_in F at image) → n ≡ places_in at → root ≡ named_by serial (root_of (stored_in F at image))
    → ((q : ℕ) → kept_under listed q ≡ option_map (kept_of 0) (first_from nat_cmp q (under_serial serial (λ p. p)) 0 n))
    → Gains (places_name (with_serials serial (table_of types (stored_in F at image))) (places_in at)) listed counted → ((q : ℕ) → kept_under x q ≡ after_retain root q (kept_under counted q)) → IsIndexOf F at types image x
index_built F at types image g serial n root listed counted x stored is_serial is_n is_root is_listed gains held =
    let st = stored_in F at image in
    let t = table_of types st in
    let place : (q : ℕ) → first_from nat_cmp q (under_serial serial (λ p. p)) 0 n ≡ place_in_pool F at image q =
    λ q. ap₂ (λ (f : ℕ → ℕ) (m : ℕ). first_from nat_cmp q (under_serial f (λ p. p)) 0 m) is_serial is_n in
    let sums : (q : ℕ) → (q ≡ 0 → ⊥) → places_name (with_serials serial t) (places_in at) q + names_one root q ≡ reference_count q g =
    λ q some.
    ap₂ (λ (a b : ℕ). a + b)
    (ap₂ (λ (f : ℕ → ℕ) (m : ℕ). places_name (with_serials f t) m q) is_serial (same_places F at image))
    (ap (λ (r : ℕ). names_one r q) (is_root ∙ ap (λ (f : ℕ → ℕ). named_by f (root_of st)) is_serial))
    ∙ reference_count-places types st g q stored some in
    record {
      graph = g;
      is = stored;
      index = record {
        each = λ q.
            held q
            ∙ ap (option_map (with_more_references (names_one root q))) (gains.each q ∙ ap (option_map (with_more_references (places_name (with_serials serial t) (places_in at) q))) (is_listed q))
            ∙ counted_kept (places_name (with_serials serial t) (places_in at) q) (names_one root q) (reference_count q g) (first_from nat_cmp q (under_serial serial (λ p. p)) 0 n)
            (λ p there. sums q (placed_used F at image q p (sym (place q) ∙ there)))
            ∙ ap (option_map (kept_of (reference_count q g))) (place q);
      };
    }
