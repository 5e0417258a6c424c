-- When slots are a graph, and when what is stored has one, fact by fact. Also tables that are read the same.
use Rattle.std.proofs.Common.{◌≡◌, inl, ℕ, ◌+◌, ◌<◌, ◌≤◌, Bool, true, false, cond, ltb, eqb, List, map, length, Some, None, is_none, option_map, nat_cmp, refl, sym, ap, ap₂, ◌∙◌, ⊎_elim, arith, eq-eqb, ne_eqb, not}
use Rattle.std.proofs.lemmas.Cmp.{nat_cmp_total}
use Rattle.std.proofs.lemmas.Bool.{cases_eq, cond-true, cond-false, and_parts, and_from, or_left, or_right, or_cases, eqb-true, ltb-true, lt-ltb}
use Rattle.std.proofs.lemmas.Option.{cond_some}
use Rattle.pud_defs.specs.PoolGraphs.Stored.{Stored, places_of, slot_state}
use Rattle.pud_defs.specs.PoolGraphs.Graph.{Content, Table, table_of, Graph, under_serial, serial_and_place, object_at, live, graph_by, stands, all_stand, is_sound_place, is_next_serial, is_graph, headers_fit, value_of, contents_or_none, next_serial_of, root_of, graph_stored, graph_of}
use Rattle.pud_defs.proofs.PoolGraphs.Contents.{names_only, name_only, stands-same, named_by-same, all_stand-same, values-same}
use Rattle.pud_defs.specs.RegistryTables.Keyed.{keyed, count_used}
use Rattle.pud_defs.proofs.KeyedTables.Keyed.{HasDistinctKeys, HasDistinctKeys-fewer, HasDistinctKeys-keys, distinct_keys, are_distinct_keys, keyed-same, length-keyed}
use Rattle.pud_defs.proofs.RegistryTables.PoolsCounted.{count_used-same}
use Rattle.pud_defs.proofs.RegistryTables.Spaces.{all_below-from, all_below-each}

-- ---- the facts

-- the serial of a live place is below the next one, its type is defined, and each of its fields stands for something
pub record IsSoundPlace (next : ℕ) (t : Table) (p : ℕ) : Type 0 where
  pub below : t.serial p < next
  pub stand : all_stand t.serial (t.contents p) ≡ true

pub record IsGraph (next : ℕ) (top : Content) (t : Table) (n : ℕ) : Type 0 where
  pub legal : is_next_serial next ≡ true
  pub top_stands : stands t.serial top ≡ true
  pub distinct : HasDistinctKeys nat_cmp (serial_and_place t) 0 n
  pub sound : (p : ℕ) → p < n → (t.serial p ≡ 0 → ⊥) → IsSoundPlace next t p

pub record HasGraph (types : List (ℕ × ℕ)) (st : Stored) (g : Graph) : Type 0 where
  pub headers : headers_fit st ≡ true
  pub graph : IsGraph (next_serial_of st) (root_of st) (table_of types st) (places_of st)
  pub is : graph_stored types st ≡ g

-- ---- from the test to the facts, and back

sound_if_live : (next : ℕ) (t : Table) (p : ℕ) → is_sound_place next t p ≡ true → (t.serial p ≡ 0 → ⊥) → IsSoundPlace next t p
sound_if_live next t p sound live = ⊎_elim
    (λ free. absurd (live (eqb-true _ _ free)))
    (λ used. let parts = and_parts _ _ used in record { below = ltb-true _ _ parts.0; stand = parts.1 })
    (or_cases _ _ sound)

is_sound_if : (next : ℕ) (t : Table) (p : ℕ) → ((t.serial p ≡ 0 → ⊥) → IsSoundPlace next t p) → is_sound_place next t p ≡ true
is_sound_if next t p sound = ⊎_elim
    (λ free. or_left _ _ (eq-eqb _ _ free))
    (λ used. let s = sound used in or_right _ _ (and_from _ _ (lt-ltb _ _ s.below) s.stand))
    (cases_eq (t.serial p) 0)

pub is_graph-each : (next : ℕ) (top : Content) (t : Table) (n : ℕ) → is_graph next top t n ≡ true → IsGraph next top t n
unfolding is_graph
is_graph-each next top t n h =
    let all = and_parts _ _ h in
    let distinct = and_parts _ _ all.0 in
    let front = and_parts _ _ distinct.0 in
    record {
      legal = front.0;
      top_stands = front.1;
      distinct = distinct_keys nat_cmp (serial_and_place t) 0 n distinct.1;
      sound = λ p below live. sound_if_live next t p (all_below-each n (is_sound_place next t) all.1 p below) live;
    }

pub is_graph-from : (next : ℕ) (top : Content) (t : Table) (n : ℕ) → IsGraph next top t n → is_graph next top t n ≡ true
unfolding is_graph
is_graph-from next top t n h =
    and_from _ _
    (and_from _ _ (and_from _ _ h.legal h.top_stands) (are_distinct_keys nat_cmp (serial_and_place t) 0 n h.distinct))
    (all_below-from n (is_sound_place next t) (λ p below. is_sound_if next t p (h.sound p below)))

pub graph_of-each : (types : List (ℕ × ℕ)) (st : Stored) (g : Graph) → graph_of types st ≡ Some g → HasGraph types st g
unfolding graph_of
graph_of-each types st g h =
    let found = cond_some _ (graph_stored types st) g h in
    let parts = and_parts (headers_fit st) _ found.0 in
    record { headers = parts.0; graph = is_graph-each _ _ _ _ parts.1; is = found.1 }

pub graph_of-from : (types : List (ℕ × ℕ)) (st : Stored) (g : Graph) → HasGraph types st g → graph_of types st ≡ Some g
unfolding graph_of
graph_of-from types st g h = cond-true _ _ _ (and_from _ _ h.headers (is_graph-from _ _ _ _ h.graph)) ∙ ap (λ (x : Graph). Some x) h.is

-- ---- what is under a serial

none_alike : {A B : Type 0} (b : Bool) (x : A) (y : B) → is_none (cond b (Some x) None) ≡ is_none (cond b (Some y) None)
none_alike true x y = refl
none_alike false x y = refl

module _ {A : Type 0} (serial : ℕ → ℕ) (value : ℕ → A) where
  pub under_serial-free : (p : ℕ) → serial p ≡ 0 → under_serial serial value p ≡ None
  under_serial-free p free = cond-false _ _ _ (ap not (eq-eqb _ 0 free))

  pub under_serial-used : (p : ℕ) → (serial p ≡ 0 → ⊥) → under_serial serial value p ≡ Some (serial p, value p)
  under_serial-used p used = cond-true _ _ _ (ap not (ne_eqb _ 0 used))

  pub key_of_serial : (p : ℕ) → option_map (λ (e : ℕ × A). e.0) (under_serial serial value p) ≡ cond (eqb (serial p) 0) None (Some (serial p))
  key_of_serial p = ⊎_elim
      (λ free. ap (option_map (λ (e : ℕ × A). e.0)) (under_serial-free p free) ∙ sym (cond-true _ _ _ (eq-eqb _ 0 free)))
      (λ used. ap (option_map (λ (e : ℕ × A). e.0)) (under_serial-used p used) ∙ sym (cond-false _ _ _ (ne_eqb _ 0 used)))
      (cases_eq (serial p) 0)

-- if places have distinct serials, so have their objects, whatever they are
pub distinct_live : (t : Table) (n : ℕ) → HasDistinctKeys nat_cmp (serial_and_place t) 0 n → HasDistinctKeys nat_cmp (live t) 0 n
distinct_live t n h = HasDistinctKeys-keys nat_cmp (serial_and_place t) (live t) 0 n (λ j. key_of_serial t.serial (λ p. p) j ∙ sym (key_of_serial t.serial (object_at t) j)) h

-- there are as many objects as live places
pub length-live : (t : Table) (n : ℕ) → HasDistinctKeys nat_cmp (serial_and_place t) 0 n → length (keyed nat_cmp (live t) 0 n) ≡ count_used (serial_and_place t) 0 n
length-live t n h =
    length-keyed nat_cmp nat_cmp_total (live t) 0 n (distinct_live t n h)
    ∙ count_used-same (live t) (serial_and_place t) 0 n (λ j low high. none_alike (slot_state (t.serial j)).is_live (t.serial j, object_at t j) (t.serial j, j))

-- what is under a serial does not change if the serial is the same, and the value is too if there is a serial
pub under_serial-same : {A : Type 0} (s r : ℕ → ℕ) (f g : ℕ → A) (p : ℕ) → r p ≡ s p → ((s p ≡ 0 → ⊥) → g p ≡ f p) → under_serial r g p ≡ under_serial s f p
under_serial-same s r f g p serial value =
    ⊎_elim
    (λ free. under_serial-free r g p (serial ∙ free) ∙ sym (under_serial-free s f p free))
    (λ used. under_serial-used r g p (λ free. used (sym serial ∙ free)) ∙ ap₂ (λ k x. Some (k, x)) serial (value used) ∙ sym (under_serial-used s f p used))
    (cases_eq (s p) 0)

-- what is at a place with the same serial, type, contents and values is the same
pub live-alike : (t u : Table) (p : ℕ) → u.serial p ≡ t.serial p → ((t.serial p ≡ 0 → ⊥) → u.class p ≡ t.class p) → ((t.serial p ≡ 0 → ⊥) → u.type_id p ≡ t.type_id p) → ((t.serial p ≡ 0 → ⊥) → u.contents p ≡ t.contents p)
    → ((t.serial p ≡ 0 → ⊥) → map (value_of u.serial) (contents_or_none (t.contents p)) ≡ map (value_of t.serial) (contents_or_none (t.contents p)))
    → live u p ≡ live t p
live-alike t u p serial class type contents values = under_serial-same t.serial u.serial (object_at t) (object_at u) p serial (λ used.
    let fields = ap (λ c. map (value_of u.serial) (contents_or_none c)) (contents used) ∙ values used in
    λ i. record { type_id = type used i; class = class used i; fields = fields i })

-- ---- tables that are read the same

-- the serials are the same, what is at each live place is the same, and no other places are named
pub record IsSameTable (t u : Table) (n : ℕ) : Type 0 where
  pub serial : (p : ℕ) → p < n → u.serial p ≡ t.serial p
  pub class : (p : ℕ) → p < n → (t.serial p ≡ 0 → ⊥) → u.class p ≡ t.class p
  pub type_id : (p : ℕ) → p < n → (t.serial p ≡ 0 → ⊥) → u.type_id p ≡ t.type_id p
  pub contents : (p : ℕ) → p < n → (t.serial p ≡ 0 → ⊥) → u.contents p ≡ t.contents p
  pub within : (p : ℕ) → p < n → (t.serial p ≡ 0 → ⊥) → name_only (λ q. ltb q n) (t.contents p) ≡ true

module _ (t u : Table) (n : ℕ) (same : IsSameTable t u n) where
  agree : (p : ℕ) → ltb p n ≡ true → u.serial p ≡ t.serial p
  agree p below = same.serial p (ltb-true p n below)

  placed-same : (p : ℕ) → 0 ≤ p → p < 0 + n → serial_and_place u p ≡ serial_and_place t p
  placed-same p low high = under_serial-same t.serial u.serial (λ q. q) (λ q. q) p (same.serial p (omega arith)) (λ used. refl)

  pub live-same : (p : ℕ) → p < n → live u p ≡ live t p
  live-same p below =
      live-alike t u p (same.serial p below) (same.class p below) (same.type_id p below) (same.contents p below)
      (λ used. values-same t.serial u.serial (λ q. ltb q n) agree (contents_or_none (t.contents p)) (same.within p below used))

  module _ (next : ℕ) (top : Content) (top_within : names_only (λ q. ltb q n) top ≡ true) where
    pub IsGraph-same : IsGraph next top t n → IsGraph next top u n
    IsGraph-same h = record {
      legal = h.legal;
      top_stands = stands-same t.serial u.serial (λ q. ltb q n) agree top top_within ∙ h.top_stands;
      distinct = HasDistinctKeys-fewer nat_cmp (serial_and_place t) (serial_and_place u) 0 n (λ p low high. inl (placed-same p low high)) h.distinct;
      sound = λ p below used.
          let here = same.serial p below in
          let live : t.serial p ≡ 0 → ⊥ = λ free. used (here ∙ free) in
          let sound = h.sound p below live in
          let low = sound.below in
          record {
            below = omega arith;
            stand = ap (all_stand u.serial) (same.contents p below live) ∙ all_stand-same t.serial u.serial (λ q. ltb q n) agree (t.contents p) (same.within p below live) ∙ sound.stand;
          };
    }

    pub graph_by-same : graph_by next top u n ≡ graph_by next top t n
    graph_by-same =
        let root = named_by-same t.serial u.serial (λ q. ltb q n) agree top top_within in
        let objects = keyed-same nat_cmp (live u) (live t) 0 n (λ p low high. live-same p (omega arith)) in
        λ i. record { next_serial = next; root = root i; objects = objects i }
