-- Tables of slots in which one place changes: the table still is a graph, and the list of objects changes in one entry.
use Rattle.std.proofs.Common.{◌≡◌, ℕ, ◌<◌, ◌≤◌, true, cond, eqb, map, Option, Some, None, nat_cmp, option_map, refl, sym, ap, ap₂, subst, ◌∙◌, ⊎_elim, arith, eq-eqb, ne_eqb, zero-le}
use Rattle.std.specs.FinMap.Entries.{put, find}
use Rattle.std.proofs.lemmas.Bool.{cases_eq, cond-true, cond-false, not-true, eqb-false}
use Rattle.std.proofs.lemmas.Cmp.{nat_cmp_total}
use Rattle.pud_defs.specs.RegistryTables.Keyed.{keyed, under, without}
use Rattle.pud_defs.specs.PoolGraphs.Graph.{Content, Table, under_serial, serial_and_place, object_at, live, named_by, value_of, stands, all_stand, contents_or_none, is_next_serial}
use Rattle.pud_defs.proofs.RegistryTables.TypeLists.{same_test, same_number}
use Rattle.pud_defs.proofs.KeyedTables.Keyed.{HasDistinctKeys, IsSetAt, is_free_for, under_apart, under_none, alone_there, keyed-same, keyed-put, keyed-without, HasDistinctKeys-set, find-keyed_place}
use Rattle.pud_defs.proofs.PoolGraphs.Graphs.{IsSoundPlace, IsGraph, under_serial-free, under_serial-used, distinct_live, live-alike}
use Rattle.pud_defs.proofs.PoolGraphs.Contents.{names_only, name_only, stands-same, named_by-same, all_stand-same, values-same}
use Rattle.pud_defs.specs.PoolGraphs.Stored.{slot_state}
use Rattle.graph_laws.proofs.ObjectChanges.ContentLists.{is_other}

-- ---- a keyed list in which one record changes, by what is below its end

module _ {X : Type 0} where
  -- The records, with the one at place i replaced.
  abbrev replaced : (ℕ → Option (ℕ × X)) → ℕ → Option (ℕ × X) → ℕ → Option (ℕ × X)
  replaced f i now j = cond (eqb j i) now (f j)

  -- Below n the second table has the records of the first, except for one. That one was free or had the key, and no
  -- other record has the key.
  pub record IsSetBelow (f g : ℕ → Option (ℕ × X)) (n i k : ℕ) (now : Option X) : Type 0 where
    pub within : i < n
    pub others : (j : ℕ) → j < n → (j ≡ i → ⊥) → g j ≡ f j
    pub is : g i ≡ option_map (λ v. (k, v)) now
    pub was : is_free_for nat_cmp k (f i) ≡ true
    pub alone : (j : ℕ) → j < n → (j ≡ i → ⊥) → under nat_cmp k (f j) ≡ None

  replaced_is_set : (f g : ℕ → Option (ℕ × X)) (n i k : ℕ) (now : Option X) → IsSetBelow f g n i k now → IsSetAt nat_cmp f (replaced f i (g i)) 0 n i k now
  replaced_is_set f g n i k now h = let within = h.within in record {
    low = zero-le;
    high = omega arith;
    others = λ j other. cond-false _ _ _ (ne_eqb j i other);
    is = cond-true _ _ _ (eq-eqb i i refl) ∙ h.is;
    was = h.was;
    alone = λ j low high other. h.alone j (omega arith) other;
  }

  keyed-replaced : (f g : ℕ → Option (ℕ × X)) (n i k : ℕ) (now : Option X) → IsSetBelow f g n i k now → keyed nat_cmp g 0 n ≡ keyed nat_cmp (replaced f i (g i)) 0 n
  keyed-replaced f g n i k now h = keyed-same nat_cmp g (replaced f i (g i)) 0 n (λ j low high. ⊎_elim
      (λ e. ap g e ∙ sym (cond-true _ _ _ (eq-eqb j i e)))
      (λ other. h.others j (omega arith) other ∙ sym (cond-false _ _ _ (ne_eqb j i other)))
      (cases_eq j i))

  pub keyed-put_below : (f g : ℕ → Option (ℕ × X)) (n i k : ℕ) (v : X) → IsSetBelow f g n i k (Some v) → keyed nat_cmp g 0 n ≡ put nat_cmp k v (keyed nat_cmp f 0 n)
  keyed-put_below f g n i k v h = keyed-replaced f g n i k (Some v) h ∙ keyed-put nat_cmp nat_cmp_total same_number f (replaced f i (g i)) 0 n i k v (replaced_is_set f g n i k (Some v) h)

  pub keyed-without_below : (f g : ℕ → Option (ℕ × X)) (n i k : ℕ) → IsSetBelow f g n i k None → keyed nat_cmp g 0 n ≡ without nat_cmp k (keyed nat_cmp f 0 n)
  keyed-without_below f g n i k h = keyed-replaced f g n i k None h ∙ keyed-without nat_cmp nat_cmp_total same_number f (replaced f i (g i)) 0 n i k (replaced_is_set f g n i k None h)

-- ---- what stands under a serial

module _ {A : Type 0} (serial : ℕ → ℕ) (value : ℕ → A) where
  -- A place of another serial is not under this one.
  pub under_other : (k p : ℕ) → (serial p ≡ k → ⊥) → under nat_cmp k (under_serial serial value p) ≡ None
  under_other k p other = ⊎_elim
      (λ free. ap (under nat_cmp k) (under_serial-free serial value p free))
      (λ used. ap (under nat_cmp k) (under_serial-used serial value p used) ∙ under_apart nat_cmp k (serial p, value p) (same_test k (serial p) ∙ ne_eqb _ _ (λ e. other (sym e))))
      (cases_eq (serial p) 0)

-- two live places have different serials
pub serials_apart : (serial : ℕ → ℕ) (n p : ℕ) → HasDistinctKeys nat_cmp (under_serial serial (λ (q : ℕ). q)) 0 n → p < n → (serial p ≡ 0 → ⊥) → (q : ℕ) → q < n → (q ≡ p → ⊥) → serial q ≡ serial p → ⊥
serials_apart serial n p h within used q below other same =
    let own = λ (i : ℕ). i in
    let alone = alone_there nat_cmp nat_cmp_total (under_serial serial own) 0 n p (serial p, p) h zero-le (omega arith) (under_serial-used serial own p used) q zero-le (omega arith) other in
    let here = under_serial-used serial own q (λ free. used (sym same ∙ free)) in
    let apart = under_none nat_cmp (serial p) (serial q, q) (sym (ap (under nat_cmp (serial p)) here) ∙ alone) in
    eqb-false (serial p) (serial q) (sym (same_test (serial p) (serial q)) ∙ apart) (sym same)

-- the object of a live place is found under its serial
pub find-live : (t : Table) (n p : ℕ) → HasDistinctKeys nat_cmp (serial_and_place t) 0 n → p < n → (t.serial p ≡ 0 → ⊥) → find nat_cmp (t.serial p) (keyed nat_cmp (live t) 0 n) ≡ Some (object_at t p)
find-live t n p h within used =
    find-keyed_place nat_cmp nat_cmp_total (live t) 0 n p (t.serial p, object_at t p) (distinct_live t n h) zero-le (omega arith) (under_serial-used t.serial (object_at t) p used)

-- ---- a table in which one place changes

-- The second table is the first, except for one place.
pub record IsSameBut (t u : Table) (n p : ℕ) : Type 0 where
  pub within : p < n
  pub serial : (q : ℕ) → (q ≡ p → ⊥) → u.serial q ≡ t.serial q
  pub class : (q : ℕ) → q < n → (q ≡ p → ⊥) → (t.serial q ≡ 0 → ⊥) → u.class q ≡ t.class q
  pub type_id : (q : ℕ) → q < n → (q ≡ p → ⊥) → (t.serial q ≡ 0 → ⊥) → u.type_id q ≡ t.type_id q
  pub contents : (q : ℕ) → q < n → (q ≡ p → ⊥) → (t.serial q ≡ 0 → ⊥) → u.contents q ≡ t.contents q

-- Neither the root nor another live place names the place.
pub record IsUnnamed (top : Content) (t : Table) (n p : ℕ) : Type 0 where
  pub root : names_only (is_other p) top ≡ true
  pub each : (q : ℕ) → q < n → (q ≡ p → ⊥) → (t.serial q ≡ 0 → ⊥) → name_only (is_other p) (t.contents q) ≡ true

module _ (t u : Table) (n p : ℕ) (same : IsSameBut t u n p) where
  agree : (q : ℕ) → is_other p q ≡ true → u.serial q ≡ t.serial q
  agree q other = same.serial q (eqb-false q p (not-true _ other))

  -- Another place has the object that it had, if the values are the same.
  live-other : (q : ℕ) → q < n → (q ≡ p → ⊥)
      → ((t.serial q ≡ 0 → ⊥) → map (value_of u.serial) (contents_or_none (t.contents q)) ≡ map (value_of t.serial) (contents_or_none (t.contents q)))
      → live u q ≡ live t q
  live-other q below other values = live-alike t u q (same.serial q other) (same.class q below other) (same.type_id q below other) (same.contents q below other) values

  -- ---- the serial stays

  module _ (still : u.serial p ≡ t.serial p) where
    pub serials_still : u.serial ≡ t.serial
    serials_still = let each : (q : ℕ) → u.serial q ≡ t.serial q = λ q. ⊎_elim (λ e. ap u.serial e ∙ still ∙ ap t.serial (sym e)) (λ other. same.serial q other) (cases_eq q p) in λ i q. each q i

    -- If the fields of the place stand for something, the table still is a graph.
    pub IsGraph-in_place : (next : ℕ) (top : Content) → all_stand t.serial (u.contents p) ≡ true → IsGraph next top t n → IsGraph next top u n
    IsGraph-in_place next top stand h = record {
      legal = h.legal;
      top_stands = ap (λ (s : ℕ → ℕ). stands s top) serials_still ∙ h.top_stands;
      distinct = subst (λ (s : ℕ → ℕ). HasDistinctKeys nat_cmp (under_serial s (λ q. q)) 0 n) (sym serials_still) h.distinct;
      sound = λ q below used.
          let here : u.serial q ≡ t.serial q = ap (λ (s : ℕ → ℕ). s q) serials_still in
          let sound = h.sound q below (λ free. used (here ∙ free)) in
          let low = sound.below in record {
            below = omega arith;
            stand = ⊎_elim
                (λ e. ap (λ (s : ℕ → ℕ). all_stand s (u.contents q)) serials_still ∙ ap (λ k. all_stand t.serial (u.contents k)) e ∙ stand)
                (λ other. ap₂ all_stand serials_still (same.contents q below other (λ free. used (here ∙ free))) ∙ sound.stand)
                (cases_eq q p);
          };
    }

    -- In the list of objects, the new object replaces the old one.
    pub objects-in_place : HasDistinctKeys nat_cmp (serial_and_place t) 0 n → (t.serial p ≡ 0 → ⊥) → keyed nat_cmp (live u) 0 n ≡ put nat_cmp (t.serial p) (object_at u p) (keyed nat_cmp (live t) 0 n)
    objects-in_place distinct used = keyed-put_below (live t) (live u) n p (t.serial p) (object_at u p) (record {
      within = same.within;
      others = λ q below other. live-other q below other (λ h. ap (λ (s : ℕ → ℕ). map (value_of s) (contents_or_none (t.contents q))) serials_still);
      is = under_serial-used u.serial (object_at u) p (λ free. used (sym still ∙ free)) ∙ ap (λ k. Some (k, object_at u p)) still;
      was = ap (is_free_for nat_cmp (t.serial p)) (under_serial-used t.serial (object_at t) p used) ∙ same_test (t.serial p) (t.serial p) ∙ eq-eqb (t.serial p) (t.serial p) refl;
      alone = λ q below other. under_other t.serial (object_at t) (t.serial p) q (serials_apart t.serial n p distinct same.within used q below other);
    })

  -- ---- the serial changes, and nothing named the place

  module _ (next : ℕ) (top : Content) (h : IsGraph next top t n) (unnamed : IsUnnamed top t n p) where
    live-unnamed : (q : ℕ) → q < n → (q ≡ p → ⊥) → live u q ≡ live t q
    live-unnamed q below other = live-other q below other (λ used. values-same t.serial u.serial (is_other p) agree (contents_or_none (t.contents q)) (unnamed.each q below other used))

    pub root-unnamed : named_by u.serial top ≡ named_by t.serial top
    root-unnamed = named_by-same t.serial u.serial (is_other p) agree top unnamed.root

    pub IsGraph-unnamed : (later : ℕ) → next ≤ later → is_next_serial later ≡ true → HasDistinctKeys nat_cmp (serial_and_place u) 0 n → ((u.serial p ≡ 0 → ⊥) → IsSoundPlace later u p) → IsGraph later top u n
    IsGraph-unnamed later more legal distinct here = record {
      legal = legal;
      top_stands = stands-same t.serial u.serial (is_other p) agree top unnamed.root ∙ h.top_stands;
      distinct = distinct;
      sound = λ q below used. ⊎_elim
          (λ e. subst (λ k. IsSoundPlace later u k) (sym e) (here (λ free. used (ap u.serial e ∙ free))))
          (λ other.
          let serial = same.serial q other in
          let live : t.serial q ≡ 0 → ⊥ = λ free. used (serial ∙ free) in
          let sound = h.sound q below live in
          let low = sound.below in
          record {
            below = omega arith;
            stand = ap (all_stand u.serial) (same.contents q below other live) ∙ all_stand-same t.serial u.serial (is_other p) agree (t.contents q) (unnamed.each q below other live) ∙ sound.stand;
          })
          (cases_eq q p);
    }

    -- A free place gets a serial that no live place has.
    module _ (free : t.serial p ≡ 0) (fresh : (q : ℕ) → q < n → (t.serial q ≡ 0 → ⊥) → t.serial q ≡ u.serial p → ⊥) (used : u.serial p ≡ 0 → ⊥) where
      apart_now : (q : ℕ) → q < n → (q ≡ p → ⊥) → t.serial q ≡ u.serial p → ⊥
      apart_now q below other e = fresh q below (λ zero. used (sym e ∙ zero)) e

      pub distinct-new : HasDistinctKeys nat_cmp (serial_and_place u) 0 n
      distinct-new = HasDistinctKeys-set nat_cmp nat_cmp_total (serial_and_place t) (serial_and_place u) 0 n p (u.serial p) (Some p) (let within = same.within in record {
        low = zero-le;
        high = omega arith;
        others = λ q other. ap (λ k. cond (slot_state k).is_live (Some (k, q)) None) (same.serial q other);
        is = under_serial-used u.serial (λ q. q) p used;
        was = ap (is_free_for nat_cmp (u.serial p)) (under_serial-free t.serial (λ (q : ℕ). q) p free);
        alone = λ q low high other. under_other t.serial (λ q. q) (u.serial p) q (apart_now q (omega arith) other);
      }) h.distinct

      pub objects-new : keyed nat_cmp (live u) 0 n ≡ put nat_cmp (u.serial p) (object_at u p) (keyed nat_cmp (live t) 0 n)
      objects-new = keyed-put_below (live t) (live u) n p (u.serial p) (object_at u p) (record {
        within = same.within;
        others = live-unnamed;
        is = under_serial-used u.serial (object_at u) p used;
        was = ap (is_free_for nat_cmp (u.serial p)) (under_serial-free t.serial (object_at t) p free);
        alone = λ q below other. under_other t.serial (object_at t) (u.serial p) q (apart_now q below other);
      })

    -- A live place is freed.
    module _ (used : t.serial p ≡ 0 → ⊥) (free : u.serial p ≡ 0) where
      pub distinct-freed : HasDistinctKeys nat_cmp (serial_and_place u) 0 n
      distinct-freed = HasDistinctKeys-set nat_cmp nat_cmp_total (serial_and_place t) (serial_and_place u) 0 n p (t.serial p) None (let within = same.within in record {
        low = zero-le;
        high = omega arith;
        others = λ q other. ap (λ k. cond (slot_state k).is_live (Some (k, q)) None) (same.serial q other);
        is = under_serial-free u.serial (λ q. q) p free;
        was = ap (is_free_for nat_cmp (t.serial p)) (under_serial-used t.serial (λ (q : ℕ). q) p used) ∙ same_test (t.serial p) (t.serial p) ∙ eq-eqb (t.serial p) (t.serial p) refl;
        alone = λ q low high other. under_other t.serial (λ q. q) (t.serial p) q (serials_apart t.serial n p h.distinct same.within used q (omega arith) other);
      }) h.distinct

      pub objects-freed : keyed nat_cmp (live u) 0 n ≡ without nat_cmp (t.serial p) (keyed nat_cmp (live t) 0 n)
      objects-freed = keyed-without_below (live t) (live u) n p (t.serial p) (record {
        within = same.within;
        others = live-unnamed;
        is = under_serial-free u.serial (object_at u) p free;
        was = ap (is_free_for nat_cmp (t.serial p)) (under_serial-used t.serial (object_at t) p used) ∙ same_test (t.serial p) (t.serial p) ∙ eq-eqb (t.serial p) (t.serial p) refl;
        alone = λ q below other. under_other t.serial (object_at t) (t.serial p) q (serials_apart t.serial n p h.distinct same.within used q below other);
      })
