-- The pools of tables that were changed: a mode is changed, a pool is made, a pool is dropped.
use Rattle.std.proofs.Common.{◌≡◌, inl, inr, ℕ, ◌+◌, ◌<◌, ◌≤◌, true, false, cond, eqb, List, [], ◌∷◌, Option, Some, None, nat_cmp, option_map, refl, sym, ap, ap₂, ◌∙◌, arith, ne_eqb, eq-eqb}
use Rattle.std.specs.FinMap.{nat_cmp-IsAntisymmetric, slice_cmp-IsAntisymmetric}
use Rattle.std.specs.FinMap.Entries.{put}
use Rattle.std.specs.Cmp.Lexicographic.{nat_list_cmp_total}
use Rattle.std.specs.Cmp.{tied_itself}
use Rattle.std.specs.Ordering.{is_eq}
use Rattle.std.specs.declared.cmp.Ordering.TheVariants.{Equal}
use Rattle.std.proofs.lemmas.Cmp.{nat_cmp_total}
use Rattle.std.proofs.lemmas.Bool.{cases_eq, cond-true, cond-false}
use Rattle.pud_defs.specs.declared.records.TheConstants.{POOL_RECORDS}
use Rattle.pud_defs.specs.declared.records.PoolRecord.{PoolRecord}
use Rattle.pud_defs.specs.declared.records.Puddle.{Puddle}
use Rattle.pud_defs.specs.declared.records.PuddleRecord.{PuddleRecord}
use Rattle.pud_defs.specs.Formats.Image.{Image}
use Rattle.pud_defs.specs.Formats.Names.{name_cmp}
use Rattle.pud_defs.specs.RegistryTables.Keyed.{under, keyed, first_from, without}
use Rattle.pud_defs.specs.RegistryTables.Pools.{IsEncodable}
use Rattle.pud_defs.specs.RegistryTables.Puddles.{Member}
use Rattle.pud_defs.specs.RegistryTables.Tables.{Tables, Pool, Reader, tables_of, member_of, members, puddles_of, named, pool_of, entries, pools_of}
use Rattle.pud_defs.specs.RegistryTables.Puts.{with_put, pool_put, puddle_put, member_by, changed_at, with_pool_at, with_puddle_at, is_of_pool, without_pool_at}
use Rattle.pud_defs.proofs.KeyedTables.Keyed.{HasDistinctKeys, HasDistinctKeys-keys, no_key, is_free_for, alone_there, first_from_none_each, keyed-put, keyed-without, keyed-none}
use Rattle.pud_defs.proofs.RegistryTables.PutsMade.{FitsWords, pool_put_made, puddle_put_made}

-- ---- a place that is changed

pub changed_here : {A : Type 0} (i : ℕ) (now : A) (at : ℕ → A) → changed_at i now at i ≡ now
changed_here i now at = cond-true (eqb i i) now (at i) (eq-eqb i i refl)

pub changed_elsewhere : {A : Type 0} (i : ℕ) (now : A) (at : ℕ → A) (j : ℕ) → (j ≡ i → ⊥) → changed_at i now at j ≡ at j
changed_elsewhere i now at j other = cond-false (eqb j i) now (at j) (ne_eqb j i other)

-- ---- the pools, by names

pub same_name : (x y : List ℕ) → name_cmp x y ≡ Equal → x ≡ y
same_name x y e = slice_cmp-IsAntisymmetric nat_cmp-IsAntisymmetric x y e

abbrev pub entry_of : Reader → List (ℕ × (ℕ × Puddle)) → Option PoolRecord → Option (List ℕ × Pool)
entry_of hold puddles r = option_map (λ r. (r.name, pool_of hold r puddles)) r

entry_key : (hold : Reader) (slot : ℕ) (puddles : List (ℕ × (ℕ × Puddle))) (r : Option PoolRecord)
    → option_map (λ (p : List ℕ × (ℕ × PoolRecord)). p.0) (option_map (λ r. (r.name, (slot, r))) r) ≡ option_map (λ (p : List ℕ × Pool). p.0) (entry_of hold puddles r)
entry_key hold slot puddles None = refl
entry_key hold slot puddles (Some r) = refl

-- the pools have distinct names if the records have
pub distinct_entries : (hold : Reader) (t : Tables) → HasDistinctKeys name_cmp (named t) 0 POOL_RECORDS → HasDistinctKeys name_cmp (entries hold t) 0 POOL_RECORDS
distinct_entries hold t h = HasDistinctKeys-keys name_cmp (named t) (entries hold t) 0 POOL_RECORDS (λ j. entry_key hold j (puddles_of t j) (t.pools j)) h

itself_free_for : (name : List ℕ) (e : Option (List ℕ × Pool)) (p : Pool) → e ≡ Some (name, p) → is_free_for name_cmp name e ≡ true
itself_free_for name e p is = ap (is_free_for name_cmp name) is ∙ ap is_eq (tied_itself nat_list_cmp_total name)

-- ---- a mode

pub puddles_of-pool : (t : Tables) (slot : ℕ) (now : Option PoolRecord) (s : ℕ) → puddles_of (with_pool_at slot now t) s ≡ puddles_of t s
unfolding puddles_of
puddles_of-pool t slot now s = refl

module _ (t : Tables) (slot : ℕ) (r : PoolRecord) (distinct : HasDistinctKeys name_cmp (named t) 0 POOL_RECORDS) (within : slot < POOL_RECORDS) (used : t.pools slot ≡ Some r) where
  entry_there : (hold : Reader) → entries hold t slot ≡ Some (r.name, pool_of hold r (puddles_of t slot))
  entry_there hold = ap (entry_of hold (puddles_of t slot)) used

  -- no other pool has the name
  name_alone : (hold : Reader) (j : ℕ) → 0 ≤ j → j < 0 + POOL_RECORDS → (j ≡ slot → ⊥) → under name_cmp r.name (entries hold t j) ≡ None
  name_alone hold = alone_there name_cmp nat_list_cmp_total (entries hold t) 0 POOL_RECORDS slot (r.name, pool_of hold r (puddles_of t slot)) (distinct_entries hold t distinct) (omega arith) (omega arith) (entry_there hold)

  -- the record is changed, but not its name
  pub pools_changed : (hold : Reader) (now : PoolRecord) → now.name ≡ r.name → pools_of hold (with_pool_at slot (Some now) t) ≡ put name_cmp r.name (pool_of hold now (puddles_of t slot)) (pools_of hold t)
  unfolding pools_of
  pools_changed hold now name =
      let after = with_pool_at slot (Some now) t in
      keyed-put name_cmp nat_list_cmp_total same_name (entries hold t) (entries hold after) 0 POOL_RECORDS slot r.name (pool_of hold now (puddles_of t slot)) (record {
        low = omega arith;
        high = omega arith;
        others = λ j other. ap₂ (entry_of hold) (puddles_of-pool t slot (Some now) j) (changed_elsewhere slot (Some now) t.pools j other);
        is = ap₂ (entry_of hold) (puddles_of-pool t slot (Some now) slot) (changed_here slot (Some now) t.pools) ∙ ap (λ n. Some (n, pool_of hold now (puddles_of t slot))) name;
        was = itself_free_for r.name (entries hold t slot) (pool_of hold r (puddles_of t slot)) (entry_there hold);
        alone = name_alone hold;
      })

  -- ---- a pool is dropped

  pub other_pool : (s frame : ℕ) → (s ≡ slot → ⊥) → (m : Option Member) → member_of s frame (cond (is_of_pool slot m) None m) ≡ member_of s frame m
  other_pool s frame other None = refl
  other_pool s frame other (Some m) = elim (cases_eq m.pool (slot + 1)) [
    | inl of ↦
        let apart : m.pool ≡ s + 1 → ⊥ = λ e. other (omega arith) in
        ap (member_of s frame) (cond-true (eqb m.pool (slot + 1)) None (Some m) (eq-eqb m.pool (slot + 1) of)) ∙ sym (cond-false (eqb m.pool (s + 1)) _ None (ne_eqb m.pool (s + 1) apart))
    | inr not ↦ ap (member_of s frame) (cond-false (eqb m.pool (slot + 1)) None (Some m) (ne_eqb m.pool (slot + 1) not))
  ]

  pub puddles_of-dropped : (s : ℕ) → (s ≡ slot → ⊥) → puddles_of (without_pool_at slot t) s ≡ puddles_of t s
  unfolding puddles_of
  puddles_of-dropped s other =
      let each : (frame : ℕ) → members (without_pool_at slot t) s frame ≡ members t s frame = λ frame. other_pool s frame other (t.puddles frame) in
      λ p. keyed nat_cmp (λ frame. each frame p) 0 t.frames

  pub pools_dropped : (hold : Reader) → pools_of hold (without_pool_at slot t) ≡ without name_cmp r.name (pools_of hold t)
  unfolding pools_of
  pools_dropped hold =
      let after = without_pool_at slot t in
      keyed-without name_cmp nat_list_cmp_total same_name (entries hold t) (entries hold after) 0 POOL_RECORDS slot r.name (record {
        low = omega arith;
        high = omega arith;
        others = λ j other. ap₂ (entry_of hold) (puddles_of-dropped j other) (changed_elsewhere slot None t.pools j other);
        is = ap (entry_of hold (puddles_of after slot)) (changed_here slot None t.pools);
        was = itself_free_for r.name (entries hold t slot) (pool_of hold r (puddles_of t slot)) (entry_there hold);
        alone = name_alone hold;
      })

-- ---- a pool is made

-- the records of a free slot and of a free frame are filled for a new pool, whose name no pool has
pub record IsPoolMade (t : Tables) (slot frame : ℕ) (r : PoolRecord) (m : Member) : Type 0 where
  pub slot_below : slot < POOL_RECORDS
  pub slot_free : t.pools slot ≡ None
  pub frame_below : frame < t.frames
  pub frame_free : t.puddles frame ≡ None
  pub of : m.pool ≡ slot + 1
  pub none : (f : ℕ) → f < t.frames → is_of_pool slot (t.puddles f) ≡ false
  pub new_name : first_from name_cmp r.name (named t) 0 POOL_RECORDS ≡ None

abbrev pub made : (slot frame : ℕ) → PoolRecord → Member → Tables → Tables
made slot frame r m t = with_puddle_at frame (Some m) (with_pool_at slot (Some r) t)

module _ (t : Tables) (slot frame : ℕ) (r : PoolRecord) (m : Member) (h : IsPoolMade t slot frame r m) where
  -- another pool has the same puddles
  pub new_elsewhere : (s : ℕ) → (s ≡ slot → ⊥) → (f : ℕ) → members (made slot frame r m t) s f ≡ members t s f
  new_elsewhere s other f = elim (cases_eq f frame) [
    | inl e ↦
        let of = h.of in
        let apart : m.pool ≡ s + 1 → ⊥ = λ same. other (omega arith) in
        ap (member_of s f) (cond-true (eqb f frame) (Some m) (t.puddles f) (eq-eqb f frame e)) ∙ cond-false (eqb m.pool (s + 1)) _ None (ne_eqb m.pool (s + 1) apart)
        ∙ sym (ap (member_of s f) (ap t.puddles e ∙ h.frame_free))
    | inr not ↦ ap (member_of s f) (cond-false (eqb f frame) (Some m) (t.puddles f) (ne_eqb f frame not))
  ]

  pub puddles_elsewhere : (s : ℕ) → (s ≡ slot → ⊥) → puddles_of (made slot frame r m t) s ≡ puddles_of t s
  unfolding puddles_of
  puddles_elsewhere s other = let each = new_elsewhere s other in λ p. keyed nat_cmp (λ f. each f p) 0 t.frames

  pub not_of : (f : ℕ) (o : Option Member) → is_of_pool slot o ≡ false → member_of slot f o ≡ None
  not_of f None e = refl
  not_of f (Some o) e = cond-false (eqb o.pool (slot + 1)) _ None e

  -- the new pool has only this puddle
  pub puddles_of-made : puddles_of (made slot frame r m t) slot ≡ (m.ordinal, (frame, m.puddle)) ∷ []
  unfolding puddles_of
  puddles_of-made =
      let below = h.frame_below in
      let before : (f : ℕ) → 0 ≤ f → f < 0 + t.frames → members t slot f ≡ None = λ f low high. not_of f (t.puddles f) (h.none f (omega arith)) in
      keyed-put nat_cmp nat_cmp_total nat_cmp-IsAntisymmetric (members t slot) (members (made slot frame r m t) slot) 0 t.frames frame m.ordinal (frame, m.puddle) (record {
        low = omega arith;
        high = omega arith;
        others = λ f other. ap (member_of slot f) (cond-false (eqb f frame) (Some m) (t.puddles f) (ne_eqb f frame other));
        is = ap (member_of slot frame) (changed_here frame (Some m) t.puddles) ∙ cond-true (eqb m.pool (slot + 1)) _ None (eq-eqb m.pool (slot + 1) h.of);
        was = ap (is_free_for nat_cmp m.ordinal) (before frame (omega arith) (omega arith));
        alone = λ f low high other. ap (under nat_cmp m.ordinal) (before f low high);
      })
      ∙ ap (put nat_cmp m.ordinal (frame, m.puddle)) (keyed-none nat_cmp (members t slot) 0 t.frames before)

  entry_none : (hold : Reader) (j : ℕ) → under name_cmp r.name (named t j) ≡ None → under name_cmp r.name (entries hold t j) ≡ None
  entry_none hold j none = no_key name_cmp r.name (named t j) (entries hold t j) (entry_key hold j (puddles_of t j) (t.pools j)) none

  pub pools_made : (hold : Reader) → pools_of hold (made slot frame r m t) ≡ put name_cmp r.name (pool_of hold r ((m.ordinal, (frame, m.puddle)) ∷ [])) (pools_of hold t)
  unfolding pools_of
  pools_made hold =
      let after = made slot frame r m t in
      let below = h.slot_below in
      keyed-put name_cmp nat_list_cmp_total same_name (entries hold t) (entries hold after) 0 POOL_RECORDS slot r.name (pool_of hold r ((m.ordinal, (frame, m.puddle)) ∷ [])) (record {
        low = omega arith;
        high = omega arith;
        others = λ j other. ap₂ (entry_of hold) (puddles_elsewhere j other) (changed_elsewhere slot (Some r) t.pools j other);
        is = ap₂ (entry_of hold) puddles_of-made (changed_here slot (Some r) t.pools);
        was = ap (is_free_for name_cmp r.name) (ap (entry_of hold (puddles_of t slot)) h.slot_free);
        alone = λ j low high other. entry_none hold j (first_from_none_each name_cmp r.name (named t) 0 POOL_RECORDS h.new_name j low high);
      })

-- an image with the words of both records has these tables
pub tables_of-made : (F : ℕ) (image : Image) (slot frame : ℕ) (r : PoolRecord) (p : PuddleRecord) → slot < POOL_RECORDS → IsEncodable r → frame < F → FitsWords p
    → tables_of F (with_put (puddle_put frame p) (with_put (pool_put slot r) image)) ≡ made slot frame r (member_by p) (tables_of F image)
tables_of-made F image slot frame r p slot_below held frame_below fits =
    puddle_put_made F (with_put (pool_put slot r) image) frame p frame_below fits ∙ ap (with_puddle_at frame (Some (member_by p))) (pool_put_made F image slot slot_below r held)
