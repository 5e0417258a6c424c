-- Sound tables stay sound if a pool's record is changed, if a pool is made, and if a pool is dropped.
use Rattle.std.proofs.Common.{◌≡◌, ◌⊎◌, inl, inr, ℕ, ◌+◌, ◌-◌, ◌<◌, ◌≤◌, Bool, true, false, not, cond, ◌&&◌, ◌||◌, leb, ltb, eqb, List, [], ◌∷◌, Option, Some, None, nat_cmp, is_some, is_none, option_map, refl, sym, ap, ap₂, ◌∙◌, subst, arith, ne_eqb, eq-eqb, true≢false}
use Rattle.std.proofs.lemmas.Bool.{cases_eq, cond-true, cond-false, and_parts, and_from, ltb-true, lt-ltb}
use Rattle.std.specs.Cmp.Lexicographic.{nat_list_cmp_total}
use Rattle.std.proofs.lemmas.Cmp.{nat_cmp_total}
use Rattle.pud_defs.specs.declared.records.TheConstants.{POOL_RECORDS, MAX_PUDDLES}
use Rattle.pud_defs.specs.declared.records.PoolRecord.{PoolRecord}
use Rattle.pud_defs.specs.Formats.Names.{name_cmp}
use Rattle.pud_defs.specs.RegistryTables.Keyed.{first_from, are_distinct}
use Rattle.pud_defs.specs.RegistryTables.Pools.{is_given, is_legal_pool}
use Rattle.pud_defs.specs.declared.records.Puddle.{Puddle}
use Rattle.pud_defs.specs.Formats.Bases.{is_legal_base}
use Rattle.pud_defs.specs.Formats.Geometry.{is_legal_class, is_legal_frontier}
use Rattle.pud_defs.specs.RegistryTables.Puddles.{Member, is_legal_puddle}
use Rattle.pud_defs.specs.RegistryTables.Tables.{Tables, member_of, members, puddles_of, named}
use Rattle.pud_defs.specs.RegistryTables.SoundTables.{is_sound_pool, has_legal_pools, has_distinct_names, is_pool, is_sound_puddle, has_legal_puddles, bases, has_distinct_bases, old_bases, has_distinct_old_bases, has_distinct_ordinals, count_up, are_counted, has_counted_puddles, are_sound_tables, HasSoundTables}
use Rattle.pud_defs.specs.RegistryTables.Puts.{changed_at, with_pool_at, is_of_pool, without_pool_at}
use Rattle.pud_defs.proofs.RegistryTables.Spaces.{all_below-from, all_below-each}
use Rattle.pud_defs.proofs.KeyedTables.Keyed.{HasDistinctKeys, HasDistinctKeys-keys, HasDistinctKeys-fewer, HasDistinctKeys-set, HasDistinctKeys-one, distinct_keys, are_distinct_keys, is_free_for, first_from_none_each}
use Rattle.pud_defs.proofs.RegistryTables.PoolsChanged.{changed_here, changed_elsewhere, IsPoolMade, made, puddles_of-pool, puddles_of-dropped, puddles_of-made, puddles_elsewhere, new_elsewhere, not_of}

-- ---- the test and its parts

pub sound_from : (next : ℕ) (t : Tables) → are_sound_tables next t ≡ true → HasSoundTables next t
unfolding are_sound_tables
sound_from next t h =
    let seven = and_parts (has_legal_pools next t && has_distinct_names t && has_legal_puddles next t && has_distinct_bases t && has_distinct_old_bases t && has_distinct_ordinals t) (has_counted_puddles t) h in
    let six = and_parts (has_legal_pools next t && has_distinct_names t && has_legal_puddles next t && has_distinct_bases t && has_distinct_old_bases t) (has_distinct_ordinals t) seven.0 in
    let five = and_parts (has_legal_pools next t && has_distinct_names t && has_legal_puddles next t && has_distinct_bases t) (has_distinct_old_bases t) six.0 in
    let four = and_parts (has_legal_pools next t && has_distinct_names t && has_legal_puddles next t) (has_distinct_bases t) five.0 in
    let three = and_parts (has_legal_pools next t && has_distinct_names t) (has_legal_puddles next t) four.0 in
    let two = and_parts (has_legal_pools next t) (has_distinct_names t) three.0 in
    record { pools = two.0; names = two.1; puddles = three.1; bases = four.1; old_bases = five.1; ordinals = six.1; counted = seven.1 }

pub sound_test : (next : ℕ) (t : Tables) → HasSoundTables next t → are_sound_tables next t ≡ true
unfolding are_sound_tables
sound_test next t h = and_from _ _ (and_from _ _ (and_from _ _ (and_from _ _ (and_from _ _ (and_from _ _ h.pools h.names) h.puddles) h.bases) h.old_bases) h.ordinals) h.counted

-- each test, one record at a time
pub legal_pool : (next : ℕ) (t : Tables) → HasSoundTables next t → (slot : ℕ) → slot < POOL_RECORDS → is_sound_pool next (t.pools slot) ≡ true
unfolding has_legal_pools
legal_pool next t h slot below = all_below-each POOL_RECORDS (λ s. is_sound_pool next (t.pools s)) h.pools slot below

pub legal_puddle : (next : ℕ) (t : Tables) → HasSoundTables next t → (frame : ℕ) → frame < t.frames → is_sound_puddle next t (t.puddles frame) ≡ true
unfolding has_legal_puddles
legal_puddle next t h frame below = all_below-each t.frames (λ f. is_sound_puddle next t (t.puddles f)) h.puddles frame below

pub distinct_names : (next : ℕ) (t : Tables) → HasSoundTables next t → HasDistinctKeys name_cmp (named t) 0 POOL_RECORDS
unfolding has_distinct_names
distinct_names next t h = distinct_keys name_cmp (named t) 0 POOL_RECORDS h.names

pub distinct_bases : (next : ℕ) (t : Tables) → HasSoundTables next t → HasDistinctKeys nat_cmp (bases t) 0 t.frames
unfolding has_distinct_bases
distinct_bases next t h = distinct_keys nat_cmp (bases t) 0 t.frames h.bases

pub distinct_old_bases : (next : ℕ) (t : Tables) → HasSoundTables next t → (slot : ℕ) → slot < POOL_RECORDS → HasDistinctKeys nat_cmp (old_bases t slot) 0 t.frames
unfolding has_distinct_old_bases
distinct_old_bases next t h slot below = distinct_keys nat_cmp (old_bases t slot) 0 t.frames (all_below-each POOL_RECORDS (λ s. are_distinct nat_cmp (old_bases t s) 0 t.frames) h.old_bases slot below)

pub distinct_ordinals : (next : ℕ) (t : Tables) → HasSoundTables next t → (slot : ℕ) → slot < POOL_RECORDS → HasDistinctKeys nat_cmp (members t slot) 0 t.frames
unfolding has_distinct_ordinals
distinct_ordinals next t h slot below = distinct_keys nat_cmp (members t slot) 0 t.frames (all_below-each POOL_RECORDS (λ s. are_distinct nat_cmp (members t s) 0 t.frames) h.ordinals slot below)

pub counted_puddles : (next : ℕ) (t : Tables) → HasSoundTables next t → (slot : ℕ) → slot < POOL_RECORDS → (is_none (t.pools slot) || are_counted (puddles_of t slot)) ≡ true
unfolding has_counted_puddles
counted_puddles next t h slot below = all_below-each POOL_RECORDS (λ s. is_none (t.pools s) || are_counted (puddles_of t s)) h.counted slot below

-- and back: the facts on each slot and each frame in one record
pub record IsSoundBy (next : ℕ) (t : Tables) : Type 0 where
  pub pools : (slot : ℕ) → slot < POOL_RECORDS → is_sound_pool next (t.pools slot) ≡ true
  pub names : HasDistinctKeys name_cmp (named t) 0 POOL_RECORDS
  pub puddles : (frame : ℕ) → frame < t.frames → is_sound_puddle next t (t.puddles frame) ≡ true
  pub bases : HasDistinctKeys nat_cmp (bases t) 0 t.frames
  pub old_bases : (slot : ℕ) → slot < POOL_RECORDS → HasDistinctKeys nat_cmp (old_bases t slot) 0 t.frames
  pub ordinals : (slot : ℕ) → slot < POOL_RECORDS → HasDistinctKeys nat_cmp (members t slot) 0 t.frames
  pub counted : (slot : ℕ) → slot < POOL_RECORDS → (is_none (t.pools slot) || are_counted (puddles_of t slot)) ≡ true

pub sound_by : (next : ℕ) (t : Tables) → IsSoundBy next t → HasSoundTables next t
unfolding has_legal_pools has_distinct_names has_legal_puddles has_distinct_bases has_distinct_old_bases has_distinct_ordinals has_counted_puddles
sound_by next t h = record {
  pools = all_below-from POOL_RECORDS (λ s. is_sound_pool next (t.pools s)) h.pools;
  names = are_distinct_keys name_cmp (named t) 0 POOL_RECORDS h.names;
  puddles = all_below-from t.frames (λ f. is_sound_puddle next t (t.puddles f)) h.puddles;
  bases = are_distinct_keys nat_cmp (bases t) 0 t.frames h.bases;
  old_bases = all_below-from POOL_RECORDS (λ s. are_distinct nat_cmp (old_bases t s) 0 t.frames) (λ s below. are_distinct_keys nat_cmp (old_bases t s) 0 t.frames (h.old_bases s below));
  ordinals = all_below-from POOL_RECORDS (λ s. are_distinct nat_cmp (members t s) 0 t.frames) (λ s below. are_distinct_keys nat_cmp (members t s) 0 t.frames (h.ordinals s below));
  counted = all_below-from POOL_RECORDS (λ s. is_none (t.pools s) || are_counted (puddles_of t s)) h.counted;
}

-- ---- a pool's record is changed, but not its name

-- both tables have used records in the same slots of pools
record HasSamePools (t u : Tables) : Type 0 where
  used : (slot : ℕ) → is_some (u.pools slot) ≡ is_some (t.pools slot)

sound_puddle_same : (next : ℕ) (t u : Tables) → HasSamePools t u → (m : Option Member) → is_sound_puddle next u m ≡ is_sound_puddle next t m
sound_puddle_same next t u h None = refl
sound_puddle_same next t u h (Some m) = ap (λ b. (not (eqb m.pool 0) && b) && ltb m.ordinal MAX_PUDDLES && is_legal_puddle next m.puddle) (h.used (m.pool - 1))

module _ (next : ℕ) (t : Tables) (slot : ℕ) (r now : PoolRecord) (sound : HasSoundTables next t) (within : slot < POOL_RECORDS) (used : t.pools slot ≡ Some r) (name : now.name ≡ r.name) (legal : is_legal_pool next now ≡ true) where
  changed_pool : (s : ℕ) → s < POOL_RECORDS → is_sound_pool next (changed_at slot (Some now) t.pools s) ≡ true
  changed_pool s below = elim (cases_eq s slot) [
    | inl e ↦ ap (λ k. is_sound_pool next (changed_at slot (Some now) t.pools k)) e ∙ ap (is_sound_pool next) (changed_here slot (Some now) t.pools) ∙ legal
    | inr other ↦ ap (is_sound_pool next) (changed_elsewhere slot (Some now) t.pools s other) ∙ legal_pool next t sound s below
  ]

  still_used : (s : ℕ) → is_some (changed_at slot (Some now) t.pools s) ≡ is_some (t.pools s)
  still_used s = elim (cases_eq s slot) [
    | inl e ↦ ap is_some (cond-true (eqb s slot) (Some now) (t.pools s) (eq-eqb s slot e)) ∙ sym (ap is_some (ap t.pools e ∙ used))
    | inr other ↦ ap is_some (changed_elsewhere slot (Some now) t.pools s other)
  ]

  name_of : (s : ℕ) (x : Option PoolRecord) → option_map (λ (p : List ℕ × (ℕ × PoolRecord)). p.0) (option_map (λ r. (r.name, (s, r))) x) ≡ option_map (λ (r : PoolRecord). r.name) x
  name_of s None = refl
  name_of s (Some x) = refl

  same_names : (s : ℕ) → option_map (λ (r : PoolRecord). r.name) (t.pools s) ≡ option_map (λ (r : PoolRecord). r.name) (changed_at slot (Some now) t.pools s)
  same_names s = elim (cases_eq s slot) [
    | inl e ↦ ap (option_map (λ (r : PoolRecord). r.name)) (ap t.pools e ∙ used) ∙ ap Some (sym name) ∙ sym (ap (option_map (λ (r : PoolRecord). r.name)) (cond-true (eqb s slot) (Some now) (t.pools s) (eq-eqb s slot e)))
    | inr other ↦ sym (ap (option_map (λ (r : PoolRecord). r.name)) (changed_elsewhere slot (Some now) t.pools s other))
  ]

  none_or_not : (x y : Option PoolRecord) (b : Bool) → is_some x ≡ is_some y → (is_none y || b) ≡ true → (is_none x || b) ≡ true
  none_or_not None None b e h = h
  none_or_not None (Some y) b e h = refl
  none_or_not (Some x) None b e h = absurd (true≢false e)
  none_or_not (Some x) (Some y) b e h = h

  pub sound_changed : HasSoundTables next (with_pool_at slot (Some now) t)
  sound_changed =
      let after = with_pool_at slot (Some now) t in
      let pools : HasSamePools t after = record { used = still_used } in
      sound_by next after (record {
        pools = changed_pool;
        names = HasDistinctKeys-keys name_cmp (named t) (named after) 0 POOL_RECORDS (λ s. name_of s (t.pools s) ∙ same_names s ∙ sym (name_of s (after.pools s))) (distinct_names next t sound);
        puddles = λ f below. sound_puddle_same next t after pools (t.puddles f) ∙ legal_puddle next t sound f below;
        bases = distinct_bases next t sound;
        old_bases = distinct_old_bases next t sound;
        ordinals = distinct_ordinals next t sound;
        counted = λ s below. none_or_not (after.pools s) (t.pools s) (are_counted (puddles_of after s)) (still_used s)
            (ap (λ ps. is_none (t.pools s) || are_counted ps) (puddles_of-pool t slot (Some now) s) ∙ counted_puddles next t sound s below);
      })

-- ---- a pool is dropped

module _ (next : ℕ) (t : Tables) (slot : ℕ) (r : PoolRecord) (sound : HasSoundTables next t) (within : slot < POOL_RECORDS) (used : t.pools slot ≡ Some r) where
  pools_left : (s : ℕ) → (changed_at slot None t.pools s ≡ t.pools s) ⊎ (changed_at slot None t.pools s ≡ None)
  pools_left s = elim (cases_eq s slot) [
    | inl e ↦ inr (cond-true (eqb s slot) None (t.pools s) (eq-eqb s slot e))
    | inr other ↦ inl (changed_elsewhere slot None t.pools s other)
  ]

  legal_left : (s : ℕ) → s < POOL_RECORDS → is_sound_pool next (changed_at slot None t.pools s) ≡ true
  legal_left s below = elim (pools_left s) [
    | inl e ↦ ap (is_sound_pool next) e ∙ legal_pool next t sound s below
    | inr e ↦ ap (is_sound_pool next) e
  ]

  names_left : (s : ℕ) → (named (without_pool_at slot t) s ≡ named t s) ⊎ (named (without_pool_at slot t) s ≡ None)
  names_left s = elim (pools_left s) [
    | inl e ↦ inl (ap (option_map (λ r. (r.name, (s, r)))) e)
    | inr e ↦ inr (ap (option_map (λ r. (r.name, (s, r)))) e)
  ]

  puddle_left : (o : Option Member) → (cond (is_of_pool slot o) None o ≡ o) ⊎ (cond (is_of_pool slot o) None o ≡ None)
  puddle_left None = inl refl
  puddle_left (Some m) = elim (cases_eq m.pool (slot + 1)) [
    | inl e ↦ inr (cond-true (eqb m.pool (slot + 1)) None (Some m) (eq-eqb m.pool (slot + 1) e))
    | inr other ↦ inl (cond-false (eqb m.pool (slot + 1)) None (Some m) (ne_eqb m.pool (slot + 1) other))
  ]

  -- what is read of a puddle's record is the same as before, or nothing
  fewer_by : {K X : Type 0} (read : Option Member → Option (K × X)) → read None ≡ None → (o : Option Member) → (read (cond (is_of_pool slot o) None o) ≡ read o) ⊎ (read (cond (is_of_pool slot o) None o) ≡ None)
  fewer_by read none o = elim (puddle_left o) [ inl e ↦ inl (ap read e) | inr e ↦ inr (ap read e ∙ none) ]

  -- a puddle of another pool names a pool that stays
  pool_stays : (pool : ℕ) → (pool ≡ slot + 1 → ⊥) → is_pool t pool ≡ true → is_pool (without_pool_at slot t) pool ≡ true
  pool_stays pool other h =
      let parts = and_parts (not (eqb pool 0)) (is_some (t.pools (pool - 1))) h in
      and_from _ _ parts.0 (elim (cases_eq pool 0) [
        | inl none ↦ absurd (true≢false (sym parts.0 ∙ ap not (eq-eqb pool 0 none)))
        | inr some ↦
            let apart : pool - 1 ≡ slot → ⊥ = λ e. other (omega arith) in
            ap is_some (changed_elsewhere slot None t.pools (pool - 1) apart) ∙ parts.1
      ])

  sound_left : (o : Option Member) → is_sound_puddle next t o ≡ true → is_sound_puddle next (without_pool_at slot t) (cond (is_of_pool slot o) None o) ≡ true
  sound_left None h = refl
  sound_left (Some m) h = elim (cases_eq m.pool (slot + 1)) [
    | inl e ↦ ap (is_sound_puddle next (without_pool_at slot t)) (cond-true (eqb m.pool (slot + 1)) None (Some m) (eq-eqb m.pool (slot + 1) e))
    | inr other ↦
        let last = and_parts (is_pool t m.pool && ltb m.ordinal MAX_PUDDLES) (is_legal_puddle next m.puddle) h in
        let first = and_parts (is_pool t m.pool) (ltb m.ordinal MAX_PUDDLES) last.0 in
        ap (is_sound_puddle next (without_pool_at slot t)) (cond-false (eqb m.pool (slot + 1)) None (Some m) (ne_eqb m.pool (slot + 1) other))
        ∙ and_from _ _ (and_from _ _ (pool_stays m.pool other first.0) first.1) last.1
  ]

  counted_left : (s : ℕ) → s < POOL_RECORDS → (is_none (changed_at slot None t.pools s) || are_counted (puddles_of (without_pool_at slot t) s)) ≡ true
  counted_left s below = elim (cases_eq s slot) [
    | inl e ↦ ap (λ (x : Option PoolRecord). is_none x || are_counted (puddles_of (without_pool_at slot t) s)) (cond-true (eqb s slot) None (t.pools s) (eq-eqb s slot e))
    | inr other ↦
        ap₂ (λ (x : Option PoolRecord) ps. is_none x || are_counted ps) (changed_elsewhere slot None t.pools s other) (puddles_of-dropped t slot r (distinct_names next t sound) within used s other)
        ∙ counted_puddles next t sound s below
  ]

  pub sound_dropped : HasSoundTables next (without_pool_at slot t)
  sound_dropped =
      let after = without_pool_at slot t in
      sound_by next after (record {
        pools = legal_left;
        names = HasDistinctKeys-fewer name_cmp (named t) (named after) 0 POOL_RECORDS (λ j low high. names_left j) (distinct_names next t sound);
        puddles = λ f below. sound_left (t.puddles f) (legal_puddle next t sound f below);
        bases = HasDistinctKeys-fewer nat_cmp (bases t) (bases after) 0 t.frames (λ j low high. fewer_by (λ o. option_map (λ m. (m.puddle.base, j)) o) refl (t.puddles j)) (distinct_bases next t sound);
        old_bases = λ s below. HasDistinctKeys-fewer nat_cmp (old_bases t s) (old_bases after s) 0 t.frames
            (λ j low high. fewer_by (λ o. option_map (λ p. (p.1.1.old_base, j)) (member_of s j o)) refl (t.puddles j)) (distinct_old_bases next t sound s below);
        ordinals = λ s below. HasDistinctKeys-fewer nat_cmp (members t s) (members after s) 0 t.frames (λ j low high. fewer_by (member_of s j) refl (t.puddles j)) (distinct_ordinals next t sound s below);
        counted = counted_left;
      })

-- ---- a pool is made

given_later : (next later number : ℕ) → next ≤ later → is_given next number ≡ true → is_given later number ≡ true
given_later next later number more h =
    let parts = and_parts (leb 1 number) (ltb number next) h in
    let below = ltb-true number next parts.1 in
    and_from _ _ parts.0 (lt-ltb number later (omega arith))

pub sound_pool_later : (next later : ℕ) → next ≤ later → (o : Option PoolRecord) → is_sound_pool next o ≡ true → is_sound_pool later o ≡ true
sound_pool_later next later more None h = refl
sound_pool_later next later more (Some r) h = let parts = and_parts _ (is_given next r.number) h in and_from _ _ parts.0 (given_later next later r.number more parts.1)

pub legal_puddle_later : (next later : ℕ) → next ≤ later → (p : Puddle) → is_legal_puddle next p ≡ true → is_legal_puddle later p ≡ true
legal_puddle_later next later more p h =
    let three = and_parts (is_given next p.number && is_legal_base p.base && is_legal_base p.old_base) (is_legal_class p && is_legal_frontier p) h in
    let two = and_parts (is_given next p.number && is_legal_base p.base) (is_legal_base p.old_base) three.0 in
    let one = and_parts (is_given next p.number) (is_legal_base p.base) two.0 in
    and_from _ _ (and_from _ _ (and_from _ _ (given_later next later p.number more one.0) one.1) two.1) three.1

-- What is added is legal if `later` is the next UUID number. The puddle is the first of its pool, and no puddle has its
-- base.
pub record IsAdded (later : ℕ) (t : Tables) (r : PoolRecord) (m : Member) : Type 0 where
  pub pool : is_legal_pool later r ≡ true
  pub puddle : is_legal_puddle later m.puddle ≡ true
  pub first : m.ordinal ≡ 0
  pub new_base : first_from nat_cmp m.puddle.base (bases t) 0 t.frames ≡ None

module _ (next later : ℕ) (more : next ≤ later) (t : Tables) (slot frame : ℕ) (r : PoolRecord) (m : Member) (sound : HasSoundTables next t) (h : IsPoolMade t slot frame r m) (added : IsAdded later t r m) where
  legal_made : (s : ℕ) → s < POOL_RECORDS → is_sound_pool later (changed_at slot (Some r) t.pools s) ≡ true
  legal_made s below = elim (cases_eq s slot) [
    | inl e ↦ ap (is_sound_pool later) (cond-true (eqb s slot) (Some r) (t.pools s) (eq-eqb s slot e)) ∙ added.pool
    | inr other ↦ ap (is_sound_pool later) (changed_elsewhere slot (Some r) t.pools s other) ∙ sound_pool_later next later more (t.pools s) (legal_pool next t sound s below)
  ]

  names_made : HasDistinctKeys name_cmp (named (made slot frame r m t)) 0 POOL_RECORDS
  names_made =
      let below = h.slot_below in
      HasDistinctKeys-set name_cmp nat_list_cmp_total (named t) (named (made slot frame r m t)) 0 POOL_RECORDS slot r.name (Some (slot, r)) (record {
        low = omega arith;
        high = omega arith;
        others = λ s other. ap (option_map (λ r. (r.name, (s, r)))) (changed_elsewhere slot (Some r) t.pools s other);
        is = ap (option_map (λ r. (r.name, (slot, r)))) (changed_here slot (Some r) t.pools);
        was = ap (λ o. is_free_for {X = ℕ × PoolRecord} name_cmp r.name (option_map (λ r. (r.name, (slot, r))) o)) h.slot_free;
        alone = λ s low high other. first_from_none_each name_cmp r.name (named t) 0 POOL_RECORDS h.new_name s low high;
      }) (distinct_names next t sound)

  -- a pool that was there is still there
  pool_kept : (pool : ℕ) → is_pool t pool ≡ true → is_pool (made slot frame r m t) pool ≡ true
  pool_kept pool is =
      let parts = and_parts (not (eqb pool 0)) (is_some (t.pools (pool - 1))) is in
      and_from _ _ parts.0 (elim (cases_eq (pool - 1) slot) [
        | inl e ↦ absurd (true≢false (sym parts.1 ∙ ap is_some (ap t.pools e ∙ h.slot_free)))
        | inr other ↦ ap is_some (changed_elsewhere slot (Some r) t.pools (pool - 1) other) ∙ parts.1
      ])

  puddle_kept : (o : Option Member) → is_sound_puddle next t o ≡ true → is_sound_puddle later (made slot frame r m t) o ≡ true
  puddle_kept None is = refl
  puddle_kept (Some x) is =
      let last = and_parts (is_pool t x.pool && ltb x.ordinal MAX_PUDDLES) (is_legal_puddle next x.puddle) is in
      let front = and_parts (is_pool t x.pool) (ltb x.ordinal MAX_PUDDLES) last.0 in
      and_from _ _ (and_from _ _ (pool_kept x.pool front.0) front.1) (legal_puddle_later next later more x.puddle last.1)

  pool_is_new : is_pool (made slot frame r m t) m.pool ≡ true
  pool_is_new =
      let of = h.of in
      let place : m.pool - 1 ≡ slot = omega arith in
      let some : eqb m.pool 0 ≡ false = ne_eqb m.pool 0 (λ e. absurd (omega arith)) in
      and_from _ _ (ap not some) (ap is_some (cond-true (eqb (m.pool - 1) slot) (Some r) (t.pools (m.pool - 1)) (eq-eqb (m.pool - 1) slot place)))

  legal_puddle_made : (f : ℕ) → f < t.frames → is_sound_puddle later (made slot frame r m t) (changed_at frame (Some m) t.puddles f) ≡ true
  legal_puddle_made f below = elim (cases_eq f frame) [
    | inl e ↦
        let first = added.first in
        ap (is_sound_puddle later (made slot frame r m t)) (cond-true (eqb f frame) (Some m) (t.puddles f) (eq-eqb f frame e))
        ∙ and_from _ _ (and_from _ _ pool_is_new (lt-ltb m.ordinal MAX_PUDDLES (omega arith))) added.puddle
    | inr other ↦ ap (is_sound_puddle later (made slot frame r m t)) (changed_elsewhere frame (Some m) t.puddles f other) ∙ puddle_kept (t.puddles f) (legal_puddle next t sound f below)
  ]

  bases_made : HasDistinctKeys nat_cmp (bases (made slot frame r m t)) 0 t.frames
  bases_made =
      let below = h.frame_below in
      HasDistinctKeys-set nat_cmp nat_cmp_total (bases t) (bases (made slot frame r m t)) 0 t.frames frame m.puddle.base (Some frame) (record {
        low = omega arith;
        high = omega arith;
        others = λ f other. ap (option_map (λ m. (m.puddle.base, f))) (changed_elsewhere frame (Some m) t.puddles f other);
        is = ap (option_map (λ m. (m.puddle.base, frame))) (changed_here frame (Some m) t.puddles);
        was = ap (λ o. is_free_for nat_cmp m.puddle.base (option_map (λ m. (m.puddle.base, frame)) o)) h.frame_free;
        alone = λ f low high other. first_from_none_each nat_cmp m.puddle.base (bases t) 0 t.frames added.new_base f low high;
      }) (distinct_bases next t sound)

  -- the new pool has only one puddle, and each other pool has the puddles that it had
  alone_in_pool : (f : ℕ) → (f ≡ frame → ⊥) → f < t.frames → members (made slot frame r m t) slot f ≡ None
  alone_in_pool f other below = ap (member_of slot f) (changed_elsewhere frame (Some m) t.puddles f other) ∙ not_of t slot frame r m h f (t.puddles f) (h.none f below)

  ordinals_made : (s : ℕ) → s < POOL_RECORDS → HasDistinctKeys nat_cmp (members (made slot frame r m t) s) 0 t.frames
  ordinals_made s below = elim (cases_eq s slot) [
    | inl e ↦ subst (λ n. HasDistinctKeys nat_cmp (members (made slot frame r m t) n) 0 t.frames) (sym e) (HasDistinctKeys-one nat_cmp (members (made slot frame r m t) slot) 0 t.frames frame (λ f low high other. alone_in_pool f other (omega arith)))
    | inr other ↦ let each = new_elsewhere t slot frame r m h s other in subst (λ (at : ℕ → Option (ℕ × (ℕ × Puddle))). HasDistinctKeys nat_cmp at 0 t.frames) (λ p f. sym (each f) p) (distinct_ordinals next t sound s below)
  ]

  old_bases_made : (s : ℕ) → s < POOL_RECORDS → HasDistinctKeys nat_cmp (old_bases (made slot frame r m t) s) 0 t.frames
  old_bases_made s below = elim (cases_eq s slot) [
    | inl e ↦ subst (λ n. HasDistinctKeys nat_cmp (old_bases (made slot frame r m t) n) 0 t.frames) (sym e)
        (HasDistinctKeys-one nat_cmp (old_bases (made slot frame r m t) slot) 0 t.frames frame (λ f low high other. ap (option_map (λ p. (p.1.1.old_base, f))) (alone_in_pool f other (omega arith))))
    | inr other ↦
        let each = new_elsewhere t slot frame r m h s other in
        subst (λ (at : ℕ → Option (ℕ × (ℕ × Puddle))). HasDistinctKeys nat_cmp (λ f. option_map (λ p. (p.1.1.old_base, f)) (at f)) 0 t.frames) (λ p f. sym (each f) p) (distinct_old_bases next t sound s below)
  ]

  one_is_counted : (ps : List (ℕ × (ℕ × Puddle))) → ps ≡ (m.ordinal, (frame, m.puddle)) ∷ [] → are_counted ps ≡ true
  unfolding count_up
  one_is_counted ps e = ap are_counted e ∙ ap (λ b. b && true) (eq-eqb m.ordinal 0 added.first)

  counted_made : (s : ℕ) → s < POOL_RECORDS → (is_none (changed_at slot (Some r) t.pools s) || are_counted (puddles_of (made slot frame r m t) s)) ≡ true
  counted_made s below = elim (cases_eq s slot) [
    | inl e ↦
        ap (λ (x : Option PoolRecord). is_none x || are_counted (puddles_of (made slot frame r m t) s)) (cond-true (eqb s slot) (Some r) (t.pools s) (eq-eqb s slot e))
        ∙ one_is_counted (puddles_of (made slot frame r m t) s) (ap (puddles_of (made slot frame r m t)) e ∙ puddles_of-made t slot frame r m h)
    | inr other ↦
        ap₂ (λ (x : Option PoolRecord) ps. is_none x || are_counted ps) (changed_elsewhere slot (Some r) t.pools s other) (puddles_elsewhere t slot frame r m h s other)
        ∙ counted_puddles next t sound s below
  ]

  pub sound_made : HasSoundTables later (made slot frame r m t)
  sound_made = sound_by later (made slot frame r m t) (record {
    pools = legal_made;
    names = names_made;
    puddles = legal_puddle_made;
    bases = bases_made;
    old_bases = old_bases_made;
    ordinals = ordinals_made;
    counted = counted_made;
  })
