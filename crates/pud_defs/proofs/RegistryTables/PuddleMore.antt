-- One more puddle in sound tables: it is the last of its pool, nothing else changes, and the tables stay sound.
use Rattle.std.proofs.Common.{◌≡◌, inl, inr, ℕ, ◌+◌, ◌-◌, ◌<◌, ◌≤◌, true, false, not, ◌&&◌, ◌||◌, ltb, eqb, List, [], ◌∷◌, ◌++◌, map, length, Option, Some, None, nat_cmp, is_some, is_none, option_map, refl, sym, ap, ap₂, ◌∙◌, subst, arith, ne_eqb, eq-eqb, eqb-true}
use Rattle.std.specs.FinMap.{nat_cmp-IsAntisymmetric}
use Rattle.std.specs.FinMap.Entries.{by_order, put, find}
use Rattle.std.specs.Cmp.{nat_cmp_is, tied_itself}
use Rattle.std.specs.Cmp.Lexicographic.{nat_list_cmp_total}
use Rattle.std.specs.Ordering.{is_eq}
use Rattle.std.specs.declared.cmp.Ordering.{Ordering}
use Rattle.std.specs.declared.cmp.Ordering.TheVariants.{Greater}
use Rattle.std.proofs.lemmas.Cmp.{nat_cmp_total}
use Rattle.std.proofs.lemmas.Bool.{cases_eq, cond-true, cond-false, and_parts, and_from, lt-ltb, le-leb}
use Rattle.std.proofs.lemmas.List.{length_push}
use Rattle.pud_defs.specs.declared.records.TheConstants.{POOL_RECORDS, MAX_PUDDLES}
use Rattle.pud_defs.specs.declared.records.PoolRecord.{PoolRecord}
use Rattle.pud_defs.specs.declared.records.Puddle.{Puddle}
use Rattle.pud_defs.specs.Formats.Names.{name_cmp}
use Rattle.pud_defs.specs.RegistryTables.Keyed.{under, keyed}
use Rattle.pud_defs.specs.RegistryTables.Puddles.{Member, is_legal_puddle}
use Rattle.pud_defs.specs.RegistryTables.Tables.{Tables, Reader, member_of, members, puddles_of, pool_of, entries, pools_of}
use Rattle.pud_defs.specs.RegistryTables.SoundTables.{is_pool, is_sound_puddle, bases, old_bases, count_up, are_counted, HasSoundTables}
use Rattle.pud_defs.specs.RegistryTables.Puts.{with_puddle_at}
use Rattle.pud_defs.proofs.KeyedTables.Keyed.{HasDistinctKeys, HasDistinctKeys-set, is_free_for, alone_there, first_from_none_each, find-keyed, keyed-put}
use Rattle.pud_defs.proofs.RegistryTables.PoolsChanged.{changed_here, changed_elsewhere, same_name, entry_of, distinct_entries}
use Rattle.pud_defs.proofs.RegistryTables.PoolsCounted.{few_members}
use Rattle.pud_defs.proofs.RegistryTables.PuddlesListed.{passed_by}
use Rattle.pud_defs.proofs.RegistryTables.SoundChanged.{sound_pool_later, legal_puddle_later, sound_by, legal_pool, legal_puddle, distinct_names, distinct_bases, distinct_old_bases, distinct_ordinals, counted_puddles}

-- ---- lists whose keys count up

module _ {X : Type 0} where
  -- what is put under the next key comes last
  pub put-last : (k from : ℕ) (es : List (ℕ × X)) (v : X) → k ≡ from + length es → count_up from (map (λ e. e.0) es) ≡ true → put nat_cmp k v es ≡ es ++ (k, v) ∷ []
  unfolding count_up
  put-last k from [] v next up = refl
  put-last k from (e ∷ es) v next up =
      let parts = and_parts (eqb e.0 from) (count_up (from + 1) (map (λ d. d.0) es)) up in
      let first : e.0 ≡ from = eqb-true e.0 from parts.0 in
      let above : Greater ≡ nat_cmp k e.0 = nat_cmp_is k e.0 Greater (omega arith) in
      ap (λ (o : Ordering). by_order o ((k, v) ∷ e ∷ es) ((e.0, v) ∷ es) (e ∷ put nat_cmp k v es)) (sym above)
      ∙ ap (λ (ds : List (ℕ × X)). e ∷ ds) (put-last k (from + 1) es v (omega arith) parts.1)

  -- before that nothing is under this key
  pub find-next : (k from : ℕ) (es : List (ℕ × X)) → k ≡ from + length es → count_up from (map (λ e. e.0) es) ≡ true → find nat_cmp k es ≡ None
  unfolding count_up
  find-next k from [] next up = refl
  find-next k from (e ∷ es) next up =
      let parts = and_parts (eqb e.0 from) (count_up (from + 1) (map (λ d. d.0) es)) up in
      let first : e.0 ≡ from = eqb-true e.0 from parts.0 in
      passed_by k e es (omega arith) ∙ find-next k (from + 1) es (omega arith) parts.1

  -- with it the keys still count up
  pub count_up-next : (k from : ℕ) (es : List (ℕ × X)) (v : X) → k ≡ from + length es → count_up from (map (λ e. e.0) es) ≡ true → count_up from (map (λ e. e.0) (es ++ (k, v) ∷ [])) ≡ true
  unfolding count_up
  count_up-next k from [] v next up = and_from (eqb k from) true (eq-eqb k from (omega arith)) refl
  count_up-next k from (e ∷ es) v next up =
      let parts = and_parts (eqb e.0 from) (count_up (from + 1) (map (λ d. d.0) es)) up in
      and_from (eqb e.0 from) _ parts.0 (count_up-next k (from + 1) es v (omega arith) parts.1)

-- ---- the tables

-- The record of a free frame is filled for the next puddle of a used pool. It is legal if `later` is the next UUID
-- number. No puddle of the tables has its base, and no puddle of the pool has its old base.
pub record IsNextPuddle (later : ℕ) (t : Tables) (slot frame : ℕ) (r : PoolRecord) (m : Member) : Type 0 where
  pub within : slot < POOL_RECORDS
  pub used : t.pools slot ≡ Some r
  pub frame_below : frame < t.frames
  pub frame_free : t.puddles frame ≡ None
  pub of : m.pool ≡ slot + 1
  pub last : m.ordinal ≡ length (puddles_of t slot)
  pub few : m.ordinal < MAX_PUDDLES
  pub puddle : is_legal_puddle later m.puddle ≡ true
  pub new_base : (f : ℕ) → f < t.frames → under nat_cmp m.puddle.base (bases t f) ≡ None
  pub new_old_base : (f : ℕ) → f < t.frames → under nat_cmp m.puddle.old_base (old_bases t slot f) ≡ None

module _ (next later : ℕ) (more : next ≤ later) (t : Tables) (slot frame : ℕ) (r : PoolRecord) (m : Member) (sound : HasSoundTables next t) (h : IsNextPuddle later t slot frame r m) where
  abbrev after : Tables
  after = with_puddle_at frame (Some m) t

  abbrev all : List (ℕ × (ℕ × Puddle))
  all = puddles_of t slot ++ (m.ordinal, (frame, m.puddle)) ∷ []

  -- another pool has the same puddles
  members_elsewhere : (s : ℕ) → (s ≡ slot → ⊥) → (f : ℕ) → members after s f ≡ members t s f
  members_elsewhere s other f = elim (cases_eq f frame) [
    | inl e ↦
        let of = h.of in
        let apart : m.pool ≡ s + 1 → ⊥ = λ same. other (omega arith) in
        ap (member_of s f) (cond-true (eqb f frame) (Some m) (t.puddles f) (eq-eqb f frame e)) ∙ cond-false (eqb m.pool (s + 1)) _ None (ne_eqb m.pool (s + 1) apart)
        ∙ sym (ap (member_of s f) (ap t.puddles e ∙ h.frame_free))
    | inr not ↦ ap (member_of s f) (changed_elsewhere frame (Some m) t.puddles f not)
  ]

  puddles_elsewhere : (s : ℕ) → (s ≡ slot → ⊥) → puddles_of after s ≡ puddles_of t s
  unfolding puddles_of
  puddles_elsewhere s other = let each = members_elsewhere s other in λ p. keyed nat_cmp (λ f. each f p) 0 t.frames

  -- its own pool has the puddles that it had, and then this one
  ordinals_up : count_up 0 (map (λ (e : ℕ × (ℕ × Puddle)). e.0) (puddles_of t slot)) ≡ true
  ordinals_up = (few_members next t sound slot r h.within h.used).ordinals

  member_here : members after slot frame ≡ Some (m.ordinal, (frame, m.puddle))
  member_here = ap (member_of slot frame) (changed_here frame (Some m) t.puddles) ∙ cond-true (eqb m.pool (slot + 1)) _ None (eq-eqb m.pool (slot + 1) h.of)

  new_ordinal : (f : ℕ) → f < t.frames → under nat_cmp m.ordinal (members t slot f) ≡ None
  unfolding puddles_of
  new_ordinal f below =
      let last = h.last in
      first_from_none_each nat_cmp m.ordinal (members t slot) 0 t.frames
      (sym (find-keyed nat_cmp nat_cmp_total m.ordinal (members t slot) 0 t.frames) ∙ find-next m.ordinal 0 (puddles_of t slot) (omega arith) ordinals_up) f (omega arith) (omega arith)

  pub puddles_of-more : puddles_of after slot ≡ all
  unfolding puddles_of
  puddles_of-more =
      let below = h.frame_below in
      let last = h.last in
      keyed-put nat_cmp nat_cmp_total nat_cmp-IsAntisymmetric (members t slot) (members after slot) 0 t.frames frame m.ordinal (frame, m.puddle) (record {
        low = omega arith;
        high = omega arith;
        others = λ f other. ap (member_of slot f) (changed_elsewhere frame (Some m) t.puddles f other);
        is = member_here;
        was = ap (λ o. is_free_for nat_cmp m.ordinal (member_of slot frame o)) h.frame_free;
        alone = λ f low high other. new_ordinal f (omega arith);
      })
      ∙ put-last m.ordinal 0 (puddles_of t slot) (frame, m.puddle) (omega arith) ordinals_up

  -- ---- soundness

  puddle_kept : (o : Option Member) → is_sound_puddle next t o ≡ true → is_sound_puddle later after o ≡ true
  puddle_kept None is = refl
  puddle_kept (Some x) is =
      let last = and_parts (is_pool t x.pool && ltb x.ordinal MAX_PUDDLES) (is_legal_puddle next x.puddle) is in
      and_from _ _ last.0 (legal_puddle_later next later more x.puddle last.1)

  pool_there : is_pool t m.pool ≡ true
  pool_there =
      let of = h.of in
      let place : m.pool - 1 ≡ slot = omega arith in
      let some : eqb m.pool 0 ≡ false = ne_eqb m.pool 0 (λ e. absurd (omega arith)) in
      and_from _ _ (ap not some) (ap is_some (ap t.pools place ∙ h.used))

  legal_more : (f : ℕ) → f < t.frames → is_sound_puddle later after (after.puddles f) ≡ true
  legal_more f below = elim (cases_eq f frame) [
    | inl e ↦
        ap (is_sound_puddle later after) (cond-true (eqb f frame) (Some m) (t.puddles f) (eq-eqb f frame e))
        ∙ and_from _ _ (and_from _ _ pool_there (lt-ltb m.ordinal MAX_PUDDLES h.few)) h.puddle
    | inr other ↦ ap (is_sound_puddle later after) (changed_elsewhere frame (Some m) t.puddles f other) ∙ puddle_kept (t.puddles f) (legal_puddle next t sound f below)
  ]

  bases_more : HasDistinctKeys nat_cmp (bases after) 0 t.frames
  bases_more =
      let below = h.frame_below in
      HasDistinctKeys-set nat_cmp nat_cmp_total (bases t) (bases after) 0 t.frames frame m.puddle.base (Some frame) (record {
        low = omega arith;
        high = omega arith;
        others = λ f other. ap (option_map (λ m. (m.puddle.base, f))) (changed_elsewhere frame (Some m) t.puddles f other);
        is = ap (option_map (λ m. (m.puddle.base, frame))) (changed_here frame (Some m) t.puddles);
        was = ap (λ o. is_free_for nat_cmp m.puddle.base (option_map (λ m. (m.puddle.base, frame)) o)) h.frame_free;
        alone = λ f low high other. h.new_base f (omega arith);
      }) (distinct_bases next t sound)

  ordinals_here : HasDistinctKeys nat_cmp (members after slot) 0 t.frames
  ordinals_here =
      let below = h.frame_below in
      HasDistinctKeys-set nat_cmp nat_cmp_total (members t slot) (members after slot) 0 t.frames frame m.ordinal (Some (frame, m.puddle)) (record {
        low = omega arith;
        high = omega arith;
        others = λ f other. ap (member_of slot f) (changed_elsewhere frame (Some m) t.puddles f other);
        is = member_here;
        was = ap (λ o. is_free_for nat_cmp m.ordinal (member_of slot frame o)) h.frame_free;
        alone = λ f low high other. new_ordinal f (omega arith);
      }) (distinct_ordinals next t sound slot h.within)

  ordinals_more : (s : ℕ) → s < POOL_RECORDS → HasDistinctKeys nat_cmp (members after s) 0 t.frames
  ordinals_more s below = elim (cases_eq s slot) [
    | inl e ↦ subst (λ n. HasDistinctKeys nat_cmp (members after n) 0 t.frames) (sym e) ordinals_here
    | inr other ↦ let each = members_elsewhere s other in subst (λ (at : ℕ → Option (ℕ × (ℕ × Puddle))). HasDistinctKeys nat_cmp at 0 t.frames) (λ p f. sym (each f) p) (distinct_ordinals next t sound s below)
  ]

  old_bases_here : HasDistinctKeys nat_cmp (old_bases after slot) 0 t.frames
  old_bases_here =
      let below = h.frame_below in
      HasDistinctKeys-set nat_cmp nat_cmp_total (old_bases t slot) (old_bases after slot) 0 t.frames frame m.puddle.old_base (Some frame) (record {
        low = omega arith;
        high = omega arith;
        others = λ f other. ap (λ o. option_map (λ p. (p.1.1.old_base, f)) (member_of slot f o)) (changed_elsewhere frame (Some m) t.puddles f other);
        is = ap (option_map (λ p. (p.1.1.old_base, frame))) member_here;
        was = ap (λ o. is_free_for nat_cmp m.puddle.old_base (option_map (λ p. (p.1.1.old_base, frame)) (member_of slot frame o))) h.frame_free;
        alone = λ f low high other. h.new_old_base f (omega arith);
      }) (distinct_old_bases next t sound slot h.within)

  old_bases_more : (s : ℕ) → s < POOL_RECORDS → HasDistinctKeys nat_cmp (old_bases after s) 0 t.frames
  old_bases_more s below = elim (cases_eq s slot) [
    | inl e ↦ subst (λ n. HasDistinctKeys nat_cmp (old_bases after n) 0 t.frames) (sym e) old_bases_here
    | inr other ↦
        let each = members_elsewhere s other in
        subst (λ (at : ℕ → Option (ℕ × (ℕ × Puddle))). HasDistinctKeys nat_cmp (λ f. option_map (λ p. (p.1.1.old_base, f)) (at f)) 0 t.frames) (λ p f. sym (each f) p) (distinct_old_bases next t sound s below)
  ]

  all_counted : are_counted all ≡ true
  all_counted =
      let last = h.last in
      let few = h.few in
      let size = length_push (puddles_of t slot) (m.ordinal, (frame, m.puddle)) in
      and_from _ _ (and_from _ _ (le-leb 1 (length all) (omega arith)) (le-leb (length all) MAX_PUDDLES (omega arith))) (count_up-next m.ordinal 0 (puddles_of t slot) (frame, m.puddle) (omega arith) ordinals_up)

  counted_more : (s : ℕ) → s < POOL_RECORDS → (is_none (t.pools s) || are_counted (puddles_of after s)) ≡ true
  counted_more s below = elim (cases_eq s slot) [
    | inl e ↦
        ap (λ (x : Option PoolRecord). is_none x || are_counted (puddles_of after s)) (ap t.pools e ∙ h.used)
        ∙ ap are_counted (ap (puddles_of after) e ∙ puddles_of-more) ∙ all_counted
    | inr other ↦ ap (λ ps. is_none (t.pools s) || are_counted ps) (puddles_elsewhere s other) ∙ counted_puddles next t sound s below
  ]

  pub sound_more : HasSoundTables later after
  sound_more = sound_by later after (record {
    pools = λ s below. sound_pool_later next later more (t.pools s) (legal_pool next t sound s below);
    names = distinct_names next t sound;
    puddles = legal_more;
    bases = bases_more;
    old_bases = old_bases_more;
    ordinals = ordinals_more;
    counted = counted_more;
  })

  -- ---- the pools

  entry_there : (hold : Reader) → entries hold t slot ≡ Some (r.name, pool_of hold r (puddles_of t slot))
  entry_there hold = ap (entry_of hold (puddles_of t slot)) h.used

  pub pools_more : (hold : Reader) → pools_of hold after ≡ put name_cmp r.name (pool_of hold r all) (pools_of hold t)
  unfolding pools_of
  pools_more hold =
      let within = h.within in
      let distinct = distinct_entries hold t (distinct_names next t sound) in
      keyed-put name_cmp nat_list_cmp_total same_name (entries hold t) (entries hold after) 0 POOL_RECORDS slot r.name (pool_of hold r all) (record {
        low = omega arith;
        high = omega arith;
        others = λ s other. ap (λ ps. entry_of hold ps (t.pools s)) (puddles_elsewhere s other);
        is = ap₂ (entry_of hold) puddles_of-more h.used;
        was = ap (is_free_for name_cmp r.name) (entry_there hold) ∙ ap is_eq (tied_itself nat_list_cmp_total r.name);
        alone = alone_there name_cmp nat_list_cmp_total (entries hold t) 0 POOL_RECORDS slot (r.name, pool_of hold r (puddles_of t slot)) distinct (omega arith) (omega arith) (entry_there hold);
      })
