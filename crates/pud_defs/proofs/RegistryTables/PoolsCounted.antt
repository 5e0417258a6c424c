-- How many pools there are, how many puddles each has, and how many puddles all of them have together.
use Rattle.std.proofs.Common.{◌≡◌, inl, inr, ℕ, zero, suc, ◌+◌, ◌-◌, ◌<◌, ◌≤◌, Bool, true, false, not, cond, ◌&&◌, ◌||◌, leb, ltb, eqb, List, [], ◌∷◌, map, length, sum_by, Option, Some, None, nat_cmp, is_some, is_none, refl, sym, ap, ap₂, ◌∙◌, arith, ne_eqb, eq-eqb, true≢false, zero-add}
use Rattle.std.specs.declared.cmp.Ordering.{Ordering}
use Rattle.std.specs.declared.cmp.Ordering.TheVariants.{Less, Equal, Greater}
use Rattle.std.specs.Ordering.{is_eq}
use Rattle.std.specs.Cmp.{IsTotalOrder}
use Rattle.std.specs.Cmp.Lexicographic.{nat_list_cmp_total}
use Rattle.std.specs.FinMap.Entries.{by_order, put, find}
use Rattle.std.proofs.lemmas.Cmp.{nat_cmp_total}
use Rattle.std.proofs.lemmas.Bool.{cases_eq, cases_lt, cond-true, cond-false, and_parts, leb-true}
use Rattle.std.proofs.lemmas.Option.{none-some, same_Some}
use Rattle.std.proofs.lemmas.List.Sums.{sum_by-cons}
use Rattle.pud_defs.specs.declared.records.TheConstants.{POOL_RECORDS, MAX_PUDDLES}
use Rattle.pud_defs.specs.declared.records.PoolRecord.{PoolRecord}
use Rattle.pud_defs.specs.declared.records.Puddle.{Puddle}
use Rattle.pud_defs.specs.Formats.Names.{name_cmp}
use Rattle.pud_defs.specs.RegistryTables.Keyed.{put_entry, keyed, count_used}
use Rattle.std.proofs.lemmas.List.{length-map}
use Rattle.pud_defs.specs.RegistryTables.Puddles.{Member, is_legal_puddle}
use Rattle.pud_defs.specs.RegistryTables.Tables.{Tables, Pool, Reader, member_of, members, puddles_of, pool_of, entries, pools_of}
use Rattle.pud_defs.specs.RegistryTables.SoundTables.{is_pool, is_sound_puddle, count_up, are_counted, HasSoundTables}
use Rattle.pud_defs.proofs.KeyedTables.Keyed.{HasDistinctKeys, find-keyed, first_from_none, length-keyed}
use Rattle.pud_defs.proofs.RegistryTables.PoolsChanged.{distinct_entries, entry_of}
use Rattle.pud_defs.proofs.RegistryTables.SoundChanged.{distinct_names, distinct_ordinals, counted_puddles, legal_puddle}

-- ---- sums over places

-- the sum of what is at `count` places from a given one on
unfoldable pub sum_places : (ℕ → ℕ) → ℕ → ℕ → ℕ
sum_places f from zero = 0
sum_places f from (suc count) = f from + sum_places f (from + 1) count

pub sum_places-same : (f g : ℕ → ℕ) (from count : ℕ) → ((j : ℕ) → from ≤ j → j < from + count → f j ≡ g j) → sum_places f from count ≡ sum_places g from count
unfolding sum_places
sum_places-same f g from zero same = refl
sum_places-same f g from (suc count) same =
    ap₂ (λ a b. a + b) (same from (omega arith) (omega arith)) (sum_places-same f g (from + 1) count (λ j low high. same j (omega arith) (omega arith)))

sum_places-zero : (from count : ℕ) → sum_places (λ _. 0) from count ≡ 0
unfolding sum_places
sum_places-zero from zero = refl
sum_places-zero from (suc count) = zero-add (sum_places (λ _. 0) (from + 1) count) ∙ sum_places-zero (from + 1) count

-- one more at one of the places is one more in the sum
sum_places-one : (f : ℕ → ℕ) (from count c : ℕ) → from ≤ c → c < from + count → sum_places (λ j. cond (eqb j c) (f j + 1) (f j)) from count ≡ sum_places f from count + 1
unfolding sum_places
sum_places-one f from zero c low high = absurd (omega arith)
sum_places-one f from (suc count) c low high = elim (cases_eq from c) [
  | inl e ↦
      let here : cond (eqb from c) (f from + 1) (f from) ≡ f from + 1 = cond-true _ _ _ (eq-eqb from c e) in
      let rest : sum_places (λ j. cond (eqb j c) (f j + 1) (f j)) (from + 1) count ≡ sum_places f (from + 1) count =
      sum_places-same (λ j. cond (eqb j c) (f j + 1) (f j)) f (from + 1) count (λ j l h. cond-false _ _ _ (ne_eqb j c (λ s. absurd (omega arith)))) in
      omega (arith, here, rest)
  | inr other ↦
      let here : cond (eqb from c) (f from + 1) (f from) ≡ f from = cond-false _ _ _ (ne_eqb from c other) in
      let rest = sum_places-one f (from + 1) count c (omega arith) (omega arith) in
      omega (arith, here, rest)
]

-- ---- sums over what is read by keys

between : (a b c : ℕ) → a + (b + c) ≡ b + (a + c)
between a b c = omega arith

module _ {K X : Type 0} (R : K → K → Ordering) (w : K × X → ℕ) where
  -- what a place adds to the sum: 0 if it is free
  abbrev pub worth : Option (K × X) → ℕ
  worth None = 0
  worth (Some e) = w e

  sum-put : (k : K) (v : X) (es : List (K × X)) → find R k es ≡ None → sum_by w (put R k v es) ≡ w (k, v) + sum_by w es
  sum-put k v [] none = omega arith
  sum-put k v (e ∷ es) none =
      elim (R k e.0) as (λ o. R k e.0 ≡ o → sum_by w (by_order o ((k, v) ∷ e ∷ es) ((e.0, v) ∷ es) (e ∷ put R k v es)) ≡ w (k, v) + sum_by w (e ∷ es)) [
        | Less ↦ λ p. sum_by-cons w (k, v) (e ∷ es)
        | Equal ↦ λ p. absurd (none-some e.1 (sym none ∙ ap (λ r. cond (is_eq r) (Some e.1) (find R k es)) p))
        | Greater ↦ λ p.
            let rest = sum-put k v es (sym (ap (λ r. cond (is_eq r) (Some e.1) (find R k es)) p) ∙ none) in
            sum_by-cons w e (put R k v es) ∙ ap (λ (n : ℕ). w e + n) rest ∙ between (w e) (w (k, v)) (sum_by w es) ∙ sym (ap (λ (n : ℕ). w (k, v) + n) (sum_by-cons w e es))
      ] refl

  sum_in_front : (e : Option (K × X)) (es : List (K × X)) (total : ℕ) → ((d : K × X) → e ≡ Some d → find R d.0 es ≡ None) → sum_by w es ≡ total → sum_by w (put_entry R e es) ≡ worth e + total
  sum_in_front None es total none is = is ∙ sym (zero-add total)
  sum_in_front (Some e) es total none is = sum-put e.0 e.1 es (none e refl) ∙ ap (λ n. w e + n) is

  pub sum-keyed : (o : IsTotalOrder R) (at : ℕ → Option (K × X)) (from count : ℕ) → HasDistinctKeys R at from count → sum_by w (keyed R at from count) ≡ sum_places (λ j. worth (at j)) from count
  unfolding keyed sum_places
  sum-keyed o at from zero h = refl
  sum-keyed o at from (suc count) h =
      sum_in_front (at from) (keyed R at (from + 1) count) (sum_places (λ j. worth (at j)) (from + 1) count)
      (λ d is. find-keyed R o d.0 at (from + 1) count ∙ first_from_none R d.0 at (from + 1) count (λ j low high. h.apart from j (omega arith) (omega arith) (omega arith) d is))
      (sum-keyed o at (from + 1) count (record { apart = λ i j low less high. h.apart i j (omega arith) less (omega arith) }))

-- ---- used places

pub count_used-same : {A B : Type 0} (f : ℕ → Option A) (g : ℕ → Option B) (from count : ℕ) → ((j : ℕ) → from ≤ j → j < from + count → is_none (f j) ≡ is_none (g j)) → count_used f from count ≡ count_used g from count
unfolding count_used
count_used-same f g from zero same = refl
count_used-same f g from (suc count) same =
    let rest = count_used-same f g (from + 1) count (λ j low high. same j (omega arith) (omega arith)) in
    ap₂ (λ (b : Bool) (n : ℕ). cond b n (n + 1)) (same from (omega arith) (omega arith)) rest

-- ---- the pools

entry_used : (hold : Reader) (puddles : List (ℕ × (ℕ × Puddle))) (r : Option PoolRecord) → is_none (entry_of hold puddles r) ≡ is_none r
entry_used hold puddles None = refl
entry_used hold puddles (Some r) = refl

-- there are as many pools as used records
pub length_pools : (hold : Reader) (next : ℕ) (t : Tables) → HasSoundTables next t → length (pools_of hold t) ≡ count_used t.pools 0 POOL_RECORDS
unfolding pools_of
length_pools hold next t h =
    length-keyed name_cmp nat_list_cmp_total (entries hold t) 0 POOL_RECORDS (distinct_entries hold t (distinct_names next t h))
    ∙ count_used-same (entries hold t) t.pools 0 POOL_RECORDS (λ j low high. entry_used hold (puddles_of t j) (t.pools j))

-- a pool has 1 to 16 puddles, with the ordinals from 0 on
pub record HasFewPuddles (t : Tables) (slot : ℕ) : Type 0 where
  pub some : 1 ≤ length (puddles_of t slot)
  pub few : length (puddles_of t slot) ≤ MAX_PUDDLES
  pub ordinals : count_up 0 (map (λ p. p.0) (puddles_of t slot)) ≡ true

or_right : (a b : Bool) → (a || b) ≡ true → a ≡ false → b ≡ true
or_right true b h e = absurd (true≢false e)
or_right false b h e = h

pub few_members : (next : ℕ) (t : Tables) → HasSoundTables next t → (slot : ℕ) (r : PoolRecord) → slot < POOL_RECORDS → t.pools slot ≡ Some r → HasFewPuddles t slot
few_members next t h slot r below used =
    let counted = or_right (is_none (t.pools slot)) (are_counted (puddles_of t slot)) (counted_puddles next t h slot below) (ap is_none used) in
    let parts = and_parts (leb 1 (length (puddles_of t slot)) && leb (length (puddles_of t slot)) MAX_PUDDLES) _ counted in
    let both = and_parts (leb 1 (length (puddles_of t slot))) (leb (length (puddles_of t slot)) MAX_PUDDLES) parts.0 in
    record { some = leb-true 1 (length (puddles_of t slot)) both.0; few = leb-true (length (puddles_of t slot)) MAX_PUDDLES both.1; ordinals = parts.1 }

-- ---- the puddles of all pools

-- each used puddle record names a slot of the pool table
pub record HasKnownSlots (t : Tables) (from count : ℕ) : Type 0 where
  pub slot : (frame : ℕ) → from ≤ frame → frame < from + count → (m : Member) → t.puddles frame ≡ Some m → (s : ℕ) × ((s < POOL_RECORDS) × (m.pool ≡ s + 1))

member_none : (slot frame : ℕ) (m : Member) (c : ℕ) → m.pool ≡ c + 1 → is_none (member_of slot frame (Some m)) ≡ not (eqb slot c)
member_none slot frame m c is = elim (cases_eq slot c) [
  | inl e ↦ ap is_none (cond-true (eqb m.pool (slot + 1)) _ None (eq-eqb m.pool (slot + 1) (is ∙ ap (λ (n : ℕ). n + 1) (sym e)))) ∙ sym (ap not (eq-eqb slot c e))
  | inr other ↦ ap is_none (cond-false (eqb m.pool (slot + 1)) _ None (ne_eqb m.pool (slot + 1) (λ same. other (omega arith)))) ∙ sym (ap not (ne_eqb slot c other))
]

above_one : (n : ℕ) → (n ≡ 0 → ⊥) → n ≡ (n - 1) + 1
above_one n some = elim (cases_eq n 0) [ inl e ↦ absurd (some e) | inr e ↦ omega arith ]

turned : (b : Bool) (n : ℕ) → cond (not b) n (n + 1) ≡ cond b (n + 1) n
turned true n = refl
turned false n = refl

-- one more frame
one_frame : (n : ℕ → ℕ) (total frame : ℕ) (o : Option Member) → ((m : Member) → o ≡ Some m → (s : ℕ) × ((s < POOL_RECORDS) × (m.pool ≡ s + 1))) → sum_places n 0 POOL_RECORDS ≡ total
    → sum_places (λ s. cond (is_none (member_of s frame o)) (n s) (n s + 1)) 0 POOL_RECORDS ≡ cond (is_none o) total (total + 1)
one_frame n total frame None known is = is
one_frame n total frame (Some m) known is =
    let place = known m refl in
    let below = place.1.0 in
    let each : (s : ℕ) → cond (is_none (member_of s frame (Some m))) (n s) (n s + 1) ≡ cond (eqb s place.0) (n s + 1) (n s) = λ s.
    ap (λ b. cond b (n s) (n s + 1)) (member_none s frame m place.0 place.1.1) ∙ turned (eqb s place.0) (n s) in
    sum_places-same (λ s. cond (is_none (member_of s frame (Some m))) (n s) (n s + 1)) (λ s. cond (eqb s place.0) (n s + 1) (n s)) 0 POOL_RECORDS (λ s low high. each s)
    ∙ sum_places-one n 0 POOL_RECORDS place.0 (omega arith) (omega arith)
    ∙ ap (λ (k : ℕ). k + 1) is

-- the puddles of all slots are as many as the used records
pub count-classes : (t : Tables) (from count : ℕ) → HasKnownSlots t from count → sum_places (λ s. count_used (members t s) from count) 0 POOL_RECORDS ≡ count_used t.puddles from count
unfolding count_used
count-classes t from zero h = sum_places-zero 0 POOL_RECORDS
count-classes t from (suc count) h =
    one_frame (λ s. count_used (members t s) (from + 1) count) (count_used t.puddles (from + 1) count) from (t.puddles from) (h.slot from (omega arith) (omega arith))
    (count-classes t (from + 1) count (record { slot = λ frame low high. h.slot frame (omega arith) (omega arith) }))

count_used-none : {A : Type 0} (at : ℕ → Option A) (from count : ℕ) → ((j : ℕ) → from ≤ j → j < from + count → at j ≡ None) → count_used at from count ≡ 0
unfolding count_used
count_used-none at from zero none = refl
count_used-none at from (suc count) none =
    cond-true _ _ _ (ap is_none (none from (omega arith) (omega arith))) ∙ count_used-none at (from + 1) count (λ j low high. none j (omega arith) (omega arith))

-- no slot after the last one of the table is used, as in the tables of an image
pub record IsMasked (t : Tables) : Type 0 where
  pub beyond : (slot : ℕ) → POOL_RECORDS ≤ slot → t.pools slot ≡ None

module _ (next : ℕ) (t : Tables) (h : HasSoundTables next t) where
  -- a used puddle record names a used pool
  named_pool : (frame : ℕ) (o : Option Member) → is_sound_puddle next t o ≡ true → (m : Member) → o ≡ Some m → (s : ℕ) × ((is_some (t.pools s) ≡ true) × (m.pool ≡ s + 1))
  named_pool frame None sound m is = absurd (none-some m is)
  named_pool frame (Some x) sound m is =
      let last = and_parts (is_pool t x.pool && ltb x.ordinal MAX_PUDDLES) (is_legal_puddle next x.puddle) sound in
      let front = and_parts (is_pool t x.pool) (ltb x.ordinal MAX_PUDDLES) last.0 in
      let pool = and_parts (not (eqb x.pool 0)) (is_some (t.pools (x.pool - 1))) front.0 in
      let same : x ≡ m = same_Some x m is in
      let some : x.pool ≡ 0 → ⊥ = λ e. true≢false (sym pool.0 ∙ ap not (eq-eqb x.pool 0 e)) in
      let place : x.pool ≡ (x.pool - 1) + 1 = above_one x.pool some in
      (x.pool - 1, (pool.1, sym (ap (λ (y : Member). y.pool) same) ∙ place))

  known_slots : IsMasked t → HasKnownSlots t 0 t.frames
  known_slots masked = record {
    slot = λ frame low high m is.
        let named = named_pool frame (t.puddles frame) (legal_puddle next t h frame (omega arith)) m is in
        (named.0, (elim (cases_lt named.0 POOL_RECORDS) [ inl below ↦ below | inr beyond ↦ absurd (true≢false (sym named.1.0 ∙ ap is_some (masked.beyond named.0 beyond))) ], named.1.1));
  }

  no_member_by : (slot frame : ℕ) (o : Option Member) → is_sound_puddle next t o ≡ true → t.pools slot ≡ None → member_of slot frame o ≡ None
  no_member_by slot frame None sound free = refl
  no_member_by slot frame (Some m) sound free = cond-false (eqb m.pool (slot + 1)) _ None (ne_eqb m.pool (slot + 1) (λ of.
      let named = named_pool frame (Some m) sound m refl in
      let place = named.1.1 in
      let same : named.0 ≡ slot = omega arith in
      true≢false (sym named.1.0 ∙ ap is_some (ap t.pools same ∙ free))))

  pub no_member : (slot frame : ℕ) → frame < t.frames → t.pools slot ≡ None → members t slot frame ≡ None
  no_member slot frame below free = no_member_by slot frame (t.puddles frame) (legal_puddle next t h frame below) free

  pub length_puddles : (slot : ℕ) → slot < POOL_RECORDS → length (puddles_of t slot) ≡ count_used (members t slot) 0 t.frames
  unfolding puddles_of
  length_puddles slot below = length-keyed nat_cmp nat_cmp_total (members t slot) 0 t.frames (distinct_ordinals next t h slot below)

  worth_of : (hold : Reader) (slot : ℕ) → slot < POOL_RECORDS → (o : Option PoolRecord) → t.pools slot ≡ o → worth name_cmp (λ (e : List ℕ × Pool). length e.1.classes) (entry_of hold (puddles_of t slot) o) ≡ count_used (members t slot) 0 t.frames
  unfolding pool_of
  worth_of hold slot below None is = sym (count_used-none (members t slot) 0 t.frames (λ f low high. no_member slot f (omega arith) is))
  worth_of hold slot below (Some r) is = length-map (puddles_of t slot) (λ (e : ℕ × (ℕ × Puddle)). e.1.1.class) ∙ length_puddles slot below

  -- the used frames are as many as the puddles of all pools
  pub sum_puddles : (hold : Reader) → IsMasked t → sum_by (λ (e : List ℕ × Pool). length e.1.classes) (pools_of hold t) ≡ count_used t.puddles 0 t.frames
  unfolding pools_of
  sum_puddles hold masked =
      sum-keyed name_cmp (λ (e : List ℕ × Pool). length e.1.classes) nat_list_cmp_total (entries hold t) 0 POOL_RECORDS (distinct_entries hold t (distinct_names next t h))
      ∙ sum_places-same (λ j. worth name_cmp (λ (e : List ℕ × Pool). length e.1.classes) (entries hold t j)) (λ s. count_used (members t s) 0 t.frames) 0 POOL_RECORDS (λ s low high. worth_of hold s (omega arith) (t.pools s) refl)
      ∙ count-classes t 0 t.frames (known_slots masked)
