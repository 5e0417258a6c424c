-- Tables in which the frontier of one puddle changed: what is read from them, and that sound tables stay sound.
use Rattle.std.proofs.Common.{◌≡◌, inl, inr, ℕ, zero, suc, ◌+◌, ◌^◌, ◌<◌, ◌≤◌, true, false, cond, ◌&&◌, ◌||◌, eqb, ltb, leb, List, [], ◌∷◌, map, set, length, Option, Some, None, nat_cmp, is_none, option_map, refl, sym, ap, ap₂, ◌∙◌, arith, ne_eqb, eq-eqb}
use Rattle.std.specs.Prelude.{slice_get}
use Rattle.std.specs.FinMap.Entries.{find}
use Rattle.std.proofs.lemmas.Bool.{cases_eq, cond-true, cond-false, and_parts, and_from}
use Rattle.std.proofs.lemmas.List.{length-map}
use Rattle.std.proofs.lemmas.Option.{none-some, same_Some}
use Rattle.pud_defs.specs.declared.layout.TheConstants.{POOL_TABLE}
use Rattle.pud_defs.specs.declared.records.TheConstants.{POOL_RECORDS, MAX_PUDDLES}
use Rattle.pud_defs.specs.declared.records.PoolRecord.{PoolRecord}
use Rattle.pud_defs.specs.declared.records.Puddle.{Puddle}
use Rattle.pud_defs.specs.Formats.Image.{Image}
use Rattle.pud_defs.specs.Formats.Layout.{tables_end}
use Rattle.pud_defs.specs.Formats.Names.{name_cmp}
use Rattle.pud_defs.specs.Formats.Bases.{is_legal_base}
use Rattle.pud_defs.specs.Formats.Geometry.{is_legal_class, is_legal_frontier}
use Rattle.pud_defs.specs.RegistryTables.Spaces.{owner}
use Rattle.pud_defs.specs.PoolGraphs.Holdings.{Holding}
use Rattle.pud_defs.specs.RegistryTables.Pools.{is_given}
use Rattle.pud_defs.specs.RegistryTables.Puddles.{Member, member_pool, member_ordinal, frontier_part, class_part, frontier_with_class, moved_to, member_moved, frontier_word, puddle_record_at, puddle_by, puddle_at, is_legal_puddle}
use Rattle.pud_defs.specs.RegistryTables.Tables.{Tables, Reader, tables_of, member_of, members, puddles_of, found_then, in_turn, puddles_in_turn, listed, classes_of, pool_of, entries, pools_of}
use Rattle.pud_defs.specs.RegistryTables.SoundTables.{is_pool, is_sound_puddle, bases, old_bases, count_up, are_counted, HasSoundTables}
use Rattle.pud_defs.specs.RegistryTables.Puts.{with_puddle_at, with_frontier_at, moved_in}
use Rattle.pud_defs.proofs.KeyedTables.Keyed.{HasDistinctKeys-keys, keyed-same}
use Rattle.pud_defs.proofs.KeyedTables.KeyedMaps.{of_entry, keyed-mapped, find-mapped}
use Rattle.pud_defs.proofs.RegistryTables.TablesOf.{puddles_below, tables_of-puddle}
use Rattle.pud_defs.proofs.RegistryTables.PoolsChanged.{changed_here, changed_elsewhere, entry_of}
use Rattle.pud_defs.proofs.RegistryTables.SoundChanged.{sound_by, legal_pool, legal_puddle, distinct_names, distinct_bases, distinct_old_bases, distinct_ordinals, counted_puddles}

-- ---- lists

found_then-mapped : {A B : Type 0} (g : A → B) (o : Option A) (rest : List A) → found_then (option_map g o) (map g rest) ≡ map g (found_then o rest)
found_then-mapped g None rest = refl
found_then-mapped g (Some x) rest = refl

pub in_turn-mapped : {A B : Type 0} (g : A → B) (at : ℕ → Option A) (from count : ℕ) → in_turn (λ i. option_map g (at i)) from count ≡ map g (in_turn at from count)
unfolding in_turn
in_turn-mapped g at from zero = refl
in_turn-mapped g at from (suc count) = ap (found_then (option_map g (at from))) (in_turn-mapped g at (from + 1) count) ∙ found_then-mapped g (at from) (in_turn at (from + 1) count)

-- puddles do not change if none of them is in the frame
pub map-moved_apart : (frame n : ℕ) (at : List (ℕ × Puddle)) → ((i : ℕ) (e : ℕ × Puddle) → slice_get at i ≡ Some e → e.0 ≡ frame → ⊥) → map (moved_in frame n) at ≡ at
map-moved_apart frame n [] apart = refl
map-moved_apart frame n (e ∷ at) apart =
    ap₂ (λ (d : ℕ × Puddle) (ds : List (ℕ × Puddle)). d ∷ ds) (cond-false _ _ _ (ne_eqb e.0 frame (apart 0 e refl))) (map-moved_apart frame n at (λ i d is. apart (suc i) d is))

-- if one of them is in the frame, only that one changes
pub map-moved_there : (n : ℕ) (at : List (ℕ × Puddle)) (o : ℕ) (e : ℕ × Puddle) → slice_get at o ≡ Some e → ((i : ℕ) (d : ℕ × Puddle) → slice_get at i ≡ Some d → d.0 ≡ e.0 → i ≡ o) → map (moved_in e.0 n) at ≡ set at o (e.0, moved_to n e.1)
map-moved_there n [] o e here alone = absurd (none-some e here)
map-moved_there n (d ∷ at) zero e here alone =
    let same : d ≡ e = same_Some d e here in
    ap₂ (λ (x : ℕ × Puddle) (xs : List (ℕ × Puddle)). x ∷ xs)
    (ap (moved_in e.0 n) same ∙ cond-true _ _ _ (eq-eqb e.0 e.0 refl))
    (map-moved_apart e.0 n at (λ i x is frame. absurd (let other = alone (suc i) x is frame in omega arith)))
map-moved_there n (d ∷ at) (suc o) e here alone =
    ap₂ (λ (x : ℕ × Puddle) (xs : List (ℕ × Puddle)). x ∷ xs)
    (cond-false _ _ _ (ne_eqb d.0 e.0 (λ frame. absurd (let other = alone 0 d refl frame in omega arith))))
    (map-moved_there n at o e here (λ i x is frame. let at_i = alone (suc i) x is frame in omega arith))

-- ---- words

-- a record with another word for its frontier
pub puddle_by-moved : (w0 w1 w2 w3 w4 n : ℕ) → n < 2 ^ 32 → puddle_by w0 w1 w2 w3 (frontier_with_class n (class_part w4)) ≡ option_map (member_moved n) (puddle_by w0 w1 w2 w3 w4)
unfolding puddle_by
puddle_by-moved w0 w1 w2 w3 w4 n fits = elim (cases_eq w0 0) [
  | inl free ↦ cond-true _ _ _ (eq-eqb w0 0 free) ∙ sym (ap (option_map (member_moved n)) (cond-true _ _ _ (eq-eqb w0 0 free)))
  | inr used ↦
      let last = frontier_with_class n (class_part w4) in
      let frontier : frontier_part last ≡ n = omega arith in
      let class : class_part last ≡ class_part w4 = omega arith in
      cond-false _ _ _ (ne_eqb w0 0 used)
      ∙ (λ p. Some (record { pool = member_pool w0; ordinal = member_ordinal w0; puddle = record { number = w1; base = w2; old_base = w3; frontier = frontier p; class = class p } }))
      ∙ sym (ap (option_map (member_moved n)) (cond-false _ _ _ (ne_eqb w0 0 used)))
]

puddle_at-moved : (i j : Image) (frame n : ℕ) → n < 2 ^ 32 → j (frontier_word frame) ≡ frontier_with_class n (class_part (i (frontier_word frame))) → ((k : ℕ) → puddle_record_at frame ≤ k → k < frontier_word frame → j k ≡ i k) → puddle_at j frame ≡ option_map (member_moved n) (puddle_at i frame)
unfolding puddle_at
puddle_at-moved i j frame n fits there same =
    let at = puddle_record_at frame in
    let e0 = same at (omega arith) (omega arith) in
    let e1 = same (at + 1) (omega arith) (omega arith) in
    let e2 = same (at + 2) (omega arith) (omega arith) in
    let e3 = same (at + 3) (omega arith) (omega arith) in
    (λ p. puddle_by (e0 p) (e1 p) (e2 p) (e3 p) (there p)) ∙ puddle_by-moved (i at) (i (at + 1)) (i (at + 2)) (i (at + 3)) (i (at + 4)) n fits

-- images that differ only in that word
pub tables_of-moved : (F : ℕ) (i j : Image) (frame n : ℕ) → frame < F → n < 2 ^ 32 → j (frontier_word frame) ≡ frontier_with_class n (class_part (i (frontier_word frame))) → ((k : ℕ) → POOL_TABLE ≤ k → k < tables_end F → (k ≡ frontier_word frame → ⊥) → j k ≡ i k)
    → tables_of F j ≡ with_frontier_at frame n (tables_of F i)
tables_of-moved F i j frame n below fits there same =
    tables_of-puddle F i j frame below
    (λ k low high. same k low (omega arith) (λ e. absurd (omega arith)))
    (λ k low high not. same k (omega arith) high (λ e. not (omega arith) (omega arith)))
    ∙ ap (λ m. with_puddle_at frame m (tables_of F i))
    (puddle_at-moved i j frame n fits there (λ k low high. same k (omega arith) (omega arith) (λ e. absurd (omega arith))) ∙ ap (option_map (member_moved n)) (sym (puddles_below F i frame below)))

-- ---- what is read

module _ (t : Tables) (frame n : ℕ) where
  abbrev after : Tables
  after = with_frontier_at frame n t

  abbrev there : ℕ × Puddle → ℕ × Puddle
  there = moved_in frame n

  -- what does not depend on the frontier is read as before
  unread : {A : Type 0} (read : Option Member → A) → ((m : Option Member) → read (option_map (member_moved n) m) ≡ read m) → (f : ℕ) → read (after.puddles f) ≡ read (t.puddles f)
  unread read same f = elim (cases_eq f frame) [
    | inl e ↦ ap read (cond-true (eqb f frame) (option_map (member_moved n) (t.puddles frame)) (t.puddles f) (eq-eqb f frame e)) ∙ same (t.puddles frame) ∙ ap (λ k. read (t.puddles k)) (sym e)
    | inr other ↦ ap read (changed_elsewhere frame (option_map (member_moved n) (t.puddles frame)) t.puddles f other)
  ]

  member_there : (slot : ℕ) (m : Option Member) → member_of slot frame (option_map (member_moved n) m) ≡ option_map (of_entry nat_cmp there) (member_of slot frame m)
  member_there slot None = refl
  member_there slot (Some m) =
      elim (eqb m.pool (slot + 1)) as (λ b. cond b (Some (m.ordinal, (frame, moved_to n m.puddle))) None ≡ option_map (of_entry nat_cmp there) (cond b (Some (m.ordinal, (frame, m.puddle))) None)) [
        | true ↦ ap (λ (e : ℕ × Puddle). Some (m.ordinal, e)) (sym (cond-true (eqb frame frame) (frame, moved_to n m.puddle) (frame, m.puddle) (eq-eqb frame frame refl)))
        | false ↦ refl
      ]

  member_elsewhere : (slot f : ℕ) (m : Option Member) → (f ≡ frame → ⊥) → member_of slot f m ≡ option_map (of_entry nat_cmp there) (member_of slot f m)
  member_elsewhere slot f None other = refl
  member_elsewhere slot f (Some m) other =
      elim (eqb m.pool (slot + 1)) as (λ b. cond b (Some (m.ordinal, (f, m.puddle))) None ≡ option_map (of_entry nat_cmp there) (cond b (Some (m.ordinal, (f, m.puddle))) None)) [
        | true ↦ ap (λ (e : ℕ × Puddle). Some (m.ordinal, e)) (sym (cond-false (eqb f frame) (f, moved_to n m.puddle) (f, m.puddle) (ne_eqb f frame other)))
        | false ↦ refl
      ]

  members-moved : (slot f : ℕ) → members after slot f ≡ option_map (of_entry nat_cmp there) (members t slot f)
  members-moved slot f = elim (cases_eq f frame) [
    | inl e ↦
        ap (members after slot) e
        ∙ ap (member_of slot frame) (changed_here frame (option_map (member_moved n) (t.puddles frame)) t.puddles)
        ∙ member_there slot (t.puddles frame)
        ∙ ap (λ k. option_map (of_entry nat_cmp there) (members t slot k)) (sym e)
    | inr other ↦
        ap (member_of slot f) (changed_elsewhere frame (option_map (member_moved n) (t.puddles frame)) t.puddles f other) ∙ member_elsewhere slot f (t.puddles f) other
  ]

  -- each pool has the puddles that it had, except for the one in the frame
  pub puddles_of-moved : (slot : ℕ) → puddles_of after slot ≡ map (of_entry nat_cmp there) (puddles_of t slot)
  unfolding puddles_of
  puddles_of-moved slot =
      keyed-same nat_cmp (members after slot) (λ f. option_map (of_entry nat_cmp there) (members t slot f)) 0 t.frames (λ f low high. members-moved slot f)
      ∙ keyed-mapped nat_cmp there (members t slot) 0 t.frames

  -- the same holds for its puddles in turn, by their ordinals
  pub puddles_in_turn-moved : (slot : ℕ) → puddles_in_turn after slot ≡ map there (puddles_in_turn t slot)
  puddles_in_turn-moved slot =
      ap (λ es. in_turn (λ o. find nat_cmp o es) 0 MAX_PUDDLES) (puddles_of-moved slot)
      ∙ (λ p. in_turn (λ o. find-mapped nat_cmp there o (puddles_of t slot) p) 0 MAX_PUDDLES)
      ∙ in_turn-mapped there (λ o. find nat_cmp o (puddles_of t slot)) 0 MAX_PUDDLES

  listed-mapped : (es : List (ℕ × (ℕ × Puddle))) → listed (map (of_entry nat_cmp there) es) ≡ map there (listed es)
  listed-mapped [] = refl
  listed-mapped (e ∷ es) = ap (λ ds. there e.1 ∷ ds) (listed-mapped es)

  pub listed-moved : (slot : ℕ) → listed (puddles_of after slot) ≡ map there (listed (puddles_of t slot))
  listed-moved slot = ap listed (puddles_of-moved slot) ∙ listed-mapped (puddles_of t slot)

  classes-mapped : (es : List (ℕ × (ℕ × Puddle))) → classes_of (map (of_entry nat_cmp there) es) ≡ classes_of es
  classes-mapped [] = refl
  classes-mapped (e ∷ es) =
      ap₂ (λ (c : ℕ) (cs : List ℕ). c ∷ cs)
      (elim (eqb e.1.0 frame) as (λ b. (cond b (e.1.0, moved_to n e.1.1) e.1).1.class ≡ e.1.1.class) [ true ↦ refl | false ↦ refl ])
      (classes-mapped es)

  classes-moved : (slot : ℕ) → classes_of (puddles_of after slot) ≡ classes_of (puddles_of t slot)
  classes-moved slot = ap classes_of (puddles_of-moved slot) ∙ classes-mapped (puddles_of t slot)

  length-moved : (slot : ℕ) → length (puddles_of after slot) ≡ length (puddles_of t slot)
  length-moved slot = ap length (puddles_of-moved slot) ∙ length-map (puddles_of t slot) (of_entry nat_cmp there)

  -- ---- pools

  module _ (hold now : Reader) (same : (slot : ℕ) (r : PoolRecord) → slot < POOL_RECORDS → t.pools slot ≡ Some r → now (map there (listed (puddles_of t slot))) ≡ hold (listed (puddles_of t slot))) where
    entry-moved : (slot : ℕ) (r : Option PoolRecord) → slot < POOL_RECORDS → t.pools slot ≡ r → entry_of now (puddles_of after slot) r ≡ entry_of hold (puddles_of t slot) r
    unfolding pool_of
    entry-moved slot None below used = refl
    entry-moved slot (Some r) below used =
        let held = ap now (listed-moved slot) ∙ same slot r below used in
        ap₂ (λ (c : List ℕ) (h : Holding). Some (r.name, record { owner = owner r.uid r.gid; mode = r.mode; number = r.number; classes = c; holding = h })) (classes-moved slot) held

    -- the pools are the same if each stores the same
    pub pools_of-moved : pools_of now after ≡ pools_of hold t
    unfolding pools_of
    pools_of-moved = keyed-same name_cmp (entries now after) (entries hold t) 0 POOL_RECORDS (λ slot low high. entry-moved slot (t.pools slot) (omega arith) refl)

  -- ---- sound tables

  keys-mapped : (es : List (ℕ × (ℕ × Puddle))) → map (λ p. p.0) (map (of_entry nat_cmp there) es) ≡ map (λ p. p.0) es
  keys-mapped [] = refl
  keys-mapped (e ∷ es) = ap (λ ks. e.0 ∷ ks) (keys-mapped es)

  counted-moved : (slot : ℕ) → are_counted (puddles_of after slot) ≡ are_counted (puddles_of t slot)
  counted-moved slot =
      let keys = ap (map (λ (p : ℕ × (ℕ × Puddle)). p.0)) (puddles_of-moved slot) ∙ keys-mapped (puddles_of t slot) in
      ap₂ (λ (c : ℕ) (ks : List ℕ). leb 1 c && leb c MAX_PUDDLES && count_up 0 ks) (length-moved slot) keys

  old_base-unread : (slot f : ℕ) (m : Option Member)
      → option_map {U = ℕ × ℕ} (λ (p : ℕ × (ℕ × Puddle)). (p.1.1.old_base, f)) (member_of slot f (option_map (member_moved n) m)) ≡ option_map (λ (p : ℕ × (ℕ × Puddle)). (p.1.1.old_base, f)) (member_of slot f m)
  old_base-unread slot f None = refl
  old_base-unread slot f (Some m) =
      elim (eqb m.pool (slot + 1)) as (λ b. option_map {U = ℕ × ℕ} (λ (p : ℕ × (ℕ × Puddle)). (p.1.1.old_base, f)) (cond b (Some (m.ordinal, (f, moved_to n m.puddle))) None)
      ≡ option_map (λ (p : ℕ × (ℕ × Puddle)). (p.1.1.old_base, f)) (cond b (Some (m.ordinal, (f, m.puddle))) None)) [ true ↦ refl | false ↦ refl ]

  ordinal-unread : (slot f : ℕ) (m : Option Member)
      → option_map (λ (p : ℕ × (ℕ × Puddle)). p.0) (member_of slot f (option_map (member_moved n) m)) ≡ option_map (λ (p : ℕ × (ℕ × Puddle)). p.0) (member_of slot f m)
  ordinal-unread slot f None = refl
  ordinal-unread slot f (Some m) =
      elim (eqb m.pool (slot + 1)) as (λ b. option_map (λ (p : ℕ × (ℕ × Puddle)). p.0) (cond b (Some (m.ordinal, (f, moved_to n m.puddle))) None)
      ≡ option_map (λ (p : ℕ × (ℕ × Puddle)). p.0) (cond b (Some (m.ordinal, (f, m.puddle))) None)) [ true ↦ refl | false ↦ refl ]

  base-unread : (f : ℕ) (m : Option Member) → option_map {U = ℕ × ℕ} (λ (x : Member). (x.puddle.base, f)) (option_map (member_moved n) m) ≡ option_map (λ (x : Member). (x.puddle.base, f)) m
  base-unread f None = refl
  base-unread f (Some m) = refl

  module _ (next : ℕ) (m : Member) (sound : HasSoundTables next t) (used : t.puddles frame ≡ Some m) (legal : is_legal_frontier (moved_to n m.puddle) ≡ true) where
    legal-moved : is_sound_puddle next t (Some m) ≡ true → is_sound_puddle next t (Some (member_moved n m)) ≡ true
    legal-moved h =
        let two = and_parts (is_pool t m.pool && ltb m.ordinal MAX_PUDDLES) (is_legal_puddle next m.puddle) h in
        let three = and_parts (is_given next m.puddle.number && is_legal_base m.puddle.base && is_legal_base m.puddle.old_base) (is_legal_class m.puddle && is_legal_frontier m.puddle) two.1 in
        let last = and_parts (is_legal_class m.puddle) (is_legal_frontier m.puddle) three.1 in
        and_from _ _ two.0 (and_from _ _ three.0 (and_from _ _ last.0 legal))

    sound_record : (f : ℕ) → f < t.frames → is_sound_puddle next t (after.puddles f) ≡ true
    sound_record f below = elim (cases_eq f frame) [
      | inl e ↦
          ap (is_sound_puddle next t) (cond-true (eqb f frame) (option_map (member_moved n) (t.puddles frame)) (t.puddles f) (eq-eqb f frame e) ∙ ap (option_map (member_moved n)) used)
          ∙ legal-moved (ap (is_sound_puddle next t) (sym (ap t.puddles e ∙ used)) ∙ legal_puddle next t sound f below)
      | inr other ↦ ap (is_sound_puddle next t) (changed_elsewhere frame (option_map (member_moved n) (t.puddles frame)) t.puddles f other) ∙ legal_puddle next t sound f below
    ]

    pub sound_moved : HasSoundTables next after
    sound_moved = sound_by next after (record {
      pools = legal_pool next t sound;
      names = distinct_names next t sound;
      puddles = sound_record;
      bases = HasDistinctKeys-keys nat_cmp (bases t) (bases after) 0 t.frames
          (λ f. ap (option_map (λ (e : ℕ × ℕ). e.0)) (sym (unread (λ o. option_map {U = ℕ × ℕ} (λ (x : Member). (x.puddle.base, f)) o) (base-unread f) f))) (distinct_bases next t sound);
      old_bases = λ slot below. HasDistinctKeys-keys nat_cmp (old_bases t slot) (old_bases after slot) 0 t.frames
          (λ f. ap (option_map (λ (e : ℕ × ℕ). e.0)) (sym (unread (λ o. option_map {U = ℕ × ℕ} (λ (p : ℕ × (ℕ × Puddle)). (p.1.1.old_base, f)) (member_of slot f o)) (old_base-unread slot f) f)))
          (distinct_old_bases next t sound slot below);
      ordinals = λ slot below. HasDistinctKeys-keys nat_cmp (members t slot) (members after slot) 0 t.frames
          (λ f. sym (unread (λ o. option_map (λ (p : ℕ × (ℕ × Puddle)). p.0) (member_of slot f o)) (ordinal-unread slot f) f)) (distinct_ordinals next t sound slot below);
      counted = λ slot below. ap (λ b. is_none (t.pools slot) || b) (counted-moved slot) ∙ counted_puddles next t sound slot below;
    })
