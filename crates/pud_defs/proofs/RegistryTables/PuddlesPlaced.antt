-- A pool of several puddles is made in sound tables. The first puddle comes with the pool's record, and each other one
-- after it. The tables stay sound.
use Rattle.std.proofs.Common.{◌≡◌, inl, inr, ℕ, zero, suc, ◌+◌, ◌-◌, ◌<◌, ◌≤◌, Bool, true, false, not, ◌||◌, eqb, List, [], ◌∷◌, ◌++◌, map, length, get_or, Option, Some, None, nat_cmp, option_map, refl, sym, ap, ap₂, ◌∙◌, subst, arith, ne_eqb, eq-eqb, true≢false, append_assoc, append-nil}
use Rattle.std.specs.Prelude.{slice_get}
use Rattle.std.proofs.lemmas.List.{get_or-map, length-map}
use Rattle.std.proofs.lemmas.List.Sums.{AllPass-from_list_all}
use Rattle.std.proofs.lemmas.Option.{same_Some, none-some, slice_get-get_or}
use Rattle.std.specs.List.{list_any, list_all}
use Rattle.std.specs.FinMap.Entries.{by_order, put}
use Rattle.std.specs.Cmp.{tied_itself, unsigned_tied, IsTotalOrder}
use Rattle.std.specs.Cmp.Lexicographic.{nat_list_cmp_total}
use Rattle.std.specs.declared.cmp.Ordering.{Ordering}
use Rattle.std.specs.declared.cmp.Ordering.TheVariants.{Less, Equal, Greater}
use Rattle.std.proofs.lemmas.Bool.{cases_eq, cond-true, and_parts}
use Rattle.std.proofs.lemmas.List.{length_push}
use Rattle.std.proofs.lemmas.Cmp.{nat_cmp_total}
use Rattle.pud_defs.specs.declared.records.TheConstants.{POOL_RECORDS, MAX_PUDDLES}
use Rattle.pud_defs.specs.declared.records.PoolRecord.{PoolRecord}
use Rattle.pud_defs.specs.declared.records.Puddle.{Puddle}
use Rattle.pud_defs.specs.Formats.Names.{name_cmp}
use Rattle.pud_defs.specs.PoolGraphs.ExportFile.{under_base, are_file_bases}
use Rattle.pud_defs.specs.RegistryTables.Keyed.{under, first_from, first_free, are_distinct}
use Rattle.pud_defs.specs.Formats.Bases.{is_legal_base}
use Rattle.pud_defs.specs.RegistryTables.Places.{has_other_bases}
use Rattle.pud_defs.specs.RegistryTables.Puddles.{Member, is_legal_puddle}
use Rattle.pud_defs.specs.RegistryTables.Spaces.{all_below}
use Rattle.pud_defs.specs.RegistryTables.Tables.{Tables, Reader, member_of, named, puddles_of, listed, pool_of, pools_of}
use Rattle.pud_defs.specs.RegistryTables.SoundTables.{bases, old_bases, HasSoundTables}
use Rattle.pud_defs.specs.RegistryTables.Puts.{is_of_pool, with_pool_at, with_puddle_at}
use Rattle.pud_defs.specs.RegistryTables.Placement.{has_another_base, IsBaseFor, ArePlacedFrom}
use Rattle.pud_defs.specs.RegistryTables.Pools.{is_legal_pool}
use Rattle.pud_defs.proofs.KeyedTables.Keyed.{under_tied, under_apart, first_free_some, first_from_none, distinct_keys}
use Rattle.pud_defs.proofs.RegistryTables.Spaces.{all_below-each}
use Rattle.pud_defs.proofs.RegistryTables.PoolsChanged.{IsPoolMade, made, changed_here, changed_elsewhere, not_of, pools_made, puddles_of-made}
use Rattle.pud_defs.proofs.RegistryTables.SoundChanged.{IsAdded, sound_made}
use Rattle.pud_defs.proofs.RegistryTables.PuddleMore.{IsNextPuddle, puddles_of-more, sound_more, pools_more}

-- ---- an entry that is put twice

module _ {K X : Type 0} (R : K → K → Ordering) (total : IsTotalOrder R) where
  put_by : (k : K) (v w : X) (e : K × X) (es : List (K × X)) (o : Ordering) → R k e.0 ≡ o → put R k w (put R k v es) ≡ put R k w es
      → put R k w (by_order o ((k, v) ∷ e ∷ es) ((e.0, v) ∷ es) (e ∷ put R k v es)) ≡ by_order o ((k, w) ∷ e ∷ es) ((e.0, w) ∷ es) (e ∷ put R k w es)
  put_by k v w e es Less is again = ap (λ (o : Ordering). by_order o ((k, w) ∷ (k, v) ∷ e ∷ es) ((k, w) ∷ e ∷ es) ((k, v) ∷ put R k w (e ∷ es))) (tied_itself total k)
  put_by k v w e es Equal is again = ap (λ (o : Ordering). by_order o ((k, w) ∷ (e.0, v) ∷ es) ((e.0, w) ∷ es) ((e.0, v) ∷ put R k w es)) is
  put_by k v w e es Greater is again = ap (λ (o : Ordering). by_order o ((k, w) ∷ e ∷ put R k v es) ((e.0, w) ∷ put R k v es) (e ∷ put R k w (put R k v es))) is ∙ ap (λ (ds : List (K × X)). e ∷ ds) again

  -- the later value counts
  pub put-again : (k : K) (v w : X) (es : List (K × X)) → put R k w (put R k v es) ≡ put R k w es
  put-again k v w [] = ap (λ (o : Ordering). by_order o ((k, w) ∷ (k, v) ∷ []) ((k, w) ∷ []) ((k, v) ∷ (k, w) ∷ [])) (tied_itself total k)
  put-again k v w (e ∷ es) = put_by k v w e es (R k e.0) refl (put-again k v w es)

-- ---- free bases

-- no base in the list is this one, and no puddle of the tables has it as its base
pub record IsNoBase (t : Tables) (taken : List ℕ) (base : ℕ) : Type 0 where
  pub given : list_any (λ other. eqb other base) taken ≡ false
  pub others : (f : ℕ) → f < t.frames → has_another_base base (t.puddles f) ≡ true

or_parts : (a b : Bool) → (a || b) ≡ false → (a ≡ false) × (b ≡ false)
or_parts true b is = absurd (true≢false is)
or_parts false b is = (refl, is)

not_parts : (b : Bool) → not b ≡ false → b ≡ true
not_parts true is = refl
not_parts false is = absurd (true≢false is)

not_true : (b : Bool) → not b ≡ true → b ≡ false
not_true true is = absurd (true≢false (sym is))
not_true false is = refl

none_given : (base : ℕ) (taken : List ℕ) → list_all (λ other. not (eqb other base)) taken ≡ true → list_any (λ other. eqb other base) taken ≡ false
none_given base [] all = refl
none_given base (x ∷ taken) all =
    let parts = and_parts (not (eqb x base)) (list_all (λ other. not (eqb other base)) taken) all in
    ap₂ (λ (a b : Bool). a || b) (not_true (eqb x base) parts.0) (none_given base taken parts.1)

another_of : (base : ℕ) (o : Option Member) → has_other_bases base o ≡ true → has_another_base base o ≡ true
another_of base None is = refl
another_of base (Some m) is = (and_parts (not (eqb m.puddle.base base)) (not (eqb m.puddle.old_base base)) is).0

-- this holds for the base that a puddle of a file gets
pub base_given : (t : Tables) (taken : List ℕ) (wanted base : ℕ) → IsBaseFor t taken wanted base → IsNoBase t taken base
base_given t taken wanted base (inl kept) =
    let parts = or_parts (list_any (λ other. eqb other wanted) taken) (not (all_below t.frames (λ frame. has_another_base wanted (t.puddles frame)))) kept.0 in
    subst (IsNoBase t taken) (sym kept.1) (record { given = parts.0; others = all_below-each t.frames (λ frame. has_another_base wanted (t.puddles frame)) (not_parts _ parts.1) })
base_given t taken wanted base (inr moved) =
    let parts = and_parts (list_all (λ other. not (eqb other base)) taken) (all_below t.frames (λ frame. has_other_bases base (t.puddles frame))) moved.1.free in
    record { given = none_given base taken parts.0; others = λ f below. another_of base (t.puddles f) (all_below-each t.frames (λ frame. has_other_bases base (t.puddles frame)) parts.1 f below) }

-- that base is legal, if the one in the file is
pub base_legal : (t : Tables) (taken : List ℕ) (wanted base : ℕ) → is_legal_base wanted ≡ true → IsBaseFor t taken wanted base → is_legal_base base ≡ true
base_legal t taken wanted base legal (inl kept) = ap is_legal_base kept.1 ∙ legal
base_legal t taken wanted base legal (inr moved) = moved.1.legal

given_more : (base x : ℕ) (taken : List ℕ) → list_any (λ other. eqb other base) (taken ++ x ∷ []) ≡ false → (list_any (λ other. eqb other base) taken ≡ false) × (eqb x base ≡ false)
given_more base x [] none = (refl, (or_parts (eqb x base) false none).0)
given_more base x (y ∷ taken) none =
    let parts = or_parts (eqb y base) (list_any (λ other. eqb other base) (taken ++ x ∷ [])) none in
    let later = given_more base x taken parts.1 in
    (ap₂ (λ (a b : Bool). a || b) parts.0 later.0, later.1)

no_base_under : (base frame : ℕ) (o : Option Member) → has_another_base base o ≡ true → under nat_cmp base (option_map (λ m. (m.puddle.base, frame)) o) ≡ None
no_base_under base frame None is = refl
no_base_under base frame (Some m) is =
    let apart = not_true (eqb m.puddle.base base) is in
    under_apart nat_cmp base (m.puddle.base, frame) (unsigned_tied base m.puddle.base ∙ ne_eqb base m.puddle.base (λ e. true≢false (sym (eq-eqb m.puddle.base base (sym e)) ∙ apart)))

-- ---- puddles in turn

-- the record of a puddle of the pool in a slot
abbrev pub member_for : (slot ordinal : ℕ) → Puddle → Member
member_for slot o d = record { pool = slot + 1; ordinal = o; puddle = d }

-- the tables with these puddles, each in its frame, with the ordinals from this one on
abbrev pub with_puddles_at : (slot ordinal : ℕ) → List (ℕ × Puddle) → Tables → Tables
with_puddles_at slot o [] t = t
with_puddles_at slot o (e ∷ at) t = with_puddles_at slot (o + 1) at (with_puddle_at e.0 (Some (member_for slot o e.1)) t)

-- the puddles under their ordinals, from this one on
abbrev pub counted : (ordinal : ℕ) → List (ℕ × Puddle) → List (ℕ × (ℕ × Puddle))
counted o [] = []
counted o (e ∷ at) = (o, e) ∷ counted (o + 1) at

pub listed-counted : (o : ℕ) (at : List (ℕ × Puddle)) → listed (counted o at) ≡ at
listed-counted o [] = refl
listed-counted o (e ∷ at) = ap (λ (es : List (ℕ × Puddle)). e ∷ es) (listed-counted (o + 1) at)

pub length-counted : (o : ℕ) (at : List (ℕ × Puddle)) → length (counted o at) ≡ length at
length-counted o [] = refl
length-counted o (e ∷ at) = ap suc (length-counted (o + 1) at)

-- The bases of a file: each is legal, and no two are the same.
pub record AreDistinctBases (all : List ℕ) : Type 0 where
  pub legal : (i : ℕ) → i < length all → is_legal_base (get_or all i 0) ≡ true
  pub apart : (i j : ℕ) → i < j → j < length all → get_or all i 0 ≡ get_or all j 0 → ⊥

abbrev no_puddle : Puddle
no_puddle = record { number = 0; base = 0; old_base = 0; frontier = 0; class = 0 }

-- this holds for the bases of a file's puddles
pub file_bases_distinct : (puddles : List Puddle) → are_file_bases puddles ≡ true → AreDistinctBases (map (λ d. d.base) puddles)
file_bases_distinct puddles is =
    let bases_of = map (λ (d : Puddle). d.base) puddles in
    let parts = and_parts (list_all (λ d. is_legal_base d.base) puddles) (are_distinct nat_cmp (under_base puddles) 0 (length puddles)) is in
    let keys = distinct_keys nat_cmp (under_base puddles) 0 (length puddles) parts.1 in
    let count : length bases_of ≡ length puddles = length-map puddles (λ (d : Puddle). d.base) in
    let base_at : (i : ℕ) → i < length puddles → get_or bases_of i 0 ≡ (get_or puddles i no_puddle).base = λ i below. get_or-map (λ (d : Puddle). d.base) puddles i no_puddle 0 below in
    let there : (i : ℕ) → i < length puddles → under_base puddles i ≡ Some ((get_or puddles i no_puddle).base, i) = λ i below. ap (option_map (λ (d : Puddle). (d.base, i))) (slice_get-get_or puddles i no_puddle below) in
    record {
      legal = λ i below. let within : i < length puddles = omega arith in
          ap is_legal_base (base_at i within) ∙ AllPass-from_list_all (λ (d : Puddle). is_legal_base d.base) puddles parts.0 i no_puddle within;
      apart = λ i j less below same.
          let second : j < length puddles = omega arith in
          let first : i < length puddles = omega arith in
          let bi = (get_or puddles i no_puddle).base in
          let bj = (get_or puddles j no_puddle).base in
          let one : bi ≡ bj = sym (base_at i first) ∙ same ∙ base_at j second in
          let none = keys.apart i j (omega arith) less (omega arith) (bi, i) (there i first) in
          none-some j (sym none ∙ ap (under nat_cmp bi) (there j second) ∙ under_tied nat_cmp bi (bj, j) (ap (nat_cmp bi) (sym one) ∙ tied_itself nat_cmp_total bi));
    }

-- This many puddles of a new pool are placed, for the first bases of a file: `done` are these puddles. No frame from
-- `frame` on has changed, and only bases in `taken` were added.
pub record IsPlacing (later : ℕ) (t : Tables) (slot : ℕ) (r : PoolRecord) (all : List ℕ) (ordinal frame : ℕ) (taken : List ℕ) (done : List (ℕ × (ℕ × Puddle))) (now : Tables) : Type 0 where
  pub sound : HasSoundTables later now
  pub used : now.pools slot ≡ Some r
  pub frames : now.frames ≡ t.frames
  pub above : (f : ℕ) → frame ≤ f → now.puddles f ≡ t.puddles f
  pub own : (base : ℕ) → IsNoBase t taken base → (f : ℕ) → f < t.frames → has_another_base base (now.puddles f) ≡ true
  pub old : (base : ℕ) → ((i : ℕ) → i < ordinal → get_or all i 0 ≡ base → ⊥) → (f : ℕ) → f < t.frames → under nat_cmp base (old_bases now slot f) ≡ None
  pub count : length done ≡ ordinal
  pub puddles : puddles_of now slot ≡ done
  pub pools : (hold : Reader) → pools_of hold now ≡ put name_cmp r.name (pool_of hold r done) (pools_of hold t)

old_base_apart : (slot o base frame : ℕ) (d : Puddle) → (d.old_base ≡ base → ⊥) → under nat_cmp base (option_map (λ p. (p.1.1.old_base, frame)) (member_of slot frame (Some (member_for slot o d)))) ≡ None
old_base_apart slot o base frame d apart =
    ap (λ x. under nat_cmp base (option_map (λ p. (p.1.1.old_base, frame)) x)) (cond-true (eqb (slot + 1) (slot + 1)) (Some (o, (frame, d))) None (eq-eqb (slot + 1) (slot + 1) refl))
    ∙ under_apart nat_cmp base (d.old_base, frame) (unsigned_tied base d.old_base ∙ ne_eqb base d.old_base (λ e. apart (sym e)))

-- what must hold for the puddle that is placed next, apart from its place
pub record IsPlacedNext (later : ℕ) (all : List ℕ) (ordinal : ℕ) (e : ℕ × Puddle) : Type 0 where
  pub wanted : e.1.old_base ≡ get_or all ordinal 0
  pub within : ordinal < length all
  pub few : ordinal < MAX_PUDDLES
  pub legal : is_legal_puddle later e.1 ≡ true

-- ---- one more

module _ (later : ℕ) (t : Tables) (slot : ℕ) (r : PoolRecord) (all : List ℕ) (distinct : AreDistinctBases all) (within : slot < POOL_RECORDS) where
  module _ (o frame : ℕ) (taken : List ℕ) (done : List (ℕ × (ℕ × Puddle))) (now : Tables) (h : IsPlacing later t slot r all o frame taken done now)
      (e : ℕ × Puddle) (free : first_free t.puddles frame (t.frames - frame) ≡ Some e.0) (base : IsNoBase t taken e.1.base) (next : IsPlacedNext later all o e) where
    abbrev m : Member
    m = member_for slot o e.1

    abbrev after : Tables
    after = with_puddle_at e.0 (Some m) now

    from_frame : frame ≤ e.0
    from_frame = (first_free_some t.puddles frame (t.frames - frame) e.0 free).low

    frame_below : e.0 < t.frames
    frame_below = let low = from_frame in let high = (first_free_some t.puddles frame (t.frames - frame) e.0 free).high in omega arith

    is_next : IsNextPuddle later now slot e.0 r m
    is_next = record {
      within = within;
      used = h.used;
      frame_below = let same = h.frames in omega (arith, frame_below);
      frame_free = h.above e.0 from_frame ∙ (first_free_some t.puddles frame (t.frames - frame) e.0 free).free;
      of = refl;
      last = sym (ap length h.puddles ∙ h.count);
      few = next.few;
      puddle = next.legal;
      new_base = λ f below. no_base_under e.1.base f (now.puddles f) (h.own e.1.base base f (let same = h.frames in omega arith));
      new_old_base = λ f below. h.old e.1.old_base (λ i before same. distinct.apart i o before next.within (same ∙ next.wanted)) f (let same = h.frames in omega arith);
    }

    then_bases : (b : ℕ) → IsNoBase t (taken ++ e.1.base ∷ []) b → (f : ℕ) → f < t.frames → has_another_base b (after.puddles f) ≡ true
    then_bases b none f below =
        let parts = given_more b e.1.base taken none.given in
        elim (cases_eq f e.0) [
          | inl here ↦ ap (has_another_base b) (cond-true (eqb f e.0) (Some m) (now.puddles f) (eq-eqb f e.0 here)) ∙ ap not parts.1
          | inr other ↦ ap (has_another_base b) (changed_elsewhere e.0 (Some m) now.puddles f other) ∙ h.own b (record { given = parts.0; others = none.others }) f below
        ]

    then_old_bases : (b : ℕ) → ((i : ℕ) → i < o + 1 → get_or all i 0 ≡ b → ⊥) → (f : ℕ) → f < t.frames → under nat_cmp b (old_bases after slot f) ≡ None
    then_old_bases b apart f below = elim (cases_eq f e.0) [
      | inl here ↦
          ap (λ x. under nat_cmp b (option_map (λ p. (p.1.1.old_base, f)) (member_of slot f x))) (cond-true (eqb f e.0) (Some m) (now.puddles f) (eq-eqb f e.0 here))
          ∙ old_base_apart slot o b f e.1 (λ same. apart o (omega arith) (sym next.wanted ∙ same))
      | inr other ↦
          ap (λ x. under nat_cmp b (option_map (λ p. (p.1.1.old_base, f)) (member_of slot f x))) (changed_elsewhere e.0 (Some m) now.puddles f other)
          ∙ h.old b (λ i before same. apart i (omega arith) same) f below
    ]

    longer : puddles_of now slot ++ (o, e) ∷ [] ≡ done ++ (o, e) ∷ []
    longer = ap (λ (ps : List (ℕ × (ℕ × Puddle))). ps ++ (o, e) ∷ []) h.puddles

    pub IsPlacing-more : IsPlacing later t slot r all (o + 1) (e.0 + 1) (taken ++ e.1.base ∷ []) (done ++ (o, e) ∷ []) after
    IsPlacing-more = record {
      sound = sound_more later later (omega arith) now slot e.0 r m h.sound is_next;
      used = h.used;
      frames = h.frames;
      above = λ f from. changed_elsewhere e.0 (Some m) now.puddles f (λ here. absurd (omega arith)) ∙ h.above f (let low = from_frame in omega arith);
      own = then_bases;
      old = then_old_bases;
      count = length_push done (o, e) ∙ ap (λ (n : ℕ). n + 1) h.count;
      puddles = puddles_of-more later later (omega arith) now slot e.0 r m h.sound is_next ∙ longer;
      pools = λ hold.
          pools_more later later (omega arith) now slot e.0 r m h.sound is_next hold
          ∙ ap₂ (λ (ps : List (ℕ × (ℕ × Puddle))) es. put name_cmp r.name (pool_of hold r ps) es) longer (h.pools hold)
          ∙ put-again name_cmp nat_list_cmp_total r.name (pool_of hold r done) (pool_of hold r (done ++ (o, e) ∷ [])) (pools_of hold t);
    }

  -- ---- all of them

  -- each of these puddles is legal, and its old base is its base in the file, with the ordinals from this one on
  pub record ArePlacedNext (ordinal : ℕ) (at : List (ℕ × Puddle)) : Type 0 where
    pub each : (i : ℕ) (e : ℕ × Puddle) → slice_get at i ≡ Some e → IsPlacedNext later all (ordinal + i) e

  -- All puddles are placed.
  pub record HasPlaced (done : List (ℕ × (ℕ × Puddle))) (now : Tables) : Type 0 where
    pub sound : HasSoundTables later now
    pub pools : (hold : Reader) → pools_of hold now ≡ put name_cmp r.name (pool_of hold r done) (pools_of hold t)

  pub first_next : (o : ℕ) (e : ℕ × Puddle) (at : List (ℕ × Puddle)) → ArePlacedNext o (e ∷ at) → IsPlacedNext later all o e
  first_next o e at next = let here : o + 0 ≡ o = omega arith in subst (λ (n : ℕ). IsPlacedNext later all n e) here (next.each 0 e refl)

  pub rest_next : (o : ℕ) (e : ℕ × Puddle) (at : List (ℕ × Puddle)) → ArePlacedNext o (e ∷ at) → ArePlacedNext (o + 1) at
  rest_next o e at next = record { each = λ i d there. let here : o + suc i ≡ o + 1 + i = omega arith in subst (λ (n : ℕ). IsPlacedNext later all n d) here (next.each (suc i) d there) }

  pub placed_in_turn : (wanted : List ℕ) (at : List (ℕ × Puddle)) (o frame : ℕ) (taken : List ℕ) (done : List (ℕ × (ℕ × Puddle))) (now : Tables)
      → IsPlacing later t slot r all o frame taken done now → ArePlacedFrom t frame taken wanted at → ArePlacedNext o at → HasPlaced (done ++ counted o at) (with_puddles_at slot o at now)
  placed_in_turn [] [] o frame taken done now h placed next =
      subst (λ (ps : List (ℕ × (ℕ × Puddle))). HasPlaced ps now) (sym (append-nil done)) (record { sound = h.sound; pools = h.pools })
  placed_in_turn [] (e ∷ at) o frame taken done now h placed next = absurd placed
  placed_in_turn (base ∷ wanted) [] o frame taken done now h placed next = absurd placed
  placed_in_turn (base ∷ wanted) (e ∷ at) o frame taken done now h placed next =
      let more = IsPlacing-more o frame taken done now h e placed.0 (base_given t taken base e.1.base placed.1) (first_next o e at next) in
      subst (λ (ps : List (ℕ × (ℕ × Puddle))). HasPlaced ps (with_puddles_at slot (o + 1) at (with_puddle_at e.0 (Some (member_for slot o e.1)) now)))
      (append_assoc done ((o, e) ∷ []) (counted (o + 1) at))
      (placed_in_turn wanted at (o + 1) (e.0 + 1) (taken ++ e.1.base ∷ []) (done ++ (o, e) ∷ []) (with_puddle_at e.0 (Some (member_for slot o e.1)) now) more placed.3 (rest_next o e at next))

-- ---- from the first one on

module _ (next later : ℕ) (more : next ≤ later) (t : Tables) (slot : ℕ) (r : PoolRecord) (all : List ℕ) (e : ℕ × Puddle) (sound : HasSoundTables next t)
    (is_made : IsPoolMade t slot e.0 r (member_for slot 0 e.1)) (is_added : IsAdded later t r (member_for slot 0 e.1)) (wanted : e.1.old_base ≡ get_or all 0 0) where
  abbrev first_member : Member
  first_member = member_for slot 0 e.1

  abbrev first_made : Tables
  first_made = made slot e.0 r first_member t

  first_bases : (b : ℕ) → IsNoBase t (e.1.base ∷ []) b → (f : ℕ) → f < t.frames → has_another_base b (first_made.puddles f) ≡ true
  first_bases b none f below = elim (cases_eq f e.0) [
    | inl here ↦ ap (has_another_base b) (cond-true (eqb f e.0) (Some first_member) (t.puddles f) (eq-eqb f e.0 here)) ∙ ap not (or_parts (eqb e.1.base b) false none.given).0
    | inr other ↦ ap (has_another_base b) (changed_elsewhere e.0 (Some first_member) t.puddles f other) ∙ none.others f below
  ]

  first_old_bases : (b : ℕ) → ((i : ℕ) → i < 1 → get_or all i 0 ≡ b → ⊥) → (f : ℕ) → f < t.frames → under nat_cmp b (old_bases first_made slot f) ≡ None
  first_old_bases b apart f below = elim (cases_eq f e.0) [
    | inl here ↦
        ap (λ x. under nat_cmp b (option_map (λ p. (p.1.1.old_base, f)) (member_of slot f x))) (cond-true (eqb f e.0) (Some first_member) (t.puddles f) (eq-eqb f e.0 here))
        ∙ old_base_apart slot 0 b f e.1 (λ same. apart 0 (omega arith) (sym wanted ∙ same))
    | inr other ↦
        ap (λ x. under nat_cmp b (option_map (λ p. (p.1.1.old_base, f)) (member_of slot f x))) (changed_elsewhere e.0 (Some first_member) t.puddles f other)
        ∙ ap (λ x. under nat_cmp b (option_map (λ p. (p.1.1.old_base, f)) x)) (not_of t slot e.0 r first_member is_made f (t.puddles f) (is_made.none f below))
  ]

  pub IsPlacing-first : IsPlacing later t slot r all 1 (e.0 + 1) (e.1.base ∷ []) ((0, e) ∷ []) first_made
  IsPlacing-first = record {
    sound = sound_made next later more t slot e.0 r first_member sound is_made is_added;
    used = changed_here slot (Some r) t.pools;
    frames = refl;
    above = λ f from. changed_elsewhere e.0 (Some first_member) t.puddles f (λ here. absurd (omega arith));
    own = first_bases;
    old = first_old_bases;
    count = refl;
    puddles = puddles_of-made t slot e.0 r first_member is_made;
    pools = pools_made t slot e.0 r first_member is_made;
  }

-- a new pool in a free slot, with a name that no pool has
pub record IsNewPool (later : ℕ) (t : Tables) (slot : ℕ) (r : PoolRecord) : Type 0 where
  pub slot_below : slot < POOL_RECORDS
  pub slot_free : t.pools slot ≡ None
  pub none : (f : ℕ) → f < t.frames → is_of_pool slot (t.puddles f) ≡ false
  pub new_name : first_from name_cmp r.name (named t) 0 POOL_RECORDS ≡ None
  pub legal : is_legal_pool later r ≡ true

-- the new pool is placed with all its puddles
pub all_placed : (next later : ℕ) → next ≤ later → (t : Tables) (slot : ℕ) (r : PoolRecord) (all : List ℕ) (distinct : AreDistinctBases all) (within : slot < POOL_RECORDS) → HasSoundTables next t → IsNewPool later t slot r
    → (wanted : List ℕ) (at : List (ℕ × Puddle)) → 1 ≤ length at → ArePlacedFrom t 0 [] wanted at → ArePlacedNext later t slot r all distinct within 0 at
    → HasPlaced later t slot r all distinct within (counted 0 at) (with_puddles_at slot 0 at (with_pool_at slot (Some r) t))
all_placed next later more t slot r all distinct within sound new wanted [] some placed each = absurd (omega arith)
all_placed next later more t slot r all distinct within sound new [] (e ∷ at) some placed each = absurd placed
all_placed next later more t slot r all distinct within sound new (base ∷ wanted) (e ∷ at) some placed each =
    let first = first_next later t slot r all distinct within 0 e at each in
    let frame = first_free_some t.puddles 0 (t.frames - 0) e.0 placed.0 in
    let frame_high = frame.high in
    let no_base = base_given t [] base e.1.base placed.1 in
    let is_made : IsPoolMade t slot e.0 r (member_for slot 0 e.1) = record {
      slot_below = new.slot_below;
      slot_free = new.slot_free;
      frame_below = omega arith;
      frame_free = frame.free;
      of = refl;
      none = new.none;
      new_name = new.new_name;
    } in
    let is_added : IsAdded later t r (member_for slot 0 e.1) = record {
      pool = new.legal;
      puddle = first.legal;
      first = refl;
      new_base = first_from_none nat_cmp e.1.base (bases t) 0 t.frames (λ f low high. no_base_under e.1.base f (t.puddles f) (no_base.others f (omega arith)));
    } in
    placed_in_turn later t slot r all distinct within wanted at 1 (e.0 + 1) (e.1.base ∷ []) ((0, e) ∷ []) (made slot e.0 r (member_for slot 0 e.1) t)
    (IsPlacing-first next later more t slot r all e sound is_made is_added first.wanted) placed.3 (rest_next later t slot r all distinct within 0 e at each)

-- ---- what holds for each puddle

-- its old base is the file's base at its ordinal, its own base is legal, and its frame is one of the device's
pub record IsPlacedAt (t : Tables) (wanted : List ℕ) (ordinal : ℕ) (e : ℕ × Puddle) : Type 0 where
  pub wanted_is : e.1.old_base ≡ get_or wanted ordinal 0
  pub within : ordinal < length wanted
  pub legal : is_legal_base e.1.base ≡ true
  pub frame : e.0 < t.frames

pub placed_each : (t : Tables) (wanted : List ℕ) (at : List (ℕ × Puddle)) (frame : ℕ) (taken : List ℕ) → ((i : ℕ) → i < length wanted → is_legal_base (get_or wanted i 0) ≡ true) → ArePlacedFrom t frame taken wanted at
    → (i : ℕ) (e : ℕ × Puddle) → slice_get at i ≡ Some e → IsPlacedAt t wanted i e
placed_each t [] [] frame taken legal placed i e there = absurd (none-some e there)
placed_each t [] (d ∷ at) frame taken legal placed i e there = absurd placed
placed_each t (base ∷ wanted) [] frame taken legal placed i e there = absurd placed
placed_each t (base ∷ wanted) (d ∷ at) frame taken legal placed zero e there =
    let free = first_free_some t.puddles frame (t.frames - frame) d.0 placed.0 in
    let low = free.low in let high = free.high in
    let below : d.0 < t.frames = omega arith in
    let first : 0 < length (base ∷ wanted) = omega arith in
    let here : IsPlacedAt t (base ∷ wanted) 0 d = record { wanted_is = placed.2; within = first; legal = base_legal t taken base d.1.base (legal 0 first) placed.1; frame = below } in
    subst (IsPlacedAt t (base ∷ wanted) 0) (same_Some d e there) here
placed_each t (base ∷ wanted) (d ∷ at) frame taken legal placed (suc i) e there =
    let later = placed_each t wanted at (d.0 + 1) (taken ++ d.1.base ∷ []) (λ j below. legal (suc j) (omega arith)) placed.3 i e there in
    let low = later.within in
    record { wanted_is = later.wanted_is; within = omega arith; legal = later.legal; frame = later.frame }
