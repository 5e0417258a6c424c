-- Puddles that are added to a new pool in turn, wherever they stand: the first comes with the pool's record, each other
-- one after it, and the tables stay sound.
use Rattle.std.proofs.Common.{◌≡◌, inl, inr, ℕ, suc, ◌+◌, ◌<◌, ◌≤◌, true, not, eqb, List, [], ◌∷◌, ◌++◌, map, length, Option, Some, None, nat_cmp, option_map, refl, sym, ap, ap₂, ◌∙◌, subst, arith, ne_eqb, eq-eqb, true≢false, append_assoc, append-nil}
use Rattle.std.specs.Prelude.{slice_get}
use Rattle.std.specs.FinMap.Entries.{put}
use Rattle.std.specs.Cmp.{unsigned_tied}
use Rattle.std.specs.Cmp.Lexicographic.{nat_list_cmp_total}
use Rattle.std.proofs.lemmas.Bool.{cases_eq, cond-true}
use Rattle.std.proofs.lemmas.List.{length_push}
use Rattle.std.proofs.lemmas.Option.{slice_get_within}
use Rattle.pud_defs.specs.declared.records.TheConstants.{POOL_RECORDS, MAX_PUDDLES}
use Rattle.pud_defs.specs.declared.records.PoolRecord.{PoolRecord}
use Rattle.pud_defs.specs.declared.records.Puddle.{Puddle}
use Rattle.pud_defs.specs.Formats.Names.{name_cmp}
use Rattle.pud_defs.specs.RegistryTables.Keyed.{under}
use Rattle.pud_defs.specs.RegistryTables.Placement.{has_another_base}
use Rattle.pud_defs.specs.RegistryTables.Puddles.{Member, is_legal_puddle}
use Rattle.pud_defs.specs.RegistryTables.Puts.{member_by, with_pool_at, with_puddle_at}
use Rattle.pud_defs.specs.RegistryTables.SoundTables.{bases, old_bases, HasSoundTables}
use Rattle.pud_defs.specs.RegistryTables.Tables.{Tables, Reader, member_of, listed, classes_of, puddles_of, pool_of, pools_of}
use Rattle.pud_defs.proofs.KeyedTables.Keyed.{under_apart, first_from_none}
use Rattle.pud_defs.proofs.RegistryTables.PoolsChanged.{IsPoolMade, made, changed_here, changed_elsewhere, not_of, pools_made, puddles_of-made}
use Rattle.pud_defs.proofs.RegistryTables.PuddleMore.{IsNextPuddle, puddles_of-more, sound_more, pools_more}
use Rattle.pud_defs.proofs.RegistryTables.PuddlesPlaced.{put-again, IsNewPool}
use Rattle.pud_defs.proofs.RegistryTables.SoundChanged.{IsAdded, sound_made}
use Rattle.registry.specs.declared.adding.NewPuddle.{NewPuddle}
use Rattle.registry.specs.Placing.{added_classes, puddle_of_added, MayComeTo, ShareNothing}
use Rattle.registry.proofs.NewPuddles.{with_added}

-- ---- bases

-- a record under another key is not found
apart_under : (b base frame : ℕ) → (base ≡ b → ⊥) → under nat_cmp b (Some (base, frame)) ≡ None
apart_under b base frame apart = under_apart nat_cmp b (base, frame) (unsigned_tied b base ∙ ne_eqb b base (λ e. apart (sym e)))

no_base_under : (base frame : ℕ) (o : Option Member) → has_another_base base o ≡ true → under nat_cmp base (option_map (λ m. (m.puddle.base, frame)) o) ≡ None
no_base_under base frame None is = refl
no_base_under base frame (Some m) is = apart_under base m.puddle.base frame (λ e. true≢false (sym is ∙ ap not (eq-eqb m.puddle.base base e)))

-- ---- a puddle that is still to come

-- The puddle's frame is free, no puddle has its base, and no puddle of its pool has its old base.
record CanCome (now : Tables) (slot : ℕ) (a : NewPuddle) : Type 0 where
  frame : now.puddles a.frame ≡ None
  base : (f : ℕ) → f < now.frames → under nat_cmp a.puddle.base (bases now f) ≡ None
  old_base : (f : ℕ) → f < now.frames → under nat_cmp a.puddle.old_base (old_bases now slot f) ≡ None

-- this stays true after another puddle came with which it shares nothing
CanCome-after : (now : Tables) (slot : ℕ) (a b : NewPuddle) → a.puddle.pool ≡ slot → ShareNothing a b → CanCome now slot b → CanCome (with_puddle_at a.frame (Some (member_by a.puddle)) now) slot b
CanCome-after now slot a b of apart can =
    let m : Member = member_by a.puddle in
    record {
      frame = changed_elsewhere a.frame (Some m) now.puddles b.frame (λ e. apart.frame (sym e)) ∙ can.frame;
      base = λ f below. elim (cases_eq f a.frame) [
        | inl here ↦
            ap (λ o. under nat_cmp b.puddle.base (option_map (λ m. (m.puddle.base, f)) o)) (cond-true (eqb f a.frame) (Some m) (now.puddles f) (eq-eqb f a.frame here))
            ∙ apart_under b.puddle.base a.puddle.base f apart.base
        | inr other ↦ ap (λ o. under nat_cmp b.puddle.base (option_map (λ m. (m.puddle.base, f)) o)) (changed_elsewhere a.frame (Some m) now.puddles f other) ∙ can.base f below
      ];
      old_base = λ f below. elim (cases_eq f a.frame) [
        | inl here ↦
            ap (λ o. under nat_cmp b.puddle.old_base (option_map (λ p. (p.1.1.old_base, f)) (member_of slot f o))) (cond-true (eqb f a.frame) (Some m) (now.puddles f) (eq-eqb f a.frame here))
            ∙ ap (λ o. under nat_cmp b.puddle.old_base (option_map (λ p. (p.1.1.old_base, f)) o)) (cond-true (eqb m.pool (slot + 1)) (Some (m.ordinal, (f, m.puddle))) None (eq-eqb m.pool (slot + 1) (ap (λ n. n + 1) of)))
            ∙ apart_under b.puddle.old_base a.puddle.old_base f apart.old_base
        | inr other ↦ ap (λ o. under nat_cmp b.puddle.old_base (option_map (λ p. (p.1.1.old_base, f)) (member_of slot f o))) (changed_elsewhere a.frame (Some m) now.puddles f other) ∙ can.old_base f below
      ];
    }

-- ---- in turn

-- the puddle with its frame, under its ordinal
abbrev pub own_entry : NewPuddle → ℕ × (ℕ × Puddle)
own_entry a = (a.puddle.ordinal, puddle_of_added a)

pub listed-own : (puddles : List NewPuddle) → listed (map own_entry puddles) ≡ map puddle_of_added puddles
listed-own [] = refl
listed-own (a ∷ puddles) = ap (λ (at : List (ℕ × Puddle)). puddle_of_added a ∷ at) (listed-own puddles)

pub classes-own : (puddles : List NewPuddle) → classes_of (map own_entry puddles) ≡ added_classes puddles
classes-own [] = refl
classes-own (a ∷ puddles) = ap (λ (cs : List ℕ). a.puddle.class ∷ cs) (classes-own puddles)

module _ (later : ℕ) (t : Tables) (slot : ℕ) (r : PoolRecord) (within : slot < POOL_RECORDS) where
  -- All of these puddles stand in the tables.
  pub record AllStand (done : List (ℕ × (ℕ × Puddle))) (now : Tables) : Type 0 where
    pub sound : HasSoundTables later now
    pub pools : (hold : Reader) → pools_of hold now ≡ put name_cmp r.name (pool_of hold r done) (pools_of hold t)

  -- The first o puddles stand, and nothing else changed.
  record AreStanding (o : ℕ) (done : List (ℕ × (ℕ × Puddle))) (now : Tables) : Type 0 where
    placed : AllStand done now
    used : now.pools slot ≡ Some r
    frames : now.frames ≡ t.frames
    count : length done ≡ o
    puddles : puddles_of now slot ≡ done

  -- what the puddle of an ordinal has, apart from its place
  record IsOwn (o : ℕ) (a : NewPuddle) : Type 0 where
    frame : a.frame < t.frames
    slot_is : a.puddle.pool ≡ slot
    ordinal_is : a.puddle.ordinal ≡ o
    few : o < MAX_PUDDLES
    legal : is_legal_puddle later (member_by a.puddle).puddle ≡ true

  -- these puddles are still to come, from an ordinal on
  record AreToCome (now : Tables) (o : ℕ) (puddles : List NewPuddle) : Type 0 where
    own : (i : ℕ) (a : NewPuddle) → slice_get puddles i ≡ Some a → IsOwn (o + i) a
    can : (i : ℕ) (a : NewPuddle) → slice_get puddles i ≡ Some a → CanCome now slot a
    apart : (i j : ℕ) (a b : NewPuddle) → i < j → slice_get puddles i ≡ Some a → slice_get puddles j ≡ Some b → ShareNothing a b

  first_own : (now : Tables) (o : ℕ) (a : NewPuddle) (puddles : List NewPuddle) → AreToCome now o (a ∷ puddles) → IsOwn o a
  first_own now o a puddles h = let here : o + 0 ≡ o = omega arith in subst (λ (n : ℕ). IsOwn n a) here (h.own 0 a refl)

  rest_to_come : (now : Tables) (o : ℕ) (a : NewPuddle) (puddles : List NewPuddle) → AreToCome now o (a ∷ puddles) → AreToCome (with_puddle_at a.frame (Some (member_by a.puddle)) now) (o + 1) puddles
  rest_to_come now o a puddles h = record {
    own = λ i b there. let here : o + suc i ≡ o + 1 + i = omega arith in subst (λ (n : ℕ). IsOwn n b) here (h.own (suc i) b there);
    can = λ i b there. CanCome-after now slot a b (first_own now o a puddles h).slot_is (h.apart 0 (suc i) a b (omega arith) refl there) (h.can (suc i) b there);
    apart = λ i j b c less one other. h.apart (suc i) (suc j) b c (omega arith) one other;
  }

  module _ (o : ℕ) (done : List (ℕ × (ℕ × Puddle))) (now : Tables) (h : AreStanding o done now) (a : NewPuddle) (own : IsOwn o a) (can : CanCome now slot a) where
    abbrev m : Member
    m = member_by a.puddle

    abbrev after : Tables
    after = with_puddle_at a.frame (Some m) now

    is_next : IsNextPuddle later now slot a.frame r m
    is_next = record {
      within = within;
      used = h.used;
      frame_below = let same = h.frames in let below = own.frame in omega arith;
      frame_free = can.frame;
      of = ap (λ n. n + 1) own.slot_is;
      last = own.ordinal_is ∙ sym (ap length h.puddles ∙ h.count);
      few = let few = own.few in let is = own.ordinal_is in omega arith;
      puddle = own.legal;
      new_base = can.base;
      new_old_base = can.old_base;
    }

    longer : puddles_of now slot ++ own_entry a ∷ [] ≡ done ++ own_entry a ∷ []
    longer = ap (λ (ps : List (ℕ × (ℕ × Puddle))). ps ++ own_entry a ∷ []) h.puddles

    AreStanding-more : AreStanding (o + 1) (done ++ own_entry a ∷ []) after
    AreStanding-more = record {
      placed = record {
        sound = sound_more later later (omega arith) now slot a.frame r m h.placed.sound is_next;
        pools = λ hold.
            pools_more later later (omega arith) now slot a.frame r m h.placed.sound is_next hold
            ∙ ap₂ (λ (ps : List (ℕ × (ℕ × Puddle))) es. put name_cmp r.name (pool_of hold r ps) es) longer (h.placed.pools hold)
            ∙ put-again name_cmp nat_list_cmp_total r.name (pool_of hold r done) (pool_of hold r (done ++ own_entry a ∷ [])) (pools_of hold t);
      };
      used = h.used;
      frames = h.frames;
      count = length_push done (own_entry a) ∙ ap (λ (n : ℕ). n + 1) h.count;
      puddles = puddles_of-more later later (omega arith) now slot a.frame r m h.placed.sound is_next ∙ longer;
    }

  standing_in_turn : (puddles : List NewPuddle) (o : ℕ) (done : List (ℕ × (ℕ × Puddle))) (now : Tables) → AreStanding o done now → AreToCome now o puddles → AllStand (done ++ map own_entry puddles) (with_added puddles now)
  standing_in_turn [] o done now h come = subst (λ (ps : List (ℕ × (ℕ × Puddle))). AllStand ps now) (sym (append-nil done)) h.placed
  standing_in_turn (a ∷ puddles) o done now h come =
      let following = with_puddle_at a.frame (Some (member_by a.puddle)) now in
      subst (λ (ps : List (ℕ × (ℕ × Puddle))). AllStand ps (with_added puddles following)) (append_assoc done (own_entry a ∷ []) (map own_entry puddles))
      (standing_in_turn puddles (o + 1) (done ++ own_entry a ∷ []) following (AreStanding-more o done now h a (first_own now o a puddles come) (come.can 0 a refl)) (rest_to_come now o a puddles come))

-- ---- from the first one on

-- The pool stands with all of its puddles.
pub all_standing : (next later : ℕ) → next ≤ later → (t : Tables) (slot : ℕ) (r : PoolRecord) (within : slot < POOL_RECORDS) → HasSoundTables next t → IsNewPool later t slot r
    → (number : ℕ) (puddles : List NewPuddle) → 1 ≤ length puddles → length puddles ≤ MAX_PUDDLES
    → ((o : ℕ) (a : NewPuddle) → slice_get puddles o ≡ Some a → MayComeTo t slot o (number + o) later a)
    → ((i o : ℕ) (a b : NewPuddle) → i < o → slice_get puddles i ≡ Some a → slice_get puddles o ≡ Some b → ShareNothing a b)
    → AllStand later t slot r within (map own_entry puddles) (with_added puddles (with_pool_at slot (Some r) t))
all_standing next later more t slot r within sound new number [] some few each apart = absurd (omega arith)
all_standing next later more t slot r within sound new number (a ∷ puddles) some few each apart =
    let start = with_pool_at slot (Some r) t in
    let m = member_by a.puddle in
    let one = each 0 a refl in
    let is_made : IsPoolMade t slot a.frame r m = record {
      slot_below = new.slot_below;
      slot_free = new.slot_free;
      frame_below = one.frame;
      frame_free = one.free;
      of = ap (λ n. n + 1) one.slot_is;
      none = new.none;
      new_name = new.new_name;
    } in
    let is_added : IsAdded later t r m = record {
      pool = new.legal;
      puddle = one.legal;
      first = one.ordinal_is;
      new_base = first_from_none nat_cmp a.puddle.base (bases t) 0 t.frames (λ f low high. no_base_under a.puddle.base f (t.puddles f) (one.base f (omega arith)));
    } in
    let come : AreToCome later t slot r within start 0 (a ∷ puddles) = record {
      own = λ i b there.
          let its = each i b there in
          let below = slice_get_within (a ∷ puddles) i b there in
          let here : i ≡ 0 + i = omega arith in
          subst (λ (n : ℕ). IsOwn later t slot r within n b) here (record { frame = its.frame; slot_is = its.slot_is; ordinal_is = its.ordinal_is; few = omega arith; legal = its.legal });
      can = λ i b there.
          let its = each i b there in
          record {
            frame = its.free;
            base = λ f below. no_base_under b.puddle.base f (t.puddles f) (its.base f below);
            old_base = λ f below. ap (λ o. under nat_cmp b.puddle.old_base (option_map (λ p. (p.1.1.old_base, f)) o)) (not_of t slot a.frame r m is_made f (t.puddles f) (new.none f below));
          };
      apart = apart;
    } in
    standing_in_turn later t slot r within puddles 1 (own_entry a ∷ []) (made slot a.frame r m t)
    (record {
      placed = record { sound = sound_made next later more t slot a.frame r m sound is_made is_added; pools = pools_made t slot a.frame r m is_made };
      used = changed_here slot (Some r) t.pools;
      frames = refl;
      count = refl;
      puddles = puddles_of-made t slot a.frame r m is_made;
    })
    (rest_to_come later t slot r within start 0 a puddles come)
