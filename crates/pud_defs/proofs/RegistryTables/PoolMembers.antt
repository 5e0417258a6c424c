-- The puddles of a pool by their ordinals: the used record of each, and where an address in its range lies.
use Rattle.std.proofs.Common.{◌≡◌, inl, inr, ℕ, zero, suc, ◌+◌, ◌&&◌, ◌-◌, ◌/◌, ◌%◌, ◌<◌, ◌≤◌, true, false, leb, ltb, eqb, nat_cmp, cond, List, Option, Some, None, option_map, refl, sym, ap, subst, ◌∙◌, arith, eqb-true, eq-eqb}
use Rattle.std.specs.Prelude.{slice_get}
use Rattle.std.specs.Ordering.{eq_by_cmp}
use Rattle.std.specs.Option.{option_or}
use Rattle.std.specs.FinMap.Entries.{find}
use Rattle.std.proofs.lemmas.Bool.{cases_Bool, cases_eq, cond-true, cond-false, and_parts, and_from, and_left, and_right, leb-true, ltb-true, le-leb, lt-ltb}
use Rattle.std.proofs.lemmas.Cmp.{nat_cmp_total}
use Rattle.std.proofs.lemmas.Option.{none-some, same_Some, cond_some}
use Rattle.pud_defs.specs.declared.space.TheConstants.{RANGE_BYTES, WORD_BYTES}
use Rattle.pud_defs.specs.declared.records.TheConstants.{MAX_PUDDLES}
use Rattle.pud_defs.specs.declared.records.Puddle.{Puddle}
use Rattle.pud_defs.specs.Logging.Allowed.{puddle_word}
use Rattle.pud_defs.specs.Formats.Bases.{is_legal_base}
use Rattle.pud_defs.specs.Formats.Geometry.{is_legal_class, is_legal_frontier}
use Rattle.pud_defs.specs.Formats.Frames.{frame_at}
use Rattle.pud_defs.specs.RegistryTables.Keyed.{under}
use Rattle.pud_defs.specs.RegistryTables.Places.{word_in, place_in_puddle, first_some, located}
use Rattle.pud_defs.specs.RegistryTables.Puddles.{Member, is_legal_puddle}
use Rattle.pud_defs.specs.RegistryTables.SoundTables.{is_sound_puddle, is_legal_member, bases, HasSoundTables}
use Rattle.pud_defs.specs.RegistryTables.Tables.{Tables, member_of, members, puddles_of, found_then, in_turn, puddles_in_turn}
use Rattle.pud_defs.proofs.KeyedTables.Keyed.{find-keyed, first_from_some, alone_there, under_none}
use Rattle.pud_defs.proofs.RegistryTables.SoundChanged.{legal_puddle, distinct_bases}
use Rattle.pud_defs.proofs.RegistryTables.TypeLists.{same_test}

-- ---- members

-- By the used record of its frame, the puddle has this ordinal in the pool of the slot.
pub record IsMemberOf (t : Tables) (slot ordinal : ℕ) (e : ℕ × Puddle) : Type 0 where
  pub below : e.0 < t.frames
  pub member : Member
  pub used : t.puddles e.0 ≡ Some member
  pub pool : member.pool ≡ slot + 1
  pub ordinal_is : member.ordinal ≡ ordinal
  pub puddle : member.puddle ≡ e.1

-- each of these puddles has the ordinal of its place in the list
pub record HasMembers (t : Tables) (slot : ℕ) (at : List (ℕ × Puddle)) : Type 0 where
  pub each : (o : ℕ) (e : ℕ × Puddle) → slice_get at o ≡ Some e → IsMemberOf t slot o e

-- what is at a place of the list in turn is what the look-up gives for that place
module _ {A : Type 0} (at : ℕ → Option A) (x : A) where
  found_then_get : (from : ℕ) (o : Option A) (rest : List A) → at from ≡ o → ((i : ℕ) → slice_get rest i ≡ Some x → at (from + 1 + i) ≡ Some x) → (i : ℕ) → slice_get (found_then o rest) i ≡ Some x → at (from + i) ≡ Some x
  found_then_get from None rest here later i is = absurd (none-some x is)
  found_then_get from (Some y) rest here later zero is = ap at (let it : from + 0 ≡ from = omega arith in it) ∙ here ∙ is
  found_then_get from (Some y) rest here later (suc i) is = ap at (let it : from + suc i ≡ from + 1 + i = omega arith in it) ∙ later i is

  in_turn_get : (from count i : ℕ) → slice_get (in_turn at from count) i ≡ Some x → at (from + i) ≡ Some x
  unfolding in_turn
  in_turn_get from zero i is = absurd (none-some x is)
  in_turn_get from (suc count) i is = found_then_get from (at from) (in_turn at (from + 1) count) refl (λ j there. in_turn_get (from + 1) count j there) i is

member_by : (t : Tables) (slot ordinal frame : ℕ) (o : Option Member) (x : ℕ × Puddle) → frame < t.frames → t.puddles frame ≡ o → under {X = ℕ × Puddle} nat_cmp ordinal (member_of slot frame o) ≡ Some x → IsMemberOf t slot ordinal x
member_by t slot ordinal frame None x below used is = absurd (none-some x is)
member_by t slot ordinal frame (Some m) x below used is = elim (cases_Bool (eqb m.pool (slot + 1))) [
  | inr other ↦ absurd (none-some x (sym (ap (under {X = ℕ × Puddle} nat_cmp ordinal) (cond-false (eqb m.pool (slot + 1)) (Some (m.ordinal, (frame, m.puddle))) None other)) ∙ is))
  | inl of ↦
      let it : cond (eq_by_cmp nat_cmp ordinal m.ordinal) (Some (frame, m.puddle)) None ≡ Some x =
      sym (ap (under {X = ℕ × Puddle} nat_cmp ordinal) (cond-true (eqb m.pool (slot + 1)) (Some (m.ordinal, (frame, m.puddle))) None of)) ∙ is in
      let parts = cond_some (eq_by_cmp nat_cmp ordinal m.ordinal) (frame, m.puddle) x it in
      subst (λ (y : ℕ × Puddle). IsMemberOf t slot ordinal y) parts.1
      (record {
        below = below;
        member = m;
        used = used;
        pool = eqb-true m.pool (slot + 1) of;
        ordinal_is = sym (eqb-true ordinal m.ordinal (sym (same_test ordinal m.ordinal) ∙ parts.0));
        puddle = refl;
      })
]

found_member : (t : Tables) (slot ordinal : ℕ) (x : ℕ × Puddle) → find nat_cmp ordinal (puddles_of t slot) ≡ Some x → IsMemberOf t slot ordinal x
unfolding puddles_of
found_member t slot ordinal x found =
    let first = first_from_some nat_cmp ordinal (members t slot) 0 t.frames x (sym (find-keyed nat_cmp nat_cmp_total ordinal (members t slot) 0 t.frames) ∙ found) in
    let high = first.1.high in
    member_by t slot ordinal first.0 (t.puddles first.0) x (omega arith) refl first.1.here

-- this holds for the puddles of a pool in turn
pub members_in_turn : (t : Tables) (slot : ℕ) → HasMembers t slot (puddles_in_turn t slot)
members_in_turn t slot = record {
  each = λ o e there. found_member t slot o e
      (ap (λ (n : ℕ). find nat_cmp n (puddles_of t slot)) (let it : o ≡ 0 + o = omega arith in it) ∙ in_turn_get (λ ordinal. find nat_cmp ordinal (puddles_of t slot)) e 0 MAX_PUDDLES o there);
}

-- it also holds in other tables with as many frames and the same records of the puddles' frames
pub HasMembers-same : (t u : Tables) (slot : ℕ) (at : List (ℕ × Puddle)) → t.frames ≡ u.frames → ((o : ℕ) (e : ℕ × Puddle) → slice_get at o ≡ Some e → u.puddles e.0 ≡ t.puddles e.0) → HasMembers t slot at → HasMembers u slot at
HasMembers-same t u slot at frames same has = record {
  each = λ o e there.
      let is = has.each o e there in
      let below = is.below in
      record { below = omega (arith, frames, below); member = is.member; used = same o e there ∙ is.used; pool = is.pool; ordinal_is = is.ordinal_is; puddle = is.puddle };
}

-- ---- in sound tables

-- an address outside a range is no word of it
outside_range : (base address : ℕ) → (base ≤ address → address < base + RANGE_BYTES → ⊥) → word_in base address ≡ None
outside_range base address never = elim (cases_Bool (leb base address)) [
  | inr above ↦ cond-false _ _ _ (and_left (leb base address) _ above)
  | inl below ↦ elim (cases_Bool (ltb address (base + RANGE_BYTES))) [
    | inr following ↦ cond-false _ _ _ (and_right (leb base address) _ following)
    | inl within ↦ absurd (never (leb-true _ _ below) (ltb-true _ _ within))
  ]
]

-- if only one place gives something, this is what is found
first_some-one : {A : Type 0} (at : ℕ → Option A) (from count k : ℕ) (x : A) → from ≤ k → k < from + count → at k ≡ Some x → ((j : ℕ) → from ≤ j → j < from + count → (j ≡ k → ⊥) → at j ≡ None) → first_some at from count ≡ Some x
unfolding first_some
first_some-one at from zero k x low high here others = absurd (omega arith)
first_some-one at from (suc count) k x low high here others = elim (cases_eq k from) [
  | inl first ↦ ap (λ o. option_or o (first_some at (from + 1) count)) (ap at (sym first) ∙ here)
  | inr later ↦
      ap (λ o. option_or o (first_some at (from + 1) count)) (others from (omega arith) (omega arith) (λ same. later (sym same)))
      ∙ first_some-one at (from + 1) count k x (omega arith) (omega arith) here (λ j l h apart. others j (omega arith) (omega arith) apart)
]

-- the base of a legal record's puddle is legal
legal_by_member : (next : ℕ) (t : Tables) (m : Member) → is_legal_member next t m ≡ true → is_legal_base m.puddle.base ≡ true
legal_by_member next t m legal =
    let puddle = (and_parts _ (is_legal_puddle next m.puddle) legal).1 in
    (and_parts _ (is_legal_base m.puddle.base) (and_parts _ _ (and_parts _ _ puddle).0).0).1

-- Its class is one that a device may have.
class_by_member : (next : ℕ) (t : Tables) (m : Member) → is_legal_member next t m ≡ true → is_legal_class m.puddle ≡ true
class_by_member next t m legal =
    let puddle = (and_parts _ (is_legal_puddle next m.puddle) legal).1 in
    (and_parts (is_legal_class m.puddle) (is_legal_frontier m.puddle) (and_parts _ (is_legal_class m.puddle && is_legal_frontier m.puddle) puddle).1).0

pub multiple_of_legal : (base : ℕ) → is_legal_base base ≡ true → base % RANGE_BYTES ≡ 0
multiple_of_legal base legal = eqb-true (base % RANGE_BYTES) 0 (and_parts _ (eqb (base % RANGE_BYTES) 0) legal).1

module _ (next : ℕ) (t : Tables) (sound : HasSoundTables next t) where
  legal_there : (frame : ℕ) (m : Member) → frame < t.frames → t.puddles frame ≡ Some m → is_legal_base m.puddle.base ≡ true
  legal_there frame m below used = legal_by_member next t m (sym (ap (is_sound_puddle next t) used) ∙ legal_puddle next t sound frame below)

  -- two frames have puddles with different bases
  pub bases_apart : (i j : ℕ) (a b : Member) → i < t.frames → j < t.frames → t.puddles i ≡ Some a → t.puddles j ≡ Some b → a.puddle.base ≡ b.puddle.base → i ≡ j
  bases_apart i j a b low high first second same = elim (cases_eq i j) [
    | inl here ↦ here
    | inr differ ↦ absurd (
        let keyed_first : bases t i ≡ Some (a.puddle.base, i) = ap (option_map (λ (m : Member). (m.puddle.base, i))) first in
        let keyed_second : bases t j ≡ Some (b.puddle.base, j) = ap (option_map (λ (m : Member). (m.puddle.base, j))) second in
        let none : under {X = ℕ} nat_cmp a.puddle.base (bases t j) ≡ None =
        alone_there nat_cmp nat_cmp_total (bases t) 0 t.frames i (a.puddle.base, i) (distinct_bases next t sound) (omega arith) (omega arith) keyed_first j (omega arith) (omega arith) (λ back. differ (sym back)) in
        let other : eq_by_cmp nat_cmp a.puddle.base b.puddle.base ≡ false = under_none nat_cmp a.puddle.base (b.puddle.base, j) (sym (ap (under {X = ℕ} nat_cmp a.puddle.base) keyed_second) ∙ none) in
        let it : true ≡ false = sym (eq-eqb a.puddle.base b.puddle.base same) ∙ sym (same_test a.puddle.base b.puddle.base) ∙ other in cc)
  ]

  module _ (slot : ℕ) where
    pub legal_of_member : (o : ℕ) (e : ℕ × Puddle) → IsMemberOf t slot o e → is_legal_base e.1.base ≡ true
    legal_of_member o e is = sym (ap (λ (d : Puddle). is_legal_base d.base) is.puddle) ∙ legal_there e.0 is.member is.below is.used

    pub class_of_member : (o : ℕ) (e : ℕ × Puddle) → IsMemberOf t slot o e → is_legal_class e.1 ≡ true
    class_of_member o e is =
        let m = is.member in
        let legal = class_by_member next t m (sym (ap (is_sound_puddle next t) is.used) ∙ legal_puddle next t sound e.0 is.below) in
        sym (ap is_legal_class is.puddle) ∙ legal

    -- a frame has only one ordinal
    pub one_ordinal : (i j : ℕ) (e d : ℕ × Puddle) → IsMemberOf t slot i e → IsMemberOf t slot j d → e.0 ≡ d.0 → i ≡ j
    one_ordinal i j e d first second same =
        let alike : first.member ≡ second.member = same_Some first.member second.member (sym first.used ∙ ap t.puddles same ∙ second.used) in
        sym first.ordinal_is ∙ ap (λ (m : Member). m.ordinal) alike ∙ second.ordinal_is

    -- and a base has only one frame
    pub one_frame : (i j : ℕ) (e d : ℕ × Puddle) → IsMemberOf t slot i e → IsMemberOf t slot j d → e.1.base ≡ d.1.base → e.0 ≡ d.0
    one_frame i j e d first second same =
        bases_apart e.0 d.0 first.member second.member first.below second.below first.used second.used
        (ap (λ (x : Puddle). x.base) first.puddle ∙ same ∙ sym (ap (λ (x : Puddle). x.base) second.puddle))

    -- ---- where an address in a member's range lies

    module _ (o : ℕ) (e : ℕ × Puddle) (is : IsMemberOf t slot o e) (address : ℕ) (low : e.1.base ≤ address) (high : address < e.1.base + RANGE_BYTES) where
      base_here : is.member.puddle.base ≡ e.1.base
      base_here = ap (λ (d : Puddle). d.base) is.puddle

      placed_here : place_in_puddle address e.0 (t.puddles e.0) ≡ Some (e.0, (address - e.1.base) / WORD_BYTES)
      placed_here =
          ap (place_in_puddle address e.0) is.used
          ∙ ap (λ (b : ℕ). option_map (λ (word : ℕ). (e.0, word)) (word_in b address)) base_here
          ∙ ap (option_map (λ (word : ℕ). (e.0, word))) (cond-true _ _ _ (and_from _ _ (le-leb e.1.base address low) (lt-ltb address (e.1.base + RANGE_BYTES) high)))

      placed_elsewhere : (frame : ℕ) (m : Option Member) → frame < t.frames → t.puddles frame ≡ m → (frame ≡ e.0 → ⊥) → place_in_puddle address frame m ≡ None
      placed_elsewhere frame None below used apart = refl
      placed_elsewhere frame (Some m) below used apart =
          let mine : e.1.base % RANGE_BYTES ≡ 0 = multiple_of_legal e.1.base (legal_of_member o e is) in
          let its : m.puddle.base % RANGE_BYTES ≡ 0 = multiple_of_legal m.puddle.base (legal_there frame m below used) in
          ap (option_map (λ (word : ℕ). (frame, word))) (outside_range m.puddle.base address (λ from end.
          let same : m.puddle.base ≡ e.1.base = omega arith in
          absurd (apart (bases_apart frame e.0 m is.member below is.below used is.used (same ∙ sym base_here)))))

      pub located_of_member : located t address ≡ Some (e.0, (address - e.1.base) / WORD_BYTES)
      located_of_member =
          let below = is.below in
          first_some-one (λ frame. place_in_puddle address frame (t.puddles frame)) 0 t.frames e.0 (e.0, (address - e.1.base) / WORD_BYTES) (omega arith) (omega arith) placed_here
          (λ frame from end apart. placed_elsewhere frame (t.puddles frame) (omega arith) refl apart)

      pub puddle_word_of_member : puddle_word t address ≡ Some (frame_at t.frames e.0 + (address - e.1.base) / WORD_BYTES)
      unfolding puddle_word
      puddle_word_of_member = ap (option_map (λ (at : ℕ × ℕ). frame_at t.frames at.0 + at.1)) located_of_member
