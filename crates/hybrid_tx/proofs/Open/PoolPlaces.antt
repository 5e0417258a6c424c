-- A pool's puddles in sound tables: they lie as those of a scope do, whose places are those of the tables, and apart
-- from those of another pool.
use Rattle.std.proofs.Common.{◌≡◌, ◌≢◌, inl, inr, ℕ, ◌%◌, ◌≤◌, true, false, List, length, map, get_or, Option, Some, None, option_map, refl, sym, ap, ◌∙◌, arith}
use Rattle.std.specs.Prelude.{All, slice_get}
use Rattle.std.proofs.lemmas.Bool.{cases_Bool}
use Rattle.std.proofs.lemmas.Option.{none-some, same_Some, slice_get-map, slice_get-get_or}
use Rattle.pud_defs.specs.declared.space.TheConstants.{RANGE_BYTES}
use Rattle.pud_defs.specs.declared.records.TheConstants.{MAX_PUDDLES}
use Rattle.pud_defs.specs.declared.records.Puddle.{Puddle}
use Rattle.pud_defs.specs.Logging.Allowed.{puddle_word}
use Rattle.pud_defs.specs.Formats.Bases.{is_legal_base}
use Rattle.pud_defs.specs.RegistryTables.Puddles.{Member}
use Rattle.pud_defs.specs.RegistryTables.SoundTables.{HasSoundTables}
use Rattle.pud_defs.specs.PoolGraphs.Stored.{IsOnDevice}
use Rattle.pud_defs.specs.RegistryTables.Tables.{Tables, puddles_in_turn}
use Rattle.pud_defs.proofs.RegistryTables.PuddlesListed.{puddles_in_turn-on_device}
use Rattle.graph_laws.specs.Changes.{AreBases}
use Rattle.word_transaction.specs.Running.{HasPlaces}
use Rattle.hybrid_tx.specs.PoolScopes.{pool_place, pool_has_word, pool_scope, ArePlacedPuddles}
use Rattle.hybrid_tx.specs.Open.Masks.{IsPuddleOf, ArePuddlesOf}
use Rattle.hybrid_tx.proofs.PoolScope.{IsNamed, pool_may_name-named, pool_place-there, pool_has_word-each}
use Rattle.pud_defs.proofs.RegistryTables.PoolMembers.{IsMemberOf, HasMembers, members_in_turn, multiple_of_legal, legal_of_member, one_ordinal, one_frame, puddle_word_of_member}

-- a puddle at this place has this base
pub record HasBase (at : List (ℕ × Puddle)) (i base : ℕ) : Type 0 where
  pub puddle : ℕ × Puddle
  pub there : slice_get at i ≡ Some puddle
  pub is : puddle.1.base ≡ base

based : (at : List (ℕ × Puddle)) (i base : ℕ) (o : Option (ℕ × Puddle)) → slice_get at i ≡ o → option_map (λ (d : Puddle). d.base) (option_map (λ (e : ℕ × Puddle). e.1) o) ≡ Some base → HasBase at i base
based at i base None there is = absurd (none-some base is)
based at i base (Some e) there is = record { puddle = e; there = there; is = same_Some e.1.base base is }

pub base_of : (at : List (ℕ × Puddle)) (i base : ℕ) → slice_get (map (λ (d : Puddle). d.base) (map (λ (e : ℕ × Puddle). e.1) at)) i ≡ Some base → HasBase at i base
base_of at i base is =
    based at i base (slice_get at i) refl
    (ap (option_map (λ (d : Puddle). d.base)) (sym (slice_get-map (λ (e : ℕ × Puddle). e.1) at i)) ∙ sym (slice_get-map (λ (d : Puddle). d.base) (map (λ (e : ℕ × Puddle). e.1) at) i) ∙ is)

-- ---- puddles of a pool, whatever their places in it

-- a puddle of the pool is the one of the ordinal in its record
pub as_member : (t : Tables) (slot : ℕ) (e : ℕ × Puddle) (is : IsPuddleOf t slot e) → IsMemberOf t slot is.member.ordinal e
as_member t slot e is = record { below = is.below; member = is.member; used = is.used; pool = is.pool; ordinal_is = refl; puddle = is.puddle }

-- the puddle of an ordinal is one of the pool
pub as_puddle : (t : Tables) (slot o : ℕ) (e : ℕ × Puddle) → IsMemberOf t slot o e → IsPuddleOf t slot e
as_puddle t slot o e is = record { below = is.below; member = is.member; used = is.used; pool = is.pool; puddle = is.puddle }

-- the same holds in tables with the same records of their frames
pub ArePuddlesOf-same : (t u : Tables) (slot : ℕ) (at : List (ℕ × Puddle)) → t.frames ≡ u.frames → ((i : ℕ) (e : ℕ × Puddle) → slice_get at i ≡ Some e → u.puddles e.0 ≡ t.puddles e.0)
    → ArePuddlesOf t slot at → ArePuddlesOf u slot at
ArePuddlesOf-same t u slot at frames same are = record {
  few = are.few;
  each = λ i e there.
      let is = are.each i e there in
      let below = is.below in
      record { below = omega (arith, frames, below); member = is.member; used = same i e there ∙ is.used; pool = is.pool; puddle = is.puddle };
  apart = are.apart;
}

-- they lie in frames of the device
pub on_device_of_puddles : (t : Tables) (slot : ℕ) (at : List (ℕ × Puddle)) → ArePuddlesOf t slot at → IsOnDevice t.frames at
on_device_of_puddles t slot at are = record { few = are.few; frames = λ n d below. (are.each n (get_or at n d) (slice_get-get_or at n d below)).below }

module _ (next : ℕ) (t : Tables) (sound : HasSoundTables next t) (slot : ℕ) (at : List (ℕ × Puddle)) where
  -- puddles by their ordinals are puddles of the pool, in distinct frames
  pub puddles_of_members : HasMembers t slot at → length at ≤ MAX_PUDDLES → ArePuddlesOf t slot at
  puddles_of_members has few = record {
    few = few;
    each = λ i e there. as_puddle t slot i e (has.each i e there);
    apart = record { each = λ i j e d here there same. one_ordinal next t sound slot i j e d (has.each i e here) (has.each j d there) same };
  }

  module _ (are : ArePuddlesOf t slot at) where
    legal_of_puddle : (i : ℕ) (e : ℕ × Puddle) → slice_get at i ≡ Some e → is_legal_base e.1.base ≡ true
    legal_of_puddle i e there = let is = are.each i e there in legal_of_member next t sound slot is.member.ordinal e (as_member t slot e is)

    pub are_bases : AreBases (map (λ (d : Puddle). d.base) (map (λ (e : ℕ × Puddle). e.1) at))
    are_bases = record {
      multiples = λ i base is.
          let b = base_of at i base is in
          ap (λ (n : ℕ). n % RANGE_BYTES) (sym b.is) ∙ multiple_of_legal b.puddle.1.base (legal_of_puddle i b.puddle b.there);
      distinct = λ i j base is also.
          let b = base_of at i base is in
          let c = base_of at j base also in
          let first = are.each i b.puddle b.there in
          let second = are.each j c.puddle c.there in
          are.apart.each i j b.puddle c.puddle b.there c.there
          (one_frame next t sound slot first.member.ordinal second.member.ordinal b.puddle c.puddle (as_member t slot b.puddle first) (as_member t slot c.puddle second) (b.is ∙ sym c.is));
    }

    are_legal : All (λ (e : ℕ × Puddle). is_legal_base e.1.base ≡ true) at
    are_legal n d below = legal_of_puddle n (get_or at n d) (slice_get-get_or at n d below)

    -- so they lie as those of a scope do
    pub placed_of_puddles : ArePlacedPuddles t.frames at
    placed_of_puddles = record { below = (on_device_of_puddles t slot at are).frames; frames = are.apart; legal = are_legal; bases = are_bases }

    -- what the scope may name lies where the tables have it
    named_place : (address count : ℕ) → IsNamed at address count → puddle_word t address ≡ pool_place t.frames at address
    named_place address count named =
        let e = named.puddle in
        let is = are.each named.ordinal e named.there in
        let low = named.low in
        let high = named.high in
        let some = named.some in
        puddle_word_of_member next t sound slot is.member.ordinal e (as_member t slot e is) address low (omega arith)
        ∙ sym (pool_place-there t.frames at named.ordinal e address are_bases named.there low (omega arith))

    pub places_of_puddles : HasPlaces (pool_scope t.frames at) (puddle_word t)
    places_of_puddles = record { each = λ address count may. named_place address count (pool_may_name-named at address count may) }

-- in sound tables, the puddles of a pool in turn are puddles of it, in distinct frames
pub are_puddles_in_turn : (next : ℕ) (t : Tables) (slot : ℕ) → HasSoundTables next t → ArePuddlesOf t slot (puddles_in_turn t slot)
are_puddles_in_turn next t slot sound = puddles_of_members next t sound slot (puddles_in_turn t slot) (members_in_turn t slot) (puddles_in_turn-on_device t slot).few

-- so they are placed
pub placed_in_turn : (next : ℕ) (t : Tables) (slot : ℕ) → HasSoundTables next t → ArePlacedPuddles t.frames (puddles_in_turn t slot)
placed_in_turn next t slot sound = placed_of_puddles next t sound slot (puddles_in_turn t slot) (are_puddles_in_turn next t slot sound)

-- ---- two pools

same_member : (a b : Member) (o : Option Member) → o ≡ Some a → o ≡ Some b → a.pool ≡ b.pool
same_member a b o first second = ap (λ (m : Member). m.pool) (same_Some a b (sym first ∙ second))

-- each of these is a puddle of the pool of the slot
abbrev pub EachIsOf : Tables → (slot : ℕ) → List (ℕ × Puddle) → Type 0
EachIsOf t slot at = (i : ℕ) (e : ℕ × Puddle) → slice_get at i ≡ Some e → IsPuddleOf t slot e

-- this holds for the puddles of a pool in turn
pub each_in_turn : (t : Tables) (slot : ℕ) → EachIsOf t slot (puddles_in_turn t slot)
each_in_turn t slot i e there = as_puddle t slot i e ((members_in_turn t slot).each i e there)

-- no word of one pool's frames is a word of the other's frames
pub puddles_apart : (F : ℕ) (t : Tables) (slot other : ℕ) (at bt : List (ℕ × Puddle)) → EachIsOf t slot at → EachIsOf t other bt → slot ≢ other
    → (k : ℕ) → pool_has_word F at k ≡ true → pool_has_word F bt k ≡ false
puddles_apart F t slot other at bt are its apart k mine = elim (cases_Bool (pool_has_word F bt k)) [
  | inr beside ↦ beside
  | inl also ↦ absurd (
      let here = pool_has_word-each F at k mine in
      let there = pool_has_word-each F bt k also in
      let one = are here.ordinal here.puddle here.there in
      let two = its there.ordinal there.puddle there.there in
      let a = here.low in
      let b = here.high in
      let c = there.low in
      let d = there.high in
      let frame : here.puddle.0 ≡ there.puddle.0 = omega arith in
      let pool = same_member one.member two.member (t.puddles there.puddle.0) (ap t.puddles (sym frame) ∙ one.used) two.used in
      let x = one.pool in
      let y = two.pool in
      apart (omega (arith, pool, x, y)))
]
