-- The puddles of several pools in sound tables: they lie as those of one scope do, whose places are those of the tables.
use Rattle.std.proofs.Common.{◌≡◌, ◌≢◌, ◌⊎◌, inl, inr, ℕ, zero, suc, ◌%◌, true, List, [], ◌∷◌, ◌++◌, get_or, Some, refl, sym, ap, subst, ◌∙◌, arith}
use Rattle.std.specs.Prelude.{slice_get}
use Rattle.std.proofs.lemmas.Option.{none-some, same_Some, slice_get-get_or}
use Rattle.pud_defs.specs.declared.space.TheConstants.{RANGE_BYTES}
use Rattle.pud_defs.specs.declared.records.Puddle.{Puddle}
use Rattle.pud_defs.specs.Logging.Allowed.{puddle_word}
use Rattle.pud_defs.specs.Formats.Bases.{is_legal_base}
use Rattle.pud_defs.specs.RegistryTables.Puddles.{Member}
use Rattle.pud_defs.specs.RegistryTables.SoundTables.{HasSoundTables}
use Rattle.pud_defs.specs.RegistryTables.Tables.{Tables}
use Rattle.graph_laws.specs.Changes.{AreBases}
use Rattle.graph_laws.specs.Reads.{HasDistinctFrames}
use Rattle.word_transaction.specs.Running.{HasPlaces}
use Rattle.hybrid_tx.specs.PoolScopes.{pool_place, pool_scope, ArePlacedPuddles}
use Rattle.hybrid_tx.specs.Open.Masks.{IsPuddleOf, ArePuddlesOf}
use Rattle.hybrid_tx.proofs.PoolScope.{bases_of, IsNamed, pool_may_name-named, pool_place-there}
use Rattle.hybrid_tx.proofs.Open.PoolPlaces.{base_of, as_member}
use Rattle.pud_defs.proofs.RegistryTables.PoolMembers.{bases_apart, multiple_of_legal, legal_of_member, puddle_word_of_member}

-- ---- two lists, one after the other

module _ {X : Type 0} (same : X → X → Type 0) where
  -- elements that are the same in this sense stand at one place
  abbrev IsOnce : List X → Type 0
  IsOnce xs = (i j : ℕ) (x y : X) → slice_get xs i ≡ Some x → slice_get xs j ≡ Some y → same x y → i ≡ j

  -- the two are not the same in this sense, in either order
  abbrev AreApart : X → X → Type 0
  AreApart x y = (same x y → ⊥) × (same y x → ⊥)

  found_after : (xs ys : List X) (i : ℕ) (x : X) → slice_get (xs ++ ys) i ≡ Some x → ((j : ℕ) × (slice_get xs j ≡ Some x)) ⊎ ((j : ℕ) × (slice_get ys j ≡ Some x))
  found_after [] ys i x there = inr (i, there)
  found_after (y ∷ xs) ys zero x there = inl (0, there)
  found_after (y ∷ xs) ys (suc i) x there = elim (found_after xs ys i x there) [ inl at ↦ inl (suc at.0, at.1) | inr at ↦ inr at ]

  once_first : (z : X) (zs : List X) → ((i : ℕ) (x : X) → slice_get zs i ≡ Some x → AreApart z x) → IsOnce zs → IsOnce (z ∷ zs)
  once_first z zs apart once zero zero x y there here is = refl
  once_first z zs apart once zero (suc j) x y there here is = absurd ((apart j y here).0 (subst (λ (w : X). same w y) (sym (same_Some z x there)) is))
  once_first z zs apart once (suc i) zero x y there here is = absurd ((apart i x there).1 (subst (λ (w : X). same x w) (sym (same_Some z y here)) is))
  once_first z zs apart once (suc i) (suc j) x y there here is = ap suc (once i j x y there here is)

  once_append : (xs ys : List X) → IsOnce xs → IsOnce ys → ((i j : ℕ) (x y : X) → slice_get xs i ≡ Some x → slice_get ys j ≡ Some y → AreApart x y) → IsOnce (xs ++ ys)
  once_append [] ys one two apart = two
  once_append (z ∷ xs) ys one two apart =
      let tail : IsOnce xs = λ i j x y there here is. let it : suc i ≡ suc j = one (suc i) (suc j) x y there here is in omega arith in
      once_first z (xs ++ ys)
      (λ i x there. elim (found_after xs ys i x there) [
        | inl at ↦ (
          (λ is. absurd (let it : 0 ≡ suc at.0 = one 0 (suc at.0) z x refl at.1 is in omega arith)),
          (λ is. absurd (let it : suc at.0 ≡ 0 = one (suc at.0) 0 x z at.1 refl is in omega arith)),
        )
        | inr at ↦ apart 0 at.0 z x refl at.1
      ])
      (once_append xs ys tail two (λ i j x y there here. apart (suc i) j x y there here))

-- ---- puddles of several pools

-- the puddles of the pool in a slot
pub record PoolPuddles : Type 0 where
  pub slot : ℕ
  pub puddles : List (ℕ × Puddle)

-- all of them, one pool after the other
abbrev pub all_puddles : List PoolPuddles → List (ℕ × Puddle)
all_puddles [] = []
all_puddles (p ∷ pools) = p.puddles ++ all_puddles pools

-- In each slot's list there are puddles of its pool, and no two lists are of one slot.
pub record AreOfPools (t : Tables) (pools : List PoolPuddles) : Type 0 where
  pub each : (i : ℕ) (p : PoolPuddles) → slice_get pools i ≡ Some p → ArePuddlesOf t p.slot p.puddles
  pub slots : (i j : ℕ) (p q : PoolPuddles) → slice_get pools i ≡ Some p → slice_get pools j ≡ Some q → p.slot ≡ q.slot → i ≡ j

-- the puddle is one of one of these pools
pub record IsPuddleAmong (t : Tables) (pools : List PoolPuddles) (e : ℕ × Puddle) : Type 0 where
  pub index : ℕ
  pub pool : PoolPuddles
  pub there : slice_get pools index ≡ Some pool
  pub is : IsPuddleOf t pool.slot e

-- the others are, too
others : (t : Tables) (p : PoolPuddles) (pools : List PoolPuddles) → AreOfPools t (p ∷ pools) → AreOfPools t pools
others t p pools are = record {
  each = λ i q there. are.each (suc i) q there;
  slots = λ i j q r there here same. let it : suc i ≡ suc j = are.slots (suc i) (suc j) q r there here same in omega arith;
}

-- each puddle in the joined list is one of one of the pools
pub each_among : (t : Tables) (pools : List PoolPuddles) → AreOfPools t pools → (i : ℕ) (e : ℕ × Puddle) → slice_get (all_puddles pools) i ≡ Some e → IsPuddleAmong t pools e
each_among t [] are i e there = absurd (none-some e there)
each_among t (p ∷ pools) are i e there = elim (found_after (λ (x y : ℕ × Puddle). x.0 ≡ y.0) p.puddles (all_puddles pools) i e there) [
  | inl at ↦ record { index = 0; pool = p; there = refl; is = (are.each 0 p refl).each at.0 e at.1 }
  | inr at ↦
      let later = each_among t pools (others t p pools are) at.0 e at.1 in
      record { index = suc later.index; pool = later.pool; there = later.there; is = later.is }
]

-- no frame has puddles of two pools
two_frames : (t : Tables) (slot other : ℕ) (e d : ℕ × Puddle) → IsPuddleOf t slot e → IsPuddleOf t other d → slot ≢ other → e.0 ≡ d.0 → ⊥
two_frames t slot other e d one two apart same =
    let alike : one.member ≡ two.member = same_Some one.member two.member (sym one.used ∙ ap t.puddles same ∙ two.used) in
    let pool = ap (λ (m : Member). m.pool) alike in
    let a = one.pool in
    let b = two.pool in
    apart (omega (arith, pool, a, b))

pub distinct_frames : (t : Tables) (pools : List PoolPuddles) → AreOfPools t pools → HasDistinctFrames (all_puddles pools)
distinct_frames t [] are = record { each = λ i j e d there. absurd (none-some e there) }
distinct_frames t (p ∷ pools) are =
    let rest = others t p pools are in
    record {
      each = once_append (λ (x y : ℕ × Puddle). x.0 ≡ y.0) p.puddles (all_puddles pools) (are.each 0 p refl).apart.each (distinct_frames t pools rest).each
          (λ i j e d there here.
          let one = (are.each 0 p refl).each i e there in
          let two = each_among t pools rest j d here in
          let apart : p.slot ≢ two.pool.slot = λ same. absurd (let it : 0 ≡ suc two.index = are.slots 0 (suc two.index) p two.pool refl two.there same in omega arith) in
          ((λ same. two_frames t p.slot two.pool.slot e d one two.is apart same), (λ same. two_frames t p.slot two.pool.slot e d one two.is apart (sym same))));
    }

module _ (next : ℕ) (t : Tables) (sound : HasSoundTables next t) (pools : List PoolPuddles) (are : AreOfPools t pools) where
  abbrev at : List (ℕ × Puddle)
  at = all_puddles pools

  legal_among : (i : ℕ) (e : ℕ × Puddle) → slice_get at i ≡ Some e → is_legal_base e.1.base ≡ true
  legal_among i e there = let a = each_among t pools are i e there in legal_of_member next t sound a.pool.slot a.is.member.ordinal e (as_member t a.pool.slot e a.is)

  one_base : (i j : ℕ) (e d : ℕ × Puddle) → slice_get at i ≡ Some e → slice_get at j ≡ Some d → e.1.base ≡ d.1.base → e.0 ≡ d.0
  one_base i j e d there here same =
      let a = each_among t pools are i e there in
      let b = each_among t pools are j d here in
      bases_apart next t sound e.0 d.0 a.is.member b.is.member a.is.below b.is.below a.is.used b.is.used
      (ap (λ (x : Puddle). x.base) a.is.puddle ∙ same ∙ sym (ap (λ (x : Puddle). x.base) b.is.puddle))

  joint_bases : AreBases (bases_of at)
  joint_bases = record {
    multiples = λ i base is. let b = base_of at i base is in ap (λ (n : ℕ). n % RANGE_BYTES) (sym b.is) ∙ multiple_of_legal b.puddle.1.base (legal_among i b.puddle b.there);
    distinct = λ i j base is also.
        let b = base_of at i base is in
        let c = base_of at j base also in
        (distinct_frames t pools are).each i j b.puddle c.puddle b.there c.there (one_base i j b.puddle c.puddle b.there c.there (b.is ∙ sym c.is));
  }

  -- so they lie as those of a scope do
  pub placed_among : ArePlacedPuddles t.frames at
  placed_among = record {
    below = λ n d low. (each_among t pools are n (get_or at n d) (slice_get-get_or at n d low)).is.below;
    frames = distinct_frames t pools are;
    legal = λ n d low. legal_among n (get_or at n d) (slice_get-get_or at n d low);
    bases = joint_bases;
  }

  -- what the scope may name lies where the tables have it
  named_among : (address count : ℕ) → IsNamed at address count → puddle_word t address ≡ pool_place t.frames at address
  named_among address count named =
      let e = named.puddle in
      let a = each_among t pools are named.ordinal e named.there in
      let low = named.low in
      let high = named.high in
      let some = named.some in
      puddle_word_of_member next t sound a.pool.slot a.is.member.ordinal e (as_member t a.pool.slot e a.is) address low (omega arith)
      ∙ sym (pool_place-there t.frames at named.ordinal e address joint_bases named.there low (omega arith))

  -- the places of the scope are those of the tables
  pub places_among_pools : HasPlaces (pool_scope t.frames at) (puddle_word t)
  places_among_pools = record { each = λ address count may. named_among address count (pool_may_name-named at address count may) }
