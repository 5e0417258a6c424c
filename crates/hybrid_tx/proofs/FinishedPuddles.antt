-- The finished ones among the puddles of a pool: they lie as all puddles do, and their words are among the words of
-- all.
use Rattle.hybrid_tx.specs.Open.Masks.{ArePuddlesOf}
use Rattle.pud_defs.specs.RegistryTables.Tables.{Tables}
use Rattle.std.proofs.Common.{◌≡◌, inl, inr, ℕ, zero, suc, ◌<◌, ◌≤◌, Bool, true, false, List, [], ◌∷◌, length, All, Some, refl, sym, ap, subst, ◌∙◌, arith, eq-eqb, ◌++◌}
use Rattle.std.specs.Prelude.{slice_get}
use Rattle.std.specs.List.{filter}
use Rattle.std.proofs.lemmas.Bool.{cases_Bool, cond-true, cond-false}
use Rattle.std.proofs.lemmas.Option.{none-some, same_Some}
use Rattle.std.proofs.lemmas.List.Elements.{All-nil, All-cons, All-head, All-tail}
use Rattle.pud_defs.specs.declared.records.Puddle.{Puddle}
use Rattle.pud_defs.specs.Formats.Bases.{is_legal_base}
use Rattle.pud_defs.specs.Formats.Geometry.{steps_of, IsFinished}
use Rattle.graph_laws.specs.Changes.{AreBases}
use Rattle.hybrid_tx.specs.PoolScopes.{pool_has_word, holds_finished, finished_of, ArePlacedPuddles}
use Rattle.hybrid_tx.proofs.PoolScope.{base_there, bases_of, pool_has_word-each, pool_has_word-from}

-- ---- what passes a test

-- an element that passes the test, and its place in the list
pub record Stood {X : Type 0} (test : X → Bool) (xs : List X) (x : X) : Type 0 where
  pub index : ℕ
  pub there : slice_get xs index ≡ Some x
  pub passes : test x ≡ true

module _ {X : Type 0} (test : X → Bool) where
  filter-pass : (x : X) (xs : List X) → test x ≡ true → filter test (x ∷ xs) ≡ x ∷ filter test xs
  filter-pass x xs passes = cond-true _ _ _ passes

  filter-fail : (x : X) (xs : List X) → test x ≡ false → filter test (x ∷ xs) ≡ filter test xs
  filter-fail x xs fails = cond-false _ _ _ fails

  stood_after : (y : X) (ys : List X) → test y ≡ true → (i : ℕ) (x : X) → ((j : ℕ) → slice_get (filter test ys) j ≡ Some x → Stood test ys x) → slice_get (y ∷ filter test ys) i ≡ Some x → Stood test (y ∷ ys) x
  stood_after y ys passes zero x rest there = record { index = 0; there = there; passes = ap test (sym (same_Some y x there)) ∙ passes }
  stood_after y ys passes (suc i) x rest there =
      let later = rest i there in
      record { index = suc later.index; there = later.there; passes = later.passes }

  pub stood : (xs : List X) (i : ℕ) (x : X) → slice_get (filter test xs) i ≡ Some x → Stood test xs x
  stood [] i x there = absurd (none-some x there)
  stood (y ∷ ys) i x there = elim (cases_Bool (test y)) [
    | inr fails ↦
        let later = stood ys i x (sym (ap (λ (zs : List X). slice_get zs i) (filter-fail y ys fails)) ∙ there) in
        record { index = suc later.index; there = later.there; passes = later.passes }
    | inl passes ↦ stood_after y ys passes i x (λ j here. stood ys j x here) (sym (ap (λ (zs : List X). slice_get zs i) (filter-pass y ys passes)) ∙ there)
  ]

  -- an element of the list that passes has a place among those that pass
  pub stands : (xs : List X) (i : ℕ) (x : X) → slice_get xs i ≡ Some x → test x ≡ true → (j : ℕ) × (slice_get (filter test xs) j ≡ Some x)
  stands [] i x there passes = absurd (none-some x there)
  stands (y ∷ ys) zero x there passes = (0, ap (λ (zs : List X). slice_get zs 0) (filter-pass y ys (ap test (same_Some y x there) ∙ passes)) ∙ there)
  stands (y ∷ ys) (suc i) x there passes =
      let later = stands ys i x there passes in
      elim (cases_Bool (test y)) [
        | inl front ↦ (suc later.0, ap (λ (zs : List X). slice_get zs (suc later.0)) (filter-pass y ys front) ∙ later.1)
        | inr fails ↦ (later.0, ap (λ (zs : List X). slice_get zs later.0) (filter-fail y ys fails) ∙ later.1)
      ]

  pub few_pass : (xs : List X) → length (filter test xs) ≤ length xs
  few_pass [] = omega arith
  few_pass (x ∷ xs) =
      let later = few_pass xs in
      elim (cases_Bool (test x)) [
        | inl passes ↦ let same = ap (λ (zs : List X). length zs) (filter-pass x xs passes) in omega arith
        | inr fails ↦ let same = ap (λ (zs : List X). length zs) (filter-fail x xs fails) in omega arith
      ]

  pub All-pass : (P : X → Type 0) (xs : List X) → All P xs → All P (filter test xs)
  All-pass P [] all = All-nil P
  All-pass P (x ∷ xs) all =
      let later = All-pass P xs (All-tail P x xs all) in
      elim (cases_Bool (test x)) [
        | inl passes ↦ subst (λ (zs : List X). All P zs) (sym (filter-pass x xs passes)) (All-cons P x (filter test xs) (All-head P x xs all) later)
        | inr fails ↦ subst (λ (zs : List X). All P zs) (sym (filter-fail x xs fails)) later
      ]

  -- elements that are the same in this sense stand at one place
  abbrev IsOnce : (same : X → X → Type 0) → List X → Type 0
  IsOnce same xs = (i j : ℕ) (x y : X) → slice_get xs i ≡ Some x → slice_get xs j ≡ Some y → same x y → i ≡ j

  once_after : (same : X → X → Type 0) (z : X) (zs : List X) → IsOnce same (z ∷ zs) → IsOnce same (filter test zs) → IsOnce same (z ∷ filter test zs)
  once_after same z zs once later zero zero x y there here is = refl
  once_after same z zs once later zero (suc j) x y there here is =
      let s = stood zs j y here in
      absurd (let it : 0 ≡ suc s.index = once 0 (suc s.index) x y there s.there is in cc)
  once_after same z zs once later (suc i) zero x y there here is =
      let s = stood zs i x there in
      absurd (let it : suc s.index ≡ 0 = once (suc s.index) 0 x y s.there here is in cc)
  once_after same z zs once later (suc i) (suc j) x y there here is = ap suc (later i j x y there here is)

  pub once_pass : (same : X → X → Type 0) (xs : List X) → IsOnce same xs → IsOnce same (filter test xs)
  once_pass same [] once = λ i j x y there here is. absurd (none-some x there)
  once_pass same (z ∷ zs) once =
      let tail : IsOnce same zs = λ i j x y there here is. let it : suc i ≡ suc j = once (suc i) (suc j) x y there here is in omega arith in
      let later = once_pass same zs tail in
      elim (cases_Bool (test z)) [
        | inl passes ↦ subst (λ (xs : List X). IsOnce same xs) (sym (filter-pass z zs passes)) (once_after same z zs once later)
        | inr fails ↦ subst (λ (xs : List X). IsOnce same xs) (sym (filter-fail z zs fails)) later
      ]

-- ---- how finished puddles lie

-- a base in the list is that of the puddle at the same place
base_from : (at : List (ℕ × Puddle)) (i base : ℕ) → slice_get (bases_of at) i ≡ Some base → (e : ℕ × Puddle) × ((slice_get at i ≡ Some e) × (e.1.base ≡ base))
base_from [] i base there = absurd (none-some base there)
base_from (e ∷ at) zero base there = (e, (refl, same_Some e.1.base base there))
base_from (e ∷ at) (suc i) base there = base_from at i base there

-- the two puddles have the same base
abbrev SameBase : (e d : ℕ × Puddle) → Type 0
SameBase e d = e.1.base ≡ d.1.base

module _ (F : ℕ) (at : List (ℕ × Puddle)) where
  bases_once : AreBases (bases_of at) → (i j : ℕ) (e d : ℕ × Puddle) → slice_get at i ≡ Some e → slice_get at j ≡ Some d → SameBase e d → i ≡ j
  bases_once bases i j e d there here same = bases.distinct i j e.1.base (base_there at i e there) (base_there at j d here ∙ ap (λ (b : ℕ). Some b) (sym same))

  finished_bases : AreBases (bases_of at) → AreBases (bases_of (finished_of at))
  finished_bases bases =
      record {
        multiples = λ i base there.
            let e = base_from (finished_of at) i base there in
            let s = stood holds_finished at i e.0 e.1.0 in
            bases.multiples s.index base (base_there at s.index e.0 s.there ∙ ap (λ (b : ℕ). Some b) e.1.1);
        distinct = λ i j base there here.
            let e = base_from (finished_of at) i base there in
            let d = base_from (finished_of at) j base here in
            once_pass holds_finished SameBase at (bases_once bases) i j e.0 d.0 e.1.0 d.1.0 (e.1.1 ∙ sym d.1.1);
      }

  pub finished_placed : ArePlacedPuddles F at → ArePlacedPuddles F (finished_of at)
  finished_placed placed =
      record {
        below = All-pass holds_finished (λ e. e.0 < F) at placed.below;
        frames = record { each = once_pass holds_finished (λ e d. e.0 ≡ d.0) at placed.frames.each };
        legal = All-pass holds_finished (λ e. is_legal_base e.1.base ≡ true) at placed.legal;
        bases = finished_bases placed.bases;
      }

  -- the words of the finished puddles are among the words of all
  pub mine_of_finished : (k : ℕ) → pool_has_word F (finished_of at) k ≡ true → pool_has_word F at k ≡ true
  mine_of_finished k mine =
      let m = pool_has_word-each F (finished_of at) k mine in
      let s = stood holds_finished at m.ordinal m.puddle m.there in
      pool_has_word-from F at k (record { ordinal = s.index; puddle = m.puddle; there = s.there; low = m.low; high = m.high })

  -- so a word that belongs to no puddle belongs to no finished one
  pub none_of_finished : (k : ℕ) → pool_has_word F at k ≡ false → pool_has_word F (finished_of at) k ≡ false
  none_of_finished k other = elim (cases_Bool (pool_has_word F (finished_of at) k)) [
    | inr none ↦ none
    | inl mine ↦ absurd (let it : true ≡ false = sym (mine_of_finished k mine) ∙ other in cc)
  ]

  -- a finished puddle of the pool is among the finished ones
  pub finished_there : (o : ℕ) (e : ℕ × Puddle) → slice_get at o ≡ Some e → IsFinished e.1 → (j : ℕ) × (slice_get (finished_of at) j ≡ Some e)
  finished_there o e there finished = stands holds_finished at o e there (eq-eqb e.1.frontier (steps_of e.1) finished)

-- the finished ones among puddles of a pool are puddles of it
pub finished_puddles : (t : Tables) (slot : ℕ) (at : List (ℕ × Puddle)) → ArePuddlesOf t slot at → ArePuddlesOf t slot (finished_of at)
finished_puddles t slot at are =
    let few = few_pass holds_finished at in
    let many = are.few in
    record {
      few = omega arith;
      each = λ i e there. let s = stood holds_finished at i e there in are.each s.index e s.there;
      apart = record { each = once_pass holds_finished (λ e d. e.0 ≡ d.0) at are.apart.each };
    }

-- if a finished puddle is last, it is the last of the finished ones
pub finished_last : (at : List (ℕ × Puddle)) (e : ℕ × Puddle) → IsFinished e.1 → finished_of (at ++ e ∷ []) ≡ finished_of at ++ e ∷ []
finished_last [] e finished = cond-true _ _ _ (eq-eqb e.1.frontier (steps_of e.1) finished)
finished_last (d ∷ at) e finished =
    let later = finished_last at e finished in
    elim (cases_Bool (holds_finished d)) [
      | inl passes ↦ cond-true _ _ _ passes ∙ ap (λ (xs : List (ℕ × Puddle)). d ∷ xs) later ∙ sym (ap (λ (xs : List (ℕ × Puddle)). xs ++ e ∷ []) (filter-pass holds_finished d at passes))
      | inr fails ↦ cond-false _ _ _ fails ∙ later ∙ sym (ap (λ (xs : List (ℕ × Puddle)). xs ++ e ∷ []) (filter-fail holds_finished d at fails))
    ]
