-- Pools whose frontiers move: one puddle, and all puddles in turn.
use Rattle.std.proofs.Common.{◌≡◌, ℕ, zero, suc, ◌+◌, ◌-◌, ◌^◌, ◌<◌, ◌≤◌, min, List, [], ◌∷◌, set, length, Option, Some, None, refl, sym, ap, ◌∙◌, arith, eq-eqb, ne_eqb}
use Rattle.std.specs.Prelude.{slice_get}
use Rattle.std.proofs.lemmas.Bool.{cond-true, cond-false}
use Rattle.std.proofs.lemmas.List.{length-set}
use Rattle.std.proofs.lemmas.List.Elements.{All-set, All-get_or}
use Rattle.std.proofs.lemmas.Option.{none-some, same_Some, slice_get_within, get_or_from_slice_get}
use Rattle.pud_defs.specs.declared.space.TheConstants.{RANGE_BYTES, MAX_STEPS}
use Rattle.pud_defs.specs.declared.records.Puddle.{Puddle}
use Rattle.pud_defs.proofs.Formats.Geometry.{few_slots}
use Rattle.pud_defs.specs.RegistryTables.Puddles.{moved_to}
use Rattle.pud_defs.specs.PoolGraphs.Stored.{IsOnDevice}
use Rattle.graph_laws.specs.Steps.{with_steps}
use Rattle.graph_laws.proofs.RewritingSteps.Rewritten.{slice_get-set_there}
use Rattle.graph_read.specs.Bases.{HasLowBases}
use Rattle.lazy_rewrite.proofs.Gathered.{frame_below}
use Rattle.lazy_rewrite.specs.Frontiers.{steps_left, frontier_after, left_among, steps_from, moved_at, stepped_at, finished_at, frontier_in, frontier_at}

-- ---- one puddle

pub set-same : {A : Type 0} (xs : List A) (o : ℕ) (x : A) → slice_get xs o ≡ Some x → set xs o x ≡ xs
set-same [] o x here = refl
set-same (y ∷ xs) zero x here = ap (λ z. z ∷ xs) (sym (same_Some y x here))
set-same (y ∷ xs) (suc o) x here = ap (λ zs. y ∷ zs) (set-same xs o x here)

set-set : {A : Type 0} (xs : List A) (o : ℕ) (x y : A) → set (set xs o x) o y ≡ set xs o y
set-set [] o x y = refl
set-set (z ∷ xs) zero x y = refl
set-set (z ∷ xs) (suc o) x y = ap (λ zs. z ∷ zs) (set-set xs o x y)

module _ (at : List (ℕ × Puddle)) (o : ℕ) (e : ℕ × Puddle) (here : slice_get at o ≡ Some e) where
  -- A frontier that does not move.
  pub with_steps-none : (m : ℕ) → m ≡ e.1.frontier → with_steps o m e at ≡ at
  with_steps-none m is = ap (λ k. with_steps o k e at) is ∙ set-same at o e here

  -- A frontier that moves twice.
  pub with_steps-twice : (m k : ℕ) → with_steps o k (e.0, moved_to m e.1) (with_steps o m e at) ≡ with_steps o k e at
  with_steps-twice m k = set-set at o (e.0, moved_to m e.1) (e.0, moved_to k e.1)

  pub with_steps-there : (m : ℕ) → slice_get (with_steps o m e at) o ≡ Some (e.0, moved_to m e.1)
  with_steps-there m = slice_get-set_there at o (e.0, moved_to m e.1) (slice_get_within at o e here)

  pub stepped_at-there : (n : ℕ) → stepped_at o n at ≡ with_steps o (frontier_after n e.1) e at
  stepped_at-there n = ap (λ d. moved_at o (frontier_after n) d at) here

  -- The goal of one puddle.
  pub frontier_at-there : (m : ℕ) → frontier_at o (with_steps o m e at) o ≡ m
  frontier_at-there m = cond-true _ _ _ (eq-eqb o o refl) ∙ ap frontier_in (with_steps-there m)

moved_to_end : (at : List (ℕ × Puddle)) (o : ℕ) (d : Option (ℕ × Puddle)) → moved_at o (frontier_after MAX_STEPS) d at ≡ moved_at o (λ d. d.frontier + steps_left d) d at
moved_to_end at o None = refl
moved_to_end at o (Some e) =
    let few = few_slots e.1.class in
    let end : frontier_after MAX_STEPS e.1 ≡ e.1.frontier + steps_left e.1 = omega arith in
    ap (λ k. with_steps o k e at) end

-- No puddle has more steps than a pool may have.
pub stepped_at-end : (at : List (ℕ × Puddle)) (o : ℕ) → stepped_at o MAX_STEPS at ≡ finished_at o at
stepped_at-end at o = moved_to_end at o (slice_get at o)

-- The goal of any other ordinal is 0.
pub frontier_at-other : (at : List (ℕ × Puddle)) (o i : ℕ) → (i ≡ o → ⊥) → frontier_at o at i ≡ 0
frontier_at-other at o i other = cond-false _ _ _ (ne_eqb i o other)

-- ---- what does not depend on frontiers

module _ (F : ℕ) (at : List (ℕ × Puddle)) (o m : ℕ) (e : ℕ × Puddle) (here : slice_get at o ≡ Some e) where
  pub on_device-steps : IsOnDevice F at → IsOnDevice F (with_steps o m e at)
  on_device-steps known = record {
    few = omega (arith, known.few, length-set at o (e.0, moved_to m e.1));
    frames = All-set (λ (d : ℕ × Puddle). d.0 < F) at o (e.0, moved_to m e.1) (frame_below F at o e known here) known.frames;
  }

  pub low_bases-steps : HasLowBases at → HasLowBases (with_steps o m e at)
  low_bases-steps low =
      let below = All-get_or (λ (d : ℕ × Puddle). d.1.base + RANGE_BYTES ≤ 2 ^ 64) at o e (slice_get_within at o e here) low.low in
      let same = ap (λ (d : ℕ × Puddle). d.1.base) (get_or_from_slice_get at o e e here) in
      record { low = All-set (λ (d : ℕ × Puddle). d.1.base + RANGE_BYTES ≤ 2 ^ 64) at o (e.0, moved_to m e.1) (omega (arith, below, same)) low.low }

-- ---- all puddles in turn

-- The pool after n more steps of the puddles from an ordinal on.
unfoldable pub steps_after : (i n : ℕ) → List (ℕ × Puddle) → List (ℕ × Puddle)
steps_after zero n at = steps_from n at
steps_after (suc i) n [] = []
steps_after (suc i) n (e ∷ at) = e ∷ steps_after i n at

-- How many steps of these puddles are left.
unfoldable pub left_after : (i : ℕ) → List (ℕ × Puddle) → ℕ
left_after zero at = left_among at
left_after (suc i) [] = 0
left_after (suc i) (e ∷ at) = left_after i at

steps_next : (i n : ℕ) (at : List (ℕ × Puddle)) (e : ℕ × Puddle) → slice_get at i ≡ Some e → steps_after i n at ≡ steps_after (suc i) (n - min n (steps_left e.1)) (with_steps i (frontier_after n e.1) e at)
unfolding steps_from steps_after
steps_next i n [] e here = absurd (none-some e here)
steps_next zero n (x ∷ at) e here = ap (λ (d : ℕ × Puddle). (d.0, moved_to (frontier_after n d.1) d.1) ∷ steps_from (n - min n (steps_left d.1)) at) (same_Some x e here)
steps_next (suc i) n (x ∷ at) e here = ap (λ ds. x ∷ ds) (steps_next i n at e here)

pub steps_after-next : (i n : ℕ) (at : List (ℕ × Puddle)) (e : ℕ × Puddle) → slice_get at i ≡ Some e → steps_after (i + 1) (n - min n (steps_left e.1)) (with_steps i (frontier_after n e.1) e at) ≡ steps_after i n at
steps_after-next i n at e here =
    let one : i + 1 ≡ suc i = omega arith in
    ap (λ k. steps_after k (n - min n (steps_left e.1)) (with_steps i (frontier_after n e.1) e at)) one ∙ sym (steps_next i n at e here)

pub steps_after-there : (i n : ℕ) (at : List (ℕ × Puddle)) (e : ℕ × Puddle) → slice_get at i ≡ Some e → slice_get (steps_after i n at) i ≡ Some (e.0, moved_to (frontier_after n e.1) e.1)
unfolding steps_from steps_after
steps_after-there i n [] e here = absurd (none-some e here)
steps_after-there zero n (x ∷ at) e here = ap (λ (d : ℕ × Puddle). Some (d.0, moved_to (frontier_after n d.1) d.1)) (same_Some x e here)
steps_after-there (suc i) n (x ∷ at) e here = steps_after-there i n at e here

pub steps_after-before : (i n : ℕ) (at : List (ℕ × Puddle)) (q : ℕ) → q < i → slice_get (steps_after i n at) q ≡ slice_get at q
unfolding steps_after
steps_after-before zero n at q below = absurd (omega arith)
steps_after-before (suc i) n [] q below = refl
steps_after-before (suc i) n (e ∷ at) zero below = refl
steps_after-before (suc i) n (e ∷ at) (suc q) below = steps_after-before i n at q (omega arith)

pub steps_after-end : (i n : ℕ) (at : List (ℕ × Puddle)) → length at ≤ i → steps_after i n at ≡ at
unfolding steps_from steps_after
steps_after-end zero n [] done = refl
steps_after-end zero n (x ∷ at) done = absurd (omega arith)
steps_after-end (suc i) n [] done = refl
steps_after-end (suc i) n (x ∷ at) done = ap (λ ds. x ∷ ds) (steps_after-end i n at (omega arith))

left_next : (i : ℕ) (at : List (ℕ × Puddle)) (e : ℕ × Puddle) → slice_get at i ≡ Some e → left_after i at ≡ steps_left e.1 + left_after (suc i) at
unfolding left_among left_after
left_next i [] e here = absurd (none-some e here)
left_next zero (x ∷ at) e here = ap (λ (d : ℕ × Puddle). steps_left d.1 + left_among at) (same_Some x e here)
left_next (suc i) (x ∷ at) e here = left_next i at e here

left_set : (i : ℕ) (at : List (ℕ × Puddle)) (y : ℕ × Puddle) → left_after (suc i) (set at i y) ≡ left_after (suc i) at
unfolding left_after
left_set i [] y = refl
left_set zero (x ∷ at) y = refl
left_set (suc i) (x ∷ at) y = left_set i at y

pub left_after-next : (i : ℕ) (at : List (ℕ × Puddle)) (e y : ℕ × Puddle) → slice_get at i ≡ Some e → left_after i at ≡ steps_left e.1 + left_after (i + 1) (set at i y)
left_after-next i at e y here =
    let one : suc i ≡ i + 1 = omega arith in
    left_next i at e here ∙ ap (λ (k : ℕ). steps_left e.1 + k) (sym (left_set i at y) ∙ ap (λ k. left_after k (set at i y)) one)

pub left_after-end : (i : ℕ) (at : List (ℕ × Puddle)) → length at ≤ i → left_after i at ≡ 0
unfolding left_among left_after
left_after-end zero [] done = refl
left_after-end zero (x ∷ at) done = absurd (omega arith)
left_after-end (suc i) [] done = refl
left_after-end (suc i) (x ∷ at) done = left_after-end i at (omega arith)
