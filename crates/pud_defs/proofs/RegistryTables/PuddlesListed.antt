-- A pool's puddles in turn, ordinal by ordinal: in sound tables these are all puddles that the pool has.
use Rattle.std.proofs.Common.{◌≡◌, ℕ, zero, suc, ◌+◌, ◌-◌, ◌<◌, ◌≤◌, Bool, true, false, cond, eqb, List, [], ◌∷◌, map, length, All, nat_cmp, Option, Some, None, refl, sym, ap, ap₂, ◌∙◌, arith, eqb-true, eq-eqb, ne_eqb}
use Rattle.std.specs.Ordering.{eq_by_cmp}
use Rattle.std.specs.FinMap.Entries.{find}
use Rattle.std.proofs.lemmas.Bool.{and_parts, cond-true, cond-false}
use Rattle.std.proofs.lemmas.Cmp.{nat_cmp_total}
use Rattle.std.proofs.lemmas.List.Elements.{All-nil, All-cons}
use Rattle.std.proofs.lemmas.Option.{none-some}
use Rattle.pud_defs.specs.declared.records.TheConstants.{POOL_RECORDS, MAX_PUDDLES}
use Rattle.pud_defs.specs.declared.records.PoolRecord.{PoolRecord}
use Rattle.pud_defs.specs.declared.records.Puddle.{Puddle}
use Rattle.pud_defs.specs.RegistryTables.Keyed.{under}
use Rattle.pud_defs.specs.RegistryTables.Puddles.{Member}
use Rattle.pud_defs.specs.RegistryTables.SoundTables.{count_up, HasSoundTables}
use Rattle.pud_defs.specs.PoolGraphs.Stored.{IsOnDevice}
use Rattle.pud_defs.specs.RegistryTables.Tables.{Tables, member_of, members, puddles_of, found_then, in_turn, puddles_in_turn, listed}
use Rattle.pud_defs.proofs.KeyedTables.Keyed.{chosen_some, find-keyed, first_from_some}
use Rattle.pud_defs.proofs.RegistryTables.PoolsCounted.{few_members}
use Rattle.pud_defs.proofs.RegistryTables.TypeLists.{same_test}

-- ---- what a look-up gives in turn

module _ {A : Type 0} (at : ℕ → Option A) where
  in_turn_step : (from end : ℕ) → from < end → in_turn at from (end - from) ≡ found_then (at from) (in_turn at (from + 1) (end - (from + 1)))
  unfolding in_turn
  in_turn_step from end below = let e : end - from ≡ suc (end - (from + 1)) = omega arith in ap (in_turn at from) e

  pub in_turn-found : (from end : ℕ) (x : A) → from < end → at from ≡ Some x → in_turn at from (end - from) ≡ x ∷ in_turn at (from + 1) (end - (from + 1))
  in_turn-found from end x below is = in_turn_step from end below ∙ ap (λ o. found_then o (in_turn at (from + 1) (end - (from + 1)))) is

  pub in_turn-none : (from end : ℕ) → from < end → at from ≡ None → in_turn at from (end - from) ≡ []
  in_turn-none from end below is = in_turn_step from end below ∙ ap (λ o. found_then o (in_turn at (from + 1) (end - (from + 1)))) is

  pub in_turn-end : (from end : ℕ) → end ≤ from → in_turn at from (end - from) ≡ []
  unfolding in_turn
  in_turn-end from end past = let e : end - from ≡ 0 = omega arith in ap (in_turn at from) e

  few_then : (o : Option A) (rest : List A) (count : ℕ) → length rest ≤ count → length (found_then o rest) ≤ suc count
  few_then None rest count few = omega arith
  few_then (Some x) rest count few = omega (arith, few)

  length-in_turn : (from count : ℕ) → length (in_turn at from count) ≤ count
  unfolding in_turn
  length-in_turn from zero = omega arith
  length-in_turn from (suc count) = few_then (at from) (in_turn at (from + 1) count) count (length-in_turn (from + 1) count)

  module _ (P : A → Type 0) (each : (i : ℕ) (x : A) → at i ≡ Some x → P x) where
    all_then : (i : ℕ) (o : Option A) (rest : List A) → at i ≡ o → All P rest → All P (found_then o rest)
    all_then i None rest is all = All-nil P
    all_then i (Some x) rest is all = All-cons P x rest (each i x is) all

    all_in_turn : (from count : ℕ) → All P (in_turn at from count)
    unfolding in_turn
    all_in_turn from zero = All-nil P
    all_in_turn from (suc count) = all_then from (at from) (in_turn at (from + 1) count) refl (all_in_turn (from + 1) count)

-- ---- keys that count up

module _ {X : Type 0} where
  -- a look-up of a greater key passes over the first entry
  pub passed_by : (i : ℕ) (e : ℕ × X) (es : List (ℕ × X)) → e.0 < i → find nat_cmp i (e ∷ es) ≡ find nat_cmp i es
  passed_by i e es before = cond-false _ _ _ (same_test i e.0 ∙ ne_eqb i e.0 (λ same. absurd (omega arith)))

  pub found_in_front : (i : ℕ) (e : ℕ × X) (es : List (ℕ × X)) → e.0 ≡ i → find nat_cmp i (e ∷ es) ≡ Some e.1
  found_in_front i e es here = cond-true _ _ _ (same_test i e.0 ∙ eq-eqb i e.0 (sym here))

  none_in_turn : (from count : ℕ) → in_turn (λ i. find {X = X} nat_cmp i []) from count ≡ []
  unfolding in_turn
  none_in_turn from zero = refl
  none_in_turn from (suc count) = refl

  passed_in_turn : (e : ℕ × X) (es : List (ℕ × X)) (from count : ℕ) → e.0 < from → in_turn (λ i. find nat_cmp i (e ∷ es)) from count ≡ in_turn (λ i. find nat_cmp i es) from count
  unfolding in_turn
  passed_in_turn e es from zero before = refl
  passed_in_turn e es from (suc count) before = ap₂ found_then (passed_by from e es before) (passed_in_turn e es (from + 1) count (omega arith))

  in_turn-listed : (es : List (ℕ × X)) (from count : ℕ) → count_up from (map (λ e. e.0) es) ≡ true → length es ≤ count → in_turn (λ i. find nat_cmp i es) from count ≡ map (λ e. e.1) es
  unfolding in_turn count_up
  in_turn-listed [] from count up few = none_in_turn from count
  in_turn-listed (e ∷ es) from zero up few = absurd (omega arith)
  in_turn-listed (e ∷ es) from (suc count) up few =
      let parts = and_parts (eqb e.0 from) (count_up (from + 1) (map (λ d. d.0) es)) up in
      let first : e.0 ≡ from = eqb-true e.0 from parts.0 in
      ap₂ found_then (found_in_front from e es first) (passed_in_turn e es (from + 1) count (omega arith) ∙ in_turn-listed es (from + 1) count parts.1 (omega arith))

-- ---- the puddles of a pool

pub puddles_in_turn-listed : (next : ℕ) (t : Tables) (slot : ℕ) (r : PoolRecord) → HasSoundTables next t → slot < POOL_RECORDS → t.pools slot ≡ Some r → puddles_in_turn t slot ≡ listed (puddles_of t slot)
puddles_in_turn-listed next t slot r sound below used =
    let few = few_members next t sound slot r below used in
    in_turn-listed (puddles_of t slot) 0 MAX_PUDDLES few.ordinals few.few

-- the frame that comes with a member is that of its record
frame_of : (slot ordinal frame : ℕ) (o : Option Member) (x : ℕ × Puddle) → under nat_cmp ordinal (member_of slot frame o) ≡ Some x → frame ≡ x.0
frame_of slot ordinal frame None x is = absurd (none-some x is)
frame_of slot ordinal frame (Some m) x is = named_frame (eqb m.pool (slot + 1)) is where
  named_frame : (b : Bool) → under {X = ℕ × Puddle} nat_cmp ordinal (cond b (Some (m.ordinal, (frame, m.puddle))) None) ≡ Some x → frame ≡ x.0
  named_frame true is = ap (λ (e : ℕ × Puddle). e.0) (chosen_some (eq_by_cmp nat_cmp ordinal m.ordinal) (frame, m.puddle) x is)
  named_frame false is = absurd (none-some x is)

puddle_frame : (t : Tables) (slot ordinal : ℕ) (x : ℕ × Puddle) → find nat_cmp ordinal (puddles_of t slot) ≡ Some x → x.0 < t.frames
unfolding puddles_of
puddle_frame t slot ordinal x found =
    let first = first_from_some nat_cmp ordinal (members t slot) 0 t.frames x (sym (find-keyed nat_cmp nat_cmp_total ordinal (members t slot) 0 t.frames) ∙ found) in
    let place = frame_of slot ordinal first.0 (t.puddles first.0) x first.1.here in
    let high = first.1.high in
    omega (arith, place, high)

-- in any tables they are at most as many as a pool may have, in frames of the device
pub puddles_in_turn-on_device : (t : Tables) (slot : ℕ) → IsOnDevice t.frames (puddles_in_turn t slot)
puddles_in_turn-on_device t slot = record {
  few = length-in_turn (λ ordinal. find nat_cmp ordinal (puddles_of t slot)) 0 MAX_PUDDLES;
  frames = all_in_turn (λ ordinal. find nat_cmp ordinal (puddles_of t slot)) (λ e. e.0 < t.frames) (puddle_frame t slot) 0 MAX_PUDDLES;
}
