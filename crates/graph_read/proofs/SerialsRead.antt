-- The serials of a pool, read place by place, and the zeroes after its last place.
use Rattle.std.proofs.Common.{◌≡◌, ℕ, true, slice_index, ◌+◌, ◌<◌, ◌≤◌, ltb, cond, List, length, get_or, set, replicate, refl, sym, ap, ◌∙◌, arith, inl, inr}
use Rattle.std.proofs.lemmas.Bool.{cond-true, cond-false, cond_both, cases_eq, cases_lt, lt-ltb, le-ltb, false≢true}
use Rattle.std.proofs.lemmas.Bool.Decides.{nat_tests}
use Rattle.std.proofs.lemmas.Grind.{get_or-set_at}
use Rattle.std.proofs.lemmas.List.{get_or-replicate, get_or-set_other, get_or_past, length-replicate}
use Rattle.std.proofs.lemmas.Option.{slice_get_past}
use Rattle.pud_defs.specs.declared.space.TheConstants.{SLOT_SERIAL_WORD}
use Rattle.pud_defs.specs.declared.records.Puddle.{Puddle}
use Rattle.pud_defs.specs.Formats.Geometry.{ordinal_of, places_among}
use Rattle.pud_defs.specs.Formats.Image.{Image}
use Rattle.pud_defs.specs.PoolGraphs.Stored.{stored_in, is_slot, place_word, word_in_frame, place_begins}
use Rattle.puddle_header.specs.Places.{is_slot_in}
use Rattle.graph_read.specs.Checking.{serials_in, HasSerialsInSlots}

-- The list has what f gives at the places below n, and 0 after them.
pub record IsReadTo (f : ℕ → ℕ) (n : ℕ) (xs : List ℕ) : Type 0 where
  pub each : (k : ℕ) → get_or xs k 0 ≡ cond (ltb k n) (f k) 0

pub IsReadTo-start : (f : ℕ → ℕ) (size : ℕ) → IsReadTo f 0 (replicate size 0)
IsReadTo-start f size = record {
  each = λ k. elim (cases_lt k size) [ inl within ↦ get_or-replicate size k 0 0 within | inr past ↦ get_or_past (replicate size 0) k 0 (omega (arith, length-replicate {A = ℕ})) ]
      ∙ sym (cond-false _ _ _ (le-ltb k 0 (omega arith)));
}

pub IsReadTo-more : (f : ℕ → ℕ) (n v : ℕ) (xs : List ℕ) → n < length xs → v ≡ f n → IsReadTo f n xs → IsReadTo f (n + 1) (set xs n v)
IsReadTo-more f n v xs below is so_far = record {
  each = λ k. elim (cases_eq k n) [
    | inl here ↦ get_or-set_at xs n k v 0 here below ∙ is ∙ ap f (sym here) ∙ sym (cond-true _ _ _ (lt-ltb k (n + 1) (omega arith)))
    | inr other ↦ get_or-set_other xs n k v 0 other ∙ so_far.each k ∙ ap (λ b. cond b (f k) 0) (grind (arith, nat_tests))
  ];
}

-- A place whose value is 0 needs no store.
pub IsReadTo-none : (f : ℕ → ℕ) (n : ℕ) (xs : List ℕ) → f n ≡ 0 → IsReadTo f n xs → IsReadTo f (n + 1) xs
IsReadTo-none f n xs none so_far = record {
  each = λ k. so_far.each k ∙ elim (cases_eq k n) [
    | inl here ↦ cond-false _ _ _ (le-ltb k n (omega arith)) ∙ sym (ap f here ∙ none) ∙ sym (cond-true _ _ _ (lt-ltb k (n + 1) (omega arith)))
    | inr other ↦ ap (λ b. cond b (f k) 0) (grind (arith, nat_tests))
  ];
}

pub IsReadTo-end : (f : ℕ → ℕ) (n : ℕ) (xs : List ℕ) → ((k : ℕ) → n ≤ k → f k ≡ 0) → IsReadTo f n xs → (λ k. get_or xs k 0) ≡ f
IsReadTo-end f n xs following so_far =
    let each : (k : ℕ) → get_or xs k 0 ≡ f k = λ k. so_far.each k ∙ elim (cases_lt k n) [
      | inl within ↦ cond-true _ _ _ (lt-ltb k n within)
      | inr past ↦ cond-false _ _ _ (le-ltb k n past) ∙ sym (following k past)
    ] in
    λ i k. each k i

-- ---- no serial outside the slots

pub HasSerialsInSlots-start : (at : List (ℕ × Puddle)) (size : ℕ) → HasSerialsInSlots at (slice_index (replicate size 0))
HasSerialsInSlots-start at size = record {
  none = λ k outside. elim (cases_lt k size) [ inl within ↦ get_or-replicate size k 0 0 within | inr past ↦ get_or_past (replicate size 0) k 0 (omega (arith, length-replicate {A = ℕ})) ];
}

-- A store at a slot changes no place outside the slots.
pub HasSerialsInSlots-more : (at : List (ℕ × Puddle)) (xs : List ℕ) (p v : ℕ) → is_slot_in at p ≡ true → HasSerialsInSlots at (slice_index xs) → HasSerialsInSlots at (slice_index (set xs p v))
HasSerialsInSlots-more at xs p v slot so_far = record {
  none = λ k outside. get_or-set_other xs p k v 0 (λ here. false≢true (sym outside ∙ ap (is_slot_in at) here ∙ slot)) ∙ so_far.none k outside;
}

pub no_serial_after : (F : ℕ) (at : List (ℕ × Puddle)) (image : Image) (k : ℕ) → places_among (length at) ≤ k → serials_in (stored_in F at image) k ≡ 0
no_serial_after F at image k following =
    let st = stored_in F at image in
    cond_both (is_slot st k) (place_word st k SLOT_SERIAL_WORD) 0 (λ v. v ≡ 0) (λ there. ap (word_in_frame F image (place_begins (stored_in F at image) k + SLOT_SERIAL_WORD)) (slice_get_past at (ordinal_of k) (omega arith))) (λ none. refl)
