-- The free records of the table, gathered record by record.
use Rattle.std.proofs.Common.{◌≡◌, inl, inr, ℕ, zero, suc, ◌+◌, ◌-◌, ◌<◌, ◌≤◌, cond, List, [], ◌∷◌, ◌++◌, length, take, Option, Some, None, is_none, refl, sym, ap, ◌∙◌, arith, append_assoc, append-nil}
use Rattle.std.proofs.lemmas.Bool.{cases_lt, cond-true, cond-false}
use Rattle.std.proofs.lemmas.List.{take-append-le, take_all, length-take-le}
use Rattle.pud_defs.specs.declared.layout.TheConstants.{TYPE_RECORDS}
use Rattle.pud_defs.specs.RegistryTables.Keyed.{count_used}
use Rattle.pud_defs.proofs.KeyedTables.Keyed.{first_free_here, first_free_used}
use Rattle.type_maps.specs.FreeRecords.{free_places, AreFreeRecords}

module _ {A : Type 0} where
  pub free_places_here : (at : ℕ → Option A) (from end : ℕ) → from < end → at from ≡ None → free_places at from (end - from) ≡ from ∷ free_places at (from + 1) (end - (from + 1))
  unfolding free_places
  free_places_here at from end below free = let e : end - from ≡ suc (end - (from + 1)) = omega arith in ap (free_places at from) e ∙ cond-true (is_none (at from)) (from ∷ free_places at (from + 1) (end - (from + 1))) (free_places at (from + 1) (end - (from + 1))) (ap is_none free)

  pub free_places_used : (at : ℕ → Option A) (from end : ℕ) (x : A) → from < end → at from ≡ Some x → free_places at from (end - from) ≡ free_places at (from + 1) (end - (from + 1))
  unfolding free_places
  free_places_used at from end x below used = let e : end - from ≡ suc (end - (from + 1)) = omega arith in ap (free_places at from) e ∙ cond-false (is_none (at from)) (from ∷ free_places at (from + 1) (end - (from + 1))) (free_places at (from + 1) (end - (from + 1))) (ap is_none used)

  pub free_places_end : (at : ℕ → Option A) (from end : ℕ) → end ≤ from → free_places at from (end - from) ≡ []
  unfolding free_places
  free_places_end at from end past = let e : end - from ≡ 0 = omega arith in ap (free_places at from) e

  counted_by : (o : Option A) (from : ℕ) (later : List ℕ) (used count : ℕ) → length later + used ≡ count → length (cond (is_none o) (from ∷ later) later) + cond (is_none o) used (used + 1) ≡ suc count
  counted_by None from later used count is = omega arith
  counted_by (Some x) from later used count is = omega arith

  -- The free records and the used ones together are all records.
  pub length-free_places : (at : ℕ → Option A) (from count : ℕ) → length (free_places at from count) + count_used at from count ≡ count
  unfolding free_places count_used
  length-free_places at from zero = refl
  length-free_places at from (suc count) = counted_by (at from) from (free_places at (from + 1) count) (count_used at (from + 1) count) count (length-free_places at (from + 1) count)

-- ---- the first of them, in order

-- The first `count` of the gathered records and the rest are the first `count` of all. No more than `count` are
-- gathered.
pub record Gathers (count : ℕ) (all so_far rest : List ℕ) : Type 0 where
  pub whole : take count (so_far ++ rest) ≡ take count all
  pub few : length so_far ≤ count

pub Gathers-start : (count : ℕ) (all : List ℕ) → Gathers count all [] all
Gathers-start count all = record { whole = refl; few = omega arith }

-- A free record is gathered if more are wanted.
pub Gathers-more : (count : ℕ) (all so_far rest later : List ℕ) (n : ℕ) → length so_far < count → rest ≡ n ∷ later → length (so_far ++ n ∷ []) ≡ length so_far + 1 → Gathers count all so_far rest → Gathers count all (so_far ++ n ∷ []) later
Gathers-more count all so_far rest later n wanted is size g = record {
  whole = ap (take count) (append_assoc so_far (n ∷ []) later ∙ ap (λ (ns : List ℕ). so_far ++ ns) (sym is)) ∙ g.whole;
  few = omega arith;
}

-- If as many records were gathered as are wanted, the rest does not matter.
pub Gathers-full : (count : ℕ) (all so_far rest later : List ℕ) → count ≤ length so_far → Gathers count all so_far rest → Gathers count all so_far later
Gathers-full count all so_far rest later full g = record {
  whole = take-append-le count so_far later full ∙ sym (take-append-le count so_far rest full) ∙ g.whole;
  few = g.few;
}

pub Gathers-end : (count : ℕ) (all so_far rest : List ℕ) → rest ≡ [] → Gathers count all so_far rest → so_far ≡ take count all
Gathers-end count all so_far rest none g = sym (take_all count so_far g.few) ∙ ap (take count) (sym (append-nil so_far) ∙ ap (λ (ns : List ℕ). so_far ++ ns) (sym none)) ∙ g.whole

-- If fewer records were found than are wanted, fewer are free.
pub fewer_free : (count : ℕ) (all found : List ℕ) → found ≡ take count all → length found < count → length all < count
fewer_free count all found is few = elim (cases_lt (length all) count) [
  | inl less ↦ less
  | inr enough ↦ absurd (omega (arith, ap length is, length-take-le count all enough))
]

-- ---- each is the lowest free record from some record on

passed : (at : ℕ → Option (ℕ × ℕ)) (from : ℕ) (x : ℕ × ℕ) (ns : List ℕ) → from < TYPE_RECORDS → at from ≡ Some x → AreFreeRecords at (from + 1) ns → AreFreeRecords at from ns
passed at from x [] below used are = tt
passed at from x (n ∷ ns) below used are = (first_free_used at from TYPE_RECORDS x below used ∙ are.0, are.1)

free_in_turn : (at : ℕ → Option (ℕ × ℕ)) (count from left : ℕ) → from + left ≡ TYPE_RECORDS → AreFreeRecords at from (take count (free_places at from left))
unfolding free_places
free_in_turn at zero from left is = tt
free_in_turn at (suc count) from zero is = tt
free_in_turn at (suc count) from (suc left) is = by_record (at from) refl (free_in_turn at count (from + 1) left (omega arith)) (free_in_turn at (suc count) (from + 1) left (omega arith))
  where
    by_record : (o : Option (ℕ × ℕ)) → at from ≡ o → AreFreeRecords at (from + 1) (take count (free_places at (from + 1) left)) → AreFreeRecords at (from + 1) (take (suc count) (free_places at (from + 1) left))
        → AreFreeRecords at from (take (suc count) (cond (is_none o) (from ∷ free_places at (from + 1) left) (free_places at (from + 1) left)))
    by_record None free rest later = (first_free_here at from TYPE_RECORDS (omega arith) free, rest)
    by_record (Some x) used rest later = passed at from x (take (suc count) (free_places at (from + 1) left)) (omega arith) used later

pub AreFreeRecords-lowest : (at : ℕ → Option (ℕ × ℕ)) (count : ℕ) → AreFreeRecords at 0 (take count (free_places at 0 TYPE_RECORDS))
AreFreeRecords-lowest at count = free_in_turn at count 0 TYPE_RECORDS (omega arith)
