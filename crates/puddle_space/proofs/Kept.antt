-- Which ranges are still free after marks, one after the other.
use Rattle.std.proofs.Common.{◌≡◌, ℕ, ◌+◌, ◌<◌, ◌≤◌, Bool, true, false, not, ◌&&◌, List, [], ◌∷◌, length, get_or, set, eqb, refl, sym, ap, ◌∙◌, ⊎_elim, arith, eq-eqb, ne_eqb, get_or-set_same, get_or-set_other, subst, lt-ltb, add-one}
use Rattle.std.proofs.Math.Bool.{and-true, and_assoc}
use Rattle.std.proofs.lemmas.Bool.{cases_eq, and_right}
use Rattle.std.proofs.lemmas.List.Sums.{sum_by-set}
use Rattle.std.specs.Prelude.{cond, nat_lt, Some, None, IsSome}
use Rattle.std.specs.List.{position, position_or_len}
use Rattle.pud_defs.specs.Formats.Bases.{base_at}
use Rattle.pud_defs.specs.RegistryTables.Spaces.{all_below}
use Rattle.puddle_space.specs.declared.bases.TheConstants.{TRIED}
use Rattle.puddle_space.specs.FreeRanges.{free_count, is_free, IsRange, LeavesFree}

-- If every base passes the test, no range needs a mark.
pub LeavesFree-all : (test : ℕ → Bool) (free : List Bool) → ((k : ℕ) → k < TRIED → test (base_at k) ≡ true) → LeavesFree test free free
LeavesFree-all test free all = record { each = λ k tried. sym (ap (λ b. is_free free k && b) (all k tried) ∙ and-true (is_free free k)) }

-- Marks by one test and then by another are the marks by both tests.
pub LeavesFree-then : (p q r : ℕ → Bool) (old middle new : List Bool) → LeavesFree p old middle → LeavesFree q middle new
    → ((k : ℕ) → k < TRIED → r (base_at k) ≡ (p (base_at k) && q (base_at k))) → LeavesFree r old new
LeavesFree-then p q r old middle new first second join = record {
  each = λ k tried.
      second.each k tried ∙ ap (λ b. b && q (base_at k)) (first.each k tried) ∙ and_assoc (is_free old k) (p (base_at k)) (q (base_at k))
      ∙ ap (λ b. is_free old k && b) (sym (join k tried));
}

-- If one range is marked, it is not free, and each other range stays as it was.
pub LeavesFree-one : (base k : ℕ) (free : List Bool) → IsRange base k → k < length free → LeavesFree (λ other. not (eqb base other)) free (set free k false)
LeavesFree-one base k free range within = record {
  each = λ j tried. ⊎_elim
      (λ here.
      let same : eqb base (base_at j) ≡ true = eq-eqb base (base_at j) (range.is ∙ ap base_at (sym here)) in
      ap (λ i. get_or (set free k false) i false) here ∙ get_or-set_same free k false false within
      ∙ sym (and_right (is_free free j) (not (eqb base (base_at j))) (ap not same)))
      (λ apart.
      let other : eqb base (base_at j) ≡ false = ne_eqb base (base_at j) (λ e. let at : base ≡ base_at k = range.is in apart (omega arith)) in
      get_or-set_other free k j false false apart
      ∙ sym (ap (λ b. is_free free j && not b) other ∙ and-true (is_free free j)))
      (cases_eq j k);
}

-- A mark takes away at most one free range.
pub one_less : (free : List Bool) (k : ℕ) → k < length free → free_count free ≤ free_count (set free k false) + 1
one_less free k within =
    let counted = sum_by-set (λ b. cond b 1 0) free k false false within in
    let most : cond (get_or free k false) 1 0 ≤ 1 = at_most_one (get_or free k false) in
    omega arith
  where
    at_most_one : (b : Bool) → cond b 1 0 ≤ 1
    at_most_one true = omega arith
    at_most_one false = omega arith

-- If some range is free, there is a first free one.
found_free : (free : List Bool) → 1 ≤ free_count free → position_or_len (λ b. b) free < length free
found_free [] some = absurd (omega arith)
found_free (true ∷ rest) some = omega arith
found_free (false ∷ rest) some = let later = found_free rest (omega arith) in omega arith

pub found_position : (free : List Bool) → 1 ≤ free_count free → IsSome (position (λ b. b) free)
found_position free some =
    let within : nat_lt (position_or_len (λ b. b) free) (length free) ≡ true = lt-ltb _ _ (found_free free some) in
    let P : Bool → Type 0 = λ b. IsSome (cond b (Some (position_or_len (λ b. b) free)) None) in
    subst P (sym within) refl

-- One more record is tested.
pub all_below-step : (n : ℕ) (test : ℕ → Bool) → all_below (n + 1) test ≡ (all_below n test && test n)
unfolding all_below
all_below-step n test = ap (λ k. all_below k test) (add-one n)
