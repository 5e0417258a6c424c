-- The first number that passes a test: it is found step by step, and what this tells.
use Rattle.std.proofs.Common.{◌≡◌, inl, inr, ℕ, zero, suc, ◌+◌, ◌<◌, ◌≤◌, Bool, true, false, Some, None, refl, sym, ap, ◌∙◌, arith}
use Rattle.std.proofs.lemmas.Bool.{cases_Bool, cases_eq, cond-true, cond-false}
use Rattle.std.proofs.lemmas.Option.{none-some, same_Some}
use Rattle.log_space.specs.FreeLogs.{first_from}

pub first_from-passes : (k count : ℕ) (test : ℕ → Bool) → 0 < count → test k ≡ true → first_from k count test ≡ Some k
unfolding first_from
first_from-passes k zero test some passes = absurd (omega arith)
first_from-passes k (suc count) test some passes = cond-true _ _ _ passes

pub first_from-fails : (k count more : ℕ) (test : ℕ → Bool) → count ≡ more + 1 → test k ≡ false → first_from k count test ≡ first_from (k + 1) more test
unfolding first_from
first_from-fails k zero more test one_more fails = absurd (omega arith)
first_from-fails k (suc count) more test one_more fails = cond-false _ _ _ fails ∙ ap (λ (n : ℕ). first_from (k + 1) n test) (let e : count ≡ more = omega arith in e)

pub first_from-none : (k count : ℕ) (test : ℕ → Bool) → count ≡ 0 → first_from k count test ≡ None
unfolding first_from
first_from-none k zero test none = refl
first_from-none k (suc count) test none = absurd (omega arith)

-- ---- what is found

-- The number that is found passes.
pub first_from-found : (k count : ℕ) (test : ℕ → Bool) (n : ℕ) → first_from k count test ≡ Some n → test n ≡ true
unfolding first_from
first_from-found k zero test n is = absurd (none-some n is)
first_from-found k (suc count) test n is = elim (cases_Bool (test k)) [
  | inl passes ↦ ap test (sym (same_Some k n (sym (cond-true _ _ _ passes) ∙ is))) ∙ passes
  | inr fails ↦ first_from-found (k + 1) count test n (sym (cond-false _ _ _ fails) ∙ is)
]

-- If no number is found, each fails.
pub first_from-each : (k count : ℕ) (test : ℕ → Bool) → first_from k count test ≡ None → (n : ℕ) → k ≤ n → n < k + count → test n ≡ false
unfolding first_from
first_from-each k zero test none n low high = absurd (omega arith)
first_from-each k (suc count) test none n low high = elim (cases_Bool (test k)) [
  | inl passes ↦ absurd (none-some k (sym none ∙ cond-true _ _ _ passes))
  | inr fails ↦ elim (cases_eq n k) [
    | inl here ↦ ap test here ∙ fails
    | inr following ↦ first_from-each (k + 1) count test (sym (cond-false _ _ _ fails) ∙ none) n (omega arith) (omega arith)
  ]
]
