-- Words that are 0, one by one.
use Rattle.std.proofs.Common.{◌≡◌, ◌≢◌, ℕ, ◌+◌, ◌-◌, ◌<◌, ◌≤◌, true, false, eqb, sym, ap, ◌∙◌, arith, eq-eqb, ne_eqb}
use Rattle.pud_defs.specs.RegistryTables.Spaces.{all_below}
use Rattle.pud_defs.specs.PoolGraphs.ExportFile.{is_zero}
use Rattle.pud_defs.proofs.RegistryTables.Spaces.{all_below-same, all_below-from, all_below-each, all_below-fails, all_below-more, all_below-none}

module _ (word : ℕ → ℕ) (from : ℕ) where
  there : (k : ℕ) → from ≤ k → word (from + (k - from)) ≡ word k
  there k high = let e : from + (k - from) ≡ k = omega arith in ap word e

  pub is_zero-start : is_zero word from from ≡ true
  is_zero-start = let e : from - from ≡ 0 = omega arith in ap (λ n. all_below n (λ i. eqb (word (from + i)) 0)) e ∙ all_below-none (λ i. eqb (word (from + i)) 0)

  pub is_zero-more : (k : ℕ) → from ≤ k → is_zero word from k ≡ true → word k ≡ 0 → is_zero word from (k + 1) ≡ true
  is_zero-more k high all here =
      let e : k + 1 - from ≡ k - from + 1 = omega arith in
      ap (λ n. all_below n (λ i. eqb (word (from + i)) 0)) e ∙ all_below-more (k - from) (λ i. eqb (word (from + i)) 0) all (eq-eqb _ 0 (there k high ∙ here))

  pub is_zero-fails : (k end : ℕ) → from ≤ k → k < end → word k ≢ 0 → is_zero word from end ≡ false
  is_zero-fails k end high below other = all_below-fails (end - from) (k - from) (λ i. eqb (word (from + i)) 0) (omega arith) (ne_eqb _ 0 (λ e. other (sym (there k high) ∙ e)))

  pub is_zero-end : (k end : ℕ) → end ≤ k → is_zero word from k ≡ true → is_zero word from end ≡ true
  is_zero-end k end past all = all_below-from (end - from) (λ i. eqb (word (from + i)) 0) (λ i below. all_below-each (k - from) (λ i. eqb (word (from + i)) 0) all i (omega arith))

-- words that are counted from a later word on
pub is_zero-shifted : (word : ℕ → ℕ) (begins from end : ℕ) → is_zero word (begins + from) (begins + end) ≡ is_zero (λ k. word (begins + k)) from end
is_zero-shifted word begins from end =
    let count : begins + end - (begins + from) ≡ end - from = omega arith in
    let each : (k : ℕ) → begins + from + k ≡ begins + (from + k) = λ k. omega arith in
    ap (λ n. all_below n (λ i. eqb (word (begins + from + i)) 0)) count
    ∙ all_below-same (end - from) (λ i. eqb (word (begins + from + i)) 0) (λ i. eqb (word (begins + (from + i))) 0) (λ k below. ap (λ j. eqb (word j) 0) (each k))
