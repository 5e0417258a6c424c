-- A write of a range of one word is the write of that word.
use Rattle.std.proofs.Common.{◌≡◌, inl, inr, ℕ, suc, ◌-◌, [], ◌∷◌, sym, ap, ◌∙◌, arith}
use Rattle.std.specs.Prelude.{slice_get}
use Rattle.std.proofs.lemmas.Bool.{cases_eq, cases_lt, cond-true, cond-false, eq-eqb, ne_eqb, le-leb, lt-leb}
use Rattle.pm_model.specs.Changes.{only, placed}

module _ (w v : ℕ) where
  single_at : (k : ℕ) → placed w (v ∷ []) k ≡ only w v k
  single_at k = elim (cases_eq k w) [
    | inl here ↦
        let first : k - w ≡ 0 = omega arith in
        cond-true _ _ _ (le-leb w k (omega arith)) ∙ ap (slice_get (v ∷ [])) first ∙ sym (cond-true _ _ _ (eq-eqb k w here))
    | inr other ↦ elim (cases_lt k w) [
      | inl below ↦ cond-false _ _ _ (lt-leb w k below) ∙ sym (cond-false _ _ _ (ne_eqb k w other))
      | inr above ↦
          let following : k - w ≡ suc (k - w - 1) = omega arith in
          cond-true _ _ _ (le-leb w k (omega arith)) ∙ ap (slice_get (v ∷ [])) following ∙ sym (cond-false _ _ _ (ne_eqb k w other))
    ]
  ]

  pub placed-single : placed w (v ∷ []) ≡ only w v
  placed-single = λ i k. single_at k i
