-- A test of each place of a pool, puddle by puddle.
use Rattle.std.proofs.Common.{◌≡◌, ⊎_elim, ℕ, ◌+◌, ◌-◌, ◌<◌, ◌≤◌, Bool, true, false, sym, ap, ◌∙◌, arith, true≢false}
use Rattle.std.proofs.lemmas.Bool.{cases_lt, false_from_ne_true}
use Rattle.pud_defs.specs.declared.space.TheConstants.{MAX_SLOTS}
use Rattle.pud_defs.specs.Formats.Geometry.{place_at, places_among}
use Rattle.pud_defs.specs.RegistryTables.Spaces.{all_below}
use Rattle.pud_defs.proofs.RegistryTables.Spaces.{all_below-from, all_below-each}

module _ (test : ℕ → Bool) (o : ℕ) where
  abbrev at_slot : ℕ → Bool
  at_slot s = test (place_at o s)

  -- the places of a puddle pass if its slots do, and the places that are none
  pub all_of_puddle : (count n : ℕ) → count ≤ n → all_below n at_slot ≡ true → ((s : ℕ) → count ≤ s → s < MAX_SLOTS → at_slot s ≡ true) → all_below MAX_SLOTS at_slot ≡ true
  all_of_puddle count n past all rest =
      all_below-from MAX_SLOTS at_slot (λ s below. ⊎_elim (λ low. all_below-each n at_slot all s low) (λ high. rest s (omega arith) below) (cases_lt s n))

  -- the places of one more puddle
  pub all_places-more : all_below (places_among o) test ≡ true → all_below MAX_SLOTS at_slot ≡ true → all_below (places_among (o + 1)) test ≡ true
  all_places-more before here =
      all_below-from (places_among (o + 1)) test (λ p below. ⊎_elim
      (λ low. all_below-each (places_among o) test before p low)
      (λ high.
      let s = p - places_among o in
      let at : place_at o s ≡ p = omega arith in
      ap test (sym at) ∙ all_below-each MAX_SLOTS at_slot here s (omega arith))
      (cases_lt p (places_among o)))

  -- if one of a puddle fails, not all pass
  pub all_places-fails : (n : ℕ) → o < n → all_below MAX_SLOTS at_slot ≡ false → all_below (places_among n) test ≡ false
  all_places-fails n below fails =
      false_from_ne_true (all_below (places_among n) test)
      (λ all. true≢false (sym (all_below-from MAX_SLOTS at_slot (λ s low. all_below-each (places_among n) test all (place_at o s) (omega arith))) ∙ fails))
