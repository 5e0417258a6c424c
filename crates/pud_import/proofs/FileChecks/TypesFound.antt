-- The map of a type, looked up type by type.
use Rattle.std.proofs.Common.{◌≡◌, ℕ, ◌+◌, ◌<◌, ◌∷◌, Some, sym, ap, ◌∙◌, eq-eqb, ne_eqb}
use Rattle.std.proofs.lemmas.Bool.{cond-true, cond-false}
use Rattle.pud_defs.specs.RegistryTables.Types.{map_of}
use Rattle.pud_defs.proofs.RegistryTables.TypeLists.{same_test}
use Rattle.pud_import.proofs.FileChecks.Numbered.{from_number, from_number-more}

module _ (f : ℕ → ℕ × ℕ) (id i n : ℕ) (t : ℕ × ℕ) (below : i < n) (here : t ≡ f i) where
  in_front : map_of id (from_number f i n) ≡ map_of id (t ∷ from_number f (i + 1) n)
  in_front = ap (map_of id) (from_number-more f i n below ∙ ap (λ x. x ∷ from_number f (i + 1) n) (sym here))

  pub map_of-here : id ≡ t.0 → map_of id (from_number f i n) ≡ Some t.1
  map_of-here is = in_front ∙ cond-true _ _ _ (same_test id t.0 ∙ eq-eqb _ _ is)

  pub map_of-other : (id ≡ t.0 → ⊥) → map_of id (from_number f i n) ≡ map_of id (from_number f (i + 1) n)
  map_of-other other = in_front ∙ cond-false _ _ _ (same_test id t.0 ∙ ne_eqb _ _ other)
