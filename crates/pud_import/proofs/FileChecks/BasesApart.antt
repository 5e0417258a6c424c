-- Bases that are told apart, from the first one on.
use Rattle.std.proofs.Common.{◌≡◌, ℕ, zero, suc, ◌+◌, ◌-◌, ◌<◌, Bool, true, false, not, eqb, List, map, length, get_or, take, drop, Option, Some, is_some, option_map, nat_cmp, sym, ap, ap₂, ◌∙◌, ◌&&◌, ◌||◌, arith, add-one, drop-cons}
use Rattle.std.specs.List.{list_all, list_any}
use Rattle.std.proofs.lemmas.List.{take_all, drop_all, length-drop, length-map}
use Rattle.std.proofs.lemmas.List.Folds.{list_all-map}
use Rattle.std.proofs.lemmas.Option.{slice_get-map, slice_get-get_or}
use Rattle.pud_defs.specs.declared.records.Puddle.{Puddle}
use Rattle.pud_defs.specs.Formats.Bases.{is_legal_base}
use Rattle.pud_defs.specs.RegistryTables.Keyed.{first_from, under, is_apart, are_distinct}
use Rattle.pud_defs.specs.PoolGraphs.ExportFile.{under_base, are_file_bases}
use Rattle.graph_read.proofs.Pointed.{no_puddle}
use Rattle.pud_defs.proofs.KeyedTables.DistinctKeys.{some_or, none_by_some, some_under, eqb_turned}
use Rattle.pud_defs.proofs.KeyedTables.Keyed.{are_distinct-step}

module _ (at : List (ℕ × Puddle)) where
  abbrev by_base : ℕ → Option (ℕ × ℕ)
  by_base = under_base (map (λ e. e.1) at)

  abbrev entry : ℕ → ℕ × Puddle
  entry o = get_or at o no_puddle

  based : (o : ℕ) → o < length at → by_base o ≡ Some ((entry o).1.base, o)
  based o below =
      ap (option_map {U = ℕ × ℕ} (λ (d : Puddle). (d.base, o))) (slice_get-map (λ (e : ℕ × Puddle). e.1) at o ∙ ap (option_map (λ (e : ℕ × Puddle). e.1)) (slice_get-get_or at o no_puddle below))

  -- whether a base is one of those from an ordinal on
  listed : (base from n : ℕ) → from + n ≡ length at → list_any (λ e. eqb e.1.base base) (drop from at) ≡ is_some (first_from nat_cmp base by_base from n)
  unfolding first_from
  listed base from zero whole = ap (list_any (λ e. eqb e.1.base base)) (drop_all from at (omega arith))
  listed base from (suc n) whole =
      let below : from < length at = omega arith in
      ap (list_any (λ e. eqb e.1.base base)) (drop-cons at from no_puddle below)
      ∙ ap₂ (λ (a b : Bool). a || b)
      (eqb_turned (entry from).1.base base ∙ sym (some_under base (entry from).1.base from) ∙ ap (λ e. is_some (under nat_cmp base e)) (sym (based from below)))
      (ap (λ k. list_any (λ e. eqb e.1.base base) (drop k at)) (sym (add-one from)) ∙ listed base (from + 1) n (omega arith))
      ∙ sym (some_or (under nat_cmp base (by_base from)) (first_from nat_cmp base by_base (from + 1) n))

  -- whether the base of an ordinal is none of the later ones
  is_apart-base : (o : ℕ) (found : Bool) → o < length at → found ≡ list_any (λ e. eqb e.1.base (entry o).1.base) (drop (o + 1) at) → is_apart nat_cmp (by_base o) by_base (o + 1) (length at - (o + 1)) ≡ not found
  is_apart-base o found below is =
      ap (λ e. is_apart nat_cmp e by_base (o + 1) (length at - (o + 1))) (based o below)
      ∙ none_by_some (first_from nat_cmp (entry o).1.base by_base (o + 1) (length at - (o + 1)))
      ∙ ap not (sym (listed (entry o).1.base (o + 1) (length at - (o + 1)) (omega arith)) ∙ sym is)

  module _ (o : ℕ) (found : Bool) (below : o < length at) (is : found ≡ list_any (λ e. eqb e.1.base (entry o).1.base) (take (length at - (o + 1)) (drop (o + 1) at))) where
    following : take (length at - (o + 1)) (drop (o + 1) at) ≡ drop (o + 1) at
    following = take_all (length at - (o + 1)) (drop (o + 1) at) (omega (arith, length-drop (o + 1) at))

    step : are_distinct nat_cmp by_base o (length at - o) ≡ (not found && are_distinct nat_cmp by_base (o + 1) (length at - (o + 1)))
    step = are_distinct-step nat_cmp by_base o (length at) below ∙ ap (λ b. b && are_distinct nat_cmp by_base (o + 1) (length at - (o + 1))) (is_apart-base o found below (is ∙ ap (list_any (λ e. eqb e.1.base (entry o).1.base)) following))

    pub are_distinct-more : found ≡ false → are_distinct nat_cmp by_base o (length at - o) ≡ are_distinct nat_cmp by_base (o + 1) (length at - (o + 1))
    are_distinct-more other = step ∙ ap (λ b. not b && are_distinct nat_cmp by_base (o + 1) (length at - (o + 1))) other

    pub are_distinct-fails : found ≡ true → are_distinct nat_cmp by_base o (length at - o) ≡ false
    are_distinct-fails there = step ∙ ap (λ b. not b && are_distinct nat_cmp by_base (o + 1) (length at - (o + 1))) there

  -- the two tests together are the definition's
  pub both_tests : (legal apart : Bool) → legal ≡ list_all (λ e. is_legal_base e.1.base) at → apart ≡ are_distinct nat_cmp by_base 0 (length at) → (legal && apart) ≡ are_file_bases (map (λ e. e.1) at)
  both_tests legal apart is_legal are_apart =
      ap₂ (λ (a b : Bool). a && b)
      (is_legal ∙ sym (list_all-map (λ (d : Puddle). is_legal_base d.base) (λ (e : ℕ × Puddle). e.1) at))
      (are_apart ∙ ap (are_distinct nat_cmp by_base 0) (sym (length-map at (λ (e : ℕ × Puddle). e.1))))
