-- Bases that are legal in a file belong to ranges that do not overlap.
use Rattle.std.proofs.Common.{◌≡◌, ℕ, ◌<◌, ◌%◌, true, List, map, length, Some, option_map, nat_cmp, sym, ap, ◌∙◌, ⊎_elim, arith, eq-eqb}
use Rattle.std.specs.Prelude.{slice_get}
use Rattle.std.specs.List.{list_all}
use Rattle.std.proofs.lemmas.Bool.{and_parts, cases_order, both_ways}
use Rattle.std.proofs.lemmas.List.Elements.{All-get_or}
use Rattle.std.proofs.lemmas.List.Sums.{AllPass-from_list_all}
use Rattle.std.proofs.lemmas.Option.{slice_get-map, slice_get_within, get_or_from_slice_get}
use Rattle.pud_defs.specs.declared.space.TheConstants.{RANGE_BYTES}
use Rattle.pud_defs.specs.declared.records.Puddle.{Puddle}
use Rattle.pud_defs.specs.Formats.Bases.{is_legal_base}
use Rattle.pud_defs.specs.RegistryTables.Keyed.{under}
use Rattle.pud_defs.specs.PoolGraphs.ExportFile.{under_base, are_file_bases}
use Rattle.pud_defs.proofs.RegistryTables.TypeLists.{same_test}
use Rattle.pud_defs.proofs.KeyedTables.Keyed.{IsMapped, option_map_parts, HasDistinctKeys, distinct_keys, under_none}
use Rattle.pud_defs.proofs.RegistryTables.PoolMembers.{multiple_of_legal}
use Rattle.graph_laws.specs.Changes.{AreBases}

module _ (puddles : List Puddle) (legal : are_file_bases puddles ≡ true) where
  -- Each base of the list is the base of a puddle.
  there : (i base : ℕ) → slice_get (map (λ (d : Puddle). d.base) puddles) i ≡ Some base → IsMapped (λ (d : Puddle). d.base) (slice_get puddles i) base
  there i base is = option_map_parts (λ (d : Puddle). d.base) (slice_get puddles i) base (sym (slice_get-map (λ (d : Puddle). d.base) puddles i) ∙ is)

  pub legal_base : (i : ℕ) (d : Puddle) → slice_get puddles i ≡ Some d → is_legal_base d.base ≡ true
  legal_base i d here =
      let all = AllPass-from_list_all (λ (e : Puddle). is_legal_base e.base) puddles (and_parts _ _ legal).0 in
      ap (λ (e : Puddle). is_legal_base e.base) (sym (get_or_from_slice_get puddles i d d here))
      ∙ All-get_or (λ (e : Puddle). is_legal_base e.base ≡ true) puddles i d (slice_get_within puddles i d here) all

  distinct : HasDistinctKeys nat_cmp (under_base puddles) 0 (length puddles)
  distinct = distinct_keys nat_cmp (under_base puddles) 0 (length puddles) (and_parts (list_all (λ (e : Puddle). is_legal_base e.base) puddles) _ legal).1

  under_its_base : (o : ℕ) (d : Puddle) → slice_get puddles o ≡ Some d → under_base puddles o ≡ Some (d.base, o)
  under_its_base o d here = ap (option_map {U = ℕ × ℕ} (λ (e : Puddle). (e.base, o))) here

  later_apart : (i j : ℕ) (d e : Puddle) → i < j → slice_get puddles i ≡ Some d → slice_get puddles j ≡ Some e → d.base ≡ e.base → ⊥
  later_apart i j d e less first second same =
      let within = slice_get_within puddles j e second in
      let none = distinct.apart i j (omega arith) less (omega arith) (d.base, i) (under_its_base i d first) in
      let apart = under_none nat_cmp d.base (e.base, j) (sym (ap (under nat_cmp d.base) (under_its_base j e second)) ∙ none) in
      both_ways _ (sym (same_test d.base e.base) ∙ apart) (eq-eqb d.base e.base same)

  pub are_bases : AreBases (map (λ d. d.base) puddles)
  are_bases = record {
    multiples = λ i base is. let d = there i base is in ap (λ b. b % RANGE_BYTES) (sym d.gives) ∙ multiple_of_legal d.value.base (legal_base i d.value d.is);
    distinct = λ i j base first second.
        let d = there i base first in
        let e = there j base second in
        ⊎_elim
        (λ same. same)
        (⊎_elim
        (λ less. absurd (later_apart i j d.value e.value less d.is e.is (d.gives ∙ sym e.gives)))
        (λ more. absurd (later_apart j i e.value d.value more e.is d.is (e.gives ∙ sym d.gives))))
        (cases_order i j);
  }
