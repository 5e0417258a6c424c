-- The types that live slots have are those that the graph's objects have.
use Rattle.std.proofs.Common.{◌≡◌, ℕ, Bool, true, false, not, ◌&&◌, ◌||◌, cond, eqb, List, [], ◌∷◌, Option, Some, None, refl, sym, ap, ◌∙◌}
use Rattle.std.specs.List.{list_any, filter_map, range_with_len, cons_option}
use Rattle.std.specs.Ordering.{nat_cmp}
use Rattle.std.specs.FinMap.Entries.{where_key}
use Rattle.pud_defs.specs.declared.space.TheConstants.{SLOT_TYPE_WORD}
use Rattle.pud_defs.specs.PoolGraphs.ExportFile.{is_type_used, types_used}
use Rattle.pud_defs.specs.PoolGraphs.Graph.{Graph, graph_of}
use Rattle.pud_defs.specs.PoolGraphs.Stored.{Stored, places_of, place_word, place_serial}
use Rattle.graph_laws.specs.Slots.{is_of_type}
use Rattle.graph_laws.proofs.SameReads.UsedTypes.{is_type_used-scanned}
use Rattle.pud_export.specs.Exporting.{live_type, live_types, is_among, types_among}

-- there is something, and it passes the test
abbrev holds_there : {X : Type 0} → (X → Bool) → Option X → Bool
holds_there test None = false
holds_there test (Some x) = test x

any_in_front : {X : Type 0} (test : X → Bool) (o : Option X) (xs : List X) → list_any test (cons_option o xs) ≡ (holds_there test o || list_any test xs)
any_in_front test None xs = refl
any_in_front test (Some x) xs = refl

any-filter_map : {X : Type 0} (test : X → Bool) (h : ℕ → Option X) (ns : List ℕ) → list_any test (filter_map h ns) ≡ list_any (λ n. holds_there test (h n)) ns
any-filter_map test h [] = refl
any-filter_map test h (n ∷ ns) = any_in_front test (h n) (filter_map h ns) ∙ ap (λ b. holds_there test (h n) || b) (any-filter_map test h ns)

among_there : (st : Stored) (id p : ℕ) → holds_there (λ other. eqb other id) (live_type st p) ≡ is_of_type st id p
among_there st id p =
    elim (eqb (place_serial st p) 0)
    as (λ b. holds_there (λ other. eqb other id) (cond b None (Some (place_word st p SLOT_TYPE_WORD))) ≡ (not b && eqb (place_word st p SLOT_TYPE_WORD) id)) [ true ↦ refl | false ↦ refl ]

module _ (types : List (ℕ × ℕ)) (st : Stored) (g : Graph) (is : graph_of types st ≡ Some g) where
  among_live : (id : ℕ) → is_among id (live_types st) ≡ is_type_used id g
  among_live id =
      let each : (λ p. holds_there (λ other. eqb other id) (live_type st p)) ≡ is_of_type st id = λ i p. among_there st id p i in
      any-filter_map (λ other. eqb other id) (live_type st) (range_with_len 0 (places_of st))
      ∙ ap (λ test. list_any test (range_with_len 0 (places_of st))) each
      ∙ sym (is_type_used-scanned types st g id is)

  pub types_among-live : types_among types (live_types st) ≡ types_used types g
  types_among-live =
      let each : (λ id. is_among id (live_types st)) ≡ (λ id. is_type_used id g) = λ i id. among_live id i in
      ap (λ test. where_key nat_cmp test types) each
