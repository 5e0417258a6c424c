-- The types of a graph's objects: they are the types of live places, and with them alone what is stored has the same
-- graph.
use Rattle.std.proofs.Common.{◌≡◌, ℕ, ◌<◌, ◌≤◌, Bool, true, false, not, ◌&&◌, cond, eqb, List, length, get_or, T, Some, None, nat_cmp, refl, sym, ap, ◌∙◌, subst, arith, eq-eqb, ne_eqb}
use Rattle.std.specs.List.{list_any, list_all, range_with_len}
use Rattle.std.specs.FinMap.Entries.{is_sorted, find-where_key, is_sorted-where_key}
use Rattle.std.proofs.lemmas.Bool.{cond-true, and_parts, and_from, not_from_false}
use Rattle.std.proofs.lemmas.Cmp.{nat_cmp_total}
use Rattle.std.proofs.lemmas.List.Elements.{All-filter, filter_passes}
use Rattle.std.proofs.lemmas.List.Sums.{AllPass-from_list_all, list_all-from_AllPass, length-filter, count_by-le-length}
use Rattle.std.proofs.lemmas.List.Folds.{list_any_at}
use Rattle.std.proofs.lemmas.List.FromFn.{length-range_with_len, get_or-range_with_len}
use Rattle.pud_defs.specs.declared.space.TheConstants.{SLOT_TYPE_WORD}
use Rattle.pud_defs.specs.RegistryTables.Types.{map_of, is_sound_type}
use Rattle.pud_defs.specs.PoolGraphs.Stored.{Stored, places_of, place_word, place_serial, IsLivePlace}
use Rattle.pud_defs.specs.PoolGraphs.Graph.{Object, Graph, table_of, live, object_at, graph_of}
use Rattle.pud_defs.specs.PoolGraphs.ExportFile.{is_type_used, types_used, are_file_types}
use Rattle.pud_defs.proofs.RegistryTables.TypeLists.{same_number, true_when}
use Rattle.pud_defs.proofs.PoolGraphs.TypeMore.{graph_of-wider}
use Rattle.pud_defs.proofs.KeyedTables.KeyedEach.{passes_there, any-keyed}
use Rattle.pud_defs.proofs.PoolGraphs.Graphs.{graph_of-each, distinct_live}
use Rattle.graph_laws.specs.Slots.{is_of_type}

-- ---- by places

-- The object of the entry has the type.
abbrev has_type : (id : ℕ) → ℕ × Object → Bool
has_type id e = eqb e.1.type_id id

there_of_type : (types : List (ℕ × ℕ)) (st : Stored) (id p : ℕ) → passes_there (has_type id) (live (table_of types st) p) ≡ is_of_type st id p
there_of_type types st id p =
    elim (eqb (place_serial st p) 0)
    as (λ b. passes_there (has_type id) (cond (not b) (Some (place_serial st p, object_at (table_of types st) p)) None) ≡ (not b && eqb (place_word st p SLOT_TYPE_WORD) id)) [ true ↦ refl | false ↦ refl ]

-- A type is used exactly if some place has an object of it.
pub is_type_used-scanned : (types : List (ℕ × ℕ)) (st : Stored) (g : Graph) (id : ℕ) → graph_of types st ≡ Some g → is_type_used id g ≡ list_any (is_of_type st id) (range_with_len 0 (places_of st))
unfolding is_type_used
is_type_used-scanned types st g id is =
    let h = graph_of-each types st g is in
    let t = table_of types st in
    let n = places_of st in
    let each : (λ p. passes_there (has_type id) (live t p)) ≡ is_of_type st id = λ i p. there_of_type types st id p i in
    ap (λ (x : Graph). list_any (has_type id) x.objects) (sym h.is)
    ∙ any-keyed nat_cmp (has_type id) nat_cmp_total (live t) 0 n (distinct_live t n h.graph.distinct)
    ∙ ap (λ test. list_any test (range_with_len 0 n)) each

-- The type of a live place is used.
pub is_type_used-live : (types : List (ℕ × ℕ)) (st : Stored) (g : Graph) (p : ℕ) → graph_of types st ≡ Some g → p < places_of st → IsLivePlace st p → is_type_used (place_word st p SLOT_TYPE_WORD) g ≡ true
is_type_used-live types st g p is within used =
    let id = place_word st p SLOT_TYPE_WORD in
    let places = range_with_len 0 (places_of st) in
    let low : p < length places = omega (arith, length-range_with_len 0 (places_of st)) in
    let here : get_or places p 0 ≡ p = omega (arith, get_or-range_with_len 0 (places_of st) p 0 within) in
    is_type_used-scanned types st g id is
    ∙ list_any_at (is_of_type st id) places p 0 low
    (ap (is_of_type st id) here ∙ and_from _ _ (not_from_false _ (ne_eqb _ 0 used)) (eq-eqb id id refl))

-- ---- the list of the used types

module _ (types : List (ℕ × ℕ)) (g : Graph) where
  abbrev used : List (ℕ × ℕ)
  used = types_used types g

  abbrev is_used : ℕ × ℕ → Bool
  is_used t = is_type_used t.0 g

  map_of-used : (id : ℕ) → is_type_used id g ≡ true → map_of id used ≡ map_of id types
  map_of-used id there =
      find-where_key nat_cmp (λ k. is_type_used k g) id (λ k same. ap (λ j. is_type_used j g) (sym (same_number id k same))) types ∙ cond-true _ _ _ there

  -- The used types define for each live place what all types define for it.
  pub map_of-live : (st : Stored) (p : ℕ) → graph_of types st ≡ Some g → p < places_of st → IsLivePlace st p → map_of (place_word st p SLOT_TYPE_WORD) used ≡ map_of (place_word st p SLOT_TYPE_WORD) types
  map_of-live st p is within live = map_of-used (place_word st p SLOT_TYPE_WORD) (is_type_used-live types st g p is within live)

  -- With the used types alone the graph is the same.
  pub graph_of-used : (st : Stored) → graph_of types st ≡ Some g → graph_of used st ≡ Some g
  graph_of-used st is = graph_of-wider types used st g (record { each = λ p m below live there. map_of-live st p is below live ∙ there }) is

  -- There are no more used types than types.
  pub length-types_used : length used ≤ length types
  length-types_used = omega (arith, length-filter is_used types, count_by-le-length is_used types)

  -- Each of them is used.
  pub types_used-all : list_all is_used used ≡ true
  types_used-all = list_all-from_AllPass is_used used (filter_passes is_used types)

  -- If all types are legal in a file, so are the used ones.
  pub types_used-legal : are_file_types types ≡ true → are_file_types used ≡ true
  types_used-legal legal =
      let sound = λ (t : ℕ × ℕ). is_sound_type (Some t) in
      let parts = and_parts (list_all sound types) (is_sorted nat_cmp types) legal in
      and_from _ _
      (list_all-from_AllPass sound used (All-filter is_used (λ t. sound t ≡ true) types (AllPass-from_list_all sound types parts.0)))
      (true_when _ (is_sorted-where_key nat_cmp (λ k. is_type_used k g) types (subst T (sym parts.1) tt)))
