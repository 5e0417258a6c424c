-- One more type: what has a graph keeps it, and what has none is read again.
use Rattle.std.proofs.Common.{◌≡◌, ℕ, ◌<◌, true, List, Option, Some, None, nat_cmp, refl, sym, ap, ◌∙◌, ne_eqb}
use Rattle.std.specs.FinMap.Entries.{find-put}
use Rattle.std.proofs.lemmas.Bool.{cond-false}
use Rattle.std.proofs.lemmas.Cmp.{nat_cmp_total}
use Rattle.std.proofs.lemmas.Option.{none-some, cond_some}
use Rattle.pud_defs.specs.RegistryTables.Types.{map_of, with_type}
use Rattle.pud_defs.specs.PoolGraphs.Stored.{Stored, places_of, class_at, place_word, IsLivePlace}
use Rattle.pud_defs.specs.declared.space.TheConstants.{SLOT_TYPE_WORD, ROOT_WORD}
use Rattle.pud_defs.proofs.PoolGraphs.Contents.{pointee_at_within, contents_by_within}
use Rattle.pud_defs.specs.PoolGraphs.Graph.{Graph, fits_class, fitting, place_map, table_of, slot_contents, all_stand, graph_of, next_serial_of, root_of}
use Rattle.pud_defs.specs.PoolGraphs.Holdings.{held_as, held_by, read_again}
use Rattle.pud_defs.proofs.RegistryTables.TypeLists.{same_test}
use Rattle.pud_defs.proofs.PoolGraphs.Graphs.{IsGraph, IsSameTable, IsGraph-same, graph_by-same, graph_of-each, graph_of-from}

-- a type that was defined still has its map
pub map_of-more : (id map other m : ℕ) (types : List (ℕ × ℕ)) → map_of id types ≡ None → map_of other types ≡ Some m → map_of other (with_type id map types) ≡ map_of other types
map_of-more id map other m types none there =
    find-put nat_cmp nat_cmp_total other id map types ∙ cond-false _ _ _ (same_test other id ∙ ne_eqb other id (λ e. none-some m (sym none ∙ ap (λ k. map_of k types) (sym e) ∙ there)))

-- if all fields stand for something, the type is defined
pub defined_there : (serial : ℕ → ℕ) (st : Stored) (p : ℕ) (o : Option ℕ) → all_stand serial (slot_contents st p o) ≡ true → (m : ℕ) × (o ≡ Some m)
defined_there serial st p None stand = cc
defined_there serial st p (Some m) stand = (m, refl)

-- A map of a type of which an object has room is the map of the type.
pub fitting_some : (class : ℕ) (o : Option ℕ) (m : ℕ) → fitting class o ≡ Some m → o ≡ Some m
fitting_some class None m is = is
fitting_some class (Some x) m is = ap Some (cond_some (fits_class class x) x m is).1

-- The other types also define each type that an object has, with the same map.
pub record DefinesAll (types : List (ℕ × ℕ)) (st : Stored) (wider : List (ℕ × ℕ)) : Type 0 where
  pub each : (p m : ℕ) → p < places_of st → IsLivePlace st p → map_of (place_word st p SLOT_TYPE_WORD) types ≡ Some m → map_of (place_word st p SLOT_TYPE_WORD) wider ≡ Some m

table_of-wider : (types wider : List (ℕ × ℕ)) (st : Stored) (next : ℕ) → DefinesAll types st wider → IsGraph next (root_of st) (table_of types st) (places_of st) → IsSameTable (table_of types st) (table_of wider st) (places_of st)
table_of-wider types wider st next wide h = record {
  serial = λ p below. refl;
  class = λ p below live. refl;
  type_id = λ p below live. refl;
  contents = λ p below live.
      let t = table_of types st in
      let found = defined_there t.serial st p (place_map types st p) (h.sound p below live).stand in
      let whole = fitting_some (class_at st p) (map_of (t.type_id p) types) found.0 found.1 in
      ap (λ (o : Option ℕ). slot_contents st p (fitting (class_at st p) o)) (wide.each p found.0 below live whole ∙ sym whole);
  within = λ p below live. contents_by_within st p (place_map types st p);
}

-- what has a graph by some types has the same graph by any types that define those of its objects
pub graph_of-wider : (types wider : List (ℕ × ℕ)) (st : Stored) (g : Graph) → DefinesAll types st wider → graph_of types st ≡ Some g → graph_of wider st ≡ Some g
graph_of-wider types wider st g wide is =
    let h = graph_of-each types st g is in
    let top = pointee_at_within st.puddles 0 0 (st.word 0 ROOT_WORD) in
    let same = table_of-wider types wider st (next_serial_of st) wide h.graph in
    graph_of-from wider st g (record { headers = h.headers; graph = IsGraph-same _ _ _ same _ _ top h.graph; is = graph_by-same _ _ _ same _ _ top ∙ h.is })

module _ (id map : ℕ) (types : List (ℕ × ℕ)) (st : Stored) where
  abbrev more : List (ℕ × ℕ)
  more = with_type id map types

  pub graph_of-more : (g : Graph) → map_of id types ≡ None → graph_of types st ≡ Some g → graph_of more st ≡ Some g
  graph_of-more g none is = graph_of-wider types more st g (record { each = λ p m below live there. map_of-more id map (place_word st p SLOT_TYPE_WORD) m types none there ∙ there }) is

  held_more : (o : Option Graph) → map_of id types ≡ None → graph_of types st ≡ o → held_by more st ≡ read_again more (held_as st o)
  held_more None none is = refl
  held_more (Some g) none is = ap (held_as st) (graph_of-more g none is)

  pub held_by-more : map_of id types ≡ None → held_by more st ≡ read_again more (held_by types st)
  held_by-more none = held_more (graph_of types st) none refl

settled : (types : List (ℕ × ℕ)) (st : Stored) (o : Option Graph) → graph_of types st ≡ o → read_again types (held_as st o) ≡ held_as st o
settled types st None is = ap (held_as st) is
settled types st (Some g) is = refl

-- what was read by these types does not change if it is read by them again
pub held_by-settled : (types : List (ℕ × ℕ)) (st : Stored) → read_again types (held_by types st) ≡ held_by types st
held_by-settled types st = settled types st (graph_of types st) refl
