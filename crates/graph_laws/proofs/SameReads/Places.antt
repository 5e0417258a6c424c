-- The objects stand at the places of their serials.
use Rattle.std.proofs.Common.{◌≡◌, ℕ, List, map, Some, nat_cmp, option_map, sym, ap, ◌∙◌, ⊎_elim}
use Rattle.std.specs.FinMap.Entries.{find}
use Rattle.std.proofs.lemmas.Bool.{cases_eq}
use Rattle.std.proofs.lemmas.Cmp.{nat_cmp_total}
use Rattle.pud_defs.specs.RegistryTables.Keyed.{keyed}
use Rattle.pud_defs.specs.PoolGraphs.Stored.{Stored, places_of}
use Rattle.pud_defs.specs.PoolGraphs.Graph.{Table, table_of, serial_and_place, place_of_serial, live, object_at, object_in, Graph, graph_of}
use Rattle.pud_defs.proofs.KeyedTables.Keyed.{keyed-same, find-keyed}
use Rattle.pud_defs.proofs.KeyedTables.KeyedMaps.{of_entry, keyed-mapped, find-mapped}
use Rattle.pud_defs.proofs.PoolGraphs.Graphs.{under_serial-free, under_serial-used, graph_of-each}

module _ (t : Table) where
  live-placed : (p : ℕ) → live t p ≡ option_map (of_entry nat_cmp (object_at t)) (serial_and_place t p)
  live-placed p =
      let own = λ (q : ℕ). q in
      ⊎_elim
      (λ free. under_serial-free t.serial (object_at t) p free ∙ sym (ap (option_map (of_entry nat_cmp (object_at t))) (under_serial-free t.serial own p free)))
      (λ used. under_serial-used t.serial (object_at t) p used ∙ sym (ap (option_map (of_entry nat_cmp (object_at t))) (under_serial-used t.serial own p used)))
      (cases_eq (t.serial p) 0)

  -- The objects by their serials are the objects at the places of these serials.
  pub objects-placed : (n : ℕ) → keyed nat_cmp (live t) 0 n ≡ map (of_entry nat_cmp (object_at t)) (keyed nat_cmp (serial_and_place t) 0 n)
  objects-placed n =
      keyed-same nat_cmp (live t) (λ p. option_map (of_entry nat_cmp (object_at t)) (serial_and_place t p)) 0 n (λ p low high. live-placed p) ∙ keyed-mapped nat_cmp (object_at t) (serial_and_place t) 0 n

  -- What is found under a serial is the object at the serial's place.
  find-place : (n s : ℕ) → find nat_cmp s (keyed nat_cmp (live t) 0 n) ≡ option_map (object_at t) (place_of_serial s t n)
  find-place n s =
      ap (find nat_cmp s) (objects-placed n)
      ∙ find-mapped nat_cmp (object_at t) s (keyed nat_cmp (serial_and_place t) 0 n)
      ∙ ap (option_map (object_at t)) (find-keyed nat_cmp nat_cmp_total s (serial_and_place t) 0 n)

pub object_in-place : (types : List (ℕ × ℕ)) (st : Stored) (g : Graph) (s : ℕ) → graph_of types st ≡ Some g → object_in s g ≡ option_map (object_at (table_of types st)) (place_of_serial s (table_of types st) (places_of st))
object_in-place types st g s is = ap (object_in s) (sym (graph_of-each types st g is).is) ∙ find-place (table_of types st) (places_of st) s
