-- The totals of a graph's objects.
use Rattle.std.proofs.Common.{◌≡◌, ℕ, ◌%◌, ◌^◌, Bool, List, length, Option, Some, None, is_some, option_map, refl, sym, ap, ap₂, ◌∙◌}
use Rattle.std.specs.Bool.{then_some}
use Rattle.pud_defs.specs.PoolGraphs.Graph.{Graph, under_serial, table_of, graph_of}
use Rattle.pud_defs.specs.RegistryTables.Keyed.{count_used}
use Rattle.pud_defs.specs.PoolGraphs.Stored.{Stored, places_of}
use Rattle.pud_defs.proofs.PoolGraphs.Graphs.{graph_of-each, length-live}
use Rattle.graph_read.specs.declared.judge.Totals.{Totals}
use Rattle.graph_read.specs.Checking.{serials_in, with_serials}
use Rattle.graph_read.specs.Numbers.{numbers_below, totals_of}
use Rattle.graph_read.proofs.Numbers.{number_sum-places}

abbrev totals : (objects sum : ℕ) → Totals
totals objects sum = record { objects = objects; sum = sum }

-- What was read of a pool gives the totals of its graph.
pub totals_counted : (types : List (ℕ × ℕ)) (st : Stored) (serial : ℕ → ℕ) (sound : Bool) (count sum : ℕ) → serial ≡ serials_in st → sound ≡ is_some (graph_of types st) → count ≡ count_used (under_serial serial (λ p. p)) 0 (places_of st)
    → sum ≡ numbers_below (with_serials serial (table_of types st)) (places_of st) % 2 ^ 64 → then_some sound (totals count sum) ≡ option_map totals_of (graph_of types st)
totals_counted types st serial sound count sum is_serial is_sound is_count is_sum = by_graph (graph_of types st) refl
  where
    by_graph : (o : Option Graph) → graph_of types st ≡ o → then_some sound (totals count sum) ≡ option_map totals_of o
    by_graph None none = ap (λ b. then_some b (totals count sum)) (is_sound ∙ ap is_some none)
    by_graph (Some g) some =
        let h = graph_of-each types st g some in
        ap (λ b. then_some b (totals count sum)) (is_sound ∙ ap is_some some)
        ∙ ap₂ (λ (n m : ℕ). Some (totals n m))
        (is_count ∙ ap (λ (s : ℕ → ℕ). count_used (under_serial s (λ p. p)) 0 (places_of st)) is_serial
        ∙ sym (length-live (table_of types st) (places_of st) h.graph.distinct) ∙ ap (λ (g : Graph). length g.objects) h.is)
        (is_sum ∙ ap (λ (s : ℕ → ℕ). numbers_below (with_serials s (table_of types st)) (places_of st) % 2 ^ 64) is_serial ∙ number_sum-places types st g some)
