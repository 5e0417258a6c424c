use Rattle.std.proofs.Common.{◌≡◌, ℕ, ◌-◌, ◌≤◌, nat_cmp, slice_index, option_map}
use Rattle.pud_defs.specs.Formats.Geometry.{places_among}
use Rattle.pud_defs.specs.PoolGraphs.Graph.{under_serial}
use Rattle.pud_defs.specs.RegistryTables.Keyed.{first_from}
use Rattle.puddle_header.specs.Places.{places_in}
use Rattle.graph_read.specs.Index.{kept_under}
use Rattle.graph_read.specs.Indexed.{kept_of}
use Rattle.graph_read.proofs.index.Index.list_all.Given as goal

abbrev pub invariant-loop-ordinal : goal.invariant-loop-ordinal
invariant-loop-ordinal l = record {
  listed : (q : ℕ) → kept_under l.index q ≡ option_map (kept_of 0) (first_from nat_cmp q (under_serial (slice_index l.serials) (λ p. p)) (places_among l.ordinal) (places_in l.pool - places_among l.ordinal));
}

abbrev pub invariant-loop-place : goal.invariant-loop-place
invariant-loop-place l = record {
  low : l.place-start ≤ l.place;
  listed : (q : ℕ) → kept_under l.index q ≡ option_map (kept_of 0) (first_from nat_cmp q (under_serial (slice_index l.serials) (λ p. p)) l.place (places_in l.pool - l.place));
}
