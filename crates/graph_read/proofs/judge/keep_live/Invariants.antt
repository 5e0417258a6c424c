use Rattle.std.proofs.Common.{◌≡◌, ℕ, ◌-◌, ◌≤◌, ◌++◌, length, get_or, take, slice_index}
use Rattle.pud_defs.specs.Formats.Geometry.{places_among}
use Rattle.puddle_header.specs.Places.{places_in}
use Rattle.graph_read.specs.declared.serials.TheConstants.{PLACES}
use Rattle.graph_read.specs.LiveSerials.{live_serials}
use Rattle.graph_read.proofs.judge.keep_live.Given as goal

abbrev pub invariant-loop-ordinal : goal.invariant-loop-ordinal
invariant-loop-ordinal l = record {
  most : l.live ≤ places_among l.ordinal;
  whole : length l.serials ≡ PLACES;
  ahead : (k : ℕ) → places_among l.ordinal ≤ k → get_or l.serials k 0 ≡ slice_index l.fn.serials k;
  kept : take l.live l.serials ++ live_serials (slice_index l.fn.serials) (places_among l.ordinal) (places_in l.pool - places_among l.ordinal) ≡ live_serials (slice_index l.fn.serials) 0 (places_in l.pool);
}

abbrev pub invariant-loop-place : goal.invariant-loop-place
invariant-loop-place l = record {
  most : l.live ≤ l.place;
  whole : length l.serials ≡ PLACES;
  ahead : (k : ℕ) → l.place ≤ k → get_or l.serials k 0 ≡ slice_index l.fn.serials k;
  kept : take l.live l.serials ++ live_serials (slice_index l.fn.serials) l.place (places_in l.pool - l.place) ≡ live_serials (slice_index l.fn.serials) 0 (places_in l.pool);
}
