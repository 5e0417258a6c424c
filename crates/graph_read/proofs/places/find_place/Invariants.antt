use Rattle.std.proofs.Common.{None, ◌≡◌}
use Rattle.pm_model.specs.Words.{reads}
use Rattle.pud_defs.specs.Formats.Geometry.{places_among}
use Rattle.pud_defs.specs.Formats.Image.{Image}
use Rattle.puddle_header.specs.Places.{places_in}
use Rattle.graph_read.specs.Reading.{table_in, place_in_pool}
use Rattle.graph_read.proofs.Found.{place_from}
use Rattle.pm_model.specs.Reads.{OnlyReads}
use Rattle.graph_read.proofs.places.find_place.Given as goal

abbrev pub invariant-loop-ordinal : goal.invariant-loop-ordinal
invariant-loop-ordinal g l = record {
  only_reads : OnlyReads g.H.Loads.tells g.H.Loads.state g.H.Loads.counts None l.fn.h l.h;
  found : g.H.Loads.tells → (image : Image) → reads (g.H.Loads.state l.fn.h).now.words ≡ image
      → place_in_pool l.frames l.pool image l.s ≡ place_from (table_in l.frames l.pool image) (places_in l.pool) l.s (places_among l.ordinal);
}

abbrev pub invariant-loop-place : goal.invariant-loop-place
invariant-loop-place g l = record {
  only_reads : OnlyReads g.H.Loads.tells g.H.Loads.state g.H.Loads.counts None l.fn.h l.h;
  found : g.H.Loads.tells → (image : Image) → reads (g.H.Loads.state l.fn.h).now.words ≡ image
      → place_in_pool l.frames l.pool image l.s ≡ place_from (table_in l.frames l.pool image) (places_in l.pool) l.s l.place;
}
