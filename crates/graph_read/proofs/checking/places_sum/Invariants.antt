use Rattle.std.proofs.Common.{None, ◌≡◌, ◌%◌, ◌^◌, true, slice_index}
use Rattle.pm_model.specs.Words.{reads}
use Rattle.pm_model.specs.Reads.{OnlyReads}
use Rattle.pud_defs.specs.Formats.Geometry.{places_among}
use Rattle.pud_defs.specs.Formats.Image.{Image}
use Rattle.pud_defs.specs.RegistryTables.Spaces.{all_below}
use Rattle.graph_read.specs.Checking.{place_passes, with_serials}
use Rattle.graph_read.specs.Numbers.{numbers_below}
use Rattle.graph_read.specs.Reading.{table_in}
use Rattle.graph_read.proofs.checking.places_sum.Given as goal

abbrev pub invariant-loop-ordinal : goal.invariant-loop-ordinal
invariant-loop-ordinal g l = record {
  only_reads : OnlyReads g.H.Loads.tells g.H.Loads.state g.H.Loads.counts None l.fn.h l.h;
  passed : g.H.Loads.tells → (image : Image) → reads (g.H.Loads.state l.fn.h).now.words ≡ image
      → all_below (places_among l.ordinal) (place_passes l.check (with_serials (slice_index l.serials) (table_in l.frames l.pool image))) ≡ true;
  summed : g.H.Loads.tells → (image : Image) → reads (g.H.Loads.state l.fn.h).now.words ≡ image
      → l.sum ≡ numbers_below (with_serials (slice_index l.serials) (table_in l.frames l.pool image)) (places_among l.ordinal) % 2 ^ 64;
}

abbrev pub invariant-loop-place : goal.invariant-loop-place
invariant-loop-place g l = record {
  only_reads : OnlyReads g.H.Loads.tells g.H.Loads.state g.H.Loads.counts None l.fn.h l.h;
  passed : g.H.Loads.tells → (image : Image) → reads (g.H.Loads.state l.fn.h).now.words ≡ image
      → all_below l.place (place_passes l.check (with_serials (slice_index l.serials) (table_in l.frames l.pool image))) ≡ true;
  summed : g.H.Loads.tells → (image : Image) → reads (g.H.Loads.state l.fn.h).now.words ≡ image
      → l.sum ≡ numbers_below (with_serials (slice_index l.serials) (table_in l.frames l.pool image)) l.place % 2 ^ 64;
}
