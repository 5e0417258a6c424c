use Rattle.std.proofs.Common.{None, ◌≡◌, length, slice_index}
use Rattle.pm_model.specs.Words.{reads}
use Rattle.pud_defs.specs.Formats.Geometry.{places_among}
use Rattle.pud_defs.specs.Formats.Image.{Image}
use Rattle.pud_defs.specs.PoolGraphs.Stored.{stored_in}
use Rattle.graph_read.specs.declared.serials.TheConstants.{PLACES}
use Rattle.graph_read.specs.Checking.{serials_in, HasSerialsInSlots}
use Rattle.graph_read.proofs.SerialsRead.{IsReadTo}
use Rattle.pm_model.specs.Reads.{OnlyReads}
use Rattle.graph_read.proofs.serials.read_serials.Given as goal

abbrev pub invariant-loop-ordinal : goal.invariant-loop-ordinal
invariant-loop-ordinal g l = record {
  only_reads : OnlyReads g.H.Loads.tells g.H.Loads.state g.H.Loads.counts None l.fn.h l.h;
  whole : length l.serials ≡ PLACES;
  slots : HasSerialsInSlots l.pool (slice_index l.serials);
  read : g.H.Loads.tells → (image : Image) → reads (g.H.Loads.state l.fn.h).now.words ≡ image → IsReadTo (serials_in (stored_in l.frames l.pool image)) (places_among l.ordinal) l.serials;
}

abbrev pub invariant-loop-place : goal.invariant-loop-place
invariant-loop-place g l = record {
  only_reads : OnlyReads g.H.Loads.tells g.H.Loads.state g.H.Loads.counts None l.fn.h l.h;
  whole : length l.serials ≡ PLACES;
  slots : HasSerialsInSlots l.pool (slice_index l.serials);
  read : g.H.Loads.tells → (image : Image) → reads (g.H.Loads.state l.fn.h).now.words ≡ image → IsReadTo (serials_in (stored_in l.frames l.pool image)) l.place l.serials;
}
