use Rattle.std.proofs.Common.{None, ◌≡◌, ◌*◌, slice_index}
use Rattle.pm_model.specs.Words.{reads}
use Rattle.pm_model.specs.Reads.{OnlyReads}
use Rattle.pud_defs.specs.declared.layout.TheConstants.{MAX_FIELDS}
use Rattle.pud_defs.specs.Formats.Geometry.{places_among}
use Rattle.pud_defs.specs.Formats.Image.{Image}
use Rattle.graph_read.specs.Checking.{with_serials}
use Rattle.graph_read.specs.Indexed.{Gains, HasAtMost, places_name}
use Rattle.graph_read.specs.Reading.{table_in}
use Rattle.graph_read.proofs.index.Index.retain_all.Given as goal

abbrev pub invariant-loop-ordinal : goal.invariant-loop-ordinal
invariant-loop-ordinal g l = record {
  only_reads : OnlyReads g.H.Loads.tells g.H.Loads.state g.H.Loads.counts None l.fn.h l.h;
  most : HasAtMost (MAX_FIELDS * places_among l.ordinal) l.self;
  held : g.H.Loads.tells → (image : Image) → reads (g.H.Loads.state l.fn.h).now.words ≡ image
      → Gains (places_name (with_serials (slice_index l.serials) (table_in l.frames l.pool image)) (places_among l.ordinal)) l.fn.self l.self;
}

abbrev pub invariant-loop-place : goal.invariant-loop-place
invariant-loop-place g l = record {
  only_reads : OnlyReads g.H.Loads.tells g.H.Loads.state g.H.Loads.counts None l.fn.h l.h;
  most : HasAtMost (MAX_FIELDS * l.place) l.self;
  held : g.H.Loads.tells → (image : Image) → reads (g.H.Loads.state l.fn.h).now.words ≡ image
      → Gains (places_name (with_serials (slice_index l.serials) (table_in l.frames l.pool image)) l.place) l.fn.self l.self;
}
