use Rattle.std.proofs.Common.{None, ◌≡◌, ◌+◌, ◌*◌, slice_index}
use Rattle.pm_model.specs.Words.{reads}
use Rattle.pm_model.specs.Reads.{OnlyReads}
use Rattle.pud_defs.specs.declared.layout.TheConstants.{MAX_FIELDS}
use Rattle.pud_defs.specs.Formats.Image.{Image}
use Rattle.pud_defs.specs.PoolGraphs.Stored.{stored_in}
use Rattle.graph_read.specs.Indexed.{Gains, HasAtMost}
use Rattle.graph_read.proofs.IndexBuilt.{fields_name}
use Rattle.graph_read.proofs.index.Index.retain_fields.Given as goal

abbrev pub invariant-loop-f : goal.invariant-loop-f
invariant-loop-f g l = record {
  only_reads : OnlyReads g.H.Loads.tells g.H.Loads.state g.H.Loads.counts None l.initial.h l.h;
  most : HasAtMost (MAX_FIELDS * l.place + l.f) l.self;
  held : g.H.Loads.tells → (image : Image) → reads (g.H.Loads.state l.initial.h).now.words ≡ image
      → Gains (fields_name (slice_index l.serials) (stored_in l.frames l.pool image) l.place l.type_map l.f) l.initial.self l.self;
}
