use Rattle.std.proofs.Common.{None, ◌≡◌, ◌%◌, ◌^◌, true, slice_index}
use Rattle.pm_model.specs.Words.{reads}
use Rattle.pm_model.specs.Reads.{OnlyReads}
use Rattle.pud_defs.specs.Formats.Image.{Image}
use Rattle.pud_defs.specs.RegistryTables.Spaces.{all_below}
use Rattle.pud_defs.specs.PoolGraphs.Stored.{stored_in}
use Rattle.graph_read.proofs.Numbers.{fields_counted}
use Rattle.graph_read.proofs.Passing.{field_passes}
use Rattle.graph_read.proofs.checking.fields_sum.Given as goal

abbrev pub invariant-loop-f : goal.invariant-loop-f
invariant-loop-f g l = record {
  only_reads : OnlyReads g.H.Loads.tells g.H.Loads.state g.H.Loads.counts None l.initial.h l.h;
  passed : g.H.Loads.tells → (image : Image) → reads (g.H.Loads.state l.initial.h).now.words ≡ image
      → all_below l.f (field_passes l.check (slice_index l.serials) (stored_in l.frames l.pool image) l.place l.type_map) ≡ true;
  counted : g.H.Loads.tells → (image : Image) → reads (g.H.Loads.state l.initial.h).now.words ≡ image → l.sum ≡ fields_counted (stored_in l.frames l.pool image) l.place l.type_map l.f % 2 ^ 64;
}
