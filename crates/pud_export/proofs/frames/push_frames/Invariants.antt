use Rattle.std.proofs.Common.{None, ◌≡◌, ◌++◌}
use Rattle.std.specs.Prelude.{flat_map}
use Rattle.std.specs.List.{range_with_len}
use Rattle.pm_model.specs.Words.{reads}
use Rattle.pud_defs.specs.PoolGraphs.Exported.{exported_frame}
use Rattle.pud_defs.specs.Formats.Image.{Image}
use Rattle.pud_defs.specs.PoolGraphs.Stored.{stored_in}
use Rattle.graph_read.specs.Bases.{HasLowBases}
use Rattle.pm_model.specs.Reads.{OnlyReads}
use Rattle.pud_export.proofs.frames.push_frames.Given as goal

abbrev pub invariant-loop-ordinal : goal.invariant-loop-ordinal
invariant-loop-ordinal g l = record {
  only_reads : OnlyReads g.H.Host.tells g.H.Host.state g.H.Host.counts None l.initial.h l.h;
  words : g.H.Host.tells → HasLowBases l.pool → (image : Image) → reads (g.H.Host.state l.initial.h).now.words ≡ image
      → l.words ≡ l.initial.words ++ flat_map (exported_frame l.types (stored_in l.frames l.pool image)) (range_with_len 0 l.ordinal);
}
