use Rattle.std.proofs.Common.{None, ◌≡◌, ◌++◌}
use Rattle.pm_model.specs.Words.{reads}
use Rattle.pud_defs.specs.Formats.Image.{Image}
use Rattle.pud_defs.specs.PoolGraphs.Stored.{stored_in}
use Rattle.graph_read.specs.Bases.{HasLowBases}
use Rattle.pud_export.specs.Exporting.{slots_to}
use Rattle.pm_model.specs.Reads.{OnlyReads}
use Rattle.pud_export.proofs.frames.push_slots.Given as goal

abbrev pub invariant-loop-slot : goal.invariant-loop-slot
invariant-loop-slot g l = record {
  only_reads : OnlyReads g.H.Host.tells g.H.Host.state g.H.Host.counts None l.initial.h l.h;
  words : g.H.Host.tells → HasLowBases l.pool → (image : Image) → reads (g.H.Host.state l.initial.h).now.words ≡ image
      → l.words ≡ l.initial.words ++ slots_to l.types (stored_in l.frames l.pool image) l.ordinal l.slot;
}
