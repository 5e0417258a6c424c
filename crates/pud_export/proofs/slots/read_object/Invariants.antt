use Rattle.std.proofs.Common.{None, ◌≡◌, length}
use Rattle.pm_model.specs.Words.{reads}
use Rattle.pud_defs.specs.Formats.Image.{Image}
use Rattle.pud_defs.specs.PoolGraphs.Stored.{stored_in}
use Rattle.pud_export.specs.declared.slots.TheConstants.{SLOT}
use Rattle.puddle_header.specs.Places.{place_of_slot}
use Rattle.graph_read.specs.Bases.{HasLowBases}
use Rattle.pud_export.proofs.SlotsRead.{object_so_far}
use Rattle.pm_model.specs.Reads.{OnlyReads}
use Rattle.pud_export.proofs.slots.read_object.Given as goal

abbrev pub invariant-loop-f : goal.invariant-loop-f
invariant-loop-f g l = record {
  only_reads : OnlyReads g.H.Host.tells g.H.Host.state g.H.Host.counts None l.initial.h l.h;
  whole : length l.words ≡ SLOT;
  words : g.H.Host.tells → HasLowBases l.pool → (image : Image) → reads (g.H.Host.state l.initial.h).now.words ≡ image
      → l.words ≡ object_so_far (stored_in l.frames l.pool image) (place_of_slot l.at) l.type_map l.serial l.id l.f;
}
