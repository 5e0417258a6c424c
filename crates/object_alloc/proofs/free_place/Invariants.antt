use Rattle.std.proofs.Common.{None, ◌≡◌}
use Rattle.pm_model.specs.Words.{reads}
use Rattle.pud_defs.specs.Formats.Image.{Image}
use Rattle.pud_defs.specs.PoolGraphs.Stored.{stored_in}
use Rattle.object_alloc.specs.Alloc.{AreLiveBefore}
use Rattle.pm_model.specs.Reads.{OnlyReads}
use Rattle.object_alloc.proofs.free_place.Given as goal

abbrev pub invariant-loop-place : goal.invariant-loop-place
invariant-loop-place g l = record {
  only_reads : OnlyReads g.H.Host.tells g.H.Host.state g.H.Host.counts None l.initial.h l.h;
  live : g.H.Host.tells → (image : Image) → reads (g.H.Host.state l.initial.h).now.words ≡ image → AreLiveBefore l.class (stored_in l.frames l.pool image) l.from → AreLiveBefore l.class (stored_in l.frames l.pool image) l.place;
}
