use Rattle.std.proofs.Common.{◌≡◌, None}
use Rattle.pm_model.specs.Changes.{Changes}
use Rattle.pud_import.specs.Contents.{stored_held}
use Rattle.pud_import.specs.Filling.{ByFrames}
use Rattle.pud_import.specs.Places.{FramesRise}
use Rattle.pud_import.proofs.FilesPlaced.FilledFrames.{AreFilledBelow}
use Rattle.pud_import.proofs.filling.fill_frames.Given as goal

abbrev pub invariant-loop-ordinal : goal.invariant-loop-ordinal
invariant-loop-ordinal g l = record {
  changes : g.H.Host.tells → Changes (ByFrames l.frames l.puddles) None (g.H.Host.state l.initial.h) (g.H.Host.state l.h);
  filled : g.H.Host.tells → FramesRise l.puddles → AreFilledBelow l.frames (stored_held l.view) l.puddles l.ordinal (g.H.Host.state l.h).now.words;
  counts : g.H.Host.counts l.h ≡ g.H.Host.counts l.initial.h;
}
