use Rattle.std.proofs.Common.{None, ◌≡◌, ◌-◌, true, length}
use Rattle.std.specs.Ordering.{nat_cmp}
use Rattle.pm_model.specs.Words.{reads}
use Rattle.pud_defs.specs.declared.layout.TheConstants.{DAEMON_LOG}
use Rattle.pud_defs.specs.Formats.Image.{Image}
use Rattle.pud_defs.specs.RegistryTables.Keyed.{are_distinct}
use Rattle.pud_defs.specs.Logging.Replay.{settled_by}
use Rattle.pud_defs.specs.RegistryTables.Tables.{tables_of}
use Rattle.soundness.specs.declared.distinct.TheConstants.{PLACES}
use Rattle.soundness.specs.Overlaying.{IsOverlay}
use Rattle.soundness.specs.Distinct.{mark_index, by_key, IsMarked}
use Rattle.pm_model.specs.Reads.{OnlyReads}
use Rattle.soundness.proofs.distinct.marked_places.Given as goal

abbrev pub invariant-loop-done : goal.invariant-loop-done
invariant-loop-done g l = record {
  size : length l.marks ≡ PLACES;
  only_reads : OnlyReads g.H.Host.tells g.H.Host.state g.H.Host.counts None l.initial.h l.h;
  marked : g.H.Host.tells → (image : Image) → reads (g.H.Host.state l.initial.h).now.words ≡ image → IsOverlay l.overlay image
      → IsMarked (tables_of l.frames (settled_by DAEMON_LOG image)) (l.frames - l.done) l.done l.marks;
  apart : g.H.Host.tells → (image : Image) → reads (g.H.Host.state l.initial.h).now.words ≡ image → IsOverlay l.overlay image
      → are_distinct nat_cmp (by_key mark_index (tables_of l.frames (settled_by DAEMON_LOG image))) (l.frames - l.done) l.done ≡ true;
}
