use Rattle.std.proofs.Common.{None, ◌≡◌, ℕ, true}
use Rattle.pm_model.specs.Words.{reads}
use Rattle.pud_defs.specs.declared.layout.TheConstants.{DAEMON_LOG}
use Rattle.pud_defs.specs.Formats.Image.{Image}
use Rattle.pud_defs.specs.Logging.Replay.{settled_by}
use Rattle.pud_defs.specs.RegistryTables.Spaces.{all_below}
use Rattle.pud_defs.specs.RegistryTables.Tables.{tables_of}
use Rattle.soundness.specs.Overlaying.{IsOverlay}
use Rattle.soundness.specs.Distinct.{is_counted_by}
use Rattle.pm_model.specs.Reads.{OnlyReads}
use Rattle.soundness.proofs.distinct.are_counted.Given as goal

abbrev pub invariant-loop-slot : goal.invariant-loop-slot
invariant-loop-slot g l = record {
  only_reads : OnlyReads g.H.Host.tells g.H.Host.state g.H.Host.counts None l.initial.h l.h;
  counted : g.H.Host.tells → (image : Image) → reads (g.H.Host.state l.initial.h).now.words ≡ image → IsOverlay l.overlay image → (frames : ℕ)
      → all_below l.slot (is_counted_by l.marks (tables_of frames (settled_by DAEMON_LOG image))) ≡ true;
}
