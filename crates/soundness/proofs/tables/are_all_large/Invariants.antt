use Rattle.std.proofs.Common.{None, ◌≡◌, true}
use Rattle.pm_model.specs.Words.{reads}
use Rattle.pud_defs.specs.declared.layout.TheConstants.{DAEMON_LOG}
use Rattle.pud_defs.specs.Formats.Image.{Image}
use Rattle.pud_defs.specs.Logging.Replay.{settled_by}
use Rattle.pud_defs.specs.RegistryTables.Spaces.{all_below}
use Rattle.pud_defs.specs.RegistryTables.Tables.{tables_of}
use Rattle.pud_defs.specs.RegistryTables.Registry.{is_large_member}
use Rattle.soundness.specs.Overlaying.{IsOverlay}
use Rattle.pm_model.specs.Reads.{OnlyReads}
use Rattle.soundness.proofs.tables.are_all_large.Given as goal

abbrev pub invariant-loop-frame : goal.invariant-loop-frame
invariant-loop-frame g l = record {
  only_reads : OnlyReads g.H.Host.tells g.H.Host.state g.H.Host.counts None l.initial.h l.h;
  large : g.H.Host.tells → (image : Image) → reads (g.H.Host.state l.initial.h).now.words ≡ image → IsOverlay l.overlay image
      → all_below l.frame (λ frame. is_large_member ((tables_of l.frames (settled_by DAEMON_LOG image)).puddles frame)) ≡ true;
}
