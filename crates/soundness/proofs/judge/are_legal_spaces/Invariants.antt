use Rattle.std.proofs.Common.{None, ◌≡◌, true}
use Rattle.pm_model.specs.Words.{reads}
use Rattle.pud_defs.specs.declared.layout.TheConstants.{DAEMON_LOG}
use Rattle.pud_defs.specs.Formats.Image.{Image}
use Rattle.pud_defs.specs.Logging.Replay.{settled_by}
use Rattle.pud_defs.specs.RegistryTables.Spaces.{all_below, is_legal_space}
use Rattle.soundness.specs.Overlaying.{IsOverlay}
use Rattle.pm_model.specs.Reads.{OnlyReads}
use Rattle.soundness.proofs.judge.are_legal_spaces.Given as goal

abbrev pub invariant-loop-client : goal.invariant-loop-client
invariant-loop-client g l = record {
  only_reads : OnlyReads g.H.Host.tells g.H.Host.state g.H.Host.counts None l.initial.h l.h;
  legal : g.H.Host.tells → (image : Image) → reads (g.H.Host.state l.initial.h).now.words ≡ image → IsOverlay l.overlay image
      → all_below l.client (is_legal_space (settled_by DAEMON_LOG image)) ≡ true;
}
