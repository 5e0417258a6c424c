use Rattle.std.proofs.Common.{None, ◌≡◌, ℕ, ◌-◌, ◌<◌, length, get_or}
use Rattle.pm_model.specs.Words.{reads}
use Rattle.pud_defs.specs.declared.layout.TheConstants.{DAEMON_LOG, TYPE_RECORDS}
use Rattle.pud_defs.specs.Formats.Image.{Image}
use Rattle.pud_defs.specs.Logging.Replay.{settled_by}
use Rattle.pud_defs.specs.RegistryTables.Types.{type_record_at}
use Rattle.soundness.specs.Overlaying.{IsOverlay}
use Rattle.soundness.specs.Judging.{are_legal_last}
use Rattle.pm_model.specs.Reads.{OnlyReads}
use Rattle.soundness.proofs.judge.has_legal_types.Given as goal

abbrev pub invariant-loop-done : goal.invariant-loop-done
invariant-loop-done g l = record {
  size : length l.ids ≡ TYPE_RECORDS;
  only_reads : OnlyReads g.H.Host.tells g.H.Host.state g.H.Host.counts None l.initial.h l.h;
  legal : g.H.Host.tells → (image : Image) → reads (g.H.Host.state l.initial.h).now.words ≡ image → IsOverlay l.overlay image
      → l.legal ≡ are_legal_last (settled_by DAEMON_LOG image) l.done;
  ids : g.H.Host.tells → (image : Image) → reads (g.H.Host.state l.initial.h).now.words ≡ image → IsOverlay l.overlay image
      → (k : ℕ) → k < l.done → get_or l.ids k 0 ≡ settled_by DAEMON_LOG image (type_record_at (63 - k));
}
