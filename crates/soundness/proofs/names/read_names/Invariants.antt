use Rattle.std.proofs.Common.{None, ◌≡◌, ◌<◌, ℕ, length, slice_index_or}
use Rattle.pm_model.specs.Words.{reads}
use Rattle.pud_defs.specs.declared.layout.TheConstants.{DAEMON_LOG}
use Rattle.pud_defs.specs.declared.records.TheConstants.{POOL_RECORDS}
use Rattle.pud_defs.specs.Formats.Image.{Image}
use Rattle.pud_defs.specs.Logging.Replay.{settled_by}
use Rattle.soundness.specs.Overlaying.{IsOverlay}
use Rattle.soundness.specs.Named.{IsNameOf, no_name}
use Rattle.pm_model.specs.Reads.{OnlyReads}
use Rattle.soundness.proofs.names.read_names.Given as goal

abbrev pub invariant-loop-slot : goal.invariant-loop-slot
invariant-loop-slot g l = record {
  all : length l.names ≡ POOL_RECORDS;
  only_reads : OnlyReads g.H.Host.tells g.H.Host.state g.H.Host.counts None l.initial.h l.h;
  names : g.H.Host.tells → (image : Image) → reads (g.H.Host.state l.initial.h).now.words ≡ image → IsOverlay l.overlay image
      → (k : ℕ) → k < l.slot → IsNameOf (settled_by DAEMON_LOG image) k (slice_index_or l.names k no_name);
}
