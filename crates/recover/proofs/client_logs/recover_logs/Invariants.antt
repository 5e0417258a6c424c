use Rattle.std.proofs.Common.{◌≡◌, ◌<◌, ℕ, None}
use Rattle.std.specs.Prelude.{slice_index_or, length}
use Rattle.pm_model.specs.Words.{IsRested, reads}
use Rattle.pm_model.specs.Changes.{Changes}
use Rattle.pud_defs.specs.Formats.Image.{Image}
use Rattle.pud_defs.specs.Logging.Settled.{ALL_LOGS}
use Rattle.log_replay.specs.Replaying.{Anything}
use Rattle.recover.specs.declared.judge.Mark.TheVariants.{Closed}
use Rattle.recover.specs.Verdicts.{verdict_of, mark_of}
use Rattle.recover.specs.RecoveredLogs.{RecoversLogs, RecoversLogsAtEachMoment}
use Rattle.recover.proofs.client_logs.recover_logs.Given as goal

abbrev pub invariant-loop-number : goal.invariant-loop-number
invariant-loop-number g l = record {
  all : length l.marks ≡ ALL_LOGS;
  counts : g.H.Host.counts l.h ≡ g.H.Host.counts l.initial.h;
  marks : g.H.Host.tells → (image : Image) → reads (g.H.Host.state l.initial.h).now.words ≡ image
      → (k : ℕ) → k < l.number → slice_index_or l.marks k Closed ≡ mark_of (verdict_of l.frames image k);
  takes : g.H.Host.tells → (image : Image) → reads (g.H.Host.state l.initial.h).now.words ≡ image
      → RecoversLogs l.frames l.number image None (g.H.Host.state l.initial.h) (g.H.Host.state l.h);
  leaves : g.H.Host.tells → (image : Image) → IsRested (g.H.Host.state l.initial.h).now.words → reads (g.H.Host.state l.initial.h).now.words ≡ image
      → RecoversLogsAtEachMoment l.frames image None (g.H.Host.state l.initial.h) (g.H.Host.state l.h);
  any : g.H.Host.tells → Changes Anything None (g.H.Host.state l.initial.h) (g.H.Host.state l.h);
}
