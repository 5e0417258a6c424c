use Rattle.std.proofs.Common.{None, ◌≡◌, ◌-◌}
use Rattle.pm_model.specs.Words.{reads}
use Rattle.pud_defs.specs.declared.layout.TheConstants.{CLIENT_LOGS}
use Rattle.pud_defs.specs.Formats.Layout.{log_at}
use Rattle.pud_defs.specs.RegistryTables.Spaces.{is_closed_log}
use Rattle.log_space.specs.FreeLogs.{first_from}
use Rattle.pm_model.specs.Reads.{OnlyReads}
use Rattle.log_space.proofs.free_log.Given as goal

abbrev pub invariant-loop-number : goal.invariant-loop-number
invariant-loop-number g l = record {
  only_reads : OnlyReads g.H.Host.tells g.H.Host.state g.H.Host.counts None l.initial.h l.h;
  passed : g.H.Host.tells → first_from 0 CLIENT_LOGS (λ k. is_closed_log (reads (g.H.Host.state l.initial.h).now.words) (log_at l.frames l.slot k))
      ≡ first_from l.number (CLIENT_LOGS - l.number) (λ k. is_closed_log (reads (g.H.Host.state l.initial.h).now.words) (log_at l.frames l.slot k));
}
