use Rattle.std.proofs.Common.{◌≡◌, None}
use Rattle.pm_persist.specs.Ranges.{FlushesLines}
use Rattle.pm_persist.proofs.flush_lines.Given as goal

abbrev pub invariant-loop-line : goal.invariant-loop-line
invariant-loop-line g l = record {
  counts : g.H.Host.counts l.h ≡ g.H.Host.counts l.initial.h;
  flushed : g.H.Host.tells → FlushesLines l.from l.line None (g.H.Host.state l.initial.h) (g.H.Host.state l.h);
}
