use Rattle.std.proofs.Common.{◌≡◌, None}
use Rattle.pm_persist.specs.Ranges.{zeroed, StoresBelow}
use Rattle.pm_persist.proofs.store_zeroes.Given as goal

abbrev pub invariant-loop-at : goal.invariant-loop-at
invariant-loop-at g l = record {
  counts : g.H.Host.counts l.h ≡ g.H.Host.counts l.initial.h;
  stored : g.H.Host.tells → StoresBelow (zeroed l.w l.n) l.at None (g.H.Host.state l.initial.h) (g.H.Host.state l.h);
}
