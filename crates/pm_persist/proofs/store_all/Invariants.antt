use Rattle.std.proofs.Common.{◌≡◌, ◌+◌, None}
use Rattle.pm_model.specs.Changes.{placed}
use Rattle.pm_persist.specs.Ranges.{StoresBelow}
use Rattle.pm_persist.proofs.store_all.Given as goal

abbrev pub invariant-loop-value : goal.invariant-loop-value
invariant-loop-value g l = record {
  place : l.at ≡ l.w + l.value-index;
  counts : g.H.Host.counts l.h ≡ g.H.Host.counts l.initial.h;
  stored : g.H.Host.tells → StoresBelow (placed l.w l.vals) l.at None (g.H.Host.state l.initial.h) (g.H.Host.state l.h);
}
