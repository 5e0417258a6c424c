use Rattle.std.proofs.Common.{◌≡◌, None}
use Rattle.log_space.specs.Closed.{WritesGates}
use Rattle.log_space.proofs.closing.write_gates.Given as goal

abbrev pub invariant-loop-number : goal.invariant-loop-number
invariant-loop-number g l = record {
  counts : g.H.Host.counts l.h ≡ g.H.Host.counts l.initial.h;
  writes : g.H.Host.tells → WritesGates l.frames l.slot l.number None (g.H.Host.state l.initial.h) (g.H.Host.state l.h);
}
