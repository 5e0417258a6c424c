use Rattle.std.proofs.Common.{ℕ, subst}
use Rattle.pm_model.specs.Counts.{fault_of}
use Rattle.pm_model.specs.Masks.{masked_state, IsOff}
use Rattle.pm_model.proofs.Changes.{Changes-wider}
use Rattle.log_replay.specs.Replaying.{Anything}
use Rattle.log_space.specs.Closed.{ByClosing, ClosesGates}
use Rattle.log_space.proofs.Gates.{ClosesGates-masked, ClosesClientLogs-gates}
use Rattle.log_space.proofs.closing.close_logs.Goals as goal

pub returns-clause-closes : goal.returns-clause-closes
returns-clause-closes g c = λ t size same s frames mask off settled.
    let old = g.H.Host.state c.args.h.now in
    let new = g.H.Host.state c.close_gates.new.h in
    let fault = fault_of c.close_gates.result in
    let off_here = subst (λ (F : ℕ). IsOff mask (ByClosing F c.args.slot)) frames off in
    ClosesClientLogs-gates size s c.args.slot fault (masked_state mask old) (masked_state mask new) c.requires.known settled
    (ClosesGates-masked mask s.frames c.args.slot fault old new off_here (subst (λ (F : ℕ). ClosesGates F c.args.slot fault old new) frames (c.close_gates.ensures.closes t)))

pub returns-clause-any : goal.returns-clause-any
returns-clause-any g c = λ t.
    Changes-wider (ByClosing c.args.frames c.args.slot) Anything (fault_of c.close_gates.result) (g.H.Host.state c.args.h.now) (g.H.Host.state c.close_gates.new.h) (λ k v may. tt) (c.close_gates.ensures.closes t).changes
