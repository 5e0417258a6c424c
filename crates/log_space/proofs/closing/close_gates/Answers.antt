use Rattle.pm_model.specs.Counts.{fault_of}
use Rattle.log_space.proofs.Gates.{ClosesGates-fence}
use Rattle.log_space.proofs.closing.close_gates.Goals as goal

pub returns-clause-closes : goal.returns-clause-closes
returns-clause-closes g c = λ t.
    ClosesGates-fence c.args.frames c.args.slot (fault_of c.fence.result) (g.H.Host.state c.args.h.now) (g.H.Host.state c.write_gates.new.h) (g.H.Host.state c.fence.new.self)
    (c.in_ok-write_gates.ensures.writes t) (c.fence.ensures.state t)
