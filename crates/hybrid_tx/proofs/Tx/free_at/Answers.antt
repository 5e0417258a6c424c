use Rattle.std.proofs.Common.{refl}
use Rattle.pm_model.specs.Counts.{fault_of}
use Rattle.hybrid_tx.proofs.Objects.SlotFreed.{KeepsOpenOn-free}
use Rattle.hybrid_tx.proofs.Tx.free_at.Goals as goal

pub returns-clause-runs : goal.returns-clause-runs
returns-clause-runs g c = λ t types before graph_before now deferred s placed rewritten is_open may unnamed place.
    KeepsOpenOn-free c.args.frames c.args.pool.now types c.args.self.now.log _ before graph_before now deferred (g.H.Host.state c.args.h.now) is_open _ s c.args.at.now (fault_of c.clear.result) _ _
    may unnamed placed c.requires.device c.requires.place c.clear.ensures.at refl c.requires.within place (c.clear.ensures.saves t placed (rewritten.each c.args.at.now c.requires.within place) before)
