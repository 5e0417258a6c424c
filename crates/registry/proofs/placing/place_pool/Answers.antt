use Rattle.std.proofs.Common.{refl, arith}
use Rattle.pm_model.specs.Counts.{fault_of}
use Rattle.registry.proofs.PlacedPool.{Commits-placed, ChangesPools-placed}
use Rattle.registry.proofs.placing.place_pool.Goals as goal

pub placing-requires-clause-within : goal.placing-requires-clause-within
placing-requires-clause-within g c = λ k d below. let a = c.requires.within k d below in let frame = a.frame in record { frame = omega arith; slot = a.slot; number = a.number }

pub returns-clause-commits : goal.returns-clause-commits
returns-clause-commits g c = λ t idle.
    let size = (g.H.Host.counts c.args.h.now).size in
    Commits-placed c.args.frames size c.args.slot c.args.rec c.args.types.now c.args.puddles.now c.placing.result (fault_of c.commit.result) _ _ (omega arith) c.requires.slot c.requires.records c.requires.within c.placing.ensures
    (c.commit.ensures.commits t size refl) idle

pub returns-clause-places : goal.returns-clause-places
returns-clause-places g c = λ t size same s holding mask may.
    ChangesPools-placed size s c.args.frames holding c.args.slot c.args.rec c.args.types.now c.args.puddles.now mask c.placing.result (fault_of c.commit.result)
    (g.H.Host.state c.args.h.now) (g.H.Host.state c.commit.new.h) may c.placing.ensures (λ next off settled moves. c.commit.ensures.moves t size same s next mask off settled moves)
