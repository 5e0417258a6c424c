use Rattle.std.proofs.Common.{[], ◌∷◌, ◌+◌}
use Rattle.registry.specs.Growth.{growing}
use Rattle.registry.proofs.Joined.{AddsTo-grown}
use Rattle.registry.proofs.NewPuddles.{adding_of}
use Rattle.registry.proofs.growing.grow_pool.Goals as goal

pub returns-clause-commits : goal.returns-clause-commits
returns-clause-commits g c = λ t idle.
    let within = c.requires.within in
    c.add_puddle.ensures.commits t (growing c.args.added) (adding_of c.args.frames (c.args.added.puddle.number + 1) (c.args.added ∷ []) (within.frame, within.slot, tt)) c.growing.ensures idle

pub returns-clause-grows : goal.returns-clause-grows
returns-clause-grows g c = λ t size same s next mask grows.
    c.add_puddle.ensures.adds t size same s next mask (AddsTo-grown size s next c.args.frames c.args.added c.growing.result mask (g.H.Host.state c.args.h.now).now.words c.requires.within.slot c.growing.ensures grows)
