use Rattle.std.proofs.Common.{refl}
use Rattle.pud_defs.specs.RegistryTables.Puts.{puddle_put}
use Rattle.registry.specs.declared.adding.NewPuddle.{NewPuddle}
use Rattle.registry.proofs.PutsListed.{listed_more}
use Rattle.registry.proofs.placing.add_puddles.Goals as goal

pub loop-added-preserved : goal.loop-added-preserved
loop-added-preserved c = λ room.
    let none : NewPuddle = record { frame = 0; puddle = record { pool = 0; ordinal = 0; number = 0; base = 0; old_base = 0; frontier = 0; class = 0 } } in
    listed_more (λ (a : NewPuddle). puddle_put a.frame a.puddle) c.args.batch.now c.loop-added.batch c.add_put.new.batch c.record_put.result c.args.puddles.now c.loop-added.added-index none c.loop-added-test.true room (c.loop-added.invariant room)
    c.record_put.ensures.put refl c.add_put.ensures
