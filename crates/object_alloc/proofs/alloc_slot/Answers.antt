use Rattle.pud_defs.specs.PoolGraphs.Stored.{stored_in}
use Rattle.object_alloc.proofs.Searched.{AreLiveBefore-start}
use Rattle.object_alloc.proofs.alloc_slot.Goals as goal

pub returns-clause-free : goal.returns-clause-free
returns-clause-free g c = λ t image same. c.alloc_slot_from.ensures.free t image same (AreLiveBefore-start c.args.class (stored_in c.args.frames c.args.pool.now image))

pub returns-clause-full : goal.returns-clause-full
returns-clause-full g c = λ t image same none. c.alloc_slot_from.ensures.full t image same (AreLiveBefore-start c.args.class (stored_in c.args.frames c.args.pool.now image)) none
