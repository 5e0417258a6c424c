use Rattle.registry.proofs.PutsListed.{placing_gathered}
use Rattle.registry.proofs.placing.placing.Goals as goal

pub returns : goal.returns
returns c =
    placing_gathered c.args.slot c.args.rec c.args.types.now c.args.puddles.now c.new-batch.result c.add_types.new.batch c.add_put.new.batch c.add_put-2.new.batch c.add_puddles.new.batch c.record_put.result c.number_put.result
    c.requires.types c.requires.puddles c.new-batch.ensures c.add_types.ensures c.record_put.ensures.put c.add_put.ensures c.number_put.ensures c.add_put-2.ensures c.add_puddles.ensures
