use Rattle.graph_read.specs.Index.{kept_under}
use Rattle.graph_read.proofs.Retargets.{room_after}
use Rattle.graph_read.proofs.index.Index.retarget.Goals as goal

pub retain-requires : goal.retain-requires
retain-requires c = record {
  room = λ some. room_after c.args.from c.args.to (kept_under c.args.self.now c.args.to) (kept_under c.release.new.self c.args.to) (c.release.ensures c.args.to) (c.requires.room some);
}
