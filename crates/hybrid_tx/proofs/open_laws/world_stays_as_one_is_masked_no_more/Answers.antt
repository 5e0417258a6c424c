use Rattle.hybrid_tx.proofs.Open.ManyIdle.{idle_world_ended}
use Rattle.hybrid_tx.proofs.open_laws.world_stays_as_one_is_masked_no_more.Goals as goal

pub returns : goal.returns
returns c = λ size s number o others opens image more. idle_world_ended size s number o others opens more image
