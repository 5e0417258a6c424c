use Rattle.hybrid_tx.proofs.Open.ManyIdle.{idle_world_begun}
use Rattle.hybrid_tx.proofs.open_laws.world_stays_as_one_more_is_masked.Goals as goal

pub returns : goal.returns
returns c = λ size s number o others opens image more. idle_world_begun size s number o others opens more image
