use Rattle.std.proofs.Common.{refl}
use Rattle.hybrid_tx.proofs.Open.OpenWorlds.{none_refused_with_masked}
use Rattle.hybrid_tx.proofs.open_laws.image_left_refuses_no_log.Goals as goal

pub returns : goal.returns
returns c = λ size s opens mask image are all left world. none_refused_with_masked size s.frames s opens mask image refl are all world left
