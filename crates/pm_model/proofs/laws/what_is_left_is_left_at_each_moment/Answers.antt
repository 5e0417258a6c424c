use Rattle.std.proofs.Common.{◌≡◌, true}
use Rattle.pm_model.proofs.Leaves.{Leaves-each}
use Rattle.pm_model.proofs.laws.what_is_left_is_left_at_each_moment.Goals as goal

pub returns : goal.returns
returns c = λ test old new leaves said image left. Leaves-each (λ s i. test s i ≡ true) old new leaves said image left
