use Rattle.std.proofs.Common.{◌≡◌, true}
use Rattle.pm_model.proofs.Leaves.{Leaves-then}
use Rattle.pm_model.proofs.laws.moments_of_calls_join.Goals as goal

pub returns : goal.returns
returns c = λ first second joined bytes a b d said early late p q.
    Leaves-then (λ s i. first s i ≡ true) (λ s i. second s i ≡ true) (λ s i. joined s i ≡ true) bytes a b d said early late p q
