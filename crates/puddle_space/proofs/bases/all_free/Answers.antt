use Rattle.std.proofs.Common.{true, false}
use Rattle.std.proofs.lemmas.List.{get_or-replicate}
use Rattle.puddle_space.specs.declared.bases.TheConstants.{TRIED}
use Rattle.puddle_space.proofs.bases.all_free.Goals as goal

pub returns-clause-each : goal.returns-clause-each
returns-clause-each c = λ k tried. get_or-replicate TRIED k true false tried
