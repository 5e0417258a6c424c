use Rattle.std.proofs.Common.{subst, List, ℕ}
use Rattle.pm_model.specs.Counts.{fault_of}
use Rattle.pm_model.specs.Calls.{Says}
use Rattle.puddled.proofs.answers.say_reply.Goals as goal

pub returns-clause-says : goal.returns-clause-says
returns-clause-says g c = λ t. subst (λ (l : List ℕ). Says l (fault_of c.say.result) (g.H.Host.state c.args.h.now) (g.H.Host.state c.say.new.self)) c.print_reply-length.ensures.text (c.say.ensures.said t)
