use Rattle.pud_defs.specs.Output.Texts.{ready_text}
use Rattle.puddled.proofs.starting.say_ready.Goals as goal

pub returns-clause-says : goal.returns-clause-says
unfolding ready_text
returns-clause-says g c = λ t. c.say.ensures.said t
