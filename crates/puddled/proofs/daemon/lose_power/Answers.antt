use Rattle.daemon_memory.proofs.Commands.Losing.{lost_at_once, Applies-lost, KeepsRest-lost}
use Rattle.puddled.proofs.daemon.lose_power.Goals as goal

pub returns-clause-applies : goal.returns-clause-applies
returns-clause-applies g c = λ t size w memory ready. Applies-lost size w memory _ _ ready (c.cut.ensures.state t)

pub returns-clause-rest : goal.returns-clause-rest
returns-clause-rest g c = λ t. KeepsRest-lost _ _ (c.cut.ensures.state t)

pub returns-clause-rested : goal.returns-clause-rested
returns-clause-rested g c = λ t. (lost_at_once _ _ (c.cut.ensures.state t)).rested

pub returns-clause-cause : goal.returns-clause-cause
returns-clause-cause g c = c.cut.ensures.counted
