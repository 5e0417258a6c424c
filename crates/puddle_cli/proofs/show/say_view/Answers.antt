use Rattle.std.proofs.Common.{refl}
use Rattle.puddle_cli.proofs.show.say_view.Goals as goal

pub returns-in-Layout-clause-says : goal.returns-in-Layout-clause-says
returns-in-Layout-clause-says g c = λ t. record { text = _; says = c.say_layout.ensures.says t _ refl }

pub returns-in-Check-clause-says : goal.returns-in-Check-clause-says
returns-in-Check-clause-says g c = λ t. record { text = _; says = c.check_pools.ensures.says t _ refl }
