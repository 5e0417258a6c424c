use Rattle.pud_defs.proofs.StateMachine.Upgraded.{world_of-upgraded}
use Rattle.pud_defs.proofs.settling.upgraded_device_stands_for_the_same.Goals as goal

pub returns : goal.returns
returns c = world_of-upgraded
