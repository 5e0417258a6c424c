use Rattle.pud_defs.proofs.StateMachine.Upgraded.{idle_world_of-upgraded}
use Rattle.pud_defs.proofs.settling.upgraded_device_without_registered_logs_is_idle.Goals as goal

pub returns : goal.returns
returns c = idle_world_of-upgraded
