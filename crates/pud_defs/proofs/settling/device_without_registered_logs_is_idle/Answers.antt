use Rattle.pud_defs.proofs.Logging.Idle.{idle_world_of-unowned}
use Rattle.pud_defs.proofs.settling.device_without_registered_logs_is_idle.Goals as goal

pub returns : goal.returns
returns c = idle_world_of-unowned
