use Rattle.pud_defs.proofs.Logging.Idle.{world_of_idle}
use Rattle.pud_defs.proofs.settling.idle_device_stands_for_what_a_start_leaves.Goals as goal

pub returns : goal.returns
returns c = world_of_idle
