use Rattle.pud_defs.proofs.Logging.Idle.{no_log_is_refused}
use Rattle.pud_defs.proofs.settling.no_log_of_an_idle_device_is_refused.Goals as goal

pub returns : goal.returns
returns c = no_log_is_refused
