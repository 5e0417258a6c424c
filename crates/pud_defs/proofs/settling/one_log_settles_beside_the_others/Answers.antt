use Rattle.pud_defs.proofs.Logging.Settled.{settled_over-alone}
use Rattle.pud_defs.proofs.settling.one_log_settles_beside_the_others.Goals as goal

pub returns : goal.returns
returns c = settled_over-alone
