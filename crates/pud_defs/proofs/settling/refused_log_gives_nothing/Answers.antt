use Rattle.pud_defs.proofs.Logging.Settled.{gives_to-refused}
use Rattle.pud_defs.proofs.settling.refused_log_gives_nothing.Goals as goal

pub returns : goal.returns
returns c = gives_to-refused
