use Rattle.pud_defs.proofs.Logging.Settled.{gives_to-closed}
use Rattle.pud_defs.proofs.settling.closed_log_gives_nothing.Goals as goal

pub returns : goal.returns
returns c = gives_to-closed
