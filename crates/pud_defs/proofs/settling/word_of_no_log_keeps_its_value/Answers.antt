use Rattle.pud_defs.proofs.Logging.Settled.{settled_over-own}
use Rattle.pud_defs.proofs.settling.word_of_no_log_keeps_its_value.Goals as goal

pub returns : goal.returns
returns c = settled_over-own
