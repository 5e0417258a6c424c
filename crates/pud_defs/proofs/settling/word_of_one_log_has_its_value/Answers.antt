use Rattle.pud_defs.proofs.Logging.Settled.{settled_over-one}
use Rattle.pud_defs.proofs.settling.word_of_one_log_has_its_value.Goals as goal

pub returns : goal.returns
returns c = settled_over-one
