use Rattle.pm_model.proofs.Words.{reads_only}
use Rattle.pm_model.proofs.laws.a_rested_device_leaves_what_is_read.Goals as goal

pub returns : goal.returns
returns c = λ words image rested picked. reads_only words image rested picked
