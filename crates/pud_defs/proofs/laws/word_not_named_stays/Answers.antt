use Rattle.pud_defs.specs.Logging.Replay.{new_value}
use Rattle.pud_defs.proofs.Logging.Replay.{overwritten-stays}
use Rattle.pud_defs.proofs.laws.word_not_named_stays.Goals as goal

pub returns : goal.returns
returns c = λ place log image w none. overwritten-stays (new_value place log) image w none
