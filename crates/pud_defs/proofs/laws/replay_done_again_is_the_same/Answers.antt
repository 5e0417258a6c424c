use Rattle.pud_defs.specs.Logging.Replay.{new_value}
use Rattle.pud_defs.proofs.Logging.Replay.{overwritten-again}
use Rattle.pud_defs.proofs.laws.replay_done_again_is_the_same.Goals as goal

pub returns : goal.returns
returns c = λ place log i j same. overwritten-again (new_value place log) i j same
