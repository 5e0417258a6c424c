use Rattle.pud_defs.specs.Logging.Replay.{new_value}
use Rattle.pud_defs.proofs.Logging.Replay.{overwritten-either_order}
use Rattle.pud_defs.proofs.laws.logs_apart_replay_in_either_order.Goals as goal

pub returns : goal.returns
returns c = λ place one other image apart. overwritten-either_order (new_value place one) (new_value place other) image apart
