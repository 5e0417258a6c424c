use Rattle.pud_defs.proofs.Logging.Replay.{replayed-none}
use Rattle.pud_defs.proofs.laws.log_that_counts_none_replays_nothing.Goals as goal

pub returns : goal.returns
returns c = λ place log image closed. replayed-none place log image closed
