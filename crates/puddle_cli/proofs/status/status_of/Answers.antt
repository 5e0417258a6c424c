use Rattle.std.proofs.Common.{Some, sym, ap}
use Rattle.puddle_cli.proofs.status.status_of.Goals as goal

pub returns-in-Failed-clause-fault : goal.returns-in-Failed-clause-fault
returns-in-Failed-clause-fault c = ap Some (sym c.in-Failed.is)
