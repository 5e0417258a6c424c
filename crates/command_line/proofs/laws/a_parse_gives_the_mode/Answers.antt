use Rattle.command_line.proofs.Agreement.{agrees}
use Rattle.command_line.proofs.laws.a_parse_gives_the_mode.Goals as goal

pub returns : goal.returns
returns c = agrees
