use Rattle.std.proofs.Common.{rules}
use Rattle.pud_defs.specs.StateMachine.Grammar.{command_of}
use Rattle.script.proofs.Legal.{legal_of}
use Rattle.script.proofs.lines.parse_line.Goals as goal

pub returns-clause-legal : goal.returns-clause-legal
unfolding command_of
returns-clause-legal c = legal_of c.args.line.now c.ok_or.result (search rules)

pub returns-clause-command : goal.returns-clause-command
unfolding command_of
returns-clause-command c = search rules
