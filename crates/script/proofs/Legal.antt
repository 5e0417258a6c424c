-- Each command that is read from a line is legal.
use Rattle.std.proofs.Common.{◌≡◌, ℕ, List, Result, Ok, Err, IfOk, sym}
use Rattle.std.specs.Result.{result_ok}
use Rattle.pud_defs.specs.declared.machine.Command.{Command}
use Rattle.pud_defs.specs.StateMachine.Grammar.{command_of, IsLegalCommand}
use Rattle.pud_defs.proofs.StateMachine.Commands.{command_of-legal}
use Rattle.script.specs.declared.lines.Bad.{Bad}

pub legal_of : (line : List ℕ) (r : Result Command Bad) → result_ok r ≡ command_of line → IfOk r IsLegalCommand
legal_of line (Ok c) e = command_of-legal line c (sym e)
legal_of line (Err bad) e = tt
