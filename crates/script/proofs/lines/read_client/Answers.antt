use Rattle.std.proofs.Common.{rules}
use Rattle.pud_defs.specs.StateMachine.Grammar.{client_by}
use Rattle.script.proofs.lines.read_client.Goals as goal

pub returns : goal.returns
unfolding client_by
returns c = search rules
