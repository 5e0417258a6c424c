use Rattle.std.proofs.Common.{rules}
use Rattle.pud_defs.specs.Output.Texts.{reply_text}
use Rattle.script.proofs.replies.print_reply.Goals as goal

pub returns-in-Ref-clause-text : goal.returns-in-Ref-clause-text
unfolding reply_text
returns-in-Ref-clause-text c = search rules
