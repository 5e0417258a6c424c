-- What a line is answered.
use Rattle.std.specs.Prelude.{◌≡◌, ◌++◌, codes, Result, Ok, Err}
use Rattle.pm_model.specs.declared.host.HostFault.{HostFault}
use Rattle.pud_defs.specs.declared.machine.Reply.{Reply}
use Rattle.pud_defs.specs.StateMachine.World.{World}
use Rattle.pud_defs.specs.Output.Listing.{pools_text}
use Rattle.pud_defs.specs.StateMachine.Step.{Answer}
use Rattle.pud_defs.specs.StateMachine.Step.Answer.{of_reply, of_text}
use Rattle.pud_defs.specs.Output.Texts.{in_one_line}
use Rattle.daemon_memory.specs.declared.line_answer.LineAnswer.{LineAnswer}
use Rattle.daemon_memory.specs.declared.line_answer.LineAnswer.TheVariants as answers

-- A reply, as the answer to a line.
abbrev pub as_line_answer : Result Reply HostFault → Result LineAnswer HostFault
as_line_answer (Ok reply) = Ok (answers.Reply reply)
as_line_answer (Err fault) = Err fault

-- The machine's answer, if the device stands for this world.
abbrev pub answer_of : World → LineAnswer → Answer
answer_of w (answers.Reply reply) = of_reply reply
answer_of w answers.Pools = of_text (pools_text w.stored)
answer_of w (answers.Text text) = of_text (codes " " ++ text)

-- A text in an answer is one line.
abbrev pub IsOneLine : LineAnswer → Type 0
IsOneLine (answers.Text text) = in_one_line text ≡ text
IsOneLine answered = Unit {0}
