-- What one line does, at every moment.
use Rattle.std.specs.Prelude.{◌≡◌, ◌≢◌, ◌⊎◌, ℕ, Bool, cond, List, [], ◌∷◌, Option, Some, None, Result, Ok, Err, IfOk}
use Rattle.pm_model.specs.declared.host.HostFault.{HostFault}
use Rattle.pm_model.specs.Words.{Image, reads}
use Rattle.pm_model.specs.Counts.{Counts}
use Rattle.pm_model.specs.Moments.{State}
use Rattle.pm_model.specs.Changes.{Leaves, Silently}
use Rattle.pud_defs.specs.StateMachine.Step.{Answer}
use Rattle.pud_defs.specs.StateMachine.World.{World, world_of, closed}
use Rattle.pud_defs.specs.declared.machine.Command.{Command}
use Rattle.pud_defs.specs.StateMachine.Grammar.{command_of}
use Rattle.pud_defs.specs.StateMachine.Changing.{KeepsFiles}
use Rattle.pud_defs.specs.StateMachine.Run.{Turn, IsTurn, cuts_of}
use Rattle.pud_defs.specs.Output.Texts.{answer_text, begins_with_ok}
use Rattle.pud_defs.specs.StateMachine.Stands.{StandsWith}
use Rattle.independence.specs.Independence.{LeavesOthers}
use Rattle.daemon_memory.specs.Memory.{Memory}
use Rattle.daemon_memory.specs.Ready.{IsReady, RefusesNone, ClosesFirst, ClosesLogs}
use Rattle.daemon_memory.specs.declared.line_answer.LineAnswer.{LineAnswer}
use Rattle.puddled.specs.LineAnswers.{said_text}
use Rattle.daemon_memory.specs.LineAnswers.{answer_of, IsOneLine}
use Rattle.puddled.specs.declared.daemon.RunFault.{RunFault}
use Rattle.puddled.specs.declared.daemon.RunFault.TheVariants as faults
use Rattle.puddled.specs.Faults.{run_fault, CountsLine, CountsAnswer}
use Rattle.puddled.specs.Frontiers.{Leads}
use Rattle.puddled.specs.Saying.{SaysPart}
use Rattle.puddled.specs.Acts.{ActsAs}
use Rattle.puddled.specs.DoesLines.{ActsInLine, DoesLine}
use Rattle.daemon_memory.specs.CarryingOut.{CarriesOutBy}

-- The bytes left to read do not change, nor does any file except the named one.
pub record KeepsLine (file : Option (List ℕ)) (old new : State) : Type 0 where
  pub script : new.script ≡ old.script
  pub files : KeepsFiles file old.shelf new.shelf

-- What each command owes before a restart that may follow it: it leads frontiers as the table of `MovesFrontiers` tells, and
-- does what that of `Acts` tells, unless it is refused.
abbrev pub CarriesOut : (size : ℕ) → World → Memory → Option Command → Result LineAnswer HostFault → (before after : Counts) → State → State → Type 0
CarriesOut size w memory command done before after old new =
    CarriesOutBy (Leads w command (reads old.now.words)) (ActsAs w command done old new) size w memory command done before after old new

-- The turn of the machine that is of this line. If the line was answered, the turn has this answer.
pub record HasTurn (w : World) (line : List ℕ) (result : Result LineAnswer RunFault) : Type 0 where
  pub turn : Turn
  pub of_line : turn.line ≡ line
  pub is_turn : IsTurn w turn
  pub replied : IfOk result (λ answered. turn.answer ≡ answer_of turn.next answered)

-- A line was carried out, or refused, or cut off and the daemon started again. Nothing was printed. At every moment the
-- images stand for the world before the line or for the one that it gives. Without a fault the daemon is ready, with
-- this memory, in the world from which the run goes on. A client that is removed has its logs closed first. In no image
-- is a registered log refused.
pub record CarriesOutLine (size : ℕ) (w : World) (line : List ℕ) (result : Result LineAnswer RunFault) (memory : Memory) (before after : Counts) (old new : State) : Type 0 where
  pub took : HasTurn w line result
  pub acts : ActsInLine w (command_of line) result old new
  pub one_line : IfOk result IsOneLine
  pub moments : Leaves (Silently (λ image. (world_of size image ≡ Some (closed w)) ⊎ (world_of size image ≡ Some (closed took.turn.under)))) old new
  pub quiet : new.now.said ≡ old.now.said
  pub closes : ClosesLogs ClosesFirst w (command_of line) old new
  pub allowed : Leaves (λ bytes image. RefusesNone image) old new
  pub ready : run_fault result ≡ None → IsReady size took.turn.next memory new
  pub counted : CountsLine (command_of line) (run_fault result) (cuts_of (took.turn ∷ [])) before after
  pub sound : run_fault result ≢ Some faults.NotSound
  pub script : new.script ≡ old.script

-- What is printed of an answer: its text, if the answer is to be printed.
abbrev pub spoken : Bool → Answer → List ℕ
spoken aloud answer = cond aloud (answer_text answer) []

-- The text of an answer, as a device with some number of frames that reads as some image has it. It is one line, unless
-- it is a list of pools.
pub record IsAnswerText (text : List ℕ) : Type 0 where
  pub frames : ℕ
  pub image : Image
  pub answered : LineAnswer
  pub one_line : IsOneLine answered
  pub is : text ≡ said_text frames image answered

-- What is printed of a line that was answered. Otherwise this is empty.
abbrev pub text_answered : ℕ → Image → Result LineAnswer RunFault → List ℕ
text_answered frames image (Ok answered) = said_text frames image answered
text_answered frames image (Err fault) = []

-- If the answer is to be printed, one answer was printed, in one line, and nothing else: its text, by what the device
-- with this many frames then reads. With a fault a prefix of it was printed. The result is whether the answer begins
-- with `ok`. The answer is `cut` exactly if a cut was counted for which the line does not ask.
pub record SaysAnswer (frames : ℕ) (command : Option Command) (aloud : Bool) (result : Result Bool RunFault) (before after : Counts) (old new : State) : Type 0 where
  pub counted : CountsAnswer command result before after
  pub one_line : IfOk counted.answered IsOneLine
  pub says : SaysPart (cond aloud (text_answered frames (reads new.now.words) counted.answered) []) (run_fault result) old new

-- One line is one turn of the machine. At every moment the images stand for the world before the line or for the one
-- that it gives. The reply is printed only once that world is durable. Without a fault the whole reply is printed, and
-- the daemon, with this memory, is ready for the next line. A client that is removed has its logs closed first. In no
-- image left at any moment is a registered log refused, so a restart refuses none. Without a fault a cut was counted
-- exactly if the reply is `cut`. A line that names a pool leaves each other pool, and what is open on it, as it was, if
-- it defines no type and power was not lost.
pub record Answers (size : ℕ) (w : World) (line : List ℕ) (aloud : Bool) (result : Result Bool RunFault) (memory : Memory) (before after : Counts) (old new : State) : Type 0 where
  pub turn : Turn
  pub of_line : turn.line ≡ line
  pub is_turn : IsTurn w turn
  pub others : LeavesOthers w turn
  pub answered : Result LineAnswer RunFault
  pub given : IfOk answered (λ a. turn.answer ≡ answer_of turn.next a)
  pub ended : (run_fault answered ≡ None) ⊎ (run_fault answered ≡ run_fault result)
  pub does : DoesLine w (command_of line) answered old new
  pub ok : IfOk result (λ ok. ok ≡ begins_with_ok turn.answer)
  pub moments : Leaves (StandsWith size w (turn ∷ [])) old new
  pub says : SaysPart (spoken aloud turn.answer) (run_fault result) old new
  pub closes : ClosesLogs ClosesFirst w (command_of line) old new
  pub allowed : Leaves (λ bytes image. RefusesNone image) old new
  pub ready : run_fault result ≡ None → IsReady size turn.next memory new
  pub counted : CountsLine (command_of line) (run_fault result) (cuts_of (turn ∷ [])) before after
  pub sound : run_fault result ≢ Some faults.NotSound
  pub script : new.script ≡ old.script
