-- What a line does to the device and to the files, with the restart after a power loss, and its reply.
use Rattle.std.specs.Prelude.{◌≡◌, ◌⊎◌, ℕ, List, [], ◌∷◌, Option, None, Result, Ok, Err, IfOk}
use Rattle.pm_model.specs.declared.host.HostFault.{HostFault}
use Rattle.pm_model.specs.declared.host.HostFault.TheVariants as hosts
use Rattle.pm_model.specs.Words.{reads, IsRested}
use Rattle.pm_model.specs.Moments.{State, all_said, with_script}
use Rattle.pm_model.specs.Changes.{Leaves}
use Rattle.pud_defs.specs.declared.machine.Command.{Command}
use Rattle.pud_defs.specs.StateMachine.Grammar.{command_of}
use Rattle.pud_defs.specs.StateMachine.Run.{Turn}
use Rattle.pud_defs.specs.StateMachine.World.{World}
use Rattle.daemon_memory.specs.declared.line_answer.LineAnswer.{LineAnswer}
use Rattle.daemon_memory.specs.declared.line_answer.LineAnswer.TheVariants as answers
use Rattle.puddled.specs.declared.daemon.RunFault.{RunFault}
use Rattle.puddled.specs.declared.daemon.RunFault.TheVariants as faults
use Rattle.puddled.specs.Acts.{ActsAs}
use Rattle.puddled.specs.Faults.{run_fault, answer_after_loss}
use Rattle.daemon_memory.specs.Counted.{kind_of}
use Rattle.daemon_memory.specs.LineAnswers.{answer_of}
use Rattle.puddled.specs.Starting.{DiffersByStart, HasTablesOf, IsReplayed}

-- The device was cut off and is started on again. At each moment each image differs from what was left only in words
-- that a start may write. It has the records of pools and puddles that were read, once the daemon log is replayed.
-- Nothing is printed, and no file changes.
pub record StartsAgain (F : ℕ) (old new : State) : Type 0 where
  pub rested : IsRested old.now.words
  pub rights : Leaves (λ bytes image. DiffersByStart F (reads old.now.words) image) old new
  pub tables : Leaves (λ bytes image. HasTablesOf F (reads old.now.words) image) old new
  pub quiet : new.now.said ≡ old.now.said
  pub shelf : new.shelf ≡ old.shelf

-- The start came to its end. Each word except those of the logs and of the log-space table is as the settled image has
-- it. The line has the reply that follows such a restart.
pub record IsStartedAgain (command : Option Command) (old new : State) (answered : LineAnswer) : Type 0 where
  pub replayed : IsReplayed (reads old.now.words) (reads new.now.words)
  pub reply : answered ≡ answers.Reply (answer_after_loss (kind_of command))

-- What follows a command that ended so: its own answer, the fault of the host, or, if power was lost, a start.
abbrev pub GoesOn : (F : ℕ) → Option Command → Result LineAnswer HostFault → Result LineAnswer RunFault → State → State → Type 0
GoesOn F command (Ok answered) result mid new = (result ≡ Ok answered) × (new ≡ mid)
GoesOn F command (Err hosts.Failed) result mid new = (result ≡ Err faults.Failed) × (new ≡ mid)
GoesOn F command (Err hosts.Cut) result mid new = StartsAgain F mid new × IfOk result (IsStartedAgain command mid new)

-- A line before its reply: its command, and what follows it.
pub record ActsInLine (w : World) (command : Option Command) (result : Result LineAnswer RunFault) (old new : State) : Type 0 where
  pub done : Result LineAnswer HostFault
  pub mid : State
  pub acts : ActsAs w command done old mid
  pub goes_on : GoesOn w.stored.frames command done result mid new

-- Only bytes were printed. No device step was taken, and no word and no file changed.
pub record OnlySays (old new : State) : Type 0 where
  pub bytes : List ℕ
  pub is : new ≡ all_said bytes old

-- A line with its reply, or with a part of it.
pub record DoesLine (w : World) (command : Option Command) (answered : Result LineAnswer RunFault) (old new : State) : Type 0 where
  pub mid : State
  pub acts : ActsInLine w command answered old mid
  pub says : OnlySays mid new

-- ---- lines in turn

-- A line of a run, up to its end. Bytes of the script were read. Then the line did what its command does, by its
-- answer, which is the turn's own reply; or it ended with this fault before it was answered.
pub record DoesTurn (w : World) (turn : Turn) (fault : Option RunFault) (old new : State) : Type 0 where
  pub from : State
  pub read : from ≡ with_script from.script old
  pub answered : Result LineAnswer RunFault
  pub given : IfOk answered (λ a. turn.answer ≡ answer_of turn.next a)
  pub ended : (run_fault answered ≡ None) ⊎ (run_fault answered ≡ fault)
  pub does : DoesLine w (command_of turn.line) answered from new

-- Each line is done in turn and answered whole, from one world to the next. Between two lines and after them only bytes
-- of the script were read.
abbrev pub DoLines : World → List Turn → State → State → Type 0
DoLines w [] old new = new ≡ with_script new.script old
DoLines w (t ∷ turns) old new = (mid : State) × DoesTurn w t None old mid × DoLines t.next turns mid new

-- The line under way, if there is one, up to its end.
abbrev pub DoesPending : World → List Turn → Option RunFault → State → State → Type 0
DoesPending w [] fault old new = new ≡ with_script new.script old
DoesPending w (t ∷ turns) fault old new = DoesTurn w t fault old new
