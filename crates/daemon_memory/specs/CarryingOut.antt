-- What each command owes that is carried out.
use Rattle.std.specs.Prelude.{◌≡◌, ℕ, List, None, Option, Result, Some, IfOk}
use Rattle.pm_model.specs.Moments.{State}
use Rattle.pud_defs.specs.StateMachine.Changing.{KeepsFiles, file_in}
use Rattle.pm_model.specs.declared.host.HostFault.{HostFault}
use Rattle.pm_model.specs.declared.host.HostFault.TheVariants as hosts
use Rattle.pm_model.specs.Counts.{Counts, fault_of}
use Rattle.pm_model.specs.Words.{Image, reads}
use Rattle.pud_defs.specs.declared.machine.Command.{Command}
use Rattle.pud_defs.specs.RegistryTables.Puddles.{Member}
use Rattle.pud_defs.specs.StateMachine.Gives.{Gives, StepBy}
use Rattle.pud_defs.specs.StateMachine.Step.{Answer, refusal_of}
use Rattle.pud_defs.specs.StateMachine.World.{World}
use Rattle.daemon_memory.specs.Counted.{kind_of, CountsCommand}
use Rattle.daemon_memory.specs.declared.line_answer.LineAnswer.{LineAnswer}
use Rattle.daemon_memory.specs.Doing.{ActsWith}
use Rattle.daemon_memory.specs.Leading.{LeadsUnless, AppliesLed}
use Rattle.daemon_memory.specs.LineAnswers.{answer_of, IsOneLine}
use Rattle.daemon_memory.specs.Memory.{Memory}
use Rattle.daemon_memory.specs.Ready.{ClosesBefore, ClosesLogs}

-- Nothing is printed. The bytes left to read do not change, nor does any file except the named one.
pub record KeepsAllBut (file : Option (List ℕ)) (old new : State) : Type 0 where
  pub quiet : new.now.said ≡ old.now.said
  pub script : new.script ≡ old.script
  pub files : KeepsFiles file old.shelf new.shelf

-- What each command owes, before a restart that may follow it, if it leads frontiers so and does this. A step of the machine was made, and it was answered
-- so, in one line. Only a file that the command names was written, and it names none if power was lost; the world is then one that it gives when no
-- allocation fails. A client that is removed has its logs closed first. The host counted the command by its kind.
pub record CarriesOutBy (Leads : (Member → Option ℕ) → Type 0) (Acts : Type 0) (size : ℕ) (w : World) (memory : Memory) (command : Option Command) (done : Result LineAnswer HostFault) (before after : Counts) (old new : State) : Type 0 where
  pub said : Answer
  pub under : World
  pub step : StepBy w command said under
  pub gives : fault_of done ≡ Some hosts.Cut → Gives w command under
  pub replied : IfOk done (λ answered. answer_of under answered ≡ said)
  pub one_line : IfOk done IsOneLine
  pub led : AppliesLed Leads size w under memory (fault_of done) old new
  pub acts : Acts
  pub files : KeepsFiles (file_in command) old.shelf new.shelf
  pub no_file : fault_of done ≡ Some hosts.Cut → file_in command ≡ None
  pub closes : ClosesLogs ClosesBefore w command old new
  pub counted : CountsCommand (kind_of command) (fault_of done) before after

-- The same of a command that has these goals and this effect whenever it is not refused.
abbrev pub CarriesOutWith : (Leads : Image → (Member → Option ℕ) → Type 0) → (Does : Option HostFault → State → State → Type 0) → (size : ℕ) → World → Memory → Command → Result LineAnswer HostFault → (before after : Counts) → State → State → Type 0
CarriesOutWith Leads Does size w memory command done before after old new =
    CarriesOutBy (LeadsUnless (refusal_of w command) (Leads (reads old.now.words))) (ActsWith Does w command done old new) size w memory (Some command) done before after old new
