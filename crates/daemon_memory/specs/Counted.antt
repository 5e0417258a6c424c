-- What a host counts over a command.
use Rattle.std.specs.Prelude.{◌≡◌, ◌≢◌, ℕ, Option, Some, None}
use Rattle.pm_model.specs.declared.host.HostFault.{HostFault}
use Rattle.pm_model.specs.declared.host.HostFault.TheVariants as hosts
use Rattle.pm_model.specs.Counts.{Counts, after_fault, after_arm, after_loss_of}
use Rattle.pud_defs.specs.declared.machine.Command.{Command}
use Rattle.pud_defs.specs.declared.machine.Command.TheVariants.{Cut, Arm}
use Rattle.pud_defs.specs.declared.machine.Reply.TheVariants as replies
use Rattle.daemon_memory.specs.declared.line_answer.LineAnswer.{LineAnswer}
use Rattle.daemon_memory.specs.declared.line_answer.LineAnswer.TheVariants as answers

-- What a host counts of a command: nothing of its own, a power loss at once with this pick, or a cut armed with this
-- step and pick.
pub data Kind : Type 0 where
  ordinary : Kind
  loses : ℕ → Kind
  arms : ℕ → ℕ → Kind

abbrev pub kind_of : Option Command → Kind
kind_of (Some (Cut pick)) = loses pick
kind_of (Some (Arm step pick)) = arms step pick
kind_of command = ordinary

-- The answer is not the reply `cut`.
abbrev pub IsUncut : LineAnswer → Type 0
IsUncut answered = answered ≢ answers.Reply replies.Cut

-- What a host counts of a command up to its end, before a restart: the fault at its end. A command that asks for a
-- power loss at once ends with power lost. A command that arms a cut ends without a fault.
abbrev pub CountsCommand : Kind → Option HostFault → Counts → Counts → Type 0
CountsCommand ordinary fault old new = new ≡ after_fault fault old
CountsCommand (loses pick) fault old new = (fault ≡ Some hosts.Cut) × (new ≡ after_loss_of pick old)
CountsCommand (arms step pick) fault old new = (fault ≡ None) × (new ≡ after_arm step pick old)
