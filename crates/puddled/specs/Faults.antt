-- Why a start or a line ended, and what a host counted of it.
use Rattle.std.specs.Prelude.{◌≡◌, ◌≢◌, ◌⊎◌, ℕ, zero, suc, ◌≤◌, Bool, true, false, List, [], ◌∷◌, Option, Some, None, Result, Ok, Err, IfOk}
use Rattle.pm_model.specs.declared.host.HostFault.{HostFault}
use Rattle.pm_model.specs.declared.host.HostFault.TheVariants as hosts
use Rattle.pm_model.specs.Counts.{Counts, risen, after_fault, after_arm, after_loss_of}
use Rattle.pud_defs.specs.declared.machine.Command.{Command}
use Rattle.pud_defs.specs.declared.machine.Command.TheVariants.{Cut}
use Rattle.pud_defs.specs.declared.machine.Reply.{Reply}
use Rattle.pud_defs.specs.declared.machine.Reply.TheVariants as replies
use Rattle.pud_defs.specs.StateMachine.Grammar.{command_of}
use Rattle.pud_defs.specs.StateMachine.Run.{Turn, cuts_of}
use Rattle.pud_defs.specs.StateMachine.World.{World}
use Rattle.pud_defs.specs.Output.Texts.{begins_with_ok}
use Rattle.daemon_memory.specs.declared.line_answer.LineAnswer.{LineAnswer}
use Rattle.daemon_memory.specs.declared.line_answer.LineAnswer.TheVariants as answers
use Rattle.daemon_memory.specs.LineAnswers.{answer_of}
use Rattle.puddled.specs.declared.daemon.StartFault.{StartFault}
use Rattle.puddled.specs.declared.daemon.StartFault.TheVariants as starts
use Rattle.recover.specs.declared.recovery.RecoverFault.{RecoverFault}
use Rattle.recover.specs.declared.recovery.RecoverFault.TheVariants as recoveries
use Rattle.puddled.specs.declared.daemon.RunFault.{RunFault}
use Rattle.puddled.specs.declared.daemon.RunFault.TheVariants as faults
use Rattle.daemon_memory.specs.Counted.Kind.{ordinary, loses, arms}
use Rattle.daemon_memory.specs.Counted.{Kind, kind_of, IsUncut}

-- The host's fault that a start answered.
abbrev pub start_fault : {T : Type 0} → Result T StartFault → Option HostFault
start_fault (Ok x) = None
start_fault (Err starts.NotSound) = None
start_fault (Err (starts.Host fault)) = Some fault

-- The fault of a start, by the fault of its recovery.
abbrev pub of_recover : RecoverFault → StartFault
of_recover recoveries.NotSound = starts.NotSound
of_recover (recoveries.Host fault) = starts.Host fault

-- The fault of a run after a power loss, by the fault of the host or of the start.
abbrev pub of_host : HostFault → RunFault
of_host hosts.Failed = faults.Failed
of_host hosts.Cut = faults.CutInStart

abbrev pub of_start : StartFault → RunFault
of_start starts.NotSound = faults.NotSound
of_start (starts.Host fault) = of_host fault

-- The count after it rose n times.
abbrev pub risen_by : ℕ → ℕ → ℕ
risen_by zero count = count
risen_by (suc n) count = risen (risen_by n count)

-- The count rose by at least n, or it stands at the end of its type's range.
abbrev pub RoseBy : ℕ → ℕ → ℕ → Type 0
RoseBy n before now = risen_by n before ≤ now

-- This many more cuts are counted, and nothing else.
abbrev pub after_cuts : ℕ → Counts → Counts
after_cuts n c = record c { cuts = risen_by n c.cuts }

-- The fault that a call answered.
abbrev pub run_fault : {T : Type 0} → Result T RunFault → Option RunFault
run_fault (Ok x) = None
run_fault (Err fault) = Some fault

-- How many cuts are counted in an ordinary line that has n replies `cut`, by how the line ends. Without a fault it is
-- n: none, or the one for which the line is answered `cut`. At `NotSound` it is the one after which the daemon started
-- again. At `CutInStart` it is that one, and one in the restart. If the host failed it is none, or one before it
-- failed.
abbrev pub AreCuts : Option RunFault → ℕ → ℕ → Type 0
AreCuts None n count = count ≡ n
AreCuts (Some faults.Failed) n count = (n ≤ count) × (count ≤ 1)
AreCuts (Some faults.CutInStart) n count = (n ≡ 0) × (count ≡ 2)
AreCuts (Some faults.NotSound) n count = (n ≡ 0) × (count ≡ 1)

-- The host's fault with which the line ends.
abbrev pub last_fault : Option RunFault → Option HostFault
last_fault None = None
last_fault (Some faults.Failed) = Some hosts.Failed
last_fault (Some faults.CutInStart) = None
last_fault (Some faults.NotSound) = None

-- How many cuts are counted in the restart alone.
abbrev pub restart_cuts : Option RunFault → ℕ
restart_cuts None = 0
restart_cuts (Some faults.Failed) = 0
restart_cuts (Some faults.CutInStart) = 1
restart_cuts (Some faults.NotSound) = 0

-- This many cuts were counted, and then the fault with which the line ends.
pub record IsCounted (fault : Option RunFault) (n : ℕ) (old new : Counts) : Type 0 where
  pub count : ℕ
  pub cuts : AreCuts fault n count
  pub is : new ≡ after_fault (last_fault fault) (after_cuts count old)

-- The command asks for a power loss at once.
abbrev pub is_loss_kind : Kind → Bool
is_loss_kind ordinary = false
is_loss_kind (loses pick) = true
is_loss_kind (arms step pick) = false

abbrev pub is_loss : Option Command → Bool
is_loss command = is_loss_kind (kind_of command)

-- Exactly what a host counts in a line of this kind that has n replies `cut` and ends so. The arming of a cut is
-- counted with its step and pick, and no power is lost. A power loss at once is counted with its pick, and a cut is
-- counted only in the restart. In each other line its cuts are counted, and the fault at its end.
abbrev pub CountsKind : Kind → Option RunFault → ℕ → Counts → Counts → Type 0
CountsKind ordinary fault n old new = IsCounted fault n old new
CountsKind (loses pick) fault n old new = (n ≡ 0) × (new ≡ after_fault (last_fault fault) (after_cuts (restart_cuts fault) (after_loss_of pick old)))
CountsKind (arms step pick) fault n old new = (n ≡ 0) × AreCuts fault 0 0 × (new ≡ after_fault (last_fault fault) (after_arm step pick old))

-- The same for a line with this command.
abbrev pub CountsLine : Option Command → Option RunFault → ℕ → Counts → Counts → Type 0
CountsLine command fault n old new = CountsKind (kind_of command) fault n old new

-- What a host counts in a line up to its answer, whatever the device stores. Either the line is not answered `cut`, and
-- the counts are those of such a line. Or it is answered `cut`, and one cut is counted.
abbrev pub CountsReply : Option Command → Result LineAnswer RunFault → Counts → Counts → Type 0
CountsReply command answered old new =
    (IfOk answered IsUncut × CountsLine command (run_fault answered) 0 old new) ⊎ ((answered ≡ Ok (answers.Reply replies.Cut)) × CountsLine command None 1 old new)

-- What a host counts from there to the end of the line. The host may fail while the answer is printed. Nothing else is
-- counted.
abbrev pub CountsToSay : Result LineAnswer RunFault → Option RunFault → Counts → Counts → Type 0
CountsToSay (Ok answered) None old new = new ≡ old
CountsToSay (Ok answered) (Some fault) old new = (fault ≡ faults.Failed) × (new ≡ after_fault (Some hosts.Failed) old)
CountsToSay (Err ended) fault old new = (fault ≡ Some ended) × (new ≡ old)

-- What a host counts in a line, whatever the device stores, by the line's answer if it has one. The result is whether
-- the answer begins with `ok`.
pub record CountsAnswer (command : Option Command) (result : Result Bool RunFault) (old new : Counts) : Type 0 where
  pub answered : Result LineAnswer RunFault
  pub ok : IfOk result (λ ok. IfOk answered (λ a. (w : World) → ok ≡ begins_with_ok (answer_of w a)))
  pub mid : Counts
  pub replied : CountsReply command answered old mid
  pub said : CountsToSay answered (run_fault result) mid new

-- The reply after the restart that follows a power loss. A command that asks for the loss was carried out.
abbrev pub answer_after_loss : Kind → Reply
answer_after_loss ordinary = replies.Cut
answer_after_loss (loses pick) = replies.Ok
answer_after_loss (arms step pick) = replies.Cut

-- Power was lost in a line, as far as the line and the counts tell: the line asks for it, or a cut was counted. A count
-- at the end of its type's range does not rise any more. Only the reply tells of a cut that comes then.
abbrev pub HasLostPower : Option Command → Counts → Counts → Type 0
HasLostPower command old new = (is_loss command ≡ true) ⊎ (new.cuts ≢ old.cuts)

-- Each of the turns was counted as its line, with its reply.
abbrev pub CountsTurns : List Turn → Counts → Counts → Type 0
CountsTurns [] old new = new ≡ old
CountsTurns (t ∷ turns) old new = (mid : Counts) × CountsLine (command_of t.line) None (cuts_of (t ∷ [])) old mid × CountsTurns turns mid new

-- Over lines that went on, the size and the count of faults do not change, and no other count falls.
pub record Grows (old new : Counts) : Type 0 where
  pub size : new.size ≡ old.size
  pub faults : new.faults ≡ old.faults
  pub cuts : old.cuts ≤ new.cuts
  pub arms : old.arms ≤ new.arms
  pub losses : old.losses ≤ new.losses

-- Lines went on. At `CutInStart` a cut was counted in the restart. Then the run ended with this fault.
pub record CountsToEnd (fault : Option RunFault) (old new : Counts) : Type 0 where
  pub before : Counts
  pub grows : Grows old before
  pub cuts : RoseBy (restart_cuts fault) old.cuts before.cuts
  pub last : new ≡ after_fault (last_fault fault) before
