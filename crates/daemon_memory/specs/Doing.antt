-- What a line does to the device and to the files: whose it is, on which pool, and what is left out if it is refused.
use Rattle.std.specs.Prelude.{◌≡◌, ℕ, List, Some, ◌≢◌, Result, IfOk, ◌⊎◌, None, Option}
use Rattle.pm_model.specs.Words.{reads}
use Rattle.pm_model.specs.Moments.{State}
use Rattle.pud_defs.specs.declared.records.Puddle.{Puddle}
use Rattle.pud_defs.specs.RegistryTables.Spaces.{Owner}
use Rattle.pud_defs.specs.RegistryTables.Tables.{tables_of, puddles_in_turn}
use Rattle.pud_defs.specs.StateMachine.World.{World}
use Rattle.daemon_memory.specs.Owning.{IsRecordSlot}
use Rattle.pm_model.specs.declared.host.HostFault.{HostFault}
use Rattle.pm_model.specs.declared.host.HostFault.TheVariants as hosts
use Rattle.pm_model.specs.Counts.{fault_of}
use Rattle.pud_defs.specs.declared.machine.Refusal.TheVariants as refusals
use Rattle.pud_defs.specs.declared.machine.Reply.TheVariants as replies
use Rattle.daemon_memory.specs.declared.line_answer.LineAnswer.{LineAnswer}
use Rattle.daemon_memory.specs.declared.line_answer.LineAnswer.TheVariants as answers
use Rattle.pud_defs.specs.declared.machine.Command.{Command}
use Rattle.pud_defs.specs.declared.machine.Refusal.{Refusal}
use Rattle.pud_defs.specs.StateMachine.Step.{refusal_of}

-- This was done for the owner as which the client acts.
pub record ActsFor (w : World) (client : ℕ) (Does : (uid gid : ℕ) → State → State → Type 0) (old new : State) : Type 0 where
  pub who : Owner
  pub is : w.clients client ≡ Some who
  pub does : Does who.uid who.gid old new

-- This was done on the pool of the name, by the slot of its record and its puddles in turn.
pub record OnPool (F : ℕ) (name : List ℕ) (Does : (slot : ℕ) → List (ℕ × Puddle) → State → State → Type 0) (old new : State) : Type 0 where
  pub slot : ℕ
  pub is : IsRecordSlot F name (reads old.now.words) slot
  pub does : Does slot (puddles_in_turn (tables_of F (reads old.now.words)) slot) old new

-- Nothing was done: the host failed before, or an allocation failed.
pub record DoesNothing (done : Result LineAnswer HostFault) (old new : State) : Type 0 where
  pub same : new ≡ old
  pub why : IfOk done (λ answered. answered ≡ answers.Reply (replies.No refusals.Memory))
  pub uncut : fault_of done ≢ Some hosts.Cut

-- no word and no file changes
abbrev pub ChangesNothing : Option HostFault → State → State → Type 0
ChangesNothing fault old new = new ≡ old

-- this is done, or nothing if it is refused
abbrev pub ActsUnless : Option Refusal → (Does : Option HostFault → State → State → Type 0) → Option HostFault → State → State → Type 0
ActsUnless None Does fault old new = Does fault old new
ActsUnless (Some why) Does fault old new = new ≡ old

-- The same, with the answer that it has; or nothing was done.
abbrev pub ActsBy : Option Refusal → (Does : Option HostFault → State → State → Type 0) → Result LineAnswer HostFault → State → State → Type 0
ActsBy why Does done old new = DoesNothing done old new ⊎ ActsUnless why Does (fault_of done) old new

-- What a command does up to a restart, if it does this whenever it is not refused.
abbrev pub ActsWith : (Does : Option HostFault → State → State → Type 0) → World → Command → Result LineAnswer HostFault → State → State → Type 0
ActsWith Does w command done old new = ActsBy (refusal_of w command) Does done old new
