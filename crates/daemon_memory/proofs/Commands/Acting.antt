-- What a line does to the device: refused or not, after calls that read, and call after call.
use Rattle.std.proofs.Common.{inl, inr, Some, None, Option, refl, sym, ◌≡◌, Result, Ok, Err, ℕ, List, subst}
use Rattle.std.proofs.lemmas.Option.{none-some}
use Rattle.pm_model.specs.declared.host.HostFault.{HostFault}
use Rattle.pm_model.specs.Moments.{State}
use Rattle.daemon_memory.specs.Sequences.{Then}
use Rattle.pm_model.specs.Counts.{fault_of}
use Rattle.pud_defs.specs.declared.machine.Reply.{Reply}
use Rattle.daemon_memory.specs.LineAnswers.{as_line_answer}
use Rattle.pm_model.specs.Words.{reads}
use Rattle.pud_defs.specs.declared.records.Puddle.{Puddle}
use Rattle.pud_defs.specs.RegistryTables.Tables.{tables_of, puddles_in_turn}
use Rattle.daemon_memory.specs.Owning.{IsRecordSlot}
use Rattle.daemon_memory.specs.Doing.{OnPool, ChangesNothing, ActsUnless, ActsWith}
use Rattle.std.specs.Prelude.{IfOk}
use Rattle.pm_model.specs.declared.host.HostFault.TheVariants as hosts
use Rattle.pud_defs.specs.declared.machine.Command.{Command}
use Rattle.pud_defs.specs.declared.machine.Refusal.{Refusal}
use Rattle.pud_defs.specs.declared.machine.Refusal.TheVariants as refusals
use Rattle.pud_defs.specs.declared.machine.Reply.TheVariants as replies
use Rattle.pud_defs.specs.StateMachine.Step.{refusal_of}
use Rattle.pud_defs.specs.StateMachine.World.{World}
use Rattle.registry.specs.Pools.{OrStill}
use Rattle.daemon_memory.specs.declared.line_answer.LineAnswer.{LineAnswer}
use Rattle.daemon_memory.specs.declared.line_answer.LineAnswer.TheVariants as answers

module _ (First Second : Option HostFault → State → State → Type 0) where
  -- The first call failed.
  pub Then-failed : (fault : HostFault) (old new : State) → First (Some fault) old new → Then First Second (Some fault) old new
  Then-failed fault old new does = record { mid = new; first = Some fault; does = does; then = inl (λ none. none-some fault (sym none), (refl, refl)) }

  -- The first call did not fail.
  pub Then-done : (fault : Option HostFault) (old mid new : State) → First None old mid → Second fault mid new → Then First Second fault old new
  Then-done fault old mid new first second = record { mid = mid; first = None; does = first; then = inr (refl, second) }

-- The line's answer has the same fault as the reply.
pub fault_of_answer : (done : Result Reply HostFault) → fault_of (as_line_answer done) ≡ fault_of done
fault_of_answer (Ok reply) = refl
fault_of_answer (Err fault) = refl

-- The same on the pool of a name.
pub OnPool-after : (F : ℕ) (name : List ℕ) (Does : (slot : ℕ) → List (ℕ × Puddle) → State → State → Type 0) (slot : ℕ) (a b d : State) → b ≡ a → IsRecordSlot F name (reads a.now.words) slot
    → Does slot (puddles_in_turn (tables_of F (reads a.now.words)) slot) b d → OnPool F name Does a d
OnPool-after F name Does slot a b d same is does =
    record { slot = slot; is = is; does = subst (λ (s : State). Does slot (puddles_in_turn (tables_of F (reads a.now.words)) slot) s d) same does }

-- ---- refused or not

module _ (w : World) (c : Command) (Does : Option HostFault → State → State → Type 0) {old new : State} where
  -- one that is refused does nothing
  pub acts_refused : (r : Refusal) (done : Result LineAnswer HostFault) → refusal_of w c ≡ Some r → new ≡ old → ActsWith Does w c done old new
  acts_refused r done is same = inr (subst (λ (o : Option Refusal). ActsUnless o Does (fault_of done) old new) (sym is) same)

  -- nor does one before which the host failed, or for which an allocation failed
  pub acts_unread : (done : Result LineAnswer HostFault) → IfOk done (λ answered. answered ≡ answers.Reply (replies.No refusals.Memory)) → (fault_of done ≡ Some hosts.Cut → ⊥) → new ≡ old → ActsWith Does w c done old new
  acts_unread done why uncut same = inl (record { same = same; why = why; uncut = uncut })

  -- one that is not refused does this
  pub acts_free : (done : Result LineAnswer HostFault) → refusal_of w c ≡ None → Does (fault_of done) old new → ActsWith Does w c done old new
  acts_free done free acts = inr (subst (λ (o : Option Refusal). ActsUnless o Does (fault_of done) old new) (sym free) acts)

-- refused or not, one that only reads does nothing
pub unless_reading : (Does : Option HostFault → State → State → Type 0) {old new : State} → ((fault : Option HostFault) → Does fault old new) → (fault : Option HostFault) → new ≡ old → (r : Option Refusal) → ActsUnless r Does fault old new
unless_reading Does acts fault same None = acts fault
unless_reading Does acts fault same (Some why) = same

pub acts_nothing : (w : World) (c : Command) (done : Result LineAnswer HostFault) (old new : State) → new ≡ old → ActsWith ChangesNothing w c done old new
acts_nothing w c done old new same = inr (unless_reading ChangesNothing (λ fault. same) (fault_of done) same (refusal_of w c))

-- a command that is not refused had this effect, or a read failed
pub acts_or_still : (w : World) (c : Command) (Does : Option HostFault → State → State → Type 0) (done : Result LineAnswer HostFault) (Effect : Option HostFault → State → State → Type 0) (old new : State) → refusal_of w c ≡ None
    → OrStill Effect (fault_of done) old new → (Effect (fault_of done) old new → Does (fault_of done) old new) → ActsWith Does w c done old new
acts_or_still w c Does (Ok answered) Effect old new free (inl still) gives = absurd (still.1 refl)
acts_or_still w c Does (Err fault) Effect old new free (inl still) gives = acts_unread w c Does (Err fault) tt still.2 still.0
acts_or_still w c Does done Effect old new free (inr does) gives = acts_free w c Does done free (gives does)

-- ---- after calls that read

pub Does-after : (Does : Option HostFault → State → State → Type 0) (fault : Option HostFault) (a b d : State) → b ≡ a → Does fault b d → Does fault a d
Does-after Does fault a b d same acts = subst (λ (s : State). Does fault s d) same acts
