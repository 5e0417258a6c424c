-- The line that defines a type: what it does on the device, by what its call did.
use Rattle.std.proofs.Common.{◌≡◌, inr, ℕ, Option, Some, None, Result, refl, sym, subst, ◌∙◌}
use Rattle.pm_model.specs.declared.host.HostFault.{HostFault}
use Rattle.pm_model.specs.Counts.{fault_of}
use Rattle.pm_model.specs.Moments.{State}
use Rattle.pm_model.specs.Words.{reads}
use Rattle.pud_defs.specs.declared.machine.Command.{Command}
use Rattle.pud_defs.specs.declared.machine.Command.TheVariants as commands
use Rattle.pud_defs.specs.StateMachine.Step.{refusal_of}
use Rattle.pud_defs.specs.StateMachine.World.{World}
use Rattle.type_maps.specs.declared.TypeFault.{TypeFault}
use Rattle.type_maps.specs.Define.{fault_in, place_for, Defines}
use Rattle.daemon_memory.specs.Defined.{reply_of_definition}
use Rattle.daemon_memory.specs.Memory.{Memory}
use Rattle.daemon_memory.specs.Ready.{IsReady}
use Rattle.daemon_memory.proofs.Commands.Defining.{allowed_when_placed, fault_of_reply}
use Rattle.daemon_memory.specs.declared.line_answer.LineAnswer.{LineAnswer}
use Rattle.daemon_memory.specs.LineAnswers.{as_line_answer}
use Rattle.puddled.specs.Acts.{DefinesAt, ActsAs, Acts}
use Rattle.daemon_memory.proofs.Commands.Acting.{unless_reading, acts_free, fault_of_answer}

module _ (size : ℕ) (w : World) (memory : Memory) (id map : ℕ) (done : Result (Unit {0}) TypeFault) (old new : State) (ready : IsReady size w memory old) where
  abbrev type_line : Command
  type_line = commands.Define id map

  abbrev answer_defined : Result LineAnswer HostFault
  answer_defined = as_line_answer (reply_of_definition done)

  defined_by : (place : Option ℕ) → place_for (reads old.now.words) id ≡ place → (place_for (reads old.now.words) id ≡ None → new ≡ old)
      → ((r : ℕ) → place_for (reads old.now.words) id ≡ Some r → Defines r id map (fault_in done) old new) → ActsAs w (Some type_line) answer_defined old new
  defined_by None is idle defines =
      inr (unless_reading (Acts w type_line) (λ fault. subst (λ (place : Option ℕ). DefinesAt place id map fault old new) (sym is) (idle is)) (fault_of answer_defined) (idle is) (refusal_of w type_line))
  defined_by (Some r) is idle defines =
      acts_free w type_line _ answer_defined (allowed_when_placed size w memory id map r old ready is)
      (subst (λ (place : Option ℕ). DefinesAt place id map (fault_of answer_defined) old new) (sym is)
      (subst (λ (fault : Option HostFault). Defines r id map fault old new) (sym (fault_of_answer (reply_of_definition done) ∙ fault_of_reply done)) (defines r is)))

  -- The type is written into the lowest free record, or nothing is done.
  pub acts_define : (place_for (reads old.now.words) id ≡ None → new ≡ old) → ((r : ℕ) → place_for (reads old.now.words) id ≡ Some r → Defines r id map (fault_in done) old new)
      → ActsAs w (Some type_line) answer_defined old new
  acts_define idle defines = defined_by (place_for (reads old.now.words) id) refl idle defines
