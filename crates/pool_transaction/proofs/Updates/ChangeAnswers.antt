-- The answer to the line of a change.
use Rattle.std.proofs.Common.{◌≡◌, ℕ, List, Some, None, Result, Ok, Err, refl, sym, ap, ◌∙◌}
use Rattle.std.specs.Prelude.{IfOk}
use Rattle.pm_model.specs.declared.host.HostFault.{HostFault}
use Rattle.pud_defs.specs.declared.machine.Command.TheVariants as commands
use Rattle.pud_defs.specs.declared.machine.Reply.{Reply}
use Rattle.pud_defs.specs.declared.machine.Reply.TheVariants as replies
use Rattle.pud_defs.specs.StateMachine.World.{World}
use Rattle.pud_defs.specs.StateMachine.Step.{Answer, refusal_of, answer_by}
use Rattle.pud_defs.specs.StateMachine.Step.Answer.{of_reply}
use Rattle.pud_defs.proofs.StateMachine.Steps.{answer_is_ok}
use Rattle.pool_transaction.specs.declared.changing.Update.{Update}
use Rattle.pool_transaction.specs.declared.changing.Update.TheVariants as changes
use Rattle.pool_transaction.specs.Changing.{command_of_update}

-- A line that went well gave this reply, which is the answer.
pub reply_as : {reply : Reply} {answer : Answer} → (done : Result Reply HostFault) → IfOk done (λ r. r ≡ reply) → of_reply reply ≡ answer → IfOk done (λ r. of_reply r ≡ answer)
reply_as (Ok r) same is = ap of_reply same ∙ is
reply_as (Err fault) same is = tt

module _ (client : ℕ) (name : List ℕ) where
  -- The answer to a change that is not refused.
  pub change_answer : (w : World) (change : Update) → refusal_of w (command_of_update change client name) ≡ None → of_reply replies.Ok ≡ answer_by w (Some (command_of_update change client name))
  change_answer w (changes.Set s f x) free = sym (answer_is_ok w (commands.Set client name s f x) refl refl free)
  change_answer w (changes.Later s f x) free = sym (answer_is_ok w (commands.Later client name s f x) refl refl free)
  change_answer w (changes.Root s) free = sym (answer_is_ok w (commands.Root client name s) refl refl free)
  change_answer w (changes.Free s) free = sym (answer_is_ok w (commands.Free client name s) refl refl free)
