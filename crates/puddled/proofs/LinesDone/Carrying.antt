-- What each command owes, from what its own call ensures.
use Rattle.pm_model.specs.Words.{reads}
use Rattle.std.proofs.Common.{◌≡◌, inl, inr, ℕ, true, Option, Some, None, Result, Ok, Err, refl, sym, ap, subst, ◌∙◌}
use Rattle.std.specs.Prelude.{IfOk, is_some}
use Rattle.std.proofs.lemmas.Option.{same_Some}
use Rattle.pm_model.specs.declared.host.HostFault.{HostFault}
use Rattle.pm_model.specs.declared.host.HostFault.TheVariants as hosts
use Rattle.pm_model.specs.Counts.{Counts, after_fault, after_arm, after_loss_of, fault_of}
use Rattle.pm_model.specs.Moments.{State}
use Rattle.pud_defs.specs.declared.machine.Command.{Command}
use Rattle.pud_defs.specs.declared.machine.Command.TheVariants.{Leave, Cut, Arm, Pools}
use Rattle.pud_defs.specs.declared.machine.Reply.{Reply}
use Rattle.pud_defs.specs.declared.machine.Reply.TheVariants as replies
use Rattle.pud_defs.specs.declared.machine.Refusal.TheVariants as refusals
use Rattle.pud_defs.specs.StateMachine.World.{World, restart}
use Rattle.pud_defs.specs.StateMachine.Step.{Answer, refusal_of, after, answer, answer_by, world_by}
use Rattle.pud_defs.specs.StateMachine.Step.Answer.{of_reply, of_text}
use Rattle.pud_defs.specs.Output.Listing.{pools_text}
use Rattle.pud_defs.specs.StateMachine.Gives.{StepBy, may_lack_memory}
use Rattle.pud_defs.specs.StateMachine.Changing.{file_of}
use Rattle.pud_defs.proofs.StateMachine.Changing.{Gives-plain, KeepsFiles-still}
use Rattle.pud_defs.proofs.StateMachine.Steps.{answer_is_ok, done_world}
use Rattle.daemon_memory.specs.Counted.{kind_of}
use Rattle.daemon_memory.specs.Counted.Kind.{ordinary, loses, arms}
use Rattle.daemon_memory.specs.Memory.{Memory}
use Rattle.daemon_memory.specs.declared.line_answer.LineAnswer.{LineAnswer}
use Rattle.daemon_memory.specs.declared.line_answer.LineAnswer.TheVariants as answers
use Rattle.daemon_memory.specs.LineAnswers.{as_line_answer}
use Rattle.daemon_memory.specs.Moves.{still}
use Rattle.daemon_memory.specs.Ready.{KeepsRest, IsReady, Applies, ClosesBefore, ClosesLogs}
use Rattle.puddled.specs.Daemon.{CarriesOut}
use Rattle.puddled.specs.Acts.{ActsAs, Acts}
use Rattle.daemon_memory.proofs.Commands.Applying.{Applies-idle}
use Rattle.daemon_memory.proofs.Commands.CarriedOut.{plain_step, ClosesLogs-other, CarriesOutWith-led, CarriesOutWith-plain}
use Rattle.pud_defs.specs.Formats.Image.{Image}
use Rattle.daemon_memory.specs.Leading.{AppliesWith}
use Rattle.daemon_memory.proofs.Commands.Acting.{acts_nothing, acts_free}
use Rattle.daemon_memory.proofs.Commands.Leading.{leads_still, AppliesLed-still}
use Rattle.puddled.specs.Frontiers.{MovesFrontiers, Leads}

-- ---- commands that are never refused

cut_is_free : (w : World) (pick : ℕ) → refusal_of w (Cut pick) ≡ None
unfolding refusal_of
cut_is_free w pick = refl

arm_is_free : (w : World) (step pick : ℕ) → refusal_of w (Arm step pick) ≡ None
unfolding refusal_of
arm_is_free w step pick = refl

world_of_cut : (w : World) (pick : ℕ) → world_by w (Some (Cut pick)) ≡ restart w
unfolding after
world_of_cut w pick = done_world w (Cut pick) (cut_is_free w pick)

world_of_arm : (w : World) (step pick : ℕ) → world_by w (Some (Arm step pick)) ≡ w
unfolding after
world_of_arm w step pick = done_world w (Arm step pick) (arm_is_free w step pick)

world_of_pools : (w : World) → world_by w (Some Pools) ≡ w
unfolding after refusal_of
world_of_pools w = refl

answer_of_pools : (w : World) → answer_by w (Some Pools) ≡ of_text (pools_text w.stored)
unfolding answer refusal_of
answer_of_pools w = refl

-- A line that asks for a power loss at once is answered `ok`, and gives the world that a restart leaves.
pub record IsRestart (w : World) (command : Option Command) : Type 0 where
  pub answered : answer_by w command ≡ of_reply replies.Ok
  pub given : world_by w command ≡ restart w

pub restart_line : (w : World) (command : Option Command) (pick : ℕ) → kind_of command ≡ loses pick → IsRestart w command
restart_line w (Some (Cut p)) pick is = record { answered = answer_is_ok w (Cut p) refl refl (cut_is_free w p); given = world_of_cut w p }
restart_line w (Some (Arm step p)) pick is = absurd (let no : arms step p ≡ loses pick = is in cc)
restart_line w command pick is = absurd (let no : ordinary ≡ loses pick = is in cc)

-- The step that was made has this answer.
pub lost_answer : (w : World) (command : Option Command) (pick : ℕ) (said : Answer) (next : World) → kind_of command ≡ loses pick → StepBy w command said next → said ≡ of_reply replies.Ok
unfolding may_lack_memory
lost_answer w (Some (Cut p)) pick said next is (inl done) = done.answered ∙ (restart_line w (Some (Cut p)) pick is).answered
lost_answer w (Some (Cut p)) pick said next is (inr out) =
    let asked : Cut p ≡ out.asked = same_Some (Cut p) out.asked out.is in
    absurd (let no : may_lack_memory w (Cut p) ≡ true = ap (may_lack_memory w) asked ∙ out.may in cc)
lost_answer w (Some (Arm step p)) pick said next is step_made = absurd (let no : arms step p ≡ loses pick = is in cc)
lost_answer w command pick said next is step_made = absurd (let no : ordinary ≡ loses pick = is in cc)

-- ---- a step that writes no file and needs no memory

-- ---- a client that is removed

-- The call of `leave` closes the client's logs first.
pub ClosesLogs-leave : (w : World) (client : ℕ) (old new : State) → (true ≡ is_some (w.clients client) → ClosesBefore w.stored.frames client old new) → ClosesLogs ClosesBefore w (Some (Leave client)) old new
ClosesLogs-leave w client old new closes = record {
  first = λ other is present.
      let same : client ≡ other = cc in
      subst (λ (n : ℕ). ClosesBefore w.stored.frames n old new) same (closes (subst (λ (n : ℕ). true ≡ is_some (w.clients n)) (sym same) present));
}

-- ---- each command

-- The command moves no frontier.
pub record MovesNone (c : Command) : Type 0 where
  pub none : (F : ℕ) (before : Image) → MovesFrontiers F c before still

leads_none : (w : World) (c : Command) → MovesNone c → (before : Image) → Leads w (Some c) before still
leads_none w c moves before = leads_still (MovesFrontiers w.stored.frames c before) (refusal_of w c) (moves.none w.stored.frames before)

module _ (size : ℕ) (w : World) (memory : Memory) (before after : Counts) (old new : State) where
  -- a command that counts nothing of its own, and writes no file
  pub CarriesOut-led : (c : Command) (done : Result Reply HostFault) → kind_of (Some c) ≡ ordinary → file_of c ≡ None → IfOk done (λ reply. of_reply reply ≡ answer_by w (Some c))
      → AppliesWith (MovesFrontiers w.stored.frames c) size w (world_by w (Some c)) c memory (fault_of done) old new → ClosesLogs ClosesBefore w (Some c) old new → KeepsRest old new → after ≡ after_fault (fault_of done) before
      → ActsAs w (Some c) (as_line_answer done) old new → CarriesOut size w memory (Some c) (as_line_answer done) before after old new
  CarriesOut-led c done plain none replied applies closes rest cause acts =
      CarriesOutWith-led (MovesFrontiers w.stored.frames c) (Acts w c) size w memory before after old new c done plain none replied applies closes rest cause acts

  -- one that moves no frontier either
  pub CarriesOut-plain : (c : Command) (done : Result Reply HostFault) → kind_of (Some c) ≡ ordinary → file_of c ≡ None → MovesNone c → IfOk done (λ reply. of_reply reply ≡ answer_by w (Some c))
      → Applies size w (world_by w (Some c)) memory (fault_of done) old new → ClosesLogs ClosesBefore w (Some c) old new → KeepsRest old new → after ≡ after_fault (fault_of done) before
      → ActsAs w (Some c) (as_line_answer done) old new → CarriesOut size w memory (Some c) (as_line_answer done) before after old new
  CarriesOut-plain c done plain none moves replied applies closes rest cause acts =
      CarriesOutWith-plain (MovesFrontiers w.stored.frames c) (Acts w c) size w memory before after old new c done plain none (moves.none w.stored.frames (reads old.now.words)) replied applies closes rest cause acts

  -- a command with its answer, by what the command is
  pub CarriesOut-of : (x c : Command) (done : Result LineAnswer HostFault) → x ≡ c → CarriesOut size w memory (Some c) done before after old new → CarriesOut size w memory (Some x) done before after old new
  CarriesOut-of x c done is k = subst (λ (y : Command). CarriesOut size w memory (Some y) done before after old new) (sym is) k

  -- What is owed depends only on which command it is and what was replied.
  pub CarriesOut-as : (x c : Command) (r : Result LineAnswer HostFault) (done : Result Reply HostFault) → x ≡ c → r ≡ as_line_answer done → CarriesOut size w memory (Some c) (as_line_answer done) before after old new
      → CarriesOut size w memory (Some x) r before after old new
  CarriesOut-as x c r done is same k =
      subst (λ (y : Command). CarriesOut size w memory (Some y) r before after old new) (sym is) (subst (λ (s : Result LineAnswer HostFault). CarriesOut size w memory (Some c) s before after old new) (sym same) k)

  -- The line that asks for the list of the pools does what it owes.
  pub CarriesOut-listed : IsReady size w memory old → new ≡ old → after ≡ before → CarriesOut size w memory (Some Pools) (Ok answers.Pools) before after old new
  CarriesOut-listed ready same cause = let applies = subst (λ (v : World). Applies size w v memory None old new) (sym (world_of_pools w)) (Applies-idle size w memory old new ready same) in record {
    acts = acts_nothing w Pools (Ok answers.Pools) old new same;
    said = answer_by w (Some Pools);
    under = world_by w (Some Pools);
    step = plain_step w (Some Pools) refl;
    gives = λ _. Gives-plain w (Some Pools) refl;
    one_line = tt;
    replied = ap (λ (v : World). of_text (pools_text v.stored)) (world_of_pools w) ∙ sym (answer_of_pools w);
    led = AppliesLed-still size w (world_by w (Some Pools)) memory None old new (Leads w (Some Pools) (reads old.now.words)) (inl (leads_none w Pools (record { none = λ F before. refl }) (reads old.now.words))) (applies);
    files = KeepsFiles-still None old.shelf new.shelf (ap (λ (s : State). s.shelf) same);
    no_file = λ _. refl;
    closes = ClosesLogs-other w (Some Pools) old new (λ client is. cc);
    counted = cause;
  }

  -- So does a line in which power was lost at once.
  pub CarriesOut-lost : (pick : ℕ) (done : Result Reply HostFault) → done ≡ Err hosts.Cut → Applies size w (restart w) memory (Some hosts.Cut) old new → KeepsRest old new
      → after ≡ after_loss_of pick before → CarriesOut size w memory (Some (Cut pick)) (as_line_answer done) before after old new
  CarriesOut-lost pick done is applies rest cause = subst (λ (r : Result Reply HostFault). CarriesOut size w memory (Some (Cut pick)) (as_line_answer r) before after old new) (sym is) (record {
    acts = acts_free w (Cut pick) _ (Err hosts.Cut) (cut_is_free w pick) refl;
    said = answer_by w (Some (Cut pick));
    under = world_by w (Some (Cut pick));
    step = plain_step w (Some (Cut pick)) refl;
    gives = λ _. Gives-plain w (Some (Cut pick)) refl;
    replied = tt;
    one_line = tt;
    led = AppliesLed-still size w (world_by w (Some (Cut pick))) memory (Some hosts.Cut) old new (Leads w (Some (Cut pick)) (reads old.now.words)) (inl (leads_none w (Cut pick) (record { none = λ F before. refl }) (reads old.now.words))) (subst (λ (v : World). Applies size w v memory (Some hosts.Cut) old new) (sym (world_of_cut w pick)) applies);
    files = KeepsFiles-still None old.shelf new.shelf rest.shelf;
    no_file = λ _. refl;
    closes = ClosesLogs-other w (Some (Cut pick)) old new (λ client is. cc);
    counted = (refl, cause);
  })

  -- So does a line that arms a cut.
  pub CarriesOut-armed : (step pick : ℕ) (done : Result Reply HostFault) → done ≡ Ok replies.Ok → IsReady size w memory old → new ≡ old
      → after ≡ after_arm step pick before → CarriesOut size w memory (Some (Arm step pick)) (as_line_answer done) before after old new
  CarriesOut-armed step pick done is ready same cause = subst (λ (r : Result Reply HostFault). CarriesOut size w memory (Some (Arm step pick)) (as_line_answer r) before after old new) (sym is) (record {
    acts = acts_nothing w (Arm step pick) (Ok (answers.Reply replies.Ok)) old new same;
    said = answer_by w (Some (Arm step pick));
    under = world_by w (Some (Arm step pick));
    step = plain_step w (Some (Arm step pick)) refl;
    gives = λ _. Gives-plain w (Some (Arm step pick)) refl;
    one_line = tt;
    replied = sym (answer_is_ok w (Arm step pick) refl refl (arm_is_free w step pick));
    led = AppliesLed-still size w (world_by w (Some (Arm step pick))) memory None old new (Leads w (Some (Arm step pick)) (reads old.now.words)) (inl (leads_none w (Arm step pick) (record { none = λ F before. refl }) (reads old.now.words))) (subst (λ (v : World). Applies size w v memory None old new) (sym (world_of_arm w step pick)) (Applies-idle size w memory old new ready same));
    files = KeepsFiles-still None old.shelf new.shelf (ap (λ (s : State). s.shelf) same);
    no_file = λ _. refl;
    closes = ClosesLogs-other w (Some (Arm step pick)) old new (λ client is. cc);
    counted = (refl, cause);
  })

  -- So does a line that is no command.
  pub CarriesOut-bad : IsReady size w memory old → new ≡ old → after ≡ before → CarriesOut size w memory None (Ok (answers.Reply (replies.No refusals.Bad))) before after old new
  CarriesOut-bad ready same cause = record {
    acts = same;
    said = answer_by w None;
    under = w;
    step = plain_step w None refl;
    gives = λ _. Gives-plain w None refl;
    replied = refl;
    one_line = tt;
    led = AppliesLed-still size w w memory None old new (Leads w None (reads old.now.words)) (inl refl) (Applies-idle size w memory old new ready same);
    files = KeepsFiles-still None old.shelf new.shelf (ap (λ (s : State). s.shelf) same);
    no_file = λ _. refl;
    closes = ClosesLogs-other w None old new (λ client is. cc);
    counted = cause;
  }
