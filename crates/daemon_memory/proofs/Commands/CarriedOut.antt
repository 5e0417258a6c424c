-- What each command owes, by what its own call did: refused, stopped, or done.
use Rattle.std.proofs.Common.{◌≡◌, inl, ℕ, List, Option, Some, None, refl, ◌∙◌, sym, subst, Result, Ok, Err, ap}
use Rattle.pm_model.specs.Moments.{State}
use Rattle.pud_defs.specs.declared.machine.Command.{Command}
use Rattle.pud_defs.specs.declared.machine.Command.TheVariants.{Leave}
use Rattle.pud_defs.specs.StateMachine.World.{World}
use Rattle.pud_defs.specs.StateMachine.Step.{answer_by, world_by, refusal_of, after}
use Rattle.pud_defs.specs.StateMachine.Gives.{StepBy}
use Rattle.pud_defs.specs.StateMachine.Changing.{file_in, file_of}
use Rattle.pud_defs.proofs.StateMachine.Changing.{Gives-plain, KeepsFiles-still, KeepsFiles-then}
use Rattle.daemon_memory.specs.Ready.{KeepsRest, ClosesBefore, ClosesLogs, IsReady, Applies}
use Rattle.daemon_memory.specs.CarryingOut.{KeepsAllBut, CarriesOutWith}
use Rattle.pm_model.specs.declared.host.HostFault.TheVariants.{Cut}
use Rattle.pm_model.proofs.Leaves.{Leaves-still}
use Rattle.daemon_memory.specs.Counted.{kind_of, Kind, CountsCommand}
use Rattle.daemon_memory.specs.Counted.Kind.{ordinary}
use Rattle.daemon_memory.specs.Memory.{Memory}
use Rattle.daemon_memory.proofs.PoolChanges.PuddlesLeft.{LeavesPuddles-still}
use Rattle.daemon_memory.proofs.Commands.Beside.{ready_stands}
use Rattle.std.specs.Prelude.{IfOk}
use Rattle.pm_model.specs.declared.host.HostFault.{HostFault}
use Rattle.pm_model.specs.Words.{reads}
use Rattle.pm_model.specs.Counts.{Counts, after_fault, fault_of}
use Rattle.pud_defs.specs.declared.machine.Refusal.{Refusal}
use Rattle.pud_defs.specs.declared.machine.Reply.{Reply}
use Rattle.pud_defs.specs.declared.machine.Reply.TheVariants as replies
use Rattle.pud_defs.specs.Formats.Image.{Image}
use Rattle.pud_defs.specs.RegistryTables.Puddles.{Member}
use Rattle.pud_defs.specs.StateMachine.Step.Answer.{of_reply}
use Rattle.pud_defs.proofs.StateMachine.Steps.{refused_answer, done_world}
use Rattle.daemon_memory.specs.Doing.{ActsWith}
use Rattle.daemon_memory.specs.Leading.{LeadsUnless, AppliesWith}
use Rattle.daemon_memory.specs.LineAnswers.{as_line_answer}
use Rattle.daemon_memory.specs.Moves.{still}
use Rattle.daemon_memory.proofs.Commands.Acting.{acts_refused, acts_unread, acts_free}
use Rattle.daemon_memory.proofs.Commands.Applying.{Applies-failed, Applies-refused}
use Rattle.daemon_memory.proofs.Commands.Keeping.{KeepsRest-still}
use Rattle.daemon_memory.proofs.Commands.Leading.{AppliesLed-failed, AppliesWith-still, AppliesWith-refused}

-- A call that keeps the shelf keeps each file.
pub keeps_line : (file : Option (List ℕ)) (old new : State) → KeepsRest old new → KeepsAllBut file old new
keeps_line file old new k = record { quiet = k.quiet; script = k.script; files = KeepsFiles-still file old.shelf new.shelf k.shelf }

pub KeepsAllBut-then : (file : Option (List ℕ)) (a b c : State) → KeepsAllBut file a b → KeepsRest b c → KeepsAllBut file a c
KeepsAllBut-then file a b c p k =
    let q = keeps_line file b c k in
    record { quiet = q.quiet ∙ p.quiet; script = q.script ∙ p.script; files = KeepsFiles-then file a.shelf b.shelf c.shelf p.files q.files }

pub plain_step : (w : World) (c : Option Command) → file_in c ≡ None → StepBy w c (answer_by w c) (world_by w c)
plain_step w c none = inl (record { answered = refl; gives = Gives-plain w c none })

-- No other command removes a client.
pub ClosesLogs-other : (w : World) (command : Option Command) (old new : State) → ((client : ℕ) → command ≡ Some (Leave client) → ⊥) → ClosesLogs ClosesBefore w command old new
ClosesLogs-other w command old new other = record { first = λ client is present. absurd (other client is) }

-- A ready daemon is still ready after calls that only read.
pub ready_read : (size : ℕ) (w : World) (memory : Memory) (old new : State) → new ≡ old → IsReady size w memory old → IsReady size w memory new
ready_read size w memory old new same ready = subst (IsReady size w memory) (sym same) ready

-- The command asks for no power loss and arms none, writes no file, and removes no client.
pub record IsPlain (c : Command) : Type 0 where
  pub kind : kind_of (Some c) ≡ ordinary
  pub file : file_of c ≡ None
  pub stays : (client : ℕ) → Some c ≡ Some (Leave client) → ⊥

-- No device was touched.
pub Applies-untouched : (size : ℕ) (w next : World) (memory following : Memory) (s : State) → IsReady size w memory s → IsReady size next following s → Applies size w next following None s s
Applies-untouched size w next memory following s ready then = record {
  moments = Leaves-still _ s s (λ image picked. let stands = ready_stands size w memory s ready image picked in (refl, (inl stands.0, stands.1))) refl;
  puddles = LeavesPuddles-still size w memory s ready s refl;
  quiet = refl;
  ready = λ _. then;
  rests = λ cut. absurd (let no : None ≡ Some Cut = cut in cc);
  script = refl;
}

-- ---- a command that counts nothing of its own, and writes no file

module _ (Leads : Image → (Member → Option ℕ) → Type 0) (Does : Option HostFault → State → State → Type 0) (size : ℕ) (w : World) (memory : Memory) (before after : Counts) (old new : State) (c : Command) where
  -- by what its call did
  pub CarriesOutWith-led : (done : Result Reply HostFault) → kind_of (Some c) ≡ ordinary → file_of c ≡ None → IfOk done (λ reply. of_reply reply ≡ answer_by w (Some c))
      → AppliesWith Leads size w (world_by w (Some c)) c memory (fault_of done) old new → ClosesLogs ClosesBefore w (Some c) old new → KeepsRest old new → after ≡ after_fault (fault_of done) before
      → ActsWith Does w c (as_line_answer done) old new → CarriesOutWith Leads Does size w memory c (as_line_answer done) before after old new
  CarriesOutWith-led (Ok reply) plain none replied applies closes rest cause acts = record {
    said = answer_by w (Some c);
    under = world_by w (Some c);
    step = plain_step w (Some c) none;
    gives = λ _. Gives-plain w (Some c) none;
    replied = replied;
    one_line = tt;
    led = applies;
    acts = acts;
    files = KeepsFiles-still (file_of c) old.shelf new.shelf rest.shelf;
    no_file = λ _. none;
    closes = closes;
    counted = subst (λ (k : Kind). CountsCommand k None before after) (sym plain) cause;
  }
  CarriesOutWith-led (Err fault) plain none replied applies closes rest cause acts = record {
    said = answer_by w (Some c);
    under = world_by w (Some c);
    step = plain_step w (Some c) none;
    gives = λ _. Gives-plain w (Some c) none;
    replied = tt;
    one_line = tt;
    led = applies;
    acts = acts;
    files = KeepsFiles-still (file_of c) old.shelf new.shelf rest.shelf;
    no_file = λ _. none;
    closes = closes;
    counted = subst (λ (k : Kind). CountsCommand k (Some fault) before after) (sym plain) cause;
  }

  -- one that moves no frontier
  pub CarriesOutWith-plain : (done : Result Reply HostFault) → kind_of (Some c) ≡ ordinary → file_of c ≡ None → Leads (reads old.now.words) still → IfOk done (λ reply. of_reply reply ≡ answer_by w (Some c))
      → Applies size w (world_by w (Some c)) memory (fault_of done) old new → ClosesLogs ClosesBefore w (Some c) old new → KeepsRest old new → after ≡ after_fault (fault_of done) before
      → ActsWith Does w c (as_line_answer done) old new → CarriesOutWith Leads Does size w memory c (as_line_answer done) before after old new
  CarriesOutWith-plain done plain none leads replied applies closes rest cause acts =
      CarriesOutWith-led done plain none replied (AppliesWith-still size w (world_by w (Some c)) memory (fault_of done) old new Leads c leads applies) closes rest cause acts

-- ---- a command that is plain, after calls that read

module _ (Leads : Image → (Member → Option ℕ) → Type 0) (Does : Option HostFault → State → State → Type 0) where
  -- calls that read came, and no others
  module _ (size : ℕ) (w : World) (memory : Memory) (first last : Counts) (old new : State) (c : Command) (plain : IsPlain c) (same : new ≡ old) (ready : IsReady size w memory new) where
    ready_before : IsReady size w memory old
    ready_before = subst (λ (s : State). IsReady size w memory s) same ready

    -- it was refused by what was read
    pub CarriesOut-refused : (r : Refusal) → refusal_of w c ≡ Some r → last ≡ first → CarriesOutWith Leads Does size w memory c (as_line_answer (Ok (replies.No r))) first last old new
    CarriesOut-refused r refused cause =
        CarriesOutWith-led Leads Does size w memory first last old new c (Ok (replies.No r)) plain.kind plain.file (sym (refused_answer w c r refused))
        (AppliesWith-refused size w (world_by w (Some c)) memory None old new Leads c r refused (Applies-refused size w memory c r old new ready_before refused same))
        (ClosesLogs-other w (Some c) old new plain.stays) (KeepsRest-still old new same) cause (acts_refused w c Does r (as_line_answer (Ok (replies.No r))) refused same)

    -- one of them failed
    pub CarriesOut-unread : (fault : HostFault) → (Some fault ≡ Some Cut → ⊥) → last ≡ after_fault (Some fault) first → CarriesOutWith Leads Does size w memory c (as_line_answer (Err fault)) first last old new
    CarriesOut-unread fault never_cut cause =
        CarriesOutWith-led Leads Does size w memory first last old new c (Err fault) plain.kind plain.file tt
        (AppliesLed-failed (LeadsUnless (refusal_of w c) (Leads (reads old.now.words))) size w (world_by w (Some c)) memory fault old new never_cut
        (Applies-failed size w (world_by w (Some c)) memory fault old new ready_before same never_cut))
        (ClosesLogs-other w (Some c) old new plain.stays) (KeepsRest-still old new same) cause (acts_unread w c Does (as_line_answer (Err fault)) tt never_cut same)

  -- it is carried out, and moves no frontier
  module _ (size : ℕ) (w : World) (memory : Memory) (first mid last : Counts) (a b d : State) (c : Command) (plain : IsPlain c) (leads : (before : Image) → Leads before still) (free : refusal_of w c ≡ None) (same : b ≡ a)
      (counted : mid ≡ first) (rest : KeepsRest b d) where
    -- a call that does so failed
    pub CarriesOut-stopped : (fault : HostFault) → Does (Some fault) b d → Applies size w (after w c) memory (Some fault) b d → last ≡ after_fault (Some fault) mid
        → CarriesOutWith Leads Does size w memory c (as_line_answer (Err fault)) first last a d
    CarriesOut-stopped fault acts applies cause =
        subst (λ (s : State). CarriesOutWith Leads Does size w memory c (as_line_answer (Err fault)) first last s d) same
        (CarriesOutWith-plain Leads Does size w memory first last b d c (Err fault) plain.kind plain.file (leads (reads b.now.words)) tt
        (subst (λ (v : World). Applies size w v memory (Some fault) b d) (sym (done_world w c free)) applies) (ClosesLogs-other w (Some c) b d plain.stays) rest (cause ∙ ap (after_fault (Some fault)) counted)
        (acts_free w c Does (as_line_answer (Err fault)) free acts))

    -- it was, and replied to so
    pub CarriesOut-done : (reply : Reply) → Does None b d → of_reply reply ≡ answer_by w (Some c) → Applies size w (after w c) memory None b d → last ≡ mid
        → CarriesOutWith Leads Does size w memory c (as_line_answer (Ok reply)) first last a d
    CarriesOut-done reply acts replied applies cause =
        subst (λ (s : State). CarriesOutWith Leads Does size w memory c (as_line_answer (Ok reply)) first last s d) same
        (CarriesOutWith-plain Leads Does size w memory first last b d c (Ok reply) plain.kind plain.file (leads (reads b.now.words)) replied
        (subst (λ (v : World). Applies size w v memory None b d) (sym (done_world w c free)) applies) (ClosesLogs-other w (Some c) b d plain.stays) rest (cause ∙ counted)
        (acts_free w c Does (as_line_answer (Ok reply)) free acts))

    -- it was, and replied to with `ok`, or it failed
    pub CarriesOut-ok : (done : Result Reply HostFault) → IfOk done (λ reply. reply ≡ replies.Ok) → Does (fault_of done) b d → of_reply replies.Ok ≡ answer_by w (Some c) → Applies size w (after w c) memory (fault_of done) b d
        → last ≡ after_fault (fault_of done) mid → CarriesOutWith Leads Does size w memory c (as_line_answer done) first last a d
    CarriesOut-ok (Ok reply) is acts replied applies cause = CarriesOut-done reply acts (ap of_reply is ∙ replied) applies cause
    CarriesOut-ok (Err fault) is acts replied applies cause = CarriesOut-stopped fault acts applies cause

  -- it is carried out, or refused, by a call that replies to it
  pub CarriesOut-replied : (size : ℕ) (w : World) (memory : Memory) (first mid last : Counts) (a b d : State) (c : Command) → IsPlain c → b ≡ a → mid ≡ first → KeepsRest b d → (done : Result Reply HostFault)
      → ActsWith Does w c (as_line_answer done) b d → IfOk done (λ reply. of_reply reply ≡ answer_by w (Some c)) → AppliesWith Leads size w (world_by w (Some c)) c memory (fault_of done) b d
      → last ≡ after_fault (fault_of done) mid → CarriesOutWith Leads Does size w memory c (as_line_answer done) first last a d
  CarriesOut-replied size w memory first mid last a b d c plain same counted rest done acts replied applies cause =
      subst (λ (s : State). CarriesOutWith Leads Does size w memory c (as_line_answer done) first last s d) same
      (CarriesOutWith-led Leads Does size w memory first last b d c done plain.kind plain.file replied applies (ClosesLogs-other w (Some c) b d plain.stays) rest (cause ∙ ap (after_fault (fault_of done)) counted) acts)
