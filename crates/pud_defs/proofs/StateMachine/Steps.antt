-- Which refusal a definition meets, and what a step leaves.
use Rattle.std.proofs.Common.{◌≡◌, inl, inr, ℕ, ◌<◌, ◌≤◌, Bool, true, false, not, cond, T, ◌&&◌, leb, is_some, is_none, List, length, Option, Some, None, nat_cmp, refl, ap, ap₂, ◌∙◌, ne_eqb, eq-eqb, le-leb}
use Rattle.std.specs.FinMap.Entries.{is_sorted}
use Rattle.std.proofs.lemmas.Bool.{lt-leb}
use Rattle.pud_defs.specs.declared.layout.TheConstants.{TYPE_RECORDS}
use Rattle.pud_defs.specs.declared.machine.Command.{Command}
use Rattle.pud_defs.specs.declared.machine.Command.TheVariants.{Client, Leave, Define}
use Rattle.pud_defs.specs.declared.machine.Reply.TheVariants as replies
use Rattle.pud_defs.specs.declared.machine.Refusal.{Refusal}
use Rattle.pud_defs.specs.declared.machine.Refusal.TheVariants as refusals
use Rattle.pud_defs.specs.RegistryTables.Types.{map_of}
use Rattle.pud_defs.specs.RegistryTables.Spaces.{Owner}
use Rattle.pud_defs.specs.StateMachine.World.{World}
use Rattle.pud_defs.specs.StateMachine.PoolChanges.{reread_pools, with_type_defined}
use Rattle.pud_defs.specs.declared.objects.FieldValue.{FieldValue}
use Rattle.pud_defs.specs.declared.objects.FieldValue.TheVariants.{Num, Ref}
use Rattle.pud_defs.specs.StateMachine.Step.{Answer, is_other, is_clash, is_full, cause_holds, refusal_of, after, text_for, value_for, value_or_ok, text_or, answer, answer_unless, answer_by, world_by, unless_refused}
use Rattle.pud_defs.specs.StateMachine.Step.Answer.{of_reply}
use Rattle.pud_defs.specs.StateMachine.Gives.{StepBy}
use Rattle.pud_defs.specs.StateMachine.Run.{is_cut}
use Rattle.pud_defs.proofs.RegistryTables.TypeLists.{with_type-same}

-- the first of the two causes that holds
abbrev chosen : Bool → Bool → Option Refusal
chosen clash full = cond clash (Some refusals.Clash) (cond full (Some refusals.Full) None)

pub refusal_of-define : (w : World) (id map : ℕ) → refusal_of w (Define id map) ≡ chosen (is_clash w.stored.types id map) (is_full w.stored.types id)
unfolding refusal_of cause_holds
refusal_of-define w id map = refl

refused_by : (w : World) (id map : ℕ) (found : Option ℕ) (full : Bool) → map_of id w.stored.types ≡ found → leb TYPE_RECORDS (length w.stored.types) ≡ full → refusal_of w (Define id map) ≡ chosen (is_other map found) (is_none found && full)
refused_by w id map found full e f = refusal_of-define w id map ∙ ap₂ (λ o b. chosen (is_other map o) (is_none o && b)) e f

-- if the type is defined with this map, there is no refusal
pub define-same : (w : World) (id map : ℕ) → map_of id w.stored.types ≡ Some map → refusal_of w (Define id map) ≡ None
define-same w id map e = refused_by w id map (Some map) _ e refl ∙ ap (λ t. chosen (not t) false) (eq-eqb map map refl)

-- if it is defined with another map, the refusal is `clash`
pub define-clash : (w : World) (id map other : ℕ) → map_of id w.stored.types ≡ Some other → (other ≡ map → ⊥) → refusal_of w (Define id map) ≡ Some refusals.Clash
define-clash w id map other e h = refused_by w id map (Some other) _ e refl ∙ ap (λ t. chosen (not t) false) (ne_eqb other map h)

-- if it is not defined and the table is full, the refusal is `full`
pub define-full : (w : World) (id map : ℕ) → map_of id w.stored.types ≡ None → TYPE_RECORDS ≤ length w.stored.types → refusal_of w (Define id map) ≡ Some refusals.Full
define-full w id map e h = refused_by w id map None true e (le-leb TYPE_RECORDS _ h)

-- if it is not defined and there is room, there is no refusal
pub define-new : (w : World) (id map : ℕ) → map_of id w.stored.types ≡ None → length w.stored.types < TYPE_RECORDS → refusal_of w (Define id map) ≡ None
define-new w id map e h = refused_by w id map None false e (lt-leb TYPE_RECORDS _ h)

-- to define a type again with the same map does not change the world
pub after-same : (w : World) (id map : ℕ) → T (is_sorted nat_cmp w.stored.types) → reread_pools w.stored.types w.stored.pools ≡ w.stored.pools → map_of id w.stored.types ≡ Some map → after w (Define id map) ≡ w
unfolding after with_type_defined
after-same w id map sorted read e =
    ap (λ types. record w { stored = record w.stored { types = types; pools = reread_pools types w.stored.pools } }) (with_type-same id map w.stored.types sorted e)
    ∙ ap (λ pools. record w { stored = record w.stored { pools = pools } }) read

-- ---- clients

refusal_of-client : (w : World) (client uid gid : ℕ) (found : Option Owner) → w.clients client ≡ found → refusal_of w (Client client uid gid) ≡ cond (is_some found) (Some refusals.Taken) None
unfolding refusal_of cause_holds
refusal_of-client w client uid gid found e = ap (λ o. cond (is_some o) (Some refusals.Taken) None) e

refusal_of-leave : (w : World) (client : ℕ) (found : Option Owner) → w.clients client ≡ found → refusal_of w (Leave client) ≡ cond (not (is_some found)) (Some refusals.Client) None
unfolding refusal_of cause_holds
refusal_of-leave w client found e = ap (λ o. cond (not (is_some o)) (Some refusals.Client) None) e

-- if the client is present, the refusal is `taken`
pub client-taken : (w : World) (client uid gid : ℕ) (owner : Owner) → w.clients client ≡ Some owner → refusal_of w (Client client uid gid) ≡ Some refusals.Taken
client-taken w client uid gid owner e = refusal_of-client w client uid gid (Some owner) e

pub leave-present : (w : World) (client : ℕ) (owner : Owner) → w.clients client ≡ Some owner → refusal_of w (Leave client) ≡ None
leave-present w client owner e = refusal_of-leave w client (Some owner) e

-- if it is not present, there is no refusal
pub client-new : (w : World) (client uid gid : ℕ) → w.clients client ≡ None → refusal_of w (Client client uid gid) ≡ None
client-new w client uid gid e = refusal_of-client w client uid gid None e

pub leave-absent : (w : World) (client : ℕ) → w.clients client ≡ None → refusal_of w (Leave client) ≡ Some refusals.Client
leave-absent w client e = refusal_of-leave w client None e

-- ---- lines

-- a command that is refused is answered with its refusal, and the world does not change
pub refused_answer : (w : World) (c : Command) (r : Refusal) → refusal_of w c ≡ Some r → answer_by w (Some c) ≡ of_reply (replies.No r)
refused_answer w c r h = ap (λ o. answer_unless o (answer w c)) h

pub refused_world : (w : World) (c : Command) (r : Refusal) → refusal_of w c ≡ Some r → world_by w (Some c) ≡ w
refused_world w c r h = ap (λ o. unless_refused o w (after w c)) h

-- a command that is not refused is carried out and gets its own answer
pub done_answer : (w : World) (c : Command) → refusal_of w c ≡ None → answer_by w (Some c) ≡ answer w c
done_answer w c h = ap (λ o. answer_unless o (answer w c)) h

pub done_world : (w : World) (c : Command) → refusal_of w c ≡ None → world_by w (Some c) ≡ after w c
done_world w c h = ap (λ o. unless_refused o w (after w c)) h

-- its answer is only `ok`, if it asks for no value and no text
pub answer_is_ok : (w : World) (c : Command) → text_for w c ≡ None → value_for w c ≡ None → refusal_of w c ≡ None → answer_by w (Some c) ≡ of_reply replies.Ok
unfolding answer
answer_is_ok w c no_text no_value h = done_answer w c h ∙ ap₂ (λ value text. text_or (value_or_ok value) text) no_value no_text

-- `cut` is never the answer of a step
no_cut_unless : (r : Option Refusal) (done : Answer) → is_cut done ≡ false → is_cut (answer_unless r done) ≡ false
no_cut_unless None done none = none
no_cut_unless (Some r) done none = refl

no_cut_in : (field : Option FieldValue) (text : Option (List ℕ)) → is_cut (text_or (value_or_ok field) text) ≡ false
no_cut_in None None = refl
no_cut_in (Some (Num v)) None = refl
no_cut_in (Some (Ref serial)) None = refl
no_cut_in field (Some text) = refl

no_cut_by : (w : World) (c : Option Command) → is_cut (answer_by w c) ≡ false
unfolding answer
no_cut_by w None = refl
no_cut_by w (Some c) = no_cut_unless (refusal_of w c) (answer w c) (no_cut_in (value_for w c) (text_for w c))

pub step_is_no_cut : (w : World) (command : Option Command) (said : Answer) (next : World) → StepBy w command said next → is_cut said ≡ false
step_is_no_cut w command said next (inl done) = ap is_cut done.answered ∙ no_cut_by w command
step_is_no_cut w command said next (inr out) = ap is_cut out.answered
