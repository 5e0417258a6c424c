-- A change is made in the client's own transaction, on the pool that is known in the slot of its session.
use Rattle.std.proofs.Common.{◌≡◌, ℕ, List, Option, Some, None, Result, option_map, set, sym, ap, ap₂, subst, ◌∙◌, refl}
use Rattle.std.specs.Prelude.{IfOk}
use Rattle.std.proofs.lemmas.Option.{none-some, same_Some}
use Rattle.pm_model.specs.declared.host.HostFault.{HostFault}
use Rattle.pm_model.specs.Counts.{fault_of}
use Rattle.pm_model.specs.Moments.{State}
use Rattle.pm_model.specs.Words.{reads}
use Rattle.pud_defs.specs.declared.machine.Command.{Command}
use Rattle.pud_defs.specs.declared.records.Puddle.{Puddle}
use Rattle.pud_defs.specs.declared.machine.Command.TheVariants.{Commit}
use Rattle.pud_defs.specs.declared.machine.Refusal.{Refusal}
use Rattle.pud_defs.specs.declared.machine.Reply.{Reply}
use Rattle.pud_defs.specs.StateMachine.Step.{refusal_of, world_by, answer_by}
use Rattle.pud_defs.specs.StateMachine.Step.Answer.{of_reply}
use Rattle.pud_defs.specs.RegistryTables.Tables.{tables_of, puddles_in_turn}
use Rattle.pud_defs.specs.StateMachine.World.{World}
use Rattle.nesting.specs.declared.Session.{Session}
use Rattle.pool_transaction.specs.declared.changing.Change.{Change}
use Rattle.pool_transaction.specs.declared.changing.Change.TheVariants as changes
use Rattle.pool_transaction.specs.Changing.{IsActiveWith, with_known, command_of_change}
use Rattle.pool_transaction.specs.Writing.{MakesChange, DoesUnless}
use Rattle.known_pool.specs.Known.{Known}
use Rattle.daemon_memory.specs.PoolKnowledge.{known_pool_in, known_puddles_in}
use Rattle.daemon_memory.specs.Memory.{ActiveTransaction, Memory, active_under}
use Rattle.daemon_memory.specs.OwnOnPool.{IsOwnTransactionOn}
use Rattle.daemon_memory.specs.Owning.{IsRecordSlot}
use Rattle.daemon_memory.specs.Ready.{IsReady}
use Rattle.daemon_memory.proofs.Commands.Beside.{active_is}
use Rattle.daemon_memory.proofs.PoolChanges.PoolsBeside.{used_still}
use Rattle.pool_transaction.specs.Finishing.{Finishes, FinishesUnless, AppliesFinishing}
use Rattle.daemon_memory.proofs.PoolChanges.InTurn.{known_in_turn, active_there_known}
use Rattle.daemon_memory.specs.LineAnswers.{as_line_answer}
use Rattle.pool_transaction.proofs.TransactionLines.Acted.{acts_changed}
use Rattle.pool_transaction.proofs.TransactionLines.Leading.{AppliesWith-change}
use Rattle.pool_transaction.proofs.Updates.TransactionRefusals.{refused_change, refused_new}
use Rattle.daemon_memory.specs.Doing.{ActsWith}
use Rattle.daemon_memory.specs.Leading.{AppliesWith}
use Rattle.pool_transaction.specs.Ending.{ChangesPool, LeadsChange}
use Rattle.pool_transaction.specs.Premises.{DoesChange, DoesOwnChange}

-- ---- the client's own transaction

module _ (size : ℕ) (w : World) (F : ℕ) (all : List (Option ActiveTransaction)) (sessions : List (Option Session)) (known_pools : List (Option Known)) (s : State)
    (ready : IsReady size w (record { frames = F; active = all; sessions = sessions; known_pools = known_pools }) s) (client : ℕ) (name : List ℕ) (slot number : ℕ) (own : IsOwnTransactionOn client name slot number all) where
  abbrev memory : Memory
  memory = record { frames = F; active = all; sessions = sessions; known_pools = known_pools }

  -- Its pool is known.
  pub is_known : known_pool_in known_pools slot ≡ None → ⊥
  is_known none = none-some _ (sym (ap (option_map (λ (k : Known). k.puddles)) none) ∙ ap (known_puddles_in known_pools) (sym own.slot_is) ∙ active_there_known size w memory s ready number own.own.active own.own.is)

  module _ (mine : ActiveTransaction) (there : active_under all number ≡ Some mine) (pool_is : Known) (known : known_pool_in known_pools slot ≡ Some pool_is) where
    abbrev at : List (ℕ × Puddle)
    at = pool_is.puddles

    same : mine ≡ own.own.active
    same = same_Some mine own.own.active (sym there ∙ own.own.is)

    slot_is : mine.slot ≡ slot
    slot_is = ap (λ (h : ActiveTransaction). h.slot) same ∙ own.slot_is

    number_is : mine.log_number ≡ number
    number_is = (ready.active.each number mine there).number_is

    pub active_in : IsActiveWith F mine pool_is memory
    active_in = record { frames = refl; there = ap (active_under all) number_is ∙ there; known = ap (known_pool_in known_pools) slot_is ∙ known }

    -- The client's line asks for the change.
    asked : (change : Change) → command_of_change change mine.client mine.name ≡ command_of_change change client name
    asked change = ap₂ (command_of_change change) (ap (λ (h : ActiveTransaction). h.client) same ∙ own.own.whose) (ap (λ (h : ActiveTransaction). h.name) same ∙ own.own.pool)

    -- Its pool has the name.
    at_slot : IsRecordSlot w.stored.frames name (reads s.now.words) slot
    at_slot =
        let is = active_is w memory.active ready.mask s.now.words ready.active number own.own.active own.own.is in
        record {
          rec = is.rec;
          used = ap (tables_of w.stored.frames (reads s.now.words)).pools (sym own.slot_is) ∙ used_still w own.own.active ready.mask s.now.words is;
          name_is = is.name ∙ own.own.pool;
        }

    Applies-changed : (change : Change) (now : ActiveTransaction) (pool : Known) (fault : Option HostFault) (new : State)
        → AppliesFinishing mine.slot (FinishesUnless (refusal_of w (command_of_change change mine.client mine.name)) (Finishes F at (reads s.now.words) change)) size w (world_by w (Some (command_of_change change mine.client mine.name)))
        (with_known mine.log_number mine.slot now pool memory) fault s new
        → AppliesWith (LeadsChange w.stored.frames name change) size w (world_by w (Some (command_of_change change client name))) (command_of_change change client name) (record { frames = F; active = set all number (Some now); sessions = sessions; known_pools = set known_pools slot (Some pool) }) fault s new
    Applies-changed change now pool fault new applies =
        let line = command_of_change change mine.client mine.name in
        let finishes : (ℕ → ℕ) → Type 0 = Finishes w.stored.frames (puddles_in_turn (tables_of w.stored.frames (reads s.now.words)) slot) (reads s.now.words) change in
        AppliesWith-change size w (world_by w (Some (command_of_change change client name))) client name change (with_known number slot now pool memory) fault s new slot at_slot
        (subst (λ (c : Command). AppliesFinishing slot (FinishesUnless (refusal_of w c) finishes) size w (world_by w (Some c)) (with_known number slot now pool memory) fault s new) (asked change)
        (subst (λ (i : ℕ). AppliesFinishing i (FinishesUnless (refusal_of w line) finishes) size w (world_by w (Some line)) (with_known number i now pool memory) fault s new) slot_is
        (subst (λ (n : ℕ). AppliesFinishing mine.slot (FinishesUnless (refusal_of w line) finishes) size w (world_by w (Some line)) (with_known n mine.slot now pool memory) fault s new) number_is
        (subst (λ (ps : List (ℕ × Puddle)). AppliesFinishing mine.slot (FinishesUnless (refusal_of w line) (Finishes w.stored.frames ps (reads s.now.words) change)) size w (world_by w (Some line))
        (with_known mine.log_number mine.slot now pool memory) fault s new) (sym (known_in_turn size w memory s ready slot at (ap (option_map (λ (k : Known). k.puddles)) known)))
        (subst (λ (n : ℕ). AppliesFinishing mine.slot (FinishesUnless (refusal_of w line) (Finishes n at (reads s.now.words) change)) size w (world_by w (Some line))
        (with_known mine.log_number mine.slot now pool memory) fault s new) ready.frames applies)))))

    -- What is done on the known pool is done on the pool of the name.
    acts_known : (change : Change) (done : Result Reply HostFault) (new : State) → DoesUnless (refusal_of w (command_of_change change mine.client mine.name)) (MakesChange F mine.client mine.slot change at) (fault_of done) s new
        → ActsWith (ChangesPool w client name change) w (command_of_change change client name) (as_line_answer done) s new
    acts_known change done new does =
        let turn = sym (known_in_turn size w memory s ready slot at (ap (option_map (λ (k : Known). k.puddles)) known)) in
        acts_changed w client name slot change done s new at_slot
        (subst (λ (ps : List (ℕ × Puddle)). DoesUnless (refusal_of w (command_of_change change client name)) (MakesChange w.stored.frames client slot change ps) (fault_of done) s new) turn
        (subst (λ (n : ℕ). DoesUnless (refusal_of w (command_of_change change client name)) (MakesChange n client slot change at) (fault_of done) s new) ready.frames
        (subst (λ (c : Command). DoesUnless (refusal_of w c) (MakesChange F client slot change at) (fault_of done) s new) (asked change)
        (subst (λ (k : ℕ). DoesUnless (refusal_of w (command_of_change change mine.client mine.name)) (MakesChange F client k change at) (fault_of done) s new) slot_is
        (subst (λ (k : ℕ). DoesUnless (refusal_of w (command_of_change change mine.client mine.name)) (MakesChange F k mine.slot change at) (fault_of done) s new) (ap (λ (h : ActiveTransaction). h.client) same ∙ own.own.whose) does)))))

    -- All that the line owes.
    pub own_changed : (change : Change) (now : ActiveTransaction) (pool : Known) (done : Result Reply HostFault) (new : State) → DoesChange F mine now pool_is pool change size w memory done s new
        → DoesOwnChange size w client name change (record { frames = F; active = set all number (Some now); sessions = sessions; known_pools = set known_pools slot (Some pool) }) done s new
    own_changed change now pool done new d = record {
      reply = subst (λ (x : Command). IfOk done (λ reply. of_reply reply ≡ answer_by w (Some x))) (asked change) d.reply;
      applies = Applies-changed change now pool (fault_of done) new d.applies;
      acts = acts_known change done new d.writes;
    }

-- If a line on the client's own transaction is refused before what it asks is looked at, so is the line of each change.
pub refused_line : (w : World) (client : ℕ) (name : List ℕ) (r : Refusal) → refusal_of w (Commit client name) ≡ Some r → (change : Change) → refusal_of w (command_of_change change client name) ≡ Some r
refused_line w client name r refused (changes.New t) = refused_new w client name r refused t
refused_line w client name r refused (changes.Update update) = refused_change w client name r refused update
