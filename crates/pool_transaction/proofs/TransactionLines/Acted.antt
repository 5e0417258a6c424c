-- What the lines of transactions do to the device.
use Rattle.std.proofs.Common.{◌≡◌, inl, inr, ℕ, ◌<◌, ◌≤◌, Bool, List, Option, Some, None, Result, Ok, Err, refl, sym, ap, subst, ◌∙◌, arith}
use Rattle.std.proofs.lemmas.Bool.{lt-ltb, le-ltb}
use Rattle.std.proofs.lemmas.Option.{none-some, same_Some}
use Rattle.pm_model.specs.declared.host.HostFault.{HostFault}
use Rattle.pm_model.specs.declared.host.HostFault.TheVariants.{Failed, Cut}
use Rattle.pm_model.specs.Counts.{fault_of}
use Rattle.pm_model.specs.Words.{reads}
use Rattle.pm_model.specs.Moments.{State}
use Rattle.pud_defs.specs.declared.machine.Command.{Command}
use Rattle.pud_defs.specs.declared.machine.Refusal.{Refusal}
use Rattle.pud_defs.specs.declared.machine.Reply.{Reply}
use Rattle.pud_defs.specs.declared.records.Puddle.{Puddle}
use Rattle.pud_defs.specs.RegistryTables.Tables.{tables_of, puddles_in_turn}
use Rattle.pud_defs.specs.StateMachine.Step.{refusal_of}
use Rattle.pud_defs.specs.StateMachine.World.{Transaction, World, open_on}
use Rattle.nesting.specs.Sessions.{depth_in}
use Rattle.pool_transaction.specs.declared.changing.Change.{Change}
use Rattle.pool_transaction.specs.Changing.{command_of_change}
use Rattle.pool_transaction.specs.Writing.{OpensLog, ByCommitting, ByAborting, WritesWithin, MakesChange, DoesUnless}
use Rattle.daemon_memory.specs.Memory.{ActiveTransaction, Memory, active_under}
use Rattle.daemon_memory.specs.ActiveTransactions.{IsActive}
use Rattle.daemon_memory.specs.OwnOnPool.{IsOwnTransactionOn}
use Rattle.daemon_memory.specs.Owning.{IsRecordSlot}
use Rattle.daemon_memory.specs.Ready.{IsReady}
use Rattle.daemon_memory.proofs.Commands.Beside.{active_is}
use Rattle.daemon_memory.proofs.PoolChanges.PoolsBeside.{used_still}
use Rattle.pool_transaction.specs.Ending.{Begins, EndsUnless, EndsTransaction, BeginsOn, CommitsOn, AbortsOn, ChangesPool}
use Rattle.daemon_memory.specs.LineAnswers.{as_line_answer}
use Rattle.daemon_memory.proofs.Commands.Acting.{acts_refused, acts_unread, acts_free}
use Rattle.pool_transaction.proofs.TransactionLines.Depth.{depth_by_world}
use Rattle.daemon_memory.specs.Doing.{ActsWith}

-- ---- one begins

module _ (w : World) (client : ℕ) (name : List ℕ) where
  -- It begins in a log of the client.
  pub acts_begun : (F : ℕ) → F ≡ w.stored.frames → open_on name w ≡ None → (fault : Option HostFault) (old mid new : State) → mid ≡ old → OpensLog F client fault mid new → BeginsOn w client name fault old new
  acts_begun F on shut fault old mid new still opens =
      subst (λ (o : Option Transaction). Begins w.stored.frames client o fault old new) (sym shut)
      (subst (λ (s : State). OpensLog w.stored.frames client fault s new) still (subst (λ (n : ℕ). OpensLog n client fault mid new) on opens))

  -- The one that is open is begun once more.
  pub acts_deeper : (t : Transaction) → open_on name w ≡ Some t → (fault : Option HostFault) (old new : State) → new ≡ old → BeginsOn w client name fault old new
  acts_deeper t opened fault old new same = subst (λ (o : Option Transaction). Begins w.stored.frames client o fault old new) (sym opened) same

-- ---- the client's own transaction ends

module _ (size : ℕ) (w : World) (memory : Memory) (s : State) (ready : IsReady size w memory s) (client : ℕ) (name : List ℕ) (slot number : ℕ) (own : IsOwnTransactionOn client name slot number memory.active) where
  abbrev one : IsActive w own.own.active ready.mask s.now.words
  one = active_is w memory.active ready.mask s.now.words ready.active number own.own.active own.own.is

  abbrev F : ℕ
  F = w.stored.frames

  -- The pool's puddles, as they are read.
  abbrev at : List (ℕ × Puddle)
  at = puddles_in_turn (tables_of F (reads s.now.words)) slot

  -- The transaction is open on the pool of the name.
  pub own_opened : open_on name w ≡ Some one.own.transaction
  own_opened = ap w.transactions (sym own.own.pool) ∙ one.own.is

  pub own_slot : IsRecordSlot F name (reads s.now.words) slot
  own_slot = record {
    rec = one.rec;
    used = ap (tables_of F (reads s.now.words)).pools (sym own.slot_is) ∙ used_still w own.own.active ready.mask s.now.words one;
    name_is = one.name ∙ own.own.pool;
  }

  depth_is : depth_in memory.sessions slot ≡ one.own.transaction.depth
  depth_is = depth_by_world size w memory s client name slot number ready own one.own.transaction own_opened

  -- How the transaction ends, by how often it was begun.
  abbrev Ends : Option HostFault → State → Bool → Type 0
  Ends fault new deeper = EndsUnless deeper (WritesWithin F client (ByCommitting F at (reads s.now.words) one.own.transaction.deferred) fault s new) s new

  commits_by : (fault : Option HostFault) (new : State) → EndsTransaction F client (Some one.own.transaction) at fault s new → CommitsOn w client name fault s new
  commits_by fault new ends = record { slot = slot; is = own_slot; does = subst (λ (o : Option Transaction). EndsTransaction F client o at fault s new) (sym own_opened) ends }

  -- If it was begun more than once, it is then begun once less.
  pub acts_risen : 1 < depth_in memory.sessions slot → (fault : Option HostFault) (new : State) → new ≡ s → CommitsOn w client name fault s new
  acts_risen deep fault new same = commits_by fault new (subst (Ends fault new) (sym (lt-ltb 1 one.own.transaction.depth (omega (arith, deep, depth_is)))) same)

  module _ (mine : ActiveTransaction) (there : active_under memory.active number ≡ Some mine) where
    same_own : mine ≡ own.own.active
    same_own = same_Some mine own.own.active (sym there ∙ own.own.is)

    -- The words that the transaction of this number writes are written by the client's own.
    its_words : (footprint : List (ℕ × Puddle) → ℕ → ℕ → ℕ → Type 0) (fault : Option HostFault) (new : State) → WritesWithin F mine.client (footprint (puddles_in_turn (tables_of F (reads s.now.words)) mine.slot)) fault s new
        → WritesWithin F client (footprint at) fault s new
    its_words footprint fault new writes =
        subst (λ (c : ℕ). WritesWithin F c (footprint at) fault s new) (ap (λ (h : ActiveTransaction). h.client) same_own ∙ own.own.whose)
        (subst (λ (k : ℕ). WritesWithin F mine.client (footprint (puddles_in_turn (tables_of F (reads s.now.words)) k)) fault s new) (ap (λ (h : ActiveTransaction). h.slot) same_own ∙ own.slot_is) writes)

    -- The transaction is committed.
    pub acts_committed : depth_in memory.sessions slot ≤ 1 → (n : ℕ) → n ≡ F → (fault : Option HostFault) (new : State)
        → ((t : Transaction) → open_on mine.name w ≡ Some t → WritesWithin n mine.client (ByCommitting n (puddles_in_turn (tables_of n (reads s.now.words)) mine.slot) (reads s.now.words) t.deferred) fault s new) → CommitsOn w client name fault s new
    acts_committed last n on fault new writes =
        let named = writes one.own.transaction (ap w.transactions (ap (λ (h : ActiveTransaction). h.name) same_own) ∙ one.own.is) in
        let here = subst (λ (m : ℕ). WritesWithin m mine.client (ByCommitting m (puddles_in_turn (tables_of m (reads s.now.words)) mine.slot) (reads s.now.words) one.own.transaction.deferred) fault s new) on named in
        commits_by fault new (subst (Ends fault new) (sym (le-ltb 1 one.own.transaction.depth (omega (arith, last, depth_is)))) (its_words (λ ps. ByCommitting F ps (reads s.now.words) one.own.transaction.deferred) fault new here))

    -- The transaction is undone.
    pub acts_undone : (fault : Option HostFault) (new : State) → WritesWithin F mine.client (ByAborting F (puddles_in_turn (tables_of F (reads s.now.words)) mine.slot) (reads s.now.words)) fault s new → AbortsOn w client name fault s new
    acts_undone fault new writes = record { slot = slot; is = own_slot; does = its_words (λ ps. ByAborting F ps (reads s.now.words)) fault new writes }

-- ---- a change

-- a line that may be refused: it is carried out, or a load failed before
acts_unless : (w : World) (c : Command) (Does : Option HostFault → State → State → Type 0) (old new : State) (done : Result Reply HostFault) (why : Option Refusal) → refusal_of w c ≡ why → DoesUnless why Does (fault_of done) old new
    → ActsWith Does w c (as_line_answer done) old new
acts_unless w c Does old new (Ok reply) None free (inl does) = acts_free w c Does (as_line_answer (Ok reply)) free does
acts_unless w c Does old new (Ok reply) None free (inr unread) = absurd (none-some Failed unread.failed)
acts_unless w c Does old new (Err fault) None free (inl does) = acts_free w c Does (as_line_answer (Err fault)) free does
acts_unless w c Does old new (Err fault) None free (inr unread) = acts_unread w c Does (as_line_answer (Err fault)) tt (λ cut. let no : Some Failed ≡ Some Cut = sym unread.failed ∙ cut in cc) unread.same
acts_unless w c Does old new done (Some why) refused same = acts_refused w c Does why (as_line_answer done) refused same

-- what is done on the pool in its slot is done on the pool of the name
on_pool : (w : World) (client : ℕ) (name : List ℕ) (slot : ℕ) (change : Change) (why : Option Refusal) (fault : Option HostFault) (old new : State) → IsRecordSlot w.stored.frames name (reads old.now.words) slot
    → DoesUnless why (MakesChange w.stored.frames client slot change (puddles_in_turn (tables_of w.stored.frames (reads old.now.words)) slot)) fault old new → DoesUnless why (ChangesPool w client name change) fault old new
on_pool w client name slot change None fault old new is (inl does) = inl (record { slot = slot; is = is; does = does })
on_pool w client name slot change None fault old new is (inr unread) = inr unread
on_pool w client name slot change (Some why) fault old new is same = same

pub acts_changed : (w : World) (client : ℕ) (name : List ℕ) (slot : ℕ) (change : Change) (done : Result Reply HostFault) (old new : State) → IsRecordSlot w.stored.frames name (reads old.now.words) slot
    → DoesUnless (refusal_of w (command_of_change change client name)) (MakesChange w.stored.frames client slot change (puddles_in_turn (tables_of w.stored.frames (reads old.now.words)) slot)) (fault_of done) old new
    → ActsWith (ChangesPool w client name change) w (command_of_change change client name) (as_line_answer done) old new
acts_changed w client name slot change done old new is does =
    let line = command_of_change change client name in
    acts_unless w line (ChangesPool w client name change) old new done (refusal_of w line) refl (on_pool w client name slot change (refusal_of w line) (fault_of done) old new is does)
