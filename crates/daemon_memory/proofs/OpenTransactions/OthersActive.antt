-- What is still active after one transaction has ended: each of the others, with its words masked, its session, and
-- what is known about pools.
use Rattle.std.proofs.Common.{◌≡◌, ◌≢◌, inl, inr, ℕ, List, Option, Some, None, refl, sym, ap, ◌∙◌}
use Rattle.std.specs.Prelude.{set}
use Rattle.std.proofs.lemmas.Bool.{cases_eq}
use Rattle.std.proofs.lemmas.List.{get_or-set_other}
use Rattle.std.proofs.lemmas.Option.{none-some, same_Some}
use Rattle.pm_model.specs.Words.{reads}
use Rattle.pm_model.specs.Changes.{Footprint, Write, Changes}
use Rattle.pm_model.specs.Moments.{State}
use Rattle.pud_defs.specs.StateMachine.PoolChanges.{pool_named}
use Rattle.pud_defs.specs.StateMachine.Step.{graph_in}
use Rattle.pud_defs.specs.RegistryTables.Tables.{Pool}
use Rattle.pud_defs.specs.StateMachine.Transactions.{OpenTransactions, with_open}
use Rattle.pud_defs.specs.StateMachine.World.{Transaction, World, open_on}
use Rattle.hybrid_tx.specs.PoolScopes.{pool_scope, finished_of}
use Rattle.hybrid_tx.specs.Open.ManyOpen.{OpenTransaction, Opens, with_transaction, open_masks, AreOpenPools, MasksAll, IsOneMore}
use Rattle.hybrid_tx.proofs.Open.ManyIdle.{one_ended, others_open, others_records}
use Rattle.hybrid_tx.proofs.Open.ManyMasks.{open_masks_all}
use Rattle.nesting.specs.declared.Session.{Session}
use Rattle.nesting.specs.Sessions.{session_in}
use Rattle.word_transaction.specs.Running.{ByTransaction}
use Rattle.hybrid_tx.specs.Objects.Transactions.{RestsAs}
use Rattle.daemon_memory.specs.Memory.{ActiveTransaction, active_under}
use Rattle.daemon_memory.specs.ActiveTransactions.{open_transaction_of, IsActiveUnder, IsOpenUnder, AreActive, HasSessions}
use Rattle.daemon_memory.proofs.Commands.Beside.{KeepsOne, still_under, records_all, own_apart}
use Rattle.daemon_memory.proofs.OpenTransactions.ActiveUnder.{nothing_there, active_there}
use Rattle.daemon_memory.proofs.OpenTransactions.OpenNames.{open_there, open_elsewhere}
use Rattle.daemon_memory.proofs.PoolChanges.PoolsBeside.{one_slot}

-- ---- the transactions of the world

-- A transaction that is open while none is open on the pool of the name is open on another pool.
pub open_beside : (name other : List ℕ) (opened : OpenTransactions) (t : Transaction) → with_open name None opened other ≡ Some t → other ≢ name
open_beside name other opened t is = λ same. none-some t (sym (open_there name opened None) ∙ ap (with_open name None opened) (sym same) ∙ is)

-- ---- the others

-- A transaction is active under another number than this one, on another pool.
pub record IsAnother (list : List (Option ActiveTransaction)) (number : ℕ) (active : ActiveTransaction) (m : ℕ) (h : ActiveTransaction) : Type 0 where
  pub apart : m ≢ number
  pub was : active_under list m ≡ Some h
  pub name : h.name ≢ active.name
  pub slot : h.slot ≢ active.slot

module _ (w : World) (list : List (Option ActiveTransaction)) (mask : Write) (old : State) (holds : AreActive w list mask old.now.words) (number : ℕ) (active : ActiveTransaction) (there : active_under list number ≡ Some active) where
  abbrev F : ℕ
  F = w.stored.frames

  abbrev its : IsActiveUnder w holds.opens mask old.now.words number active
  its = holds.each number active there

  abbrev own : OpenTransaction
  own = open_transaction_of active its.is.puddles its.is.rec its.is.own.who its.is.before

  abbrev others : Opens
  others = with_transaction number None holds.opens

  -- All that are open are the others and this one.
  pub one_of_all : IsOneMore number own others holds.opens
  one_of_all = one_ended number own holds.opens its.opened

  pub others_are : AreOpenPools F others
  others_are = others_open number own others holds.opens one_of_all F holds.are

  pub others_mask : MasksAll F others (open_masks F others)
  others_mask = open_masks_all F others (reads old.now.words) others_are (others_records number own others holds.opens one_of_all (reads old.now.words) (records_all w list mask old.now.words holds))

  pub another : (m : ℕ) (h : ActiveTransaction) → active_under list m ≡ Some h → m ≢ number → IsAnother list number active m h
  another m h was apart = record {
    apart = apart;
    was = was;
    name = λ same. apart (holds.names m number h active was there same);
    slot = λ same. apart (one_slot w list mask old.now.words holds m number h active was there same);
  }

  -- A transaction that is still active is one of the others.
  pub was_active : (m : ℕ) (h : ActiveTransaction) → active_under (set list number None) m ≡ Some h → IsAnother list number active m h
  was_active m h e = elim (cases_eq m number) [
    | inl same ↦ absurd (none-some h (sym (nothing_there list number) ∙ ap (active_under (set list number None)) (sym same) ∙ e))
    | inr apart ↦ another m h (sym (active_there list number None m apart) ∙ e) apart
  ]

  -- ---- after calls of the one that ends

  module _ (pools : List (List ℕ × Pool)) (kept : (name : List ℕ) → name ≢ active.name → pool_named name (record w.stored { pools = pools }) ≡ pool_named name w.stored) where
    abbrev next : World
    next = record w { stored = record w.stored { pools = pools }; transactions = with_open active.name None w.transactions }

    keeps_other : (m : ℕ) (h : ActiveTransaction) → IsAnother list number active m h → KeepsOne w next h
    keeps_other m h a = record {
      frames = refl;
      transaction = open_elsewhere active.name w.transactions None h.name a.name;
      present = refl;
      stored = ap graph_in (kept h.name a.name);
      types = λ id m is. is;
      graphs = λ st g is. is;
    }

    pub known_still : (name : List ℕ) (t : Transaction) → open_on name next ≡ Some t → IsOpenUnder (set list number None) name
    known_still name t is =
        let apart = open_beside active.name name w.transactions t is in
        let u = holds.known name t (sym (open_elsewhere active.name w.transactions None name apart) ∙ is) in
        let elsewhere : u.number ≢ number = λ same. apart (sym u.name_is ∙ ap (λ (h : ActiveTransaction). h.name) (same_Some u.active active (sym u.is ∙ ap (active_under list) same ∙ there))) in
        record { number = u.number; active = u.active; is = active_there list number None u.number elsewhere ∙ u.is; name_is = u.name_is }

    pub none_still : (m : ℕ) → active_under (set list number None) m ≡ None → others m ≡ None
    none_still m e = elim (cases_eq m number) [
      | inl same ↦ ap others same ∙ one_of_all.none
      | inr apart ↦ sym (one_of_all.same m apart) ∙ holds.none m (sym (active_there list number None m apart) ∙ e)
    ]

    module _ (new : State) (c : Changes (ByTransaction (pool_scope F (finished_of its.is.puddles)) active.tx.log.gate_at) None old new)
        (rests : (m : ℕ) (h : ActiveTransaction) (was : active_under list m ≡ Some h) → m ≢ number → RestsAs F (holds.each m h was).is.puddles (holds.each m h was).is.before new.now.words) where
      abbrev may : Footprint
      may = ByTransaction (pool_scope F (finished_of its.is.puddles)) active.tx.log.gate_at

      pub under_still : (m : ℕ) (h : ActiveTransaction) → active_under (set list number None) m ≡ Some h → IsActiveUnder next others (open_masks F others) new.now.words m h
      under_still m h e =
          let a = was_active m h e in
          let u = holds.each m h a.was in
          let opened = sym (one_of_all.same m a.apart) ∙ u.opened in
          still_under w next h mask (open_masks F others) old new u.is (keeps_other m h a) may (own_apart w list mask old.now.words holds number m active h there a.was (λ same. a.apart (sym same))) c
          (others_mask.has m (open_transaction_of h u.is.puddles u.is.rec u.is.own.who u.is.before) opened) (rests m h a.was a.apart) others m u.number_is opened

      abbrev pub holds_others : AreActive next (set list number None) (open_masks F others) new.now.words
      holds_others = record {
        opens = others;
        are = others_are;
        masks = others_mask;
        each = under_still;
        none = none_still;
        known = known_still;
        names = λ n m h g here also same. holds.names n m h g (was_active n h here).was (was_active m g also).was same;
      }

    -- ---- sessions

    pub sessions_others : (sessions : List (Option Session)) → HasSessions w list sessions → HasSessions next (set list number None) (set sessions active.slot None)
    sessions_others sessions has = record {
      each = λ m h t e is.
          let a = was_active m h e in
          get_or-set_other sessions active.slot h.slot None None a.slot ∙ has.each m h t a.was (sym (open_elsewhere active.name w.transactions None h.name a.name) ∙ is);
      only = λ slot s e.
          let apart : slot ≢ active.slot = λ same. none-some s (sym (nothing_there sessions active.slot) ∙ ap (session_in (set sessions active.slot None)) (sym same) ∙ e) in
          let on = has.only slot s (sym (get_or-set_other sessions active.slot slot None None apart) ∙ e) in
          let elsewhere : s.log_number ≢ number = λ same. apart (sym on.slot_is ∙ ap (λ (h : ActiveTransaction). h.slot) (same_Some on.active active (sym on.is ∙ ap (active_under list) same ∙ there))) in
          record { active = on.active; is = active_there list number None s.log_number elsewhere ∙ on.is; slot_is = on.slot_is };
    }
