-- A transaction was taken out of memory, to be committed or undone.
use Rattle.std.proofs.Common.{◌≡◌, ℕ, ◌≤◌, Bool, List, Option, Some, None, option_map, set, sym, ap, ap₂, subst, ◌∙◌}
use Rattle.std.proofs.lemmas.Option.{none-some, same_Some}
use Rattle.pm_model.specs.declared.host.HostFault.{HostFault}
use Rattle.pm_model.specs.Moments.{State}
use Rattle.pud_defs.specs.declared.machine.Command.{Command}
use Rattle.pud_defs.specs.declared.machine.Command.TheVariants.{Commit}
use Rattle.pud_defs.specs.StateMachine.Step.{after}
use Rattle.pud_defs.specs.StateMachine.World.{World}
use Rattle.known_pool.specs.Known.{Known, after_end}
use Rattle.nesting.specs.declared.Session.{Session}
use Rattle.nesting.specs.Sessions.{depth_in}
use Rattle.pool_transaction.specs.Changing.{RunsWith}
use Rattle.pool_transaction.specs.Lifetime.{with_ended, judged_after}
use Rattle.pool_transaction.proofs.Lifetimes.ActiveEnds.{Applies-unheld}
use Rattle.daemon_memory.specs.OwnOnPool.{IsOwnTransactionOn}
use Rattle.daemon_memory.specs.PoolKnowledge.{known_pool_in, known_after_end}
use Rattle.daemon_memory.specs.Leaving.{sessions_after, world_without_log}
use Rattle.daemon_memory.specs.Memory.{ActiveTransaction, Memory, active_under}
use Rattle.daemon_memory.specs.Ready.{IsReady, Applies}
use Rattle.daemon_memory.proofs.PoolChanges.InTurn.{active_there_known}
use Rattle.daemon_memory.proofs.PoolsKnown.Known.{pool_of_known}

-- The client's own transaction is active.
pub none_is_own : (client : ℕ) (name : List ℕ) (slot number : ℕ) (memory : Memory) → IsOwnTransactionOn client name slot number memory.active → active_under memory.active number ≡ None → ⊥
none_is_own client name slot number memory own none = none-some own.own.active (sym none ∙ own.own.is)

-- The second memory is the first one without the transaction under the log number.
pub record IsReleased (undone : Bool) (number : ℕ) (memory following : Memory) : Type 0 where
  pub active : following.active ≡ set memory.active number None
  pub sessions : following.sessions ≡ sessions_after (active_under memory.active number) memory.sessions
  pub known_pools : following.known_pools ≡ judged_after undone (active_under memory.active number) memory.known_pools
  pub frames : following.frames ≡ memory.frames

module _ (undone : Bool) (number : ℕ) (memory following : Memory) (released : IsReleased undone number memory following) where
  -- So this memory is known by what was active.
  after_is : (o : Option ActiveTransaction) → active_under memory.active number ≡ o
      → following ≡ record memory { active = set memory.active number None; sessions = sessions_after o memory.sessions; known_pools = judged_after undone o memory.known_pools }
  after_is o there =
      ap₂ (λ (f : ℕ) (l : List (Option ActiveTransaction)). record { frames = f; active = l; sessions = following.sessions; known_pools = following.known_pools }) released.frames released.active
      ∙ ap₂ (λ (l : List (Option Session)) (js : List (Option Known)). record memory { active = set memory.active number None; sessions = l; known_pools = js })
      (released.sessions ∙ ap (λ (x : Option ActiveTransaction). sessions_after x memory.sessions) there) (released.known_pools ∙ ap (λ (x : Option ActiveTransaction). judged_after undone x memory.known_pools) there)

  module _ (size : ℕ) (w : World) (old : State) (ready : IsReady size w memory old) where
    -- No transaction was active.
    pub Applies-none : active_under memory.active number ≡ None → Applies size w (world_without_log (active_under memory.active number) w) following None old old
    Applies-none none =
        subst (λ (m : Memory). Applies size w (world_without_log (active_under memory.active number) w) m None old old) (sym (after_is None none)) (Applies-unheld size w memory number old ready none)

    module _ (mine : ActiveTransaction) (there : active_under memory.active number ≡ Some mine) where
      number_is : mine.log_number ≡ number
      number_is = (ready.active.each number mine there).number_is

      -- What was known about its pool.
      pub its_known : Known
      its_known = (pool_of_known memory.known_pools mine.slot _ (active_there_known size w memory old ready number mine there)).0

      known_is : known_pool_in memory.known_pools mine.slot ≡ Some its_known
      unfolding its_known
      known_is = (pool_of_known memory.known_pools mine.slot _ (active_there_known size w memory old ready number mine there)).1.0

      judged_is : known_after_end undone mine.tx.log.defers mine.slot memory.known_pools ≡ set memory.known_pools mine.slot (Some (after_end undone mine.tx.log.defers its_known))
      judged_is = ap (λ (o : Option Known). set memory.known_pools mine.slot (option_map (after_end undone mine.tx.log.defers) o)) known_is

      pub runs_there : (F words : ℕ) → memory.frames ≡ F → size ≡ words → RunsWith F words mine its_known size w memory old
      runs_there F words on same = record { words_are = same; its = record { frames = on; there = ap (active_under memory.active) number_is ∙ there; known = known_is }; ready = ready }

      module _ (fault : Option HostFault) (new : State) where
        -- The memory in which it has ended.
        abbrev pub Ended : World → Type 0
        Ended next = Applies size w next (with_ended mine.log_number mine (after_end undone mine.tx.log.defers its_known) memory) fault old new

        Applies-released : (next : World) → Ended next → Applies size w next following fault old new
        Applies-released next =
            subst (λ (m : Memory). Applies size w next m fault old new)
            (ap₂ (λ (n : ℕ) (js : List (Option Known)). record memory { active = set memory.active n None; sessions = set memory.sessions mine.slot None; known_pools = js }) number_is
            (sym judged_is) ∙ sym (after_is (Some mine) there))

        -- The client's own transaction, which was begun once, was committed.
        pub Applies-own_ended : (client : ℕ) (name : List ℕ) (slot : ℕ) → IsOwnTransactionOn client name slot number memory.active → depth_in memory.sessions slot ≤ 1
            → (depth_in memory.sessions mine.slot ≤ 1 → Ended (after w (Commit mine.client mine.name))) → Applies size w (after w (Commit client name)) following fault old new
        Applies-own_ended client name slot own last applies =
            let same : mine ≡ own.own.active = same_Some mine own.own.active (sym there ∙ own.own.is) in
            let here : mine.slot ≡ slot = ap (λ (h : ActiveTransaction). h.slot) same ∙ own.slot_is in
            let line : Commit mine.client mine.name ≡ Commit client name = ap₂ Commit (ap (λ (h : ActiveTransaction). h.client) same ∙ own.own.whose) (ap (λ (h : ActiveTransaction). h.name) same ∙ own.own.pool) in
            Applies-released (after w (Commit client name)) (subst (λ (x : Command). Ended (after w x)) line (applies (subst (λ (k : ℕ). depth_in memory.sessions k ≤ 1) (sym here) last)))

        -- The transaction was undone.
        pub Applies-undone : Ended (world_without_log (Some mine) w) → Applies size w (world_without_log (active_under memory.active number) w) following fault old new
        Applies-undone applies =
            subst (λ (o : Option ActiveTransaction). Applies size w (world_without_log o w) following fault old new) (sym there) (Applies-released (world_without_log (Some mine) w) applies)
