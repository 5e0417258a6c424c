-- An active transaction that was begun more than once is committed: no word changes, but its depth does.
use Rattle.std.proofs.Common.{◌≡◌, ℕ, ◌-◌, ◌<◌, false, leb, List, Option, Some, None, sym, ap, ap₂, subst, ◌∙◌, arith}
use Rattle.std.specs.Prelude.{set}
use Rattle.std.proofs.lemmas.Bool.{cond-false, lt-leb}
use Rattle.std.proofs.lemmas.Option.{same_Some}
use Rattle.pm_model.specs.Moments.{State}
use Rattle.pud_defs.specs.declared.machine.Command.TheVariants as commands
use Rattle.pud_defs.specs.StateMachine.Step.{after}
use Rattle.pud_defs.specs.RegistryTables.Tables.{Pool}
use Rattle.pud_defs.specs.StateMachine.Transactions.{with_open, lowered, committed_pools}
use Rattle.pud_defs.specs.StateMachine.World.{Transaction, World, open_on}
use Rattle.nesting.specs.declared.Session.{Session}
use Rattle.nesting.specs.Sessions.{lowered_session, session_depth, depth_in, left}
use Rattle.daemon_memory.specs.Memory.{ActiveTransaction, Memory, active_under}
use Rattle.daemon_memory.specs.OwnOnPool.{IsOwnTransactionOn}
use Rattle.daemon_memory.specs.Ready.{IsReady, Applies}
use Rattle.daemon_memory.proofs.OpenTransactions.AtDepth.{its, t, its_session, next, sessions_at, ready_at}
use Rattle.daemon_memory.proofs.Commands.CarriedOut.{Applies-untouched}

module _ (size : ℕ) (w : World) (memory : Memory) (s : State) (ready : IsReady size w memory s) (number : ℕ) (active : ActiveTransaction) (there : active_under memory.active number ≡ Some active) (client : ℕ)
    (deep : 1 < (t size w memory s ready number active there).depth) where
  abbrev now : Transaction
  now = t size w memory s ready number active there

  abbrev fewer : ℕ
  fewer = now.depth - 1

  abbrev then : World
  then = next size w memory s ready number active there fewer

  more : leb now.depth 1 ≡ false
  more = lt-leb now.depth 1 deep

  risen_world : after w (commands.Commit client active.name) ≡ then
  unfolding after
  risen_world =
      let is = (its size w memory s ready number active there).is.own.is in
      ap₂ (λ (ps : List (List ℕ × Pool)) (o : Option Transaction). record w { stored = record w.stored { pools = ps }; transactions = with_open active.name o w.transactions })
      (ap (λ (o : Option Transaction). committed_pools active.name o w.stored.pools) is ∙ cond-false _ _ _ more)
      (ap lowered is ∙ cond-false _ _ _ more)

  risen_sessions : left active.slot memory.sessions ≡ sessions_at size w memory s ready number active there fewer
  risen_sessions =
      ap (λ (o : Option Session). set memory.sessions active.slot (lowered_session o)) (its_session size w memory s ready number active there) ∙ ap (set memory.sessions active.slot) (cond-false _ _ _ more)

  pub Applies-risen : Applies size w (after w (commands.Commit client active.name)) (record memory { sessions = left active.slot memory.sessions }) None s s
  Applies-risen =
      subst (λ (v : World). Applies size w v (record memory { sessions = left active.slot memory.sessions }) None s s) (sym risen_world)
      (Applies-untouched size w then memory (record memory { sessions = left active.slot memory.sessions }) s ready
      (ready_at size w memory s ready number active there fewer (left active.slot memory.sessions) risen_sessions))

-- The transaction's session tells how often it was begun.
depth_is : (size : ℕ) (w : World) (memory : Memory) (s : State) (ready : IsReady size w memory s) (number : ℕ) (active : ActiveTransaction) (there : active_under memory.active number ≡ Some active)
    → depth_in memory.sessions active.slot ≡ (t size w memory s ready number active there).depth
depth_is size w memory s ready number active there = ap session_depth (its_session size w memory s ready number active there)

-- The commit of the client's own transaction, whose session has this depth.
pub Applies-rises : (size : ℕ) (w : World) (memory following : Memory) (s : State) (client : ℕ) (name : List ℕ) (slot number : ℕ) → 1 < depth_in memory.sessions slot
    → record memory { sessions = left slot memory.sessions } ≡ following → IsReady size w memory s → IsOwnTransactionOn client name slot number memory.active → Applies size w (after w (commands.Commit client name)) following None s s
Applies-rises size w memory following s client name slot number deep same ready on =
    let mine = on.own.active in
    let there = on.own.is in
    let depth = sym (ap (depth_in memory.sessions) on.slot_is) ∙ depth_is size w memory s ready number mine there in
    subst (λ (m : Memory). Applies size w (after w (commands.Commit client name)) m None s s) same
    (subst (λ (n : List ℕ). Applies size w (after w (commands.Commit client n)) (record memory { sessions = left slot memory.sessions }) None s s) on.own.pool
    (subst (λ (k : ℕ). Applies size w (after w (commands.Commit client mine.name)) (record memory { sessions = left k memory.sessions }) None s s) on.slot_is
    (Applies-risen size w memory s ready number mine there client (omega (arith, depth, deep)))))

-- The session of the client's own transaction tells how often it was begun in the world.
pub depth_by_world : (size : ℕ) (w : World) (memory : Memory) (s : State) (client : ℕ) (name : List ℕ) (slot number : ℕ) → IsReady size w memory s → IsOwnTransactionOn client name slot number memory.active
    → (running : Transaction) → open_on name w ≡ Some running → depth_in memory.sessions slot ≡ running.depth
depth_by_world size w memory s client name slot number ready on running found =
    let mine = on.own.active in
    let there = on.own.is in
    let is = (its size w memory s ready number mine there).is in
    ap (depth_in memory.sessions) (sym on.slot_is)
    ∙ depth_is size w memory s ready number mine there
    ∙ ap (λ (x : Transaction). x.depth) (same_Some is.own.transaction running (sym is.own.is ∙ ap w.transactions on.own.pool ∙ found))
