-- Transactions of a client that are undone in turn.
use Rattle.std.proofs.Common.{◌≡◌, inl, inr, ℕ, zero, suc, List, Option, Some, None, refl, sym, ap, subst, ◌∙◌, arith}
use Rattle.pm_model.specs.declared.host.HostFault.{HostFault}
use Rattle.pm_model.specs.Words.{reads}
use Rattle.pm_model.specs.Moments.{State}
use Rattle.pud_defs.specs.Logging.Settled.{client_of_log}
use Rattle.pud_defs.specs.RegistryTables.Tables.{tables_of, puddles_in_turn}
use Rattle.pud_defs.specs.StateMachine.Transactions.{OpenTransactions}
use Rattle.pud_defs.specs.StateMachine.World.{Transaction, World, open_on}
use Rattle.log_space.specs.FreeLogs.{IsLogOf}
use Rattle.pool_transaction.specs.Writing.{ByAborting, WritesWithin}
use Rattle.daemon_memory.specs.Memory.{ActiveTransaction, Memory, active_under}
use Rattle.daemon_memory.specs.ActiveTransactions.{IsActiveUnder}
use Rattle.daemon_memory.specs.Ready.{IsReady}
use Rattle.daemon_memory.proofs.OpenTransactions.Leaving.{IsUndone}
use Rattle.daemon_memory.proofs.PoolChanges.PoolsBeside.{active_pool}
use Rattle.pool_transaction.specs.Ending.{AbortsOne, AbortsInTurn, UndoesOwn}
use Rattle.daemon_memory.proofs.Commands.Acting.{Then-done}

-- ---- in turn

module _ (w : World) (client : ℕ) where
  -- No transaction is undone.
  pub UndoesOwn-still : (a b : State) → b ≡ a → UndoesOwn w client None a b
  UndoesOwn-still a b same = record { count = 0; in_turn = (refl, same) }

  -- One transaction is undone.
  pub UndoesOwn-one : (fault : Option HostFault) (a b : State) → AbortsOne w client fault a b → UndoesOwn w client fault a b
  UndoesOwn-one fault a b one = record { count = suc zero; in_turn = Then-done (AbortsInTurn w client zero) (AbortsOne w client) fault a a b (refl, refl) one }

  after_turns : (count more : ℕ) (fault : Option HostFault) (a b c : State) → AbortsInTurn w client count None a b → AbortsInTurn w client more fault b c → UndoesOwn w client fault a c
  after_turns count zero fault a b c before end = record {
    count = count;
    in_turn = subst (λ (f : Option HostFault). AbortsInTurn w client count f a c) (sym end.0) (subst (λ (s : State). AbortsInTurn w client count None a s) (sym end.1) before);
  }
  after_turns count (suc more) fault a b c before later =
      let turns = after_turns count more later.first a b later.mid before later.does in
      record { count = suc turns.count; in_turn = record { mid = later.mid; first = later.first; does = turns.in_turn; then = later.then } }

  -- Some are undone after others.
  pub UndoesOwn-then : (fault : Option HostFault) (a b c : State) → UndoesOwn w client None a b → UndoesOwn w client fault b c → UndoesOwn w client fault a c
  UndoesOwn-then fault a b c before later = after_turns before.count later.count fault a b c before.in_turn later.in_turn

-- ---- in a world in which others are open too

module _ (w : World) (client : ℕ) (opened : OpenTransactions) (fewer : (name : List ℕ) (t : Transaction) → opened name ≡ Some t → open_on name w ≡ Some t) where
  abbrev less : World
  less = record w { transactions = opened }

  one_wider : (fault : Option HostFault) (a b : State) → AbortsOne less client fault a b → AbortsOne w client fault a b
  one_wider fault a b one = record { name = one.name; transaction = one.transaction; opened = fewer one.name one.transaction one.opened; whose = one.whose; aborts = one.aborts }

  turns_wider : (count : ℕ) (fault : Option HostFault) (a b : State) → AbortsInTurn less client count fault a b → AbortsInTurn w client count fault a b
  turns_wider zero fault a b end = end
  turns_wider (suc count) fault a b turns = record {
    mid = turns.mid;
    first = turns.first;
    does = turns_wider count turns.first a turns.mid turns.does;
    then = elim turns.then [
      | inl stopped ↦ inl stopped
      | inr on ↦ inr (on.0, one_wider fault turns.mid b on.1)
    ];
  }

  pub UndoesOwn-wider : (fault : Option HostFault) (a b : State) → UndoesOwn less client fault a b → UndoesOwn w client fault a b
  UndoesOwn-wider fault a b u = record { count = u.count; in_turn = turns_wider u.count fault a b u.in_turn }

-- More are undone, after those that are undone already.
pub UndoesOwn-more : (size : ℕ) (w : World) (client : ℕ) (memory : Memory) (fault : Option HostFault) (a b c : State) (u : IsUndone size w client memory a b) → UndoesOwn w client None a b
    → UndoesOwn (record w { transactions = u.left }) client fault b c → UndoesOwn w client fault a c
UndoesOwn-more size w client memory fault a b c u before more = UndoesOwn-then w client fault a b c before (UndoesOwn-wider w client u.left u.fewer fault b c more)

-- ---- one transaction

-- The transaction is active under a number of the client.
module _ (size : ℕ) (w : World) (memory : Memory) (s : State) (ready : IsReady size w memory s) (client number : ℕ) (own : IsLogOf client number) (h : ActiveTransaction) (there : active_under memory.active number ≡ Some h) where
  under : IsActiveUnder w ready.active.opens ready.mask s.now.words number h
  under = ready.active.each number h there

  whose : h.client ≡ client
  whose =
      let low = own.low in let high = own.high in
      let of_client : client_of_log number ≡ client = omega arith in
      sym under.is.own.owner ∙ ap client_of_log under.number_is ∙ of_client

  -- What its call writes, on this many frames.
  abbrev Writes : (n : ℕ) → Option HostFault → State → Type 0
  Writes n fault new = WritesWithin n h.client (ByAborting n (puddles_in_turn (tables_of n (reads s.now.words)) h.slot) (reads s.now.words)) fault s new

  undone_there : (fault : Option HostFault) (new : State) → Writes w.stored.frames fault new → UndoesOwn w client fault s new
  undone_there fault new writes =
      let F = w.stored.frames in
      let now = reads s.now.words in
      let pool = active_pool w memory.active ready.mask s.now.words ready.active number h there in
      UndoesOwn-one w client fault s new (record {
        name = h.name;
        transaction = under.is.own.transaction;
        opened = under.is.own.is;
        whose = under.is.own.client ∙ whose;
        aborts = record {
          slot = h.slot;
          is = record { rec = pool.rec; used = pool.used; name_is = pool.name };
          does = subst (λ (n : ℕ). WritesWithin F n (ByAborting F (puddles_in_turn (tables_of F now) h.slot) now) fault s new) whose writes;
        };
      })

  pub UndoesOwn-active : (F : ℕ) → F ≡ w.stored.frames → (fault : Option HostFault) (new : State) → Writes F fault new → UndoesOwn w client fault s new
  UndoesOwn-active F frames fault new = subst (λ (n : ℕ). Writes n fault new → UndoesOwn w client fault s new) (sym frames) (undone_there fault new)
