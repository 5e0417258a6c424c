use Rattle.std.proofs.Common.{◌≡◌, ℕ, None}
use Rattle.pud_defs.specs.StateMachine.World.{World}
use Rattle.daemon_memory.specs.Ready.{KeepsRest, IsReady}
use Rattle.daemon_memory.proofs.OpenTransactions.Leaving.{IsUndone, AreUndone}
use Rattle.pool_transaction.specs.Ending.{UndoesOwn}
use Rattle.pool_transaction.proofs.own.undo_of.Given as goal

abbrev pub invariant-loop-number : goal.invariant-loop-number
invariant-loop-number g l = record {
  counts : g.H.Host.counts l.h ≡ g.H.Host.counts l.initial.h;
  frames : l.memory.frames ≡ l.initial.memory.frames;
  rest : g.H.Host.tells → KeepsRest (g.H.Host.state l.initial.h) (g.H.Host.state l.h);
  none : AreUndone l.client l.number l.memory.active;
  undone : g.H.Host.tells → (size : ℕ) → size ≡ (g.H.Host.counts l.initial.h).size → (w : World) → IsReady size w l.initial.memory (g.H.Host.state l.initial.h)
      → IsUndone size w l.client l.memory (g.H.Host.state l.initial.h) (g.H.Host.state l.h);
  undoes : g.H.Host.tells → (size : ℕ) → size ≡ (g.H.Host.counts l.initial.h).size → (w : World) → IsReady size w l.initial.memory (g.H.Host.state l.initial.h)
      → UndoesOwn w l.client None (g.H.Host.state l.initial.h) (g.H.Host.state l.h);
}
