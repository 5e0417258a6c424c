-- What the daemon knows about the pool of an active transaction: its puddles are those of a scope, and their graph is
-- the one that the client sees.
use Rattle.std.proofs.Common.{◌≡◌, ℕ, List, Some, sym, ap, ◌∙◌}
use Rattle.pm_model.specs.Words.{reads}
use Rattle.pm_model.specs.Moments.{State}
use Rattle.pud_defs.specs.declared.records.Puddle.{Puddle}
use Rattle.pud_defs.specs.PoolGraphs.Graph.{Graph, graph_of}
use Rattle.pud_defs.specs.PoolGraphs.Stored.{stored_in}
use Rattle.pud_defs.specs.RegistryTables.Types.{types_of}
use Rattle.pud_defs.specs.StateMachine.World.{World}
use Rattle.hybrid_tx.specs.PoolScopes.{ArePlacedPuddles}
use Rattle.known_pool.specs.Known.{Known}
use Rattle.daemon_memory.specs.PoolKnowledge.{puddles_known}
use Rattle.daemon_memory.specs.Memory.{ActiveTransaction, Memory}
use Rattle.daemon_memory.specs.Ready.{IsReady}
use Rattle.daemon_memory.proofs.PoolChanges.InTurn.{active_known}
use Rattle.pool_transaction.specs.Changing.{IsActiveWith}
use Rattle.pool_transaction.proofs.PuddlesFinished.ActiveFinishes.{its_placed}
use Rattle.pool_transaction.proofs.Updates.ActiveRefusals.{graph_active}
use Rattle.pool_transaction.proofs.Lifetimes.ActiveRuns.{is_active}

module _ (F : ℕ) (active : ActiveTransaction) (known : Known) (memory : Memory) (its : IsActiveWith F active known memory) (size : ℕ) (w : World) (old : State) (ready : IsReady size w memory old) where
  -- The pool's puddles are placed as a scope needs them.
  pub placed_on : ArePlacedPuddles F known.puddles
  placed_on = its_placed size w memory active old active.log_number its.there ready F (sym its.frames ∙ ready.frames) known its.known

  -- The graph that the transaction's client sees.
  pub seen_on : Graph
  seen_on = (is_active size w memory active old active.log_number its.there ready).own.transaction.now

  pub stored_on : graph_of (types_of (reads old.now.words)) (stored_in F known.puddles (reads old.now.words)) ≡ Some seen_on
  unfolding seen_on
  stored_on =
      let same : known.puddles ≡ (is_active size w memory active old active.log_number its.there ready).puddles = sym (active_known size w memory old ready active.log_number active its.there known.puddles (ap puddles_known its.known)) in
      ap (λ (ps : List (ℕ × Puddle)). graph_of (types_of (reads old.now.words)) (stored_in F ps (reads old.now.words))) same ∙ graph_active size w memory old ready active active.log_number its.there F (sym its.frames ∙ ready.frames)
