-- What the daemon knows about the pool of an active transaction is true of the device, and may be kept.
use Rattle.std.proofs.Common.{◌≡◌, ℕ, List, set, Option, Some, None, sym, ap, subst, ◌∙◌}
use Rattle.std.proofs.lemmas.List.{set-get_or}
use Rattle.pm_model.specs.Words.{reads}
use Rattle.pm_model.specs.Moments.{State}
use Rattle.pud_defs.specs.StateMachine.World.{World}
use Rattle.known_pool.specs.Known.{Known, IsKnown}
use Rattle.daemon_memory.specs.Memory.{ActiveTransaction, Memory, with_active}
use Rattle.daemon_memory.specs.Ready.{IsReady}
use Rattle.daemon_memory.proofs.OpenTransactions.ActiveUnder.{active_same}
use Rattle.pool_transaction.specs.Changing.{IsActiveWith, with_known}

module _ (F : ℕ) (active : ActiveTransaction) (known : Known) (memory : Memory) (its : IsActiveWith F active known memory) where
  -- What the daemon knows is true of the device.
  pub known_so : (size : ℕ) (w : World) (s : State) → IsReady size w memory s → IsKnown F (reads s.now.words) known
  known_so size w s ready = subst (λ (n : ℕ). IsKnown n (reads s.now.words) known) (sym ready.frames ∙ its.frames) (ready.knows.known_pools.known active.slot known its.known)

  -- Keeping it once more does not change memory.
  pub known_on : with_known active.log_number active.slot active known memory ≡ memory
  known_on =
      ap (λ (js : List (Option Known)). record (with_active active.log_number (Some active) memory) { known_pools = js }) (ap (set memory.known_pools active.slot) (sym its.known) ∙ set-get_or memory.known_pools active.slot None)
      ∙ active_same memory active.log_number active its.there
