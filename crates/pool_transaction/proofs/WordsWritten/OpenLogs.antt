-- The log of an active transaction is one of its client's logs, and is open by what is read. Also what a change does,
-- by why it is refused.
use Rattle.std.proofs.Common.{◌≡◌, inl, inr, ℕ, ◌/◌, false, Option, Some, None, sym, ap, subst, ◌∙◌, arith}
use Rattle.std.proofs.lemmas.Bool.{cases_Bool}
use Rattle.pm_model.specs.declared.host.HostFault.{HostFault}
use Rattle.pm_model.specs.declared.host.HostFault.TheVariants.{Cut}
use Rattle.pm_model.specs.Words.{reads}
use Rattle.pm_model.specs.Moments.{State}
use Rattle.pud_defs.specs.declared.layout.TheConstants.{CLIENT_LOGS}
use Rattle.pud_defs.specs.declared.machine.Refusal.{Refusal}
use Rattle.pud_defs.specs.Logging.Settled.{log_number_at}
use Rattle.pud_defs.specs.RegistryTables.Spaces.{is_closed_log}
use Rattle.pud_defs.specs.StateMachine.World.{World}
use Rattle.log_space.specs.FreeLogs.{IsLogOf}
use Rattle.daemon_memory.specs.Memory.{ActiveTransaction, Memory, active_under}
use Rattle.daemon_memory.specs.ActiveTransactions.{IsActive}
use Rattle.daemon_memory.specs.Ready.{IsReady}
use Rattle.daemon_memory.proofs.OpenTransactions.Counting.{runs_not_closed}
use Rattle.pool_transaction.specs.Writing.{IsOpenLogOf, DoesUnless}
use Rattle.pool_transaction.proofs.Lifetimes.ActiveRuns.{is_active}
use Rattle.daemon_memory.proofs.PoolChanges.Goals.{failed_alone}

-- ---- its log

module _ (size : ℕ) (w : World) (memory : Memory) (active : ActiveTransaction) (s : State) (number : ℕ) (there : active_under memory.active number ≡ Some active) (ready : IsReady size w memory s) where
  abbrev one : IsActive w active ready.mask s.now.words
  one = is_active size w memory active s number there ready

  opened_there : is_closed_log (reads s.now.words) active.tx.log.gate_at ≡ false
  opened_there =
      let at : log_number_at w.stored.frames number ≡ active.tx.log.gate_at = ap (log_number_at w.stored.frames) (sym (ready.active.each number active there).number_is) ∙ sym one.own.gate in
      elim (cases_Bool (is_closed_log (reads s.now.words) active.tx.log.gate_at)) [
        | inl closed ↦ absurd (runs_not_closed size w memory s ready number active there (ap (is_closed_log (reads s.now.words)) at ∙ closed))
        | inr opened ↦ opened
      ]

  its_own : IsLogOf active.client active.log_number
  its_own = let owner : active.log_number / CLIENT_LOGS ≡ active.client = one.own.owner in record { low = omega (arith, owner); high = omega (arith, owner) }

  pub open_log : (F : ℕ) → F ≡ w.stored.frames → IsOpenLogOf F active.client (reads s.now.words) active.tx.log.gate_at
  open_log F on = record { number = active.log_number; one_of = its_own; is = one.own.gate ∙ ap (λ (n : ℕ). log_number_at n active.log_number) (sym on); opened = opened_there }

-- ---- refused or not

module _ (Does : Option HostFault → State → State → Type 0) (why : Option Refusal) {old new : State} where
  pub does_refused : (r : Refusal) (fault : Option HostFault) → why ≡ Some r → new ≡ old → DoesUnless why Does fault old new
  does_refused r fault refused same = subst (λ (o : Option Refusal). DoesUnless o Does fault old new) (sym refused) same

  pub does_free : (fault : Option HostFault) → why ≡ None → Does fault old new → DoesUnless why Does fault old new
  does_free fault free does = subst (λ (o : Option Refusal). DoesUnless o Does fault old new) (sym free) (inl does)

-- If a load failed, the line did nothing.
pub does_unread : (Does : Option HostFault → State → State → Type 0) (why : Option Refusal) {old new : State} (fault : HostFault) → (Some fault ≡ Some Cut → ⊥) → new ≡ old → DoesUnless why Does (Some fault) old new
does_unread Does None fault never_cut same = inr (record { same = same; failed = failed_alone fault never_cut })
does_unread Does (Some r) fault never_cut same = same

-- What a line does may be stated more weakly.
pub does_more : (Does Other : Option HostFault → State → State → Type 0) (why : Option Refusal) (fault : Option HostFault) (old new : State) → (Does fault old new → Other fault old new) → DoesUnless why Does fault old new
    → DoesUnless why Other fault old new
does_more Does Other None fault old new more (inl does) = inl (more does)
does_more Does Other None fault old new more (inr unread) = inr unread
does_more Does Other (Some r) fault old new more same = same
