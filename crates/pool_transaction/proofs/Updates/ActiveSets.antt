-- A change is made within an active transaction.
use Rattle.std.proofs.Common.{◌≡◌, ℕ, ◌+◌, List, Option, Some, None, Result, Ok, Err, refl, sym, ap, subst}
use Rattle.std.specs.Prelude.{IfOk}
use Rattle.pm_model.specs.declared.host.HostFault.{HostFault}
use Rattle.pm_model.specs.Counts.{fault_of}
use Rattle.pm_model.specs.Words.{reads}
use Rattle.pm_model.specs.Moments.{State}
use Rattle.pud_defs.specs.declared.layout.TheConstants.{SET_UNITS}
use Rattle.pud_defs.specs.declared.records.Puddle.{Puddle}
use Rattle.pud_defs.specs.PoolGraphs.GraphChanges.{with_field, with_root, without_object}
use Rattle.pud_defs.specs.StateMachine.Step.{refusal_of, after}
use Rattle.pud_defs.specs.PoolGraphs.Stored.{stored_in}
use Rattle.pud_defs.specs.StateMachine.Transactions.{with_changed}
use Rattle.pud_defs.specs.StateMachine.World.{Transaction, World, closed}
use Rattle.hybrid_tx.specs.PoolScopes.{ArePlacedPuddles}
use Rattle.hybrid_tx.specs.Objects.Transactions.{OpenTx, IsOpenOn, KeepsOpenOn}
use Rattle.pool_transaction.specs.declared.changing.Update.{Update}
use Rattle.pool_transaction.specs.declared.changing.Update.TheVariants.{Set, Later, Root, Free}
use Rattle.pool_transaction.specs.Changing.{with_known, command_of_update, changed_by, MayChange}
use Rattle.known_pool.specs.Known.{Known, IsKnown}
use Rattle.daemon_memory.specs.Memory.{ActiveTransaction, Memory, active_under}
use Rattle.daemon_memory.specs.ActiveTransactions.{IsActive}
use Rattle.daemon_memory.specs.Ready.{IsReady, Applies}
use Rattle.pool_transaction.proofs.Updates.FieldsTyped.{may_change_unrefused}
use Rattle.pool_transaction.proofs.Lifetimes.ActiveRuns.{with_tx, is_active, active_placed, Applies-runs}
use Rattle.daemon_memory.proofs.OpenTransactions.OpenNames.{Charges, Charges-charged, Charges-deferring}

-- A call that did not fail used the units that it promises.
pub used_more : {X : Type 0} (done : Result X HostFault) (units now old : ℕ) → IfOk done (λ _. now ≡ old + units) → fault_of done ≡ None → now ≡ old + units
used_more (Ok x) units now old told none = told
used_more (Err fault) units now old told none = absurd (let no : Some fault ≡ None = none in cc)

-- The line of an update changes only its transaction in the world.
pub after_line : (w : World) (client : ℕ) (name : List ℕ) (change : Update) → after w (command_of_update change client name) ≡ record w { transactions = with_changed name (changed_by change) w.transactions }
unfolding after
after_line w client name (Set s f x) = refl
after_line w client name (Later s f x) = refl
after_line w client name (Root s) = refl
after_line w client name (Free s) = refl

-- The world stands for the same once power is lost.
pub same_stored : (w : World) (client : ℕ) (name : List ℕ) (change : Update) → closed w ≡ closed (after w (command_of_update change client name))
same_stored w client name change = ap closed (sym (after_line w client name change))

Charges-change : (change : Update) → Charges SET_UNITS (changed_by change)
Charges-change (Set s f x) = Charges-charged SET_UNITS (with_field s f x)
Charges-change (Later s f x) = Charges-deferring SET_UNITS (record { s = s; f = f; x = x })
Charges-change (Root s) = Charges-charged SET_UNITS (with_root s)
Charges-change (Free s) = Charges-charged SET_UNITS (without_object s)

module _ (size : ℕ) (w : World) (memory : Memory) (active : ActiveTransaction) (old : State) (number : ℕ) (there : active_under memory.active number ≡ Some active) (ready : IsReady size w memory old) where
  abbrev is : IsActive w active ready.mask old.now.words
  is = is_active size w memory active old number there ready

  module _ (F : ℕ) (at : List (ℕ × Puddle)) (same : F ≡ w.stored.frames) (listed : at ≡ is.puddles) (tx : OpenTx) (new : State) (gate : tx.log.gate_at ≡ active.tx.log.gate_at) where
    -- What a call that changes the transaction in this way owes, on these puddles.
    abbrev pub OwesRuns : ℕ → List (ℕ × Puddle) → (change : Transaction → Transaction) → Option HostFault → Type 0
    OwesRuns n puddles change fault =
        ArePlacedPuddles n puddles → IsOpenOn n puddles w.stored.types active.tx.log is.before is.graph_before is.own.transaction.now is.own.transaction.deferred old.now.words
        → KeepsOpenOn n puddles w.stored.types tx.log is.before is.graph_before (change is.own.transaction).now (change is.own.transaction).deferred fault old new

    -- What it owes about the units, if it did not fail.
    abbrev pub OwesUsed : ℕ → List (ℕ × Puddle) → {X : Type 0} → (units : ℕ) → Result X HostFault → Type 0
    OwesUsed n puddles units done =
        ArePlacedPuddles n puddles → IsOpenOn n puddles w.stored.types active.tx.log is.before is.graph_before is.own.transaction.now is.own.transaction.deferred old.now.words → IfOk done (λ _. tx.units ≡ active.tx.units + units)

    pub told : {X : Type 0} (units : ℕ) (done : Result X HostFault) → OwesUsed F at units done → IfOk done (λ _. tx.units ≡ active.tx.units + units)
    told units done used =
        subst (λ (n : ℕ). OwesUsed n is.puddles units done) same (subst (λ (puddles : List (ℕ × Puddle)). OwesUsed F puddles units done) listed used) (active_placed size w memory active old number there ready) is.running

    pub owed : (change : Transaction → Transaction) (fault : Option HostFault) → OwesRuns F at change fault
        → KeepsOpenOn w.stored.frames is.puddles w.stored.types tx.log is.before is.graph_before (change is.own.transaction).now (change is.own.transaction).deferred fault old new
    owed change fault runs =
        subst (λ (n : ℕ). OwesRuns n is.puddles change fault) same (subst (λ (puddles : List (ℕ × Puddle)). OwesRuns F puddles change fault) listed runs) (active_placed size w memory active old number there ready) is.running

    -- A call that owes this carries the change out.
    pub Applies-changed : (kept : Known) → kept.puddles ≡ is.puddles → (units : ℕ) (change : Transaction → Transaction) → Charges units change → (done : Result Unit HostFault) → OwesRuns F at change (fault_of done) → OwesUsed F at units done
        → (fault_of done ≡ None → IsKnown w.stored.frames (reads new.now.words) kept) → Applies size w (record w { transactions = with_changed active.name change w.transactions }) (with_known number active.slot (with_tx tx active) kept memory) (fault_of done) old new
    Applies-changed kept same_puddles units change charges done runs used so =
        Applies-runs size w memory active old number there ready kept same_puddles tx units change charges (fault_of done) new gate (used_more done units tx.units active.tx.units (told units done used)) (owed change (fault_of done) runs) so

    -- A line that is not refused is carried out by a call that makes its change. The call may rely on the change being
    -- allowed.
    pub Applies-line : (kept : Known) → kept.puddles ≡ is.puddles → (change : Update) (done : Result Unit HostFault) → refusal_of w (command_of_update change active.client active.name) ≡ None
        → (MayChange w.stored.types is.own.transaction change → OwesRuns F at (changed_by change) (fault_of done))
        → OwesUsed F at SET_UNITS done → (fault_of done ≡ None → IsKnown w.stored.frames (reads new.now.words) kept)
        → Applies size w (after w (command_of_update change active.client active.name)) (with_known number active.slot (with_tx tx active) kept memory) (fault_of done) old new
    Applies-line kept same_puddles change done free runs used so =
        let may = may_change_unrefused w active.client active.name change (stored_in w.stored.frames is.puddles (reads old.now.words)) is.own.transaction is.own.is is.running.is free in
        subst (λ (v : World). Applies size w v (with_known number active.slot (with_tx tx active) kept memory) (fault_of done) old new) (sym (after_line w active.client active.name change))
        (Applies-changed kept same_puddles SET_UNITS (changed_by change) (Charges-change change) done (runs may) used so)
