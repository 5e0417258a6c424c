-- What a line that updates an active transaction writes: its puddle is rewritten to its end, and then words of the log
-- and the word of the update get values.
use Rattle.std.proofs.Common.{◌≡◌, inl, inr, ℕ, ◌+◌, Bool, true, false, List, [], ◌∷◌, Option, Some, None, refl, sym, subst, ◌∙◌}
use Rattle.std.specs.Prelude.{slice_get}
use Rattle.std.proofs.lemmas.Option.{none-some}
use Rattle.pm_model.specs.declared.host.HostFault.{HostFault}
use Rattle.pm_model.specs.Words.{reads}
use Rattle.pm_model.specs.Moments.{State}
use Rattle.pm_model.specs.Changes.{Changes}
use Rattle.pm_model.proofs.Changes.{Changes-wider}
use Rattle.pud_defs.specs.declared.layout.TheConstants.{DAEMON_LOG}
use Rattle.pud_defs.specs.declared.records.Puddle.{Puddle}
use Rattle.pud_defs.specs.declared.records.Slot.{Slot}
use Rattle.pud_defs.specs.declared.space.TheConstants.{ROOT_WORD}
use Rattle.pud_defs.specs.Formats.Frames.{frame_at}
use Rattle.pud_defs.specs.StateMachine.World.{World}
use Rattle.log_store.specs.Store.{InLog}
use Rattle.graph_read.specs.Bases.{HasLowBases}
use Rattle.batch.specs.Batches.{HasIdleGate}
use Rattle.lazy_rewrite.specs.Batches.{Rewrites}
use Rattle.lazy_rewrite.specs.Frontiers.{finished_at, frontier_at}
use Rattle.word_transaction.specs.Running.{ByTransaction}
use Rattle.hybrid_tx.specs.PoolScopes.{pool_has_word, pool_scope}
use Rattle.hybrid_tx.specs.Objects.Stores.{field_word, ByPut}
use Rattle.hybrid_tx.proofs.PoolScope.{pool_has_word-each}
use Rattle.known_pool.specs.Known.{Known}
use Rattle.pool_transaction.specs.declared.changing.FoundUpdate.{FoundUpdate}
use Rattle.pool_transaction.specs.declared.changing.Update.{Update}
use Rattle.pool_transaction.specs.Changing.{IsActiveWith, IsFoundBy, IsFoundWithin, ordinal_written}
use Rattle.pool_transaction.specs.Writing.{ByField, ByRoot, ByUpdate, FinishesPuddle, WritesUpdate, Updates}
use Rattle.daemon_memory.specs.Memory.{ActiveTransaction, Memory}
use Rattle.daemon_memory.specs.Ready.{IsReady}
use Rattle.daemon_memory.proofs.Commands.Beneath.{ready_gate}
use Rattle.pool_transaction.proofs.PuddlesFinished.ActiveFinishes.{its_placed}
use Rattle.daemon_memory.proofs.PuddlesRewritten.StepsBeside.{low_of_placed}
use Rattle.pool_transaction.proofs.WordsWritten.OpenLogs.{open_log}

-- ---- one update

module _ (F gate : ℕ) (fault : Option HostFault) (old new : State) where
  -- A value that is deferred takes only words of the log.
  pub field_deferred : (slot : Slot) (f word : ℕ) (later : Bool) → later ≡ true → Changes (InLog gate) fault old new → Changes (ByField later F gate slot f word) fault old new
  field_deferred slot f word later is c = subst (λ (b : Bool). Changes (ByField b F gate slot f word) fault old new) (sym is) c

  -- A value that is set also takes the word of its field.
  pub field_put : (slot : Slot) (f word : ℕ) (later : Bool) → later ≡ false → Changes (ByPut gate (frame_at F slot.frame + field_word slot f) (word ∷ [])) fault old new → Changes (ByField later F gate slot f word) fault old new
  field_put slot f word later is c = subst (λ (b : Bool). Changes (ByField b F gate slot f word) fault old new) (sym is) c

  none_own : (k : ℕ) → pool_has_word F [] k ≡ true → ⊥
  none_own k own = let m = pool_has_word-each F [] k own in none-some m.puddle m.there

  -- The root is set. A pool without puddles has no word for it.
  pub root_put : (at : List (ℕ × Puddle)) (word : ℕ) → Changes (ByTransaction (pool_scope F at) gate) fault old new
      → ((e : ℕ × Puddle) → slice_get at 0 ≡ Some e → Changes (ByPut gate (frame_at F e.0 + ROOT_WORD) (word ∷ [])) fault old new) → Changes (ByRoot F gate (slice_get at 0) word) fault old new
  root_put [] word c puts = Changes-wider (ByTransaction (pool_scope F []) gate) (InLog gate) fault old new (λ k v may. elim may [ inl inside ↦ inside | inr own ↦ absurd (none_own k own) ]) c
  root_put (e ∷ at) word c puts = puts e refl

-- ---- after the steps of its puddle

module _ (F : ℕ) (active : ActiveTransaction) (known : Known) (memory : Memory) (its : IsActiveWith F active known memory) (size : ℕ) (w : World) (old : State) (ready : IsReady size w memory old) (found : FoundUpdate) (o : ℕ)
    (is : o ≡ ordinal_written found) (later : List (ℕ × Puddle)) (mid : State) where
  abbrev at : List (ℕ × Puddle)
  at = known.puddles

  -- What the call that rewrites the puddle owes.
  abbrev Owes : Option HostFault → Type 0
  Owes fault = HasIdleGate DAEMON_LOG old.now.words → HasLowBases at → Rewrites F (frontier_at o (finished_at o at)) at later fault old mid

  finishes : (fault : Option HostFault) → Owes fault → (fault ≡ None → later ≡ finished_at o at) → FinishesPuddle F (ordinal_written found) at later fault old mid
  finishes fault owes whole =
      let low = low_of_placed F at (its_placed size w memory active old active.log_number its.there ready F (sym its.frames ∙ ready.frames) known its.known) in
      subst (λ (n : ℕ). FinishesPuddle F n at later fault old mid) is (record { rewrites = owes (ready_gate size w memory old ready) low; whole = whole })

  -- If that call failed, only steps of the puddle are written.
  pub unfinished_update : (fault : HostFault) → Owes (Some fault) → WritesUpdate F active.tx.log.gate_at at later found (Some fault) old mid
  unfinished_update fault owes = record {
    mid = mid;
    first = Some fault;
    does = finishes (Some fault) owes (λ none. absurd (none-some fault (sym none)));
    then = inl ((λ none. none-some fault (sym none)), (refl, refl));
  }

  -- Otherwise the update is then written, on the puddles that are lent.
  pub written_update : Owes None → later ≡ finished_at o at → (lent : List (ℕ × Puddle)) → lent ≡ later → (gate : ℕ) → gate ≡ active.tx.log.gate_at → (fault : Option HostFault) (new : State) → Changes (ByUpdate F gate lent found) fault mid new
      → WritesUpdate F active.tx.log.gate_at at later found fault old new
  written_update owes whole lent same gate here fault new c = record {
    mid = mid;
    first = None;
    does = finishes None owes (λ none. whole);
    then = inr (refl, subst (λ (n : ℕ). Changes (ByUpdate F n later found) fault mid new) here (subst (λ (ps : List (ℕ × Puddle)). Changes (ByUpdate F gate ps found) fault mid new) same c));
  }

-- ---- a line

-- The line makes the update that was found.
pub line_written : (F : ℕ) (active : ActiveTransaction) (known : Known) (memory : Memory) (its : IsActiveWith F active known memory) (size : ℕ) (w : World) (old : State) (ready : IsReady size w memory old) (update : Update) (found : FoundUpdate)
    → IsFoundWithin known.puddles found → IsFoundBy F known.puddles (reads old.now.words) update found → (later : List (ℕ × Puddle)) (fault : Option HostFault) (new : State)
    → WritesUpdate F active.tx.log.gate_at known.puddles later found fault old new → Updates F active.client update known.puddles fault old new
line_written F active known memory its size w old ready update found within by later fault new writes = record {
  gate = active.tx.log.gate_at;
  is = open_log size w memory active old active.log_number its.there ready F (sym its.frames ∙ ready.frames);
  found = found;
  within = within;
  by = by;
  later = later;
  writes = writes;
}
