-- What a call on a slot owes for the update that was found there.
use Rattle.std.proofs.Common.{◌≡◌, ℕ, Bool, true, false, List, [], ◌∷◌, ◌++◌, Option, Some, sym, ap, subst, ◌∙◌}
use Rattle.std.proofs.lemmas.Option.{same_Some}
use Rattle.pm_model.specs.declared.host.HostFault.{HostFault}
use Rattle.pm_model.specs.Words.{reads}
use Rattle.pm_model.specs.Moments.{State}
use Rattle.pud_defs.specs.declared.records.Puddle.{Puddle}
use Rattle.pud_defs.specs.declared.records.Slot.{Slot}
use Rattle.pud_defs.specs.Formats.Geometry.{ordinal_of}
use Rattle.pud_defs.specs.Formats.Image.{Image}
use Rattle.pud_defs.specs.PoolGraphs.Graph.{Graph}
use Rattle.pud_defs.specs.PoolGraphs.GraphChanges.{with_field}
use Rattle.pud_defs.specs.StateMachine.World.{Transaction}
use Rattle.puddle_header.specs.Places.{place_of_slot, IsSlotOf}
use Rattle.puddle_header.proofs.Placed.{place_ordinal}
use Rattle.graph_read.specs.Reading.{place_in_pool}
use Rattle.log_store.specs.Store.{OpenLog}
use Rattle.hybrid_tx.specs.PoolScopes.{ArePlacedPuddles, IsRewrittenAt}
use Rattle.hybrid_tx.specs.Objects.Calls.{ChangesField, FreesInSlot}
use Rattle.hybrid_tx.specs.Objects.Transactions.{IsRewrittenFor, IsOpenOn, KeepsOpenOn}
use Rattle.pool_transaction.specs.declared.changing.Update.{Update}
use Rattle.pool_transaction.specs.declared.changing.Update.TheVariants.{Set, Later, Free}
use Rattle.pool_transaction.specs.Changing.{field_change, changed_by, MayChange, IsFieldFound, IsObjectFound}

-- The puddle of an object is finished if the one is in which its slot lies.
rewritten_for : (F : ℕ) (at : List (ℕ × Puddle)) (image : Image) (s : ℕ) (slot : Slot) → IsSlotOf at slot → place_in_pool F at image s ≡ Some (place_of_slot slot) → IsRewrittenAt at slot.ordinal → IsRewrittenFor F at image s
rewritten_for F at image s slot of there finished = record {
  each = λ other by here.
      let place = same_Some (place_of_slot slot) (place_of_slot other) (sym there ∙ here) in
      let same : slot.ordinal ≡ other.ordinal =
      sym (place_ordinal slot.ordinal slot.slot of.puddle of.below) ∙ ap ordinal_of place ∙ place_ordinal other.ordinal other.slot by.puddle by.below in
      subst (IsRewrittenAt at) same finished;
}

module _ (F : ℕ) (at : List (ℕ × Puddle)) (slot : Slot) (of : IsSlotOf at slot) (log now : OpenLog) (fault : Option HostFault) (old new : State) (types : List (ℕ × ℕ)) (before : Image) (graph_before : Graph) (t : Transaction) (update : Update)
    (placed : ArePlacedPuddles F at) (finished : IsRewrittenAt at slot.ordinal) (running : IsOpenOn F at types log before graph_before t.now t.deferred old.now.words) (may : MayChange types t update) where
  -- The transaction stays open with the update.
  abbrev Runs : Update → Type 0
  Runs u = KeepsOpenOn F at types now before graph_before (changed_by u t).now (changed_by u t).deferred fault old new

  by_update : (asked : Update) → update ≡ asked → (MayChange types t asked → Runs asked) → Runs update
  by_update asked is runs = subst (λ (u : Update). MayChange types t u → Runs u) (sym is) runs may

  -- A field is set.
  pub field_set : (f word : ℕ) (later : Bool) → later ≡ false → IsFieldFound F at (reads old.now.words) update slot f word later
      → ChangesField F at slot f word log now fault old new (λ s x g deferred keeps. keeps (with_field s f x g) deferred) → Runs update
  field_set f word later at_once by changes =
      by_update (Set by.s f by.x) (by.is ∙ ap (λ (b : Bool). field_change b by.s f by.x) at_once) (λ allowed.
      changes types before graph_before t.now t.deferred by.s by.x placed (rewritten_for F at (reads old.now.words) by.s slot of by.found.0 finished) running allowed by.found.0 by.found.1)

  -- The value of a field is deferred.
  pub field_later : (f word : ℕ) (later : Bool) → later ≡ true → IsFieldFound F at (reads old.now.words) update slot f word later
      → ChangesField F at slot f word log now fault old new (λ s x g deferred keeps. keeps g (deferred ++ record { s = s; f = f; x = x } ∷ [])) → Runs update
  field_later f word later deferred by changes =
      by_update (Later by.s f by.x) (by.is ∙ ap (λ (b : Bool). field_change b by.s f by.x) deferred) (λ allowed.
      changes types before graph_before t.now t.deferred by.s by.x placed (rewritten_for F at (reads old.now.words) by.s slot of by.found.0 finished) running allowed by.found.0 by.found.1)

  -- An object is freed.
  pub object_freed : IsObjectFound F at (reads old.now.words) update slot → FreesInSlot F at slot log now fault old new → Runs update
  object_freed by frees =
      by_update (Free by.s) by.is (λ allowed.
      frees types before graph_before t.now t.deferred by.s placed (rewritten_for F at (reads old.now.words) by.s slot of by.found finished) running allowed.0 allowed.1 by.found)
