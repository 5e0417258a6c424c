-- How a transaction on a pool ends, and what images left meanwhile recover to.
use Rattle.std.proofs.Common.{◌≡◌, inl, inr, ℕ, ◌+◌, ◌≤◌, Bool, true, false, List, Option, Some, None, refl, sym, ap, subst, ◌∙◌}
use Rattle.std.specs.Prelude.{unwrap_or}
use Rattle.std.proofs.lemmas.Bool.{cases_Bool}
use Rattle.pm_model.specs.declared.host.HostFault.{HostFault}
use Rattle.pm_model.specs.Words.{Words, HasOnly, reads}
use Rattle.pm_model.proofs.Words.{HasOnly-own, HasOnly-newest}
use Rattle.pm_model.specs.Moments.{State}
use Rattle.pm_model.specs.Changes.{Changes}
use Rattle.pud_defs.specs.declared.layout.TheConstants.{LOG_WORDS}
use Rattle.pud_defs.specs.declared.records.Puddle.{Puddle}
use Rattle.pud_defs.specs.Formats.Layout.{device_words, frames_at}
use Rattle.pud_defs.specs.Formats.Image.{Image}
use Rattle.pud_defs.specs.Logging.Entries.{Entry, log_of}
use Rattle.pud_defs.specs.Logging.Replay.{new_value, overwritten, replayed}
use Rattle.pud_defs.specs.PoolGraphs.Stored.{Stored, stored_in, place_serial}
use Rattle.pud_defs.specs.PoolGraphs.Graph.{Graph, graph_of}
use Rattle.pud_defs.specs.PoolGraphs.DeferredValues.{DeferredValue, with_deferred_set}
use Rattle.log_store.specs.Store.{OpenLog}
use Rattle.log_replay.specs.Replaying.{ByLog}
use Rattle.word_transaction.specs.Scope.{Scope, IsScope, written_in_turn, pending, saved_in, pending_in}
use Rattle.word_transaction.specs.Running.{IsRunning, IsIdle, RecoversTo, ByTransaction, ByCommitOf, AbortsTransaction, CommitsTransaction, CanRedo}
use Rattle.word_transaction.proofs.Saved.{pending_is_mine}
use Rattle.word_transaction.proofs.Pending.{pending-in_turn}
use Rattle.word_transaction.proofs.Ended.{CommitsTransaction-idle, AbortsTransaction-idle}
use Rattle.hybrid_tx.specs.PoolScopes.{pool_place, pool_has_word, pool_scope, finished_of, ArePlacedPuddles}
use Rattle.hybrid_tx.specs.Objects.Transactions.{RestsAs, IsOpenOn, IsAtRest, AbortsOnPool, CommitsOnPool}
use Rattle.hybrid_tx.proofs.PoolScope.{is_scope}
use Rattle.hybrid_tx.proofs.FinishedPuddles.{finished_placed}
use Rattle.hybrid_tx.proofs.Objects.Opening.{stored_in-has_word, RestsAs-after}
use Rattle.hybrid_tx.proofs.Objects.DeferredAfter.{serial_at_place}
use Rattle.hybrid_tx.proofs.Objects.DeferredApplied.{deferred_applied, serials_applied}
use Rattle.hybrid_tx.proofs.Open.OwnEntries.{new_value_own}

-- what holds for the words of the finished puddles, and for those of the others, holds for all of them
each_mine : (F : ℕ) (at : List (ℕ × Puddle)) (P : ℕ → Type 0) → ((k : ℕ) → pool_has_word F (finished_of at) k ≡ true → P k) → ((k : ℕ) → pool_has_word F at k ≡ true → pool_has_word F (finished_of at) k ≡ false → P k)
    → (k : ℕ) → pool_has_word F at k ≡ true → P k
each_mine F at P own others k mine = elim (cases_Bool (pool_has_word F (finished_of at) k)) [ inl here ↦ own k here | inr other ↦ others k mine other ]

-- if only own words get values, any other word gets none
off_own : (write : Option ℕ) (mine : Bool) → ((v : ℕ) → write ≡ Some v → mine ≡ true) → mine ≡ false → (w : ℕ) → unwrap_or write w ≡ w
off_own None mine own other w = refl
off_own (Some v) mine own other w = absurd (let it : true ≡ false = sym (own v refl) ∙ other in cc)

module _ (F size : ℕ) (at : List (ℕ × Puddle)) (types : List (ℕ × ℕ)) (log : OpenLog) (before : Image) (graph_before now : Graph) (deferred : List DeferredValue) (fault : Option HostFault) (old new : State)
    (is_placed : ArePlacedPuddles F at) (device : device_words F ≤ size) (apart : log.gate_at + LOG_WORDS ≤ frames_at F) (is_open : IsOpenOn F at types log before graph_before now deferred old.now.words) where
  abbrev own : Scope
  own = pool_scope F (finished_of at)

  abbrev after : Image
  after = overwritten (pending (pool_place F (finished_of at)) is_open.saving.es) (reads old.now.words)

  own_ground : IsScope size log.gate_at own
  own_ground = is_scope F size log.gate_at (finished_of at) (finished_placed F at is_placed) device apart

  -- the new values are those of the redo entries, written in turn
  in_turn : after ≡ written_in_turn (pool_place F (finished_of at)) is_open.redo (reads old.now.words)
  in_turn =
      let s = is_open.saving in
      pending-in_turn own (pool_place F (finished_of at)) s.es (reads old.now.words) s.running.own
      ∙ ap (λ (redo : List Entry). written_in_turn (pool_place F (finished_of at)) redo (reads old.now.words)) s.defers

  -- the words of the puddles that are not finished are as they were at the beginning
  rests_after : Changes (ByTransaction own log.gate_at) fault old new → RestsAs F at before new.now.words
  rests_after c = RestsAs-after F size at log.gate_at before fault old new (is_scope F size log.gate_at at is_placed device apart) c is_open.rests

  after_beside : (k : ℕ) → pool_has_word F at k ≡ true → pool_has_word F (finished_of at) k ≡ false → after k ≡ before k
  after_beside k mine other =
      let s = is_open.saving in
      off_own (pending (pool_place F (finished_of at)) s.es k) (pool_has_word F (finished_of at) k) (λ v is. pending_is_mine size log.gate_at own s.es k v own_ground s.running.own is) other (reads old.now.words k)
      ∙ HasOnly-newest (old.now.words k) (before k) (is_open.rests.each k mine other)

  -- after a commit the pool's words are the new ones
  read_after : CommitsTransaction own log.gate_at before after fault old new → fault ≡ None → stored_in F at (reads new.now.words) ≡ stored_in F at after
  read_after ends none =
      let idle = CommitsTransaction-idle own log.gate_at before after fault old new none ends in
      let rests = rests_after ends.changes in
      stored_in-has_word F at after (reads new.now.words)
      (each_mine F at (λ k. reads new.now.words k ≡ after k) (λ k mine. HasOnly-newest (new.now.words k) (after k) (idle.single k mine))
      (λ k mine other. HasOnly-newest (new.now.words k) (before k) (rests.each k mine other) ∙ sym (after_beside k mine other)))

  serials_after : CommitsTransaction own log.gate_at before after fault old new → fault ≡ None → (p : ℕ) → serial_at_place F at (reads new.now.words) p ≡ serial_at_place F at (reads old.now.words) p
  serials_after ends none p =
      ap (λ (st : Stored). place_serial st p) (read_after ends none)
      ∙ ap (λ (i : Image). serial_at_place F at i p) in_turn
      ∙ serials_applied F at types is_placed deferred is_open.redo (reads old.now.words) now is_open.is is_open.are p

  pub CommitsOnPool-ends : (log.defers ≡ true → CanRedo (pool_scope F (finished_of at)) F log.gate_at old.now.words)
      → ((g : Scope) (es : List Entry) (b : Image) → IsScope size log.gate_at g → IsRunning g log es b old.now.words → (log.defers ≡ true → CanRedo g F log.gate_at old.now.words)
      → CommitsTransaction g log.gate_at b (overwritten (pending g.place es) (reads old.now.words)) fault old new) → CommitsOnPool F at types log.gate_at before graph_before (with_deferred_set deferred now) fault old new
  CommitsOnPool-ends can ends =
      let s = is_open.saving in
      let its = ends own s.es before own_ground s.running can in
      record {
        after = after;
        ends = its;
        beside = after_beside;
        serials = serials_after its;
        rests = λ none. rests_after its.changes;
        was = is_open.was;
        is = ap (λ (i : Image). graph_of types (stored_in F at i)) in_turn ∙ deferred_applied F at types is_placed deferred is_open.redo (reads old.now.words) now is_open.is is_open.are;
      }

  pub AbortsOnPool-closes : ((es : List Entry) → IsScope size log.gate_at (pool_scope F (finished_of at)) → IsRunning (pool_scope F (finished_of at)) log es before old.now.words
      → AbortsTransaction (pool_scope F (finished_of at)) log.gate_at before fault old new) → AbortsOnPool F at types log.gate_at before graph_before fault old new
  AbortsOnPool-closes closes =
      let its = closes is_open.saving.es own_ground is_open.saving.running in
      record { closes = its; rests = λ none. rests_after its.changes; was = is_open.was }

  -- ---- which words are written

  pub names_committed : (log.defers ≡ true → CanRedo (pool_scope F (finished_of at)) F log.gate_at old.now.words)
      → ((g : Scope) (es : List Entry) (b : Image) → IsScope size log.gate_at g → IsRunning g log es b old.now.words → (log.defers ≡ true → CanRedo g F log.gate_at old.now.words)
      → Changes (ByCommitOf log (pending_in g.place log.gate_at (reads old.now.words))) fault old new) → Changes (ByCommitOf log (pending_in (pool_place F (finished_of at)) log.gate_at (reads old.now.words))) fault old new
  names_committed can names = names own is_open.saving.es before own_ground is_open.saving.running can

  pub names_aborted : ((es : List Entry) → IsScope size log.gate_at (pool_scope F (finished_of at)) → IsRunning (pool_scope F (finished_of at)) log es before old.now.words
      → Changes (ByLog log.gate_at (saved_in (pool_place F (finished_of at)) log.gate_at (reads old.now.words))) fault old new) → Changes (ByLog log.gate_at (saved_in (pool_place F (finished_of at)) log.gate_at (reads old.now.words))) fault old new
  names_aborted names = names is_open.saving.es own_ground is_open.saving.running

-- ---- graphs of what is left

module _ (F : ℕ) (at : List (ℕ × Puddle)) (types : List (ℕ × ℕ)) where
  -- with the log replayed, the pool has the graph of the values that the image recovers to
  pub settled_graph : (size log : ℕ) (values image : Image) (g : Graph) → IsScope size log (pool_scope F (finished_of at)) → RecoversTo (pool_scope F (finished_of at)) log values image
      → ((k : ℕ) → pool_has_word F at k ≡ true → pool_has_word F (finished_of at) k ≡ false → image k ≡ values k)
      → graph_of types (stored_in F at values) ≡ Some g → graph_of types (stored_in F at (replayed (pool_place F (finished_of at)) (log_of image log) image)) ≡ Some g
  settled_graph size log values image g scope s rests is =
      let own = pool_scope F (finished_of at) in
      let following = replayed (pool_place F (finished_of at)) (log_of image log) image in
      let kept = λ (k : ℕ) (other : pool_has_word F (finished_of at) k ≡ false).
      off_own (new_value (pool_place F (finished_of at)) (log_of image log) k) (pool_has_word F (finished_of at) k) (λ v is. new_value_own size log own (log_of image log) scope k v s.es s.spells s.own is) other (image k) in
      ap (graph_of types) (stored_in-has_word F at values following (each_mine F at (λ k. following k ≡ values k) s.settled (λ k mine other. kept k other ∙ rests k mine other))) ∙ is

  -- if each word has one value, no transaction is open, and the pool has the graph of these values
  at_rest : (log : ℕ) (values : Image) (g : Graph) (words : Words) → IsIdle (pool_scope F (finished_of at)) log values words → RestsAs F at values words → graph_of types (stored_in F at values) ≡ Some g
      → IsAtRest F at types log g words
  at_rest log values g words idle rests is =
      let single = each_mine F at (λ k. HasOnly (words k) (values k)) idle.single rests.each in
      record {
        idle = record { closed = idle.closed; single = λ k mine. HasOnly-own (words k) (values k) (single k mine) };
        is = ap (graph_of types) (stored_in-has_word F at values (reads words) (λ k mine. HasOnly-newest (words k) (values k) (single k mine))) ∙ is;
      }

  pub IsAtRest-closed : (log : ℕ) (before : Image) (graph_before : Graph) (old new : State) → AbortsOnPool F at types log before graph_before None old new → IsAtRest F at types log graph_before new.now.words
  IsAtRest-closed log before graph_before old new c =
      at_rest log before graph_before new.now.words (AbortsTransaction-idle (pool_scope F (finished_of at)) log before None old new refl c.closes) (c.rests refl) c.was

  pub IsAtRest-ended : (log : ℕ) (before : Image) (graph_before next : Graph) (old new : State) → CommitsOnPool F at types log before graph_before next None old new → IsAtRest F at types log next new.now.words
  IsAtRest-ended log before graph_before next old new e =
      at_rest log e.after next new.now.words (CommitsTransaction-idle (pool_scope F (finished_of at)) log before e.after None old new refl e.ends)
      (record { each = λ k mine other. subst (λ (v : ℕ). HasOnly (new.now.words k) v) (sym (e.beside k mine other)) ((e.rests refl).each k mine other) }) e.is
