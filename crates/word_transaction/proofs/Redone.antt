-- A transaction with deferred values is committed: its log is replayed after the range has moved.
use Rattle.std.proofs.Common.{◌≡◌, inl, inr, ℕ, List, Option, None, refl, sym, subst, ◌∙◌, arith}
use Rattle.pm_model.specs.declared.host.HostFault.{HostFault}
use Rattle.pm_model.specs.Words.{reads, HasOnly}
use Rattle.pm_model.specs.Moments.{State}
use Rattle.pm_model.specs.Changes.{Changes, Leaves, Silently}
use Rattle.pm_model.proofs.Words.{HasOnly-newest, HasOnly-own}
use Rattle.pm_model.proofs.Changes.{Changes-then, Changes-wider, HasOnly-kept}
use Rattle.pud_defs.specs.declared.layout.TheConstants.{PUDDLE_TABLE}
use Rattle.pud_defs.specs.Formats.Image.{Image}
use Rattle.pud_defs.specs.Formats.Layout.{tables_end, IsWithin}
use Rattle.pud_defs.specs.Logging.Entries.{Entry}
use Rattle.pud_defs.specs.Logging.Replay.{AddressMap, overwritten}
use Rattle.pud_defs.proofs.Logging.Replay.{overwritten-there, overwritten-stays}
use Rattle.log_store.specs.Store.{OpenLog, saying, committing}
use Rattle.log_replay.specs.declared.Target.TheVariants.{Puddles}
use Rattle.log_replay.specs.Replaying.{address_map_of, IsReplayable, HasDurableLog, IsSettling, SettlesLog}
use Rattle.log_replay.proofs.Places.{places_same}
use Rattle.word_transaction.specs.Scope.{Scope, IsScope, committing_range, pending}
use Rattle.word_transaction.specs.Running.{IsRunning, ByCommit, ByCommitOf, CommitsTransaction, HasPlaces, HasOneTable, CanRedo}
use Rattle.word_transaction.proofs.Saved.{pending_is_mine}
use Rattle.word_transaction.proofs.Growing.{redo_value-places}
use Rattle.word_transaction.proofs.Pending.{new_value-committing}
use Rattle.word_transaction.proofs.Committed.{Moves, gate_moves, moved_single, moved_open, CommitsTransaction-closes}
use Rattle.word_transaction.proofs.Settled.{Gives, ByShutting, replayable, durable_log, shut_settled, Shuts-settled}

-- ---- the puddle table, while the gate changes

module _ (F : ℕ) (g : Scope) (log : OpenLog) (a c : State) (changes : Changes (ByCommit log) None a c) (can : CanRedo g F log.gate_at a.now.words) where
  table_still : (k : ℕ) → IsWithin PUDDLE_TABLE (tables_end F) k → HasOnly (c.now.words k) (reads a.now.words k)
  table_still k within =
      HasOnly-kept (ByCommit log) None a c k (reads a.now.words k) changes
      (λ v by. let here = by.gate in let high = within.high in let front = can.before in absurd (omega arith)) (can.table.each k within)

  one_table : HasOneTable F c.now.words
  one_table = record { each = λ k within. HasOnly-own (c.now.words k) (reads a.now.words k) (table_still k within) }

  places_there : HasPlaces g (address_map_of (Puddles F) (reads c.now.words))
  places_there =
      subst (λ (place : AddressMap). HasPlaces g place)
      (sym (places_same (Puddles F) (reads a.now.words) (reads c.now.words) (λ k within. HasOnly-newest (c.now.words k) (reads a.now.words k) (table_still k within)))) can.places

-- ---- the replay

module _ (size : ℕ) (log : OpenLog) (es : List Entry) (g : Scope) (before : Image) (a : State) (scope : IsScope size log.gate_at g) (r : IsRunning g log es before a.now.words) where
  abbrev write : ℕ → Option ℕ
  write = pending g.place es

  abbrev after : Image
  after = overwritten write (reads a.now.words)

  -- A committing log gives the deferred values.
  gives : (b c : State) → Moves log None a b c → Gives g (committing log) es write after c.now.words
  gives b c m =
      record {
        opened = moved_open size log es g before a scope r b c m;
        own = r.own;
        given = λ place same k. new_value-committing g place (saying (committing log) es) es k refl refl refl r.own ∙ redo_value-places g.place place committing_range es k same;
        has_word = λ k v is. pending_is_mine size log.gate_at g es k v scope r.own is;
        saves = λ k v is. sym (overwritten-there write (reads a.now.words) k v is);
        single = λ k mine none.
            subst (λ (v : ℕ). HasOnly (c.now.words k) v) (sym (overwritten-stays write (reads a.now.words) k none)) (moved_single size log es g before a scope r b c m k mine);
      }

  pub CommitsTransaction-redone : (F at : ℕ) (fault : Option HostFault) (b c d : State) → at ≡ log.gate_at → CanRedo g F log.gate_at a.now.words → Moves log None a b c
      → (IsReplayable (address_map_of (Puddles F) (reads c.now.words)) size at es (reads c.now.words) → SettlesLog (Puddles F) at fault c d)
      → (IsReplayable (address_map_of (Puddles F) (reads c.now.words)) size at es (reads c.now.words) → HasDurableLog (Puddles F) at c.now.words
      → Leaves (Silently (IsSettling (Puddles F) at c.now.words)) c d)
      → CommitsTransaction g log.gate_at before after fault a d
  CommitsTransaction-redone F at fault b c d here can m recovers moments =
      let changes = gate_moves log None a b c m in
      let table = one_table F g log a c changes can in
      let places = places_there F g log a c changes can in
      let given = gives b c m in
      let may = replayable size F g (committing log) es write after c scope given places table in
      let durable = durable_log size F g (committing log) es write after c scope given places table in
      let settled = subst (λ (k : ℕ). IsReplayable (address_map_of (Puddles F) (reads c.now.words)) size k es (reads c.now.words) → SettlesLog (Puddles F) k fault c d) here recovers in
      let left = subst (λ (k : ℕ). IsReplayable (address_map_of (Puddles F) (reads c.now.words)) size k es (reads c.now.words) → HasDurableLog (Puddles F) k c.now.words
      → Leaves (Silently (IsSettling (Puddles F) k c.now.words)) c d) here moments in
      CommitsTransaction-closes size log es g before a scope r fault b c d m
      (Shuts-settled size F g (committing log) es write after c scope given places table fault d (settled may) (left may durable))

  -- Except for its gate, it writes only words that redo entries name.
  pub named_redone : (F at : ℕ) (fault : Option HostFault) (b c d : State) → at ≡ log.gate_at → CanRedo g F log.gate_at a.now.words → Moves log None a b c
      → (IsReplayable (address_map_of (Puddles F) (reads c.now.words)) size at es (reads c.now.words) → SettlesLog (Puddles F) at fault c d)
      → (IsReplayable (address_map_of (Puddles F) (reads c.now.words)) size at es (reads c.now.words) → HasDurableLog (Puddles F) at c.now.words
      → Leaves (Silently (IsSettling (Puddles F) at c.now.words)) c d)
      → Changes (ByCommitOf log write) fault a d
  named_redone F at fault b c d here can m recovers moments =
      let changes = gate_moves log None a b c m in
      let table = one_table F g log a c changes can in
      let places = places_there F g log a c changes can in
      let given = gives b c m in
      let may = replayable size F g (committing log) es write after c scope given places table in
      let durable = durable_log size F g (committing log) es write after c scope given places table in
      let settled = subst (λ (k : ℕ). IsReplayable (address_map_of (Puddles F) (reads c.now.words)) size k es (reads c.now.words) → SettlesLog (Puddles F) k fault c d) here recovers in
      let left = subst (λ (k : ℕ). IsReplayable (address_map_of (Puddles F) (reads c.now.words)) size k es (reads c.now.words) → HasDurableLog (Puddles F) k c.now.words
      → Leaves (Silently (IsSettling (Puddles F) k c.now.words)) c d) here moments in
      Changes-then (ByCommitOf log write) fault a c d (Changes-wider (ByCommit log) (ByCommitOf log write) None a c (λ k v by. inl by) changes)
      (Changes-wider (ByShutting log.gate_at write) (ByCommitOf log write) fault c d
      (λ k v by. elim by [ inl shut ↦ inl (record { gate = shut.0; value = inr shut.1 }) | inr named ↦ inr named ])
      (shut_settled size F g (committing log) es write after c scope given places table fault d (settled may) (left may durable)))
