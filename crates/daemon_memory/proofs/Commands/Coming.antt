-- Clients that are registered and removed: first their logs are closed, and then their record of the log-space table is
-- changed.
use Rattle.std.proofs.Common.{◌≡◌, ◌⊎◌, inl, inr, ⊎_elim, ℕ, ◌<◌, ◌≤◌, Bool, true, false, eqb, cond, List, [], ◌∷◌, length, Option, Some, None, refl, sym, ap, ap₂, subst, ◌∙◌, arith, ne_eqb}
use Rattle.std.specs.Prelude.{is_some}
use Rattle.std.proofs.lemmas.List.{append-nil}
use Rattle.std.proofs.lemmas.List.Elements.{All-nil, All-cons}
use Rattle.std.proofs.lemmas.Bool.{eqb-true, cases_eq, cond-false}
use Rattle.pm_model.specs.declared.host.HostFault.{HostFault}
use Rattle.pm_model.specs.Words.{Has, Cell, values, Picks, HasOnly, reads}
use Rattle.pm_model.specs.Moments.{State}
use Rattle.pm_model.specs.Changes.{Footprint, Changes, Leaves, Silently, IsFrom}
use Rattle.pm_model.specs.Masks.{masked, masked_state, IsOff}
use Rattle.pm_model.proofs.Changes.{Changes-said}
use Rattle.pm_model.proofs.Masks.{IsOff-none, masked-elsewhere, Changes-masked}
use Rattle.pm_model.proofs.Leaves.{Leaves-changes, Leaves-weaker, Leaves-then, Leaves-still}
use Rattle.pud_defs.specs.declared.layout.TheConstants.{DAEMON_LOG, CLIENTS, CLIENT_LOGS, SPACE_RECORD_WORDS, PUDDLE_TABLE}
use Rattle.pud_defs.specs.declared.log_words.TheConstants.{CLOSED_GATE}
use Rattle.pm_model.proofs.Words.{HasOnly-own}
use Rattle.pud_defs.specs.Formats.Layout.{tables_end, log_at}
use Rattle.pud_defs.specs.Formats.Image.{Image}
use Rattle.pud_defs.specs.Logging.Entries.{Entry, log_of, is_idle_gate}
use Rattle.pud_defs.specs.RegistryTables.Puddles.{Member}
use Rattle.pud_defs.specs.Logging.Replay.{device_word}
use Rattle.pud_defs.specs.RegistryTables.Tables.{tables_of}
use Rattle.pud_defs.specs.RegistryTables.Spaces.{Owner, space_record_at, owner_by, owner_of, has_closed_logs, owner, with_owner}
use Rattle.pud_defs.specs.StateMachine.World.{World, idle_world_of, closed}
use Rattle.pud_defs.specs.declared.machine.Command.TheVariants.{Client, Leave}
use Rattle.pud_defs.specs.declared.machine.Refusal.TheVariants as refusals
use Rattle.pud_defs.specs.StateMachine.Step.{refusal_of, after}
use Rattle.pud_defs.proofs.Logging.Replay.{empty_range_of, new_value-closed, outside_log}
use Rattle.pud_defs.proofs.Logging.ClosedLogs.{has_closed_logs-gates}
use Rattle.pud_defs.proofs.RegistryTables.Spaces.{used_is_some, owner_of-same, has_closed_logs-same}
use Rattle.pud_defs.proofs.StateMachine.Steps.{client-taken, client-new, leave-absent, leave-present}
use Rattle.batch.specs.Batches.{batch_entry, IsBatchEntry, AreBatched, HasIdleGate, ByBatch, IsBatched, Commits}
use Rattle.batch.specs.Tables.{HasDurableTables}
use Rattle.batch.proofs.Tables.{StaysDurable, reads_kept, HasDurableTables-kept, HasDurableTables-committed}
use Rattle.log_space.specs.Records.{record_batch, registration, unregistration, MayHaveOwner, ChangesOwner, Registers, Unregisters}
use Rattle.log_space.specs.Closed.{ByClosing, ClosesGates, ClosesClientLogs}
use Rattle.log_space.proofs.Writing.{writes_elsewhere}
use Rattle.std.proofs.lemmas.Option.{none-some}
use Rattle.daemon_memory.proofs.PoolChanges.RestBeside.{rest_beside}
use Rattle.daemon_memory.specs.Memory.{Memory}
use Rattle.daemon_memory.specs.ActiveTransactions.{HasIdleLogs, ByOthers, AreOfOtherClients, LeavesMasked}
use Rattle.daemon_memory.specs.KnownPools.{KnowsPools}
use Rattle.daemon_memory.specs.Moves.{Stays}
use Rattle.daemon_memory.specs.Ready.{IsReady, Applies, IsUsedAlone, IsClosedIfNamed, ClosesBefore}
use Rattle.daemon_memory.proofs.Commands.Beside.{ready_idle, Applies-beside, RestAfter}
use Rattle.daemon_memory.proofs.Commands.Beneath.{ready_gate, gate_kept, idle_kept, logs_kept, LeavesMasked-changes, LeavesMasked-commits, LeavesMasked-then, read_masked-kept}
use Rattle.daemon_memory.proofs.PoolChanges.PuddlesLeft.{record_mask, used_below, IsOff-record, LeavesPuddles-beside}
use Rattle.daemon_memory.proofs.OpenTransactions.Others.{off_gates, off_record, keeps_active, gone}
use Rattle.daemon_memory.proofs.PoolsKnown.KnownKept.{KeepsPools}
use Rattle.daemon_memory.proofs.PoolsKnown.KnownLines.{KeepsPools-client}
use Rattle.daemon_memory.proofs.PoolsKnown.KnownOpen.{KnowsPools-all}

-- ---- what is read from the log-space table

-- The table that is read tells whether the client is present.
pub presence_read : (size : ℕ) (w : World) (memory : Memory) (s : State) (client : ℕ) (registered : Bool) → client < CLIENTS → IsReady size w memory s → registered ≡ is_some (owner_of (reads s.now.words) client)
    → registered ≡ is_some (w.clients client)
presence_read size w memory s client registered known ready told = told ∙ ap is_some (ready.clients client known)

used_word : (used uid gid : ℕ) → true ≡ is_some (owner_by used uid gid) → used ≡ 1
used_word used uid gid present = eqb-true used 1 (used_is_some used uid gid ∙ sym present)

-- The record of a client that is present is used, durably.
space_used : (size : ℕ) (w : World) (memory : Memory) (s : State) (client : ℕ) → client < CLIENTS → IsReady size w memory s → true ≡ is_some (w.clients client) → HasOnly (s.now.words (space_record_at client)) 1
space_used size w memory s client known ready present =
    subst (λ v. HasOnly (s.now.words (space_record_at client)) v) (used_word _ _ _ (present ∙ ap is_some (sym (ready.clients client known))))
    (ready.tables.each (space_record_at client) (inr (omega arith)) (omega arith))

-- The gates of a client's logs come after the tables.
no_gate : (F slot k v : ℕ) → k < tables_end F → ByClosing F slot k v → ⊥
no_gate F slot k v below gate = let is = gate.0.is in absurd (omega arith)

-- Each gate has one value after it is closed.
closed_single : (F slot : ℕ) (fault : Option HostFault) (a b : State) → ClosesGates F slot fault a b → fault ≡ None → (k : ℕ) → StaysDurable (ByClosing F slot) b k
closed_single F slot fault a b p none k =
    let one : (m : ℕ) → m < CLIENT_LOGS → k ≡ log_at F slot m → StaysDurable (ByClosing F slot) b k = λ m few here.
    inr (subst (λ (n : ℕ). HasOnly (b.now.words n) (b.now.words n).newest) (sym here) (HasOnly-own (b.now.words (log_at F slot m)) CLOSED_GATE (p.durable none m few))) in
    elim (cases_eq k (log_at F slot 0)) [
      | inl first ↦ one 0 (omega arith) first
      | inr a0 ↦ elim (cases_eq k (log_at F slot 1)) [
        | inl second ↦ one 1 (omega arith) second
        | inr a1 ↦ elim (cases_eq k (log_at F slot 2)) [
          | inl third ↦ one 2 (omega arith) third
          | inr a2 ↦ elim (cases_eq k (log_at F slot 3)) [
            | inl fourth ↦ one 3 (omega arith) fourth
            | inr a3 ↦ inl (λ v gate. let is = gate.0.is in let few = gate.0.below in let b0 = a0 in absurd (omega (arith, a0, a1, a2, a3)))
          ]
        ]
      ]
    ]

-- ---- the logs closed, and then the record changed

-- A batch of one record is made of entries of a batch.
record_batched : (slot : ℕ) (vals : List ℕ) → AreBatched (record_batch slot vals)
record_batched slot vals = All-cons IsBatchEntry (batch_entry (space_record_at slot) vals) [] (record { seq = refl; order = refl }) (All-nil IsBatchEntry)

-- The world with this owner for the client.
abbrev pub after_this : World → ℕ → Option Owner → World
after_this w slot now = record w { clients = with_owner slot now w.clients }

module _ (size : ℕ) (w : World) (memory : Memory) (slot : ℕ) (known : slot < CLIENTS) (others : AreOfOtherClients slot memory.active) (a : State) (ready : IsReady size w memory a) where
  abbrev may_stand : World → Image → Type 0
  may_stand next image = (idle_world_of size image ≡ Some (closed w)) ⊎ (idle_world_of size image ≡ Some (closed next))

  -- The gates are not masked.
  pub gates_apart : (F : ℕ) → F ≡ w.stored.frames → IsOff ready.mask (ByClosing F slot)
  gates_apart F is = subst (λ (n : ℕ). IsOff ready.mask (ByClosing n slot)) (sym is) (off_gates w memory.active ready.mask a.now.words slot ready.active known others)

  -- The record is not masked.
  pub record_apart : (vals : List ℕ) → length vals ≤ SPACE_RECORD_WORDS → IsOff ready.mask (ByBatch DAEMON_LOG (record_batch slot vals))
  record_apart vals few = off_record w memory.active ready.mask a.now.words slot ready.active known vals few others

  beside_closing : (F : ℕ) (fault : Option HostFault) (b : State) → F ≡ w.stored.frames → ClosesGates F slot fault a b → LeavesMasked ready.mask fault a b
  beside_closing F fault b is p =
      LeavesMasked-changes ready.mask (ByClosing F slot) fault a b (gates_apart F is) (λ v gate. no_gate F slot DAEMON_LOG v (omega arith) gate) (ready_gate size w memory a ready) (closed_single F slot fault a b p) p.changes

  -- No gate is a word of a puddle's record.
  apart_closing : (F : ℕ) (fault : Option HostFault) (b : State) → F ≡ w.stored.frames → ClosesGates F slot fault a b → (frame : ℕ) (m : Member)
      → (tables_of w.stored.frames (reads a.now.words)).puddles frame ≡ Some m → LeavesMasked (record_mask frame (reads a.now.words)) fault a b
  apart_closing F fault b is p frame m used =
      let below = used_below w.stored.frames (reads a.now.words) frame m used in
      LeavesMasked-changes (record_mask frame (reads a.now.words)) (ByClosing F slot) fault a b
      (IsOff-record frame (reads a.now.words) (ByClosing F slot) (λ k v low high. no_gate F slot k v (omega (arith, is)))) (λ v gate. no_gate F slot DAEMON_LOG v (omega arith) gate)
      (ready_gate size w memory a ready) (closed_single F slot fault a b p) p.changes

  -- The logs were not closed, because of a fault.
  unclosed : (F : ℕ) (now : Option Owner) (fault : HostFault) (b : State) → F ≡ w.stored.frames → ClosesGates F slot (Some fault) a b
      → ClosesClientLogs size (closed w) slot (Some fault) (masked_state ready.mask a) (masked_state ready.mask b) → Applies size w (after_this w slot now) memory (Some fault) a b
  unclosed F now fault b is gates p =
      let none : Some fault ≡ None → ⊥ = λ no. let it : None ≡ Some fault = sym no in cc in
      Applies-beside size w (after_this w slot now) memory (Some fault) a b ready (keeps_active w memory.active slot now others) (record {
        beside = beside_closing F (Some fault) b is gates;
        moments = Leaves-weaker (Silently (λ (image : Image). idle_world_of size image ≡ Some (closed w))) (Silently (may_stand (after_this w slot now))) (masked_state ready.mask a) (masked_state ready.mask b)
            (λ bytes image m. (m.0, inl m.1)) p.moments;
        settled = λ no. absurd (none no);
        tables = λ no. absurd (none no);
        clients = λ no. absurd (none no);
        logs = λ no. absurd (none no);
        shelf = refl;
      }) Stays (LeavesPuddles-beside w.stored.frames (Some fault) a b ready.tables (λ frame m used. apart_closing F (Some fault) b is gates frame m used)) memory refl refl refl (λ no. absurd (none no)) (λ no. absurd (none no))

  module _ (F : ℕ) (now : Option Owner) (vals : List ℕ) (few : length vals ≤ SPACE_RECORD_WORDS) (b c : State) (is : F ≡ w.stored.frames) (gates : ClosesGates F slot None a b)
      (p : ClosesClientLogs size (closed w) slot None (masked_state ready.mask a) (masked_state ready.mask b)) where
    abbrev es : List Entry
    es = record_batch slot vals

    -- The tables stayed as they were while the logs were closed.
    gates_after : (k v : ℕ) → k < tables_end w.stored.frames → ByClosing F slot k v → ⊥
    gates_after k v below = no_gate F slot k v (subst (λ (n : ℕ). k < tables_end n) (sym is) below)

    tables_closed : HasDurableTables w.stored.frames b.now.words
    tables_closed = HasDurableTables-kept w.stored.frames (ByClosing F slot) None a b gates.changes gates_after ready.tables

    clients_closed : (client : ℕ) → client < CLIENTS → owner_of (reads b.now.words) client ≡ w.clients client
    clients_closed client low =
        owner_of-same (reads b.now.words) (reads a.now.words) client low
        (λ k from to. reads_kept (ByClosing F slot) a b k gates.changes (λ v. gates_after k v (omega arith)))
        ∙ ready.clients client low

    module _ (fault : Option HostFault) (k : Commits DAEMON_LOG es fault b c) (q : ChangesOwner size (closed w) slot now es fault (masked_state ready.mask b) (masked_state ready.mask c)) where
      beside_changed : LeavesMasked ready.mask fault a c
      beside_changed =
          LeavesMasked-then ready.mask fault a b c (beside_closing F None b is gates)
          (LeavesMasked-commits ready.mask es fault b c (record_apart vals few) (record_batched slot vals) k)

      -- The client's record comes before the records of puddles.
      not_named : (k v : ℕ) → PUDDLE_TABLE ≤ k → ByBatch DAEMON_LOG es k v → ⊥
      not_named k v low (inl log) = let to = log.high in absurd (omega arith)
      not_named k v low (inr named) = absurd (let it : None ≡ Some named.value = sym (writes_elsewhere slot k vals (inr (omega arith))) ∙ named.is in cc)

      apart_changed : (frame : ℕ) (m : Member) → (tables_of w.stored.frames (reads a.now.words)).puddles frame ≡ Some m → LeavesMasked (record_mask frame (reads a.now.words)) fault a c
      apart_changed frame m used =
          let mask = record_mask frame (reads a.now.words) in
          LeavesMasked-then mask fault a b c (apart_closing F None b is gates frame m used)
          (LeavesMasked-commits mask es fault b c (IsOff-record frame (reads a.now.words) (ByBatch DAEMON_LOG es) (λ n v low high. not_named n v (omega arith))) (record_batched slot vals) k)

      -- The owner that is read from the table is the same, masked or not.
      masked_owner : (s : State) (client : ℕ) → client < CLIENTS → Changes (ByOthers ready.mask) None a s → owner_of (reads s.now.words) client ≡ owner_of (reads (masked ready.mask s.now.words)) client
      masked_owner s client low changes =
          owner_of-same (reads s.now.words) (reads (masked ready.mask s.now.words)) client low
          (λ n from to. sym (read_masked-kept w memory.active ready.mask a s ready.active changes n (omega arith)))

      clients_changed : fault ≡ None → (client : ℕ) → client < CLIENTS → owner_of (reads c.now.words) client ≡ with_owner slot now w.clients client
      clients_changed none client low =
          masked_owner c client low (subst (λ (f : Option HostFault). Changes (ByOthers ready.mask) f a c) none beside_changed.changes)
          ∙ q.read none client low
          ∙ ap (cond (eqb client slot) now) (sym (masked_owner b client low (beside_closing F None b is gates).changes) ∙ clients_closed client low)

      -- The client's logs are closed, and the others' logs are as they were.
      logs_closed : HasIdleLogs w.stored.frames (with_owner slot now w.clients) (masked ready.mask b.now.words)
      logs_closed = record {
        each = λ client number low few present. elim (cases_eq client slot) [
          | inl here ↦
              let own : log_at F slot number ≡ log_at w.stored.frames client number = ap₂ (λ (frames whose : ℕ). log_at frames whose number) is (sym here) in
              let none : ready.mask (log_at F slot number) ≡ None =
              IsOff-none ready.mask (ByClosing F slot) (log_at F slot number) CLOSED_GATE (gates_apart F is) (record { number = number; below = few; is = refl }, refl) in
              subst (λ (at : ℕ). HasIdleGate at (masked ready.mask b.now.words)) own
              (record { each = λ v had. ap is_idle_gate ((gates.durable refl number few).each v (subst (λ (c : Cell). Has (values c) v) (masked-elsewhere ready.mask b.now.words (log_at F slot number) none) had)) })
          | inr other ↦
              idle_kept (log_at w.stored.frames client number) (ByClosing F slot) None (masked_state ready.mask a) (masked_state ready.mask b)
              (Changes-masked ready.mask (ByClosing F slot) None a b gates.changes) (λ v wrote. ap is_idle_gate wrote.1)
              (ready.logs.each client number low few (sym (ap is_some (cond-false _ _ _ (ne_eqb client slot other))) ∙ present))
        ];
      }

      logs_changed : fault ≡ None → HasIdleLogs w.stored.frames (with_owner slot now w.clients) (masked ready.mask c.now.words)
      logs_changed none =
          logs_kept w.stored.frames (with_owner slot now w.clients) (ByBatch DAEMON_LOG es) fault (masked_state ready.mask b) (masked_state ready.mask c)
          (Changes-masked ready.mask (ByBatch DAEMON_LOG es) fault b c k.changes) (λ at v low high. not_named at v (omega arith)) logs_closed

      changed_moments : Leaves (Silently (may_stand (after_this w slot now))) (masked_state ready.mask a) (masked_state ready.mask c)
      changed_moments =
          let P = Silently (may_stand (after_this w slot now)) in
          let said = Changes-said (ByClosing F slot) None a b gates.changes in
          Leaves-then P P P [] (masked_state ready.mask a) (masked_state ready.mask b) (masked_state ready.mask c) (said ∙ sym (append-nil a.now.said)) (λ front image m. m) (λ more image m. m)
          (Leaves-weaker (Silently (λ (image : Image). idle_world_of size image ≡ Some (closed w))) P (masked_state ready.mask a) (masked_state ready.mask b) (λ bytes image m. (m.0, inl m.1)) p.moments)
          (Leaves-weaker (Silently (MayHaveOwner size (closed w) slot now es (masked ready.mask b.now.words))) P (masked_state ready.mask b) (masked_state ready.mask c) (λ bytes image m. (m.0, inl m.1.stands)) q.moments)

      pools_changed : fault ≡ None → KeepsPools w.stored.frames None (reads a.now.words) (reads c.now.words)
      pools_changed none =
          let committed = subst (λ (f : Option HostFault). Commits DAEMON_LOG es f b c) none k in
          subst (λ (n : ℕ). KeepsPools n None (reads a.now.words) (reads c.now.words)) is (KeepsPools-client F slot vals a b c known few gates committed)

      -- What is known about pools stays true.
      knows_changed : fault ≡ None → KnowsPools w.stored.frames memory.known_pools ready.active.opens (reads c.now.words)
      knows_changed none = KnowsPools-all w.stored.frames memory.known_pools ready.active.opens (reads a.now.words) (reads c.now.words) (pools_changed none) ready.knows

      rest_changed : fault ≡ None → RestAfter w memory.active ready.mask a.now.words ready.active c.now.words
      rest_changed none = rest_beside size w memory a ready None c (λ number h there no. none-some h.slot no) (pools_changed none) (beside_changed.single none)

      -- The record was changed, or it was not, because of a fault.
      changed : Applies size w (after_this w slot now) memory fault a c
      changed = Applies-beside size w (after_this w slot now) memory fault a c ready (keeps_active w memory.active slot now others) (record {
        beside = beside_changed;
        moments = changed_moments;
        settled = q.settled;
        tables = λ none. HasDurableTables-committed w.stored.frames es fault b c k.changes (k.durable none) tables_closed;
        clients = clients_changed;
        logs = logs_changed;
        shelf = refl;
      }) Stays (LeavesPuddles-beside w.stored.frames fault a c ready.tables apart_changed) memory refl refl refl knows_changed rest_changed

  -- A client was registered, after its logs were closed.
  pub Applies-unadmitted : (F uid gid : ℕ) (fault : HostFault) (b : State) → F ≡ w.stored.frames → ClosesGates F slot (Some fault) a b
      → ClosesClientLogs size (closed w) slot (Some fault) (masked_state ready.mask a) (masked_state ready.mask b) → Applies size w (after w (Client slot uid gid)) memory (Some fault) a b
  unfolding after
  Applies-unadmitted F uid gid fault b is gates p = unclosed F (Some (owner uid gid)) fault b is gates p

  pub Applies-registered : (F uid gid : ℕ) (fault : Option HostFault) (b c : State) → F ≡ w.stored.frames → ClosesGates F slot None a b
      → ClosesClientLogs size (closed w) slot None (masked_state ready.mask a) (masked_state ready.mask b) → Commits DAEMON_LOG (registration slot uid gid) fault b c
      → Registers size (closed w) slot uid gid fault (masked_state ready.mask b) (masked_state ready.mask c) → Applies size w (after w (Client slot uid gid)) memory fault a c
  unfolding after
  Applies-registered F uid gid fault b c is gates p k r = changed F (Some (owner uid gid)) (1 ∷ uid ∷ gid ∷ []) (omega arith) b c is gates p fault k r.table

  -- A client was removed, after its logs were closed.
  to_gone : (fault : Option HostFault) (c : State) → Applies size w (after_this w slot None) memory fault a c → Applies size w (after w (Leave slot)) memory fault a c
  to_gone fault c applies = subst (λ (v : World). Applies size w v memory fault a c) (sym (gone w memory.active ready.mask a.now.words slot ready.active others)) applies

  pub Applies-undismissed : (F : ℕ) (fault : HostFault) (b : State) → F ≡ w.stored.frames → ClosesGates F slot (Some fault) a b
      → ClosesClientLogs size (closed w) slot (Some fault) (masked_state ready.mask a) (masked_state ready.mask b) → Applies size w (after w (Leave slot)) memory (Some fault) a b
  Applies-undismissed F fault b is gates p = to_gone (Some fault) b (unclosed F None fault b is gates p)

  pub Applies-unregistered : (F : ℕ) (fault : Option HostFault) (b c : State) → F ≡ w.stored.frames → ClosesGates F slot None a b
      → ClosesClientLogs size (closed w) slot None (masked_state ready.mask a) (masked_state ready.mask b) → Commits DAEMON_LOG (unregistration slot) fault b c
      → Unregisters size (closed w) slot fault (masked_state ready.mask b) (masked_state ready.mask c) → Applies size w (after w (Leave slot)) memory fault a c
  Applies-unregistered F fault b c is gates p k r = to_gone fault c (changed F None (0 ∷ []) (omega arith) b c is gates p fault k r.table)

-- If the daemon log counted nothing, it counts nothing after the closing.
pub idle_closed : (F slot : ℕ) (a b : State) → HasIdleGate DAEMON_LOG a.now.words → ClosesGates F slot None a b → HasIdleGate DAEMON_LOG b.now.words
idle_closed F slot a b idle gates = gate_kept (ByClosing F slot) None a b gates.changes (λ v gate. no_gate F slot DAEMON_LOG v (omega arith) gate) idle

pub gate_closed : (size : ℕ) (w : World) (memory : Memory) (F slot : ℕ) (a b : State) → IsReady size w memory a → ClosesGates F slot None a b → HasIdleGate DAEMON_LOG b.now.words
gate_closed size w memory F slot a b ready gates = idle_closed F slot a b (ready_gate size w memory a ready) gates

-- ---- a client that is removed

module _ (size : ℕ) (w : World) (memory : Memory) (slot : ℕ) (known : slot < CLIENTS) where
  -- If the daemon log counts nothing, it gives a used record no value.
  used_alone : (image : Image) → image (space_record_at slot) ≡ 1 → is_idle_gate (image DAEMON_LOG) ≡ true → IsUsedAlone slot image
  used_alone image used gate = record { now = used; unnamed = new_value-closed device_word (log_of image DAEMON_LOG) (space_record_at slot) (empty_range_of (image DAEMON_LOG) gate) }

  module _ (present : true ≡ is_some (w.clients slot)) where
    used_before : (a : State) → IsReady size w memory a → (image : Image) → Picks a.now.words image → image (space_record_at slot) ≡ 1
    used_before a ready image picked = (space_used size w memory a slot known ready present).each (image (space_record_at slot)) (picked.each (space_record_at slot))

    -- Nothing was done.
    pub ClosesBefore-idle : (a b : State) → IsReady size w memory a → b ≡ a → ClosesBefore w.stored.frames slot a b
    ClosesBefore-idle a b ready same =
        Leaves-still _ a b (λ image picked. inl (used_alone image (used_before a ready image picked) (ready_idle size w memory a ready image picked))) same

    -- Nothing was done before.
    pub ClosesBefore-after : (a b c : State) → IsReady size w memory a → b ≡ a → (IsReady size w memory b → ClosesBefore w.stored.frames slot b c) → ClosesBefore w.stored.frames slot a c
    ClosesBefore-after a b c ready same closes = subst (λ (s : State). ClosesBefore w.stored.frames slot s c) same (closes (subst (λ (s : State). IsReady size w memory s) (sym same) ready))

    -- No word before the clients' logs changed.
    pub ClosesBefore-changes : (may : Footprint) (fault : Option HostFault) (a b : State) → IsReady size w memory a → ((k v : ℕ) → k < tables_end w.stored.frames → may k v → ⊥) → Changes may fault a b
        → ClosesBefore w.stored.frames slot a b
    ClosesBefore-changes may fault a b ready following c =
        let below : (before image : Image) (k : ℕ) → IsFrom may before image → k < tables_end w.stored.frames → image k ≡ before k = λ before image k from low.
        ⊎_elim (λ same. same) (λ wrote. absurd (following k (image k) low wrote)) (from.each k) in
        Leaves-weaker _ _ a b (λ bytes image m. m.1)
        (Leaves-changes (IsClosedIfNamed w.stored.frames slot) may fault a b
        (λ before image picked from.
        let record_word = below before image (space_record_at slot) from (omega arith) in
        let gate_word = below before image DAEMON_LOG from (omega arith) in
        inl (used_alone image (record_word ∙ used_before a ready before picked) (ap is_idle_gate gate_word ∙ ready_idle size w memory a ready before picked))) c)

    -- The logs were to be closed, and a fault may have come.
    closing : (fault : Option HostFault) (a b : State) → IsReady size w memory a → ClosesGates w.stored.frames slot fault a b → ClosesBefore w.stored.frames slot a b
    closing fault a b ready p = ClosesBefore-changes (ByClosing w.stored.frames slot) fault a b ready (λ k v below gate. no_gate w.stored.frames slot k v below gate) p.changes

    pub ClosesBefore-closing : (F : ℕ) (fault : Option HostFault) (a b : State) → F ≡ w.stored.frames → IsReady size w memory a → ClosesGates F slot fault a b → ClosesBefore w.stored.frames slot a b
    ClosesBefore-closing F fault a b is ready p = closing fault a b ready (subst (λ (n : ℕ). ClosesGates n slot fault a b) is p)

    -- A batch that writes the record leaves the logs closed.
    left_closed : (a b : State) (image : Image) → ClosesGates w.stored.frames slot None a b → IsBatched b.now.words DAEMON_LOG (unregistration slot) image → has_closed_logs image w.stored.frames slot ≡ true
    left_closed a b image p m =
        has_closed_logs-same image m.before w.stored.frames slot known
        (λ k from to. m.outside k (outside_log DAEMON_LOG k (inr (omega arith))) (writes_elsewhere slot k (0 ∷ []) (inr (omega arith))))
        ∙ has_closed_logs-gates w.stored.frames slot m.before (λ n low. (p.durable refl n low).each (m.before (log_at w.stored.frames slot n)) (m.picked.each (log_at w.stored.frames slot n)))

    -- After that the record was to be freed, and a fault may have come.
    pub ClosesBefore-freed : (F : ℕ) (fault : Option HostFault) (a b c : State) → F ≡ w.stored.frames → IsReady size w memory a → ClosesGates F slot None a b
        → Commits DAEMON_LOG (unregistration slot) fault b c → ClosesBefore w.stored.frames slot a c
    ClosesBefore-freed F fault a b c is ready gates k =
        let P : List ℕ → Image → Type 0 = λ bytes image. IsClosedIfNamed w.stored.frames slot image in
        let p : ClosesGates w.stored.frames slot None a b = subst (λ (n : ℕ). ClosesGates n slot None a b) is gates in
        let said = Changes-said (ByClosing w.stored.frames slot) None a b p.changes in
        Leaves-then P P P [] a b c (said ∙ sym (append-nil a.now.said)) (λ front image m. m) (λ more image m. m)
        (closing None a b ready p)
        (Leaves-weaker (Silently (IsBatched b.now.words DAEMON_LOG (unregistration slot))) P b c (λ bytes image m. inr (left_closed a b image p m.1)) k.moments)

-- ---- refusals, by whether the client is present

module _ (w : World) (client uid gid : ℕ) where
  found_taken : (o : Option Owner) → w.clients client ≡ o → true ≡ is_some o → refusal_of w (Client client uid gid) ≡ Some refusals.Taken
  found_taken None e present = absurd (let it : true ≡ false = present in cc)
  found_taken (Some owner) e present = client-taken w client uid gid owner e

  pub taken : true ≡ is_some (w.clients client) → refusal_of w (Client client uid gid) ≡ Some refusals.Taken
  taken present = found_taken (w.clients client) refl present

  found_new : (o : Option Owner) → w.clients client ≡ o → false ≡ is_some o → refusal_of w (Client client uid gid) ≡ None
  found_new None e absent = client-new w client uid gid e
  found_new (Some owner) e absent = absurd (let it : false ≡ true = absent in cc)

  pub is_new : false ≡ is_some (w.clients client) → refusal_of w (Client client uid gid) ≡ None
  is_new absent = found_new (w.clients client) refl absent

  found_absent : (o : Option Owner) → w.clients client ≡ o → false ≡ is_some o → refusal_of w (Leave client) ≡ Some refusals.Client
  found_absent None e absent = leave-absent w client e
  found_absent (Some owner) e absent = absurd (let it : false ≡ true = absent in cc)

  pub is_absent : false ≡ is_some (w.clients client) → refusal_of w (Leave client) ≡ Some refusals.Client
  is_absent absent = found_absent (w.clients client) refl absent

  found_there : (o : Option Owner) → w.clients client ≡ o → true ≡ is_some o → refusal_of w (Leave client) ≡ None
  found_there None e present = absurd (let it : true ≡ false = present in cc)
  found_there (Some owner) e present = leave-present w client owner e

  pub is_there : true ≡ is_some (w.clients client) → refusal_of w (Leave client) ≡ None
  is_there present = found_there (w.clients client) refl present
