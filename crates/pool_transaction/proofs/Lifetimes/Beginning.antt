-- A transaction begins beside others: each image that is left meanwhile stands for the world, and afterwards the daemon
-- is ready with this transaction active too.
use Rattle.std.proofs.Common.{◌≡◌, ◌≢◌, inl, inr, ℕ, ◌+◌, ◌*◌, ◌/◌, ◌<◌, ◌≤◌, true, false, leb, ltb, List, [], length, Option, Some, None, refl, sym, ap, ap₂, subst, ◌∙◌, arith}
use Rattle.std.specs.Prelude.{unwrap_or, set}
use Rattle.std.proofs.lemmas.Bool.{cases_eq, cases_lt, and_from, le-leb, lt-ltb, false_from_ne_true}
use Rattle.std.proofs.lemmas.Option.{none-some}
use Rattle.pm_model.specs.declared.host.HostFault.{HostFault}
use Rattle.pm_model.specs.Words.{Has, values, Cell, reads, Picks, HasOnly}
use Rattle.pm_model.specs.Moments.{State}
use Rattle.pm_model.specs.Changes.{Write, only, written, Persists, Changes, Leaves, Silently}
use Rattle.pm_model.specs.Masks.{masked, masked_image, masked_cell}
use Rattle.pm_model.proofs.Words.{only_at, HasOnly-own}
use Rattle.pm_model.proofs.Changes.{Changes-said, Changes-now, HasOnly-kept}
use Rattle.pm_model.proofs.Leaves.{HasOrigin, origin, Leaves-weaker}
use Rattle.pm_model.proofs.Masks.{masked-there, masked-elsewhere, masked_image-elsewhere, Picks-masked, Picks-unmasked, reads-masked}
use Rattle.pud_defs.specs.declared.layout.TheConstants.{DAEMON_LOG, CLIENTS, CLIENT_LOGS, LOG_WORDS}
use Rattle.pud_defs.specs.declared.log_words.TheConstants.{RUNNING_GATE, CLOSED_GATE}
use Rattle.pud_defs.specs.declared.machine.Command.TheVariants as commands
use Rattle.pud_defs.specs.declared.records.TheConstants.{POOL_RECORDS}
use Rattle.pud_defs.specs.declared.records.Puddle.{Puddle}
use Rattle.pud_defs.specs.Logging.Entries.{is_idle_gate}
use Rattle.pud_defs.specs.PoolGraphs.Graph.{Graph, graph_of, empty_graph}
use Rattle.pud_defs.specs.PoolGraphs.Holdings.{graph_held, held_as}
use Rattle.pud_defs.specs.Formats.Image.{Image}
use Rattle.pud_defs.specs.Formats.Layout.{tables_end, frames_at, device_words}
use Rattle.pud_defs.specs.Formats.Layout as layouts
use Rattle.pud_defs.specs.StateMachine.PoolChanges.{pool_named}
use Rattle.pud_defs.specs.Logging.Replay.{is_in_log}
use Rattle.pud_defs.specs.Logging.Settled.{ALL_LOGS, log_number_at, client_of_log}
use Rattle.pud_defs.specs.RegistryTables.Spaces.{owner_of, is_closed_log}
use Rattle.pud_defs.specs.StateMachine.Step.{graph_in, graph_at_begin, after}
use Rattle.pud_defs.specs.PoolGraphs.Stored.{Stored, IsOnDevice, stored_in}
use Rattle.pud_defs.specs.RegistryTables.Tables.{tables_of, puddles_of, listed, pool_of, puddles_in_turn}
use Rattle.pud_defs.specs.StateMachine.Transactions as transactions
use Rattle.pud_defs.specs.StateMachine.Transactions.{with_open}
use Rattle.pud_defs.specs.StateMachine.World.{Transaction, World, world_of, idle_world_of, open_on}
use Rattle.pud_defs.proofs.Logging.Replay.{outside_log, within_log}
use Rattle.pud_defs.proofs.Logging.Idle.{registered_is_closed}
use Rattle.pud_defs.proofs.StateMachine.IdleWorlds.{standing_beside, standing_idle}
use Rattle.pud_defs.proofs.StateMachine.Parts.Part.{Spaces}
use Rattle.pud_defs.proofs.RegistryTables.Spaces.{owner_of-same, is_closed_log-same}
use Rattle.batch.specs.Batches.{HasIdleGate}
use Rattle.batch.specs.Worlds.{IsQuiescent}
use Rattle.batch.proofs.Tables.{HasDurableTables-kept, reads_kept}
use Rattle.word_transaction.specs.Scope.{Scope, IsScope}
use Rattle.word_transaction.specs.Running.{IsIdle, no_write, begun_log, RecoversTo, KeepsRunning}
use Rattle.hybrid_tx.specs.PoolScopes.{pool_has_word, pool_scope, ArePlacedPuddles, finished_of}
use Rattle.hybrid_tx.specs.Open.Masks.{OpenPool, is_open_record, open_mask, ArePuddlesOf, IsOpenPool}
use Rattle.hybrid_tx.specs.Open.ManyOpen.{OpenTransaction, AreLeftOpen, AreOpenPools, HasRecords, IsOneMore, MasksAll, Opens, open_masks, with_transaction}
use Rattle.hybrid_tx.proofs.Open.OpenIdle.{unnamed_idle}
use Rattle.hybrid_tx.proofs.Objects.Opening.{IsOpenOn-begun}
use Rattle.hybrid_tx.proofs.Open.OpenMasks.{open_record_place, mine_after, mask_of_others}
use Rattle.hybrid_tx.proofs.PoolScope.{pool_has_word-each, is_scope}
use Rattle.hybrid_tx.proofs.Open.OpenPools.{placed_by_tables, open_on_device}
use Rattle.hybrid_tx.proofs.Open.PoolPlaces.{are_puddles_in_turn}
use Rattle.hybrid_tx.proofs.Open.ManyIdle.{idle_world_begun, left_more, masks_elsewhere, one_begun, opens_more, records_more}
use Rattle.hybrid_tx.proofs.Open.ManyMasks.{masks_below, masks_beside_log, masks_of_gate, masks_same, open_masks_all}
use Rattle.hybrid_tx.proofs.Open.OpenSettled.{nothing_given}
use Rattle.hybrid_tx.proofs.FinishedPuddles.{mine_of_finished, finished_puddles}
use Rattle.daemon_memory.specs.Memory.{ActiveTransaction, Memory, active_under}
use Rattle.daemon_memory.specs.ActiveTransactions.{IsActive, AreActive, HasDurableFrames, HasIdleLogs, HasSessions, IsActiveUnder, open_transaction_of, open_pool_of}
use Rattle.daemon_memory.specs.Beginning.{MayBegin, begins_as}
use Rattle.daemon_memory.specs.PoolKnowledge.{known_puddles_in}
use Rattle.daemon_memory.specs.KnownPools.{KnowsPools}
use Rattle.daemon_memory.specs.Ready.{IsReady, RefusesNone, StandsBetween, Applies}
use Rattle.daemon_memory.proofs.Commands.Beside.{Leaves-from, ready_idle, IsApart, still_under, left_all, left_apart, names_none_idle, opened_as, others_apart, records_all, unmasked_by_all}
use Rattle.daemon_memory.proofs.Commands.Beneath.{ready_gate, gate_kept, idle_kept}
use Rattle.daemon_memory.proofs.PoolChanges.PuddlesLeft.{LeavesPuddles-after}
use Rattle.daemon_memory.proofs.OpenTransactions.Counting.{log_free}
use Rattle.pool_transaction.proofs.Lifetimes.Ending.{world_now, left_stands, idle_now, records_now}
use Rattle.daemon_memory.proofs.PoolChanges.InTurn.{pool_in_slot}
use Rattle.daemon_memory.proofs.PoolsKnown.KnownKept.{KeepsPools}
use Rattle.daemon_memory.proofs.PoolsKnown.KnownOpen.{KeepsPools-begun, KnowsPools-begun}
use Rattle.daemon_memory.proofs.PoolChanges.TablesBeside.{header_read, types_read, sound_read, owner_under}
use Rattle.daemon_memory.proofs.OpenTransactions.ActiveMore.{HasSessions-more, Holds-more, keeps_others, other_number}
use Rattle.daemon_memory.proofs.OpenTransactions.OpenBeside.{not_named, pool_unmasked, unmasked_frames}
use Rattle.daemon_memory.proofs.OpenTransactions.OpenNames.{open_there}
use Rattle.daemon_memory.proofs.OpenTransactions.Sessions.{none_active, session_shut}
use Rattle.log_space.specs.FreeLogs.{IsLogOf}
use Rattle.nesting.specs.Sessions.{entered, session_in}
use Rattle.pool_transaction.specs.Lifetime.{MayBeginIn, with_begun}

-- ---- words that are masked

-- A statement about the values of a masked cell still holds if it still holds for the values of the cell.
values_under : (P : ℕ → Type 0) (x : Option ℕ) (before after : Cell) → (((v : ℕ) → Has (values before) v → P v) → (v : ℕ) → Has (values after) v → P v)
    → ((v : ℕ) → Has (values (masked_cell x before)) v → P v) → (v : ℕ) → Has (values (masked_cell x after)) v → P v
values_under P None before after still each = still each
values_under P (Some y) before after still each = each

-- ---- the pool on which it begins

graph_active-sound : (st : Stored) (o : Option Graph) (g : Graph) → o ≡ Some g → graph_held (held_as st o) ≡ Some g
graph_active-sound st o g is = ap (λ (x : Option Graph). graph_held (held_as st x)) is

gate_inside : (F number k : ℕ) → k ≡ log_number_at F number → is_in_log (log_number_at F number) k ≡ true
gate_inside F number k here = and_from (leb (log_number_at F number) k) (ltb k (log_number_at F number + LOG_WORDS)) (le-leb _ _ (omega arith)) (lt-ltb _ _ (omega arith))

-- A transaction of the client is to begin on the pool with the name, in the log with this number. No transaction is
-- open in the log or on the pool, and the daemon knows the pool by these puddles.
pub record IsVacant (w : World) (memory : Memory) (client : ℕ) (name : List ℕ) (slot number : ℕ) (at : List (ℕ × Puddle)) : Type 0 where
  pub slot_below : slot < POOL_RECORDS
  pub known : number < ALL_LOGS
  pub whose : client_of_log number ≡ client
  pub fits : slot < length memory.sessions
  pub free : active_under memory.active number ≡ None
  pub unheld : session_in memory.sessions slot ≡ None
  pub shut : open_on name w ≡ None
  pub is_known : known_puddles_in memory.known_pools slot ≡ Some at

module _ (size : ℕ) (w : World) (memory : Memory) (old : State) (ready : IsReady size w memory old) (client : ℕ) (name : List ℕ) (slot number : ℕ) (at : List (ℕ × Puddle))
    (vacant : IsVacant w memory client name slot number at) (may : MayBegin w.stored.frames client name (reads old.now.words) slot at) where
  abbrev n : ℕ
  n = w.stored.frames

  abbrev now : Image
  now = reads old.now.words

  abbrev gate : ℕ
  gate = log_number_at n number

  abbrev p : OpenPool
  p = record { slot = slot; rec = may.rec; puddles = at; log_number = number; who = may.who }

  abbrev o : OpenTransaction
  o = record { pool = p; before = now }

  abbrev g : Scope
  g = pool_scope n (finished_of at)

  known : number < ALL_LOGS
  known = vacant.known

  within : slot < POOL_RECORDS
  within = vacant.slot_below

  low_client : client < CLIENTS
  low_client = let few = known in let whose = vacant.whose in omega arith

  puddles : ArePuddlesOf (tables_of n now) slot (finished_of at)
  puddles =
      finished_puddles (tables_of n now) slot at
      (subst (ArePuddlesOf (tables_of n now) slot) may.puddles (are_puddles_in_turn w.stored.next_number (tables_of n now) slot (sound_read size w memory old ready)))

  opened : IsOpenPool n p now
  opened = record { known = known; slot = within; used = may.used; puddles = puddles; owned = ap (owner_of now) vacant.whose ∙ may.owned; right = may.right }

  placed : ArePlacedPuddles n at
  placed = placed_by_tables w.stored.next_number n now slot at (sound_read size w memory old ready) may.puddles

  on_device : IsOnDevice n (finished_of at)
  on_device = open_on_device n p now opened

  room : device_words n ≤ size
  room = (header_read size w memory old ready).room

  scope : IsScope size gate (pool_scope n at)
  scope = let few = known in is_scope n size gate at placed room (omega arith)

  present : w.clients client ≡ Some may.who
  present = sym (ready.clients client low_client) ∙ may.owned

  -- ---- beside the open transactions

  abbrev opens : Opens
  opens = ready.active.opens

  abbrev opens_then : Opens
  opens_then = with_transaction number (Some o) opens

  abbrev mask_then : Write
  mask_then = open_masks n opens_then

  more : IsOneMore number o opens opens_then
  more = one_begun number o opens (ready.active.none number vacant.free)

  records_before : HasRecords opens now
  records_before = records_all w memory.active ready.mask old.now.words ready.active

  other_pool : (m : ℕ) (q : OpenTransaction) → opens m ≡ Some q → q.pool.slot ≡ slot → ⊥
  other_pool m q there same =
      let a = opened_as w memory.active ready.mask old.now.words ready.active m q there in
      none_active w memory.active ready.mask old.now.words ready.active memory.sessions ready.sessions slot vacant.unheld m a.one a.there (ap (λ (x : OpenTransaction). x.pool.slot) a.same ∙ same)

  are_then : AreOpenPools n opens_then
  are_then = opens_more number o opens opens_then more n ready.active.are refl opened other_pool

  records_then : HasRecords opens_then now
  records_then = records_more number o opens opens_then more now records_before (λ k of. refl)

  masks_then : MasksAll n opens_then mask_then
  masks_then = open_masks_all n opens_then now are_then records_then

  mask_was : ready.mask ≡ open_masks n opens
  mask_was = masks_same n opens ready.mask (open_masks n opens) ready.active.masks (open_masks_all n opens now ready.active.are records_before)

  -- What was masked is still masked.
  masked_still : (k : ℕ) → mask_then k ≡ None → ready.mask k ≡ None
  masked_still k none = nothing_given (ready.mask k) (λ v is.
      let m = ready.active.masks.each k v is in
      let apart : m.number ≢ number = λ same. none-some m.transaction (sym (ready.active.none number vacant.free) ∙ ap opens (sym same) ∙ m.there) in
      none-some v (sym none ∙ masks_then.has m.number m.transaction (more.same m.number apart ∙ m.there) k v m.is))

  gate_unmasked : ready.mask gate ≡ None
  gate_unmasked = masks_beside_log n opens ready.mask ready.active.are ready.active.masks number gate (ready.active.none number vacant.free) known (within_log gate gate (gate_inside n number gate refl))

  mine_unmasked : (k : ℕ) → pool_has_word n at k ≡ true → ready.mask k ≡ None
  mine_unmasked k mine =
      unmasked_by_all w memory.active ready.mask old.now.words ready.active k (λ m h there is.
      unmasked_frames w h ready.mask old.now.words is slot may.rec may.used
      (λ same. not_named w memory.active ready.mask old.now.words name ready.active vacant.shut m h there (sym same ∙ may.name_is)) k (ap (λ (puddles : List (ℕ × Puddle)). pool_has_word n puddles k) may.puddles ∙ mine))

  -- Its log is closed in each image, as the logs of the clients are if the words of the open transactions are masked.
  log_closed : (i : Image) → Picks old.now.words i → is_closed_log i gate ≡ true
  log_closed i picked =
      let under = masked_image ready.mask i in
      let there = Picks-masked ready.mask old.now.words i picked in
      let stands = standing_beside size under w.stored (standing_idle size under w.stored (ready.settled.idle (under DAEMON_LOG) (there.each DAEMON_LOG)) (ready.settled.stands under there)) in
      let records : owner_of under client ≡ owner_of (reads (masked ready.mask old.now.words)) client =
      owner_of-same under (reads (masked ready.mask old.now.words)) client low_client (λ k low high.
      ap (unwrap_or (ready.mask k)) ((ready.tables.each k (inr (omega arith)) (omega arith)).each (i k) (picked.each k)) ∙ sym (ap (λ (j : Image). j k) (reads-masked ready.mask old.now.words))) in
      let owned : owner_of under (client_of_log number) ≡ Some may.who = ap (owner_of under) vacant.whose ∙ records ∙ owner_under size w memory old ready client low_client ∙ may.owned in
      is_closed_log-same i under gate (λ k inside.
      sym (masked_image-elsewhere ready.mask i k (masks_beside_log n opens ready.mask ready.active.are ready.active.masks number k (ready.active.none number vacant.free) known inside)))
      ∙ registered_is_closed n under number may.who (stands.holds Spaces).logs known owned

  -- Each word of its frames has one value.
  idle : IsIdle (pool_scope n at) gate now old.now.words
  idle =
      record {
        closed = log_closed;
        single = λ k mine.
            let m = pool_has_word-each n at k mine in let low = m.low in
            subst (λ (x : Cell). HasOnly x x.newest) (masked-elsewhere ready.mask old.now.words k (mine_unmasked k mine)) (ready.rest.each k (omega arith));
      }

  -- ---- the world's pool

  graph_now : graph_of w.stored.types (stored_in n at now) ≡ Some may.graph
  graph_now = ap (λ (types : List (ℕ × ℕ)). graph_of types (stored_in n at now)) (sym (types_read size w memory old ready).types) ∙ may.stored

  pool_graph : graph_in (pool_named name w.stored) ≡ Some may.graph
  unfolding pool_of
  pool_graph =
      let pool = pool_in_slot size w memory old ready slot may.rec within may.used in
      let under = reads (masked ready.mask old.now.words) in
      let read : stored_in n (puddles_in_turn (tables_of n now) slot) under ≡ stored_in n (puddles_in_turn (tables_of n now) slot) now =
      ap (stored_in n (puddles_in_turn (tables_of n now) slot)) (reads-masked ready.mask old.now.words)
      ∙ pool_unmasked w memory.active ready.mask old.now.words name slot may.rec ready.active (not_named w memory.active ready.mask old.now.words name ready.active vacant.shut) may.used may.name_is in
      ap (λ (x : List ℕ). graph_in (pool_named x w.stored)) (sym may.name_is)
      ∙ ap graph_in pool.named
      ∙ graph_active-sound (stored_in n (listed (puddles_of (tables_of n now) slot)) under) (graph_of w.stored.types (stored_in n (listed (puddles_of (tables_of n now) slot)) under)) may.graph
      (ap (λ (puddles : List (ℕ × Puddle)). graph_of w.stored.types (stored_in n puddles under)) (sym pool.in_turn) ∙ ap (graph_of w.stored.types) read
      ∙ ap (λ (puddles : List (ℕ × Puddle)). graph_of w.stored.types (stored_in n puddles now)) may.puddles ∙ graph_now)

  -- ---- images

  records_there : (i : Image) → Picks old.now.words i → HasRecords opens_then i
  records_there i picked = record {
    each = λ m q there k of.
        let its = are_then.pool m q there in
        let place = open_record_place n q.pool k its.slot its.known (open_on_device n q.pool q.before its) of in
        let low = place.low in
        (ready.tables.each k (inr (omega arith)) place.high).each (i k) (picked.each k) ∙ records_then.each m q there k of;
  }

  idle_there : (i : Image) → Picks old.now.words i → is_idle_gate (i DAEMON_LOG) ≡ true
  idle_there = ready_idle size w memory old ready

  -- With its words masked too, each image stands for the world.
  world_there : (i : Image) → Picks old.now.words i → idle_world_of size (masked_image mask_then i) ≡ Some w.stored
  world_there i picked =
      idle_world_begun size w.stored number o opens opens_then more i are_then (records_there i picked) (λ k mine. (idle.single k (mine_of_finished n at k mine)).each (i k) (picked.each k))
      (λ k v is. unnamed_idle i k (idle_there i picked))
      (ap (λ (m : Write). idle_world_of size (masked_image m i)) (sym mask_was) ∙ ready.settled.stands (masked_image ready.mask i) (Picks-masked ready.mask old.now.words i picked))

  -- ---- the call

  abbrev By : ℕ → ℕ → Type 0
  By = written (only gate RUNNING_GATE)

  -- Only the gate changes.
  not_gate : (k v : ℕ) → is_in_log gate k ≡ false → By k v → ⊥
  not_gate k v outside wrote =
      let here : k ≡ gate = only_at gate RUNNING_GATE k v wrote in
      let it : true ≡ false = sym (gate_inside n number k here) ∙ outside in
      cc

  -- The gate is none of another transaction's words.
  off : (k v : ℕ) → By k v → ready.mask k ≡ None
  off k v wrote = ap ready.mask (only_at gate RUNNING_GATE k v wrote) ∙ gate_unmasked

  begun_apart : (h : ActiveTransaction) (is : IsActive w h ready.mask old.now.words) → IsApart n h (open_pool_of h is.puddles is.rec is.own.who) By
  begun_apart h is =
      let a = others_apart w h ready.mask old.now.words is in
      record {
        log = λ k v wrote inside. a.log k v (off k v wrote) inside;
        has_word = λ k v wrote mine. a.has_word k v (off k v wrote) mine;
        records = λ k v wrote of. a.records k v (off k v wrote) of;
      }

  abbrev begun_transaction : Transaction
  begun_transaction = record { client = client; depth = 1; units = 0; now = may.graph; deferred = [] }

  module _ (fault : Option HostFault) (new : State) (persists : Persists (only gate RUNNING_GATE) fault old new) (runs : KeepsRunning g (begun_log gate) [] now no_write fault old new) where
    abbrev c : Changes By fault old new
    c = persists.changes

    from_same : (j : Image) (from : HasOrigin By old.now.words j) (k : ℕ) → is_in_log gate k ≡ false → pool_has_word n (finished_of at) k ≡ false → j k ≡ from.before k
    from_same j from k outside other = elim (from.from.each k) [ inl same ↦ same | inr wrote ↦ absurd (not_gate k (j k) outside wrote) ]

    idle_of : (j : Image) (from : HasOrigin By old.now.words j) → is_idle_gate (j DAEMON_LOG) ≡ true
    idle_of j from =
        idle_now size w.stored number o opens opens_then more are_then from.before j (idle_there from.before from.picked) (from_same j from) (records_there from.before from.picked) (world_there from.before from.picked)

    world_of_left : (j : Image) → HasOrigin By old.now.words j → idle_world_of size (masked_image mask_then j) ≡ Some w.stored
    world_of_left j from =
        world_now size w.stored number o opens opens_then more are_then from.before j (idle_there from.before from.picked) (from_same j from) (records_there from.before from.picked) (world_there from.before from.picked)

    -- Each image is left with all transactions open.
    left_open : (j : Image) → RecoversTo g gate now j → HasOrigin By old.now.words j → AreLeftOpen n opens_then j
    left_open j settles from =
        let gate_idle = idle_of j from in
        left_more number o opens opens_then more n j
        (left_all w memory.active ready.mask old.now.words ready.active j (λ m h there under.
        left_apart w h ready.mask old.now.words under.is By (begun_apart h under.is) ready.tables j from (names_none_idle ready.mask j gate_idle)))
        (record {
          unnamed = λ k v is. unnamed_idle j k gate_idle;
          records = (records_now size w.stored number o opens opens_then more are_then from.before j (idle_there from.before from.picked) (from_same j from) (records_there from.before from.picked)
              (world_there from.before from.picked)).each number o more.here;
          recovers = settles;
        })

    image_stands : (j : Image) → RecoversTo g gate now j → HasOrigin By old.now.words j → (world_of size j ≡ Some w.stored) × RefusesNone j
    image_stands j settles from =
        left_stands size w.stored number o opens opens_then more are_then from.before j (idle_there from.before from.picked) (from_same j from) (records_there from.before from.picked)
        (world_there from.before from.picked) (left_open j settles from)

    all_moments : (next : World) → Leaves (Silently (StandsBetween size w next)) old new
    all_moments next =
        Leaves-weaker (Silently (λ image. RecoversTo g gate now image × HasOrigin By old.now.words image)) (Silently (StandsBetween size w next)) old new
        (λ bytes image m. (m.0, let both = image_stands image m.1.0 m.1.1 in (inl both.0, both.1)))
        (Leaves-from (RecoversTo g gate now) By fault old new c runs.moments)

    module _ (done : fault ≡ None) (placed_there : number < length memory.active) where
      changed : Changes By None old new
      changed = subst (λ (f : Option HostFault). Changes By f old new) done c

      before_logs : (k : ℕ) → k < tables_end n → is_in_log gate k ≡ false
      before_logs k below = outside_log gate k (inl (omega arith))

      in_frames : (k : ℕ) → frames_at n ≤ k → is_in_log gate k ≡ false
      in_frames k above = let few = known in outside_log gate k (inr (omega arith))

      kept : (k : ℕ) → is_in_log gate k ≡ false → reads new.now.words k ≡ now k
      kept k outside = reads_kept By old new k changed (λ v. not_gate k v outside)

      -- With the mask applied, each image stands for the world.
      settled_begun : IsQuiescent size w.stored (masked mask_then new.now.words)
      settled_begun = record {
        stands = λ image picked.
            let u = Picks-unmasked mask_then new.now.words image picked in
            ap (idle_world_of size) u.is ∙ world_of_left u.under (origin By old.now.words new.now.words u.under (Changes-now By fault old new c) u.picked);
        idle = λ v had.
            (gate_kept By fault old new c (λ x. not_gate DAEMON_LOG x (before_logs DAEMON_LOG (omega arith))) (ready_gate size w memory old ready)).each v
            (subst (λ (x : Cell). Has (values x) v) (masked-elsewhere mask_then new.now.words DAEMON_LOG (masks_below n opens_then mask_then are_then masks_then DAEMON_LOG (omega arith))) had);
      }

      single_still : (k : ℕ) → frames_at n ≤ k → (x : Option ℕ) → mask_then k ≡ x → HasOnly (masked_cell x (new.now.words k)) (masked_cell x (new.now.words k)).newest
      single_still k above None none =
          let was = ready.rest.each k above in
          let one = subst (λ (x : Cell). HasOnly x x.newest) (masked-elsewhere ready.mask old.now.words k (masked_still k none)) was in
          HasOnly-own (new.now.words k) (now k) (HasOnly-kept By fault old new k (now k) c (λ v. not_gate k v (in_frames k above)) one)
      single_still k above (Some v) is = record { each = λ y had. elim had [ inl e ↦ e | inr none ↦ absurd none ] }

      rest_begun : HasDurableFrames n (masked mask_then new.now.words)
      rest_begun = record { each = λ k above. single_still k above (mask_then k) refl }

      -- With the mask applied, its own log counts nothing, and each other log counts what it did.
      other_idle : (other : ℕ) → is_in_log gate other ≡ false → open_mask n p now other ≡ None → HasIdleGate other (masked ready.mask old.now.words) → HasIdleGate other (masked mask_then new.now.words)
      other_idle other outside none idle_was = record {
        each = λ v had.
            values_under (λ (x : ℕ). is_idle_gate x ≡ true) (ready.mask other) (old.now.words other) (new.now.words other)
            (λ was. (idle_kept other By fault old new c (λ x wrote. absurd (not_gate other x outside wrote)) (record { each = was })).each) idle_was.each v
            (subst (λ (x : Option ℕ). Has (values (masked_cell x (new.now.words other))) v) (masks_elsewhere number o opens opens_then more n mask_then ready.mask masks_then ready.active.masks other none) had);
      }

      logs_begun : HasIdleLogs n w.clients (masked mask_then new.now.words)
      logs_begun = record {
        each = λ whose number_of low few there. elim (cases_eq (CLIENT_LOGS * whose + number_of) number) [
          | inl own ↦
              let here : gate ≡ layouts.log_at n whose number_of = omega arith in
              subst (λ (k : ℕ). HasIdleGate k (masked mask_then new.now.words)) here
              (record {
                each = λ v had.
                    elim (subst (λ (x : Cell). Has (values x) v) (masked-there mask_then new.now.words gate CLOSED_GATE (masks_of_gate n opens_then mask_then are_then masks_then number o more.here)) had) [
                      | inl is ↦ ap is_idle_gate is
                      | inr no_write ↦ absurd no_write
                    ];
              })
          | inr apart ↦
              let other = layouts.log_at n whose number_of in
              let outside : is_in_log gate other ≡ false = outside_log gate other (elim (cases_lt other gate) [ inl before ↦ inl before | inr following ↦ inr (omega arith) ]) in
              other_idle other outside
              (mask_of_others n p now other outside (mine_after n (finished_of at) other (omega arith))
              (false_from_ne_true (is_open_record p other) (λ of. let place = open_record_place n p other within known on_device of in let high = place.high in absurd (omega arith))))
              (ready.logs.each whose number_of low few there)
        ];
      }

      -- ---- what is known afterwards

      keeps : KeepsPools n None now (reads new.now.words)
      keeps = KeepsPools-begun n number RUNNING_GATE old new known (subst (λ (f : Option HostFault). Persists (only gate RUNNING_GATE) f old new) done persists)

      knows_begun : KnowsPools n memory.known_pools opens_then (reads new.now.words)
      knows_begun = KnowsPools-begun n memory.known_pools number o opens opens_then now (reads new.now.words) more keeps vacant.is_known ready.knows

      -- ---- what is active afterwards

      abbrev begun_active : ActiveTransaction
      begun_active = begins_as client name slot n number

      abbrev all : List (Option ActiveTransaction)
      all = set memory.active number (Some begun_active)

      abbrev next : World
      next = record w { transactions = with_open name (Some begun_transaction) w.transactions }

      abbrev active_begun : IsActive next begun_active mask_then new.now.words
      active_begun = record {
        rec = may.rec;
        own = record {
          who = may.who;
          transaction = begun_transaction;
          is = open_there name w.transactions (Some begun_transaction);
          client = refl;
          units = refl;
          present = present;
          owner = vacant.whose;
          gate = refl;
        };
        puddles = at;
        before = now;
        graph_before = may.graph;
        name = may.name_is;
        stored = pool_graph;
        pool = opened;
        records = λ k of. let place = open_record_place n p k within known on_device of in kept k (before_logs k place.high);
        running = IsOpenOn-begun n size at w.stored.types now gate may.graph old new scope idle graph_now (subst (λ (f : Option HostFault). KeepsRunning g (begun_log gate) [] now no_write f old new) done runs);
        masked = masks_then.has number o more.here;
      }

      other_active : (m : ℕ) (h : ActiveTransaction) → active_under memory.active m ≡ Some h → IsActiveUnder next opens_then mask_then new.now.words m h
      other_active m h there =
          let under = ready.active.each m h there in
          let opened_then = more.same m (other_number w memory.active ready.mask old.now.words ready.active number begun_active begun_transaction placed_there vacant.free vacant.shut m h there) ∙ under.opened in
          still_under w next h ready.mask mask_then old new under.is
          (keeps_others w memory.active ready.mask old.now.words ready.active number begun_active begun_transaction placed_there vacant.free vacant.shut m h there)
          By (begun_apart h under.is) changed (masks_then.has m (open_transaction_of h under.is.puddles under.is.rec under.is.own.who under.is.before) opened_then)
          (record {
            each = λ k mine other.
                let word = pool_has_word-each n under.is.puddles k mine in
                let low = word.low in
                HasOnly-kept By None old new k (under.is.before k) changed (λ v. not_gate k v (in_frames k (omega arith))) (under.is.running.rests.each k mine other);
          }) opens_then m under.number_is opened_then

      abbrev holds_begun : AreActive next all mask_then new.now.words
      holds_begun =
          Holds-more w memory.active ready.mask old.now.words ready.active number begun_active begun_transaction placed_there vacant.free vacant.shut mask_then new.now.words opens_then are_then masks_then
          (record { is = active_begun; number_is = refl; opened = more.here }) other_active (λ m apart none. more.same m apart ∙ none)

      sessions_begun : HasSessions next all (entered client slot number memory.sessions)
      sessions_begun =
          HasSessions-more w memory.active ready.mask old.now.words ready.active number begun_active begun_transaction placed_there vacant.free vacant.shut memory.sessions ready.sessions vacant.fits vacant.unheld
          client refl refl

      ready_begun : IsReady size next (with_begun begun_active memory) new
      ready_begun = record {
        mask = mask_then;
        settled = settled_begun;
        tables = HasDurableTables-kept n By fault old new c (λ k v below. not_gate k v (before_logs k below)) ready.tables;
        clients = λ whose low. owner_of-same (reads new.now.words) now whose low (λ k from to. kept k (before_logs k (omega arith))) ∙ ready.clients whose low;
        frames = ready.frames;
        shelf = c.shelf ∙ ready.shelf;
        active = holds_begun;
        sessions = sessions_begun;
        rest = rest_begun;
        logs = logs_begun;
        knows = knows_begun;
      }

    begun_world : after w (commands.Begin client name) ≡ record w { transactions = with_open name (Some begun_transaction) w.transactions }
    unfolding after
    begun_world =
        let graph : graph_at_begin w name ≡ may.graph = ap (λ (o : Option Graph). unwrap_or o empty_graph) pool_graph in
        ap₂ (λ (x : Graph) (o : Option Transaction). record w { transactions = with_open name (transactions.open_after_begin client x o) w.transactions }) graph vacant.shut

    pub Applies-begun : (fault ≡ None → number < length memory.active) → Applies size w (after w (commands.Begin client name)) (with_begun (begins_as client name slot n number) memory) fault old new
    Applies-begun placed_there =
        subst (λ (v : World). Applies size w v (with_begun (begins_as client name slot n number) memory) fault old new) (sym begun_world)
        (record {
          moments = all_moments (record w { transactions = with_open name (Some begun_transaction) w.transactions });
          puddles = LeavesPuddles-after n By fault old new c (λ k v below. not_gate k v (outside_log gate k (inl (omega arith)))) ready.tables (ready_gate size w memory old ready);
          quiet = Changes-said By fault old new c;
          ready = λ done. ready_begun done (placed_there done);
          rests = c.rests;
          script = c.script;
        })

-- ---- in the lowest closed log, on as many frames as the daemon has in memory

pub Applies-begins : (size : ℕ) (w : World) (memory : Memory) (F client : ℕ) (name : List ℕ) (slot number : ℕ) (fault : Option HostFault) (old new : State) → memory.frames ≡ F → slot < POOL_RECORDS → client < CLIENTS
    → IsLogOf client number → MayBeginIn memory (reads old.now.words) client name slot number → (fault ≡ None → number < length memory.active) → IsReady size w memory old
    → Persists (only (log_number_at F number) RUNNING_GATE) fault old new
    → ((pool : List (ℕ × Puddle)) (before : Image) → ArePlacedPuddles F pool → IsIdle (pool_scope F pool) (log_number_at F number) before old.now.words
    → KeepsRunning (pool_scope F (finished_of pool)) (begun_log (log_number_at F number)) [] before no_write fault old new)
    → Applies size w (after w (commands.Begin client name)) (with_begun (begins_as client name slot F number) memory) fault old new
Applies-begins size w memory F client name slot number fault old new on below few of m place ready persists runs =
    let low = of.low in
    let high = of.high in
    let n = w.stored.frames in
    let same : n ≡ F = sym ready.frames ∙ on in
    let may : MayBegin n client name (reads old.now.words) slot m.at = subst (λ (k : ℕ). MayBegin k client name (reads old.now.words) slot m.at) ready.frames m.may in
    let vacant : IsVacant w memory client name slot number m.at = record {
      slot_below = below;
      known = omega arith;
      whose = (let e : number / CLIENT_LOGS ≡ client = omega arith in e);
      fits = m.fits;
      free = log_free size w memory old ready client memory.frames number ready.frames of m.lowest;
      unheld = m.unheld;
      shut = session_shut size w memory old ready name slot (record { rec = may.rec; used = may.used; name_is = may.name_is }) m.unheld;
      is_known = m.known;
    } in
    subst (λ (k : ℕ).
    Persists (only (log_number_at k number) RUNNING_GATE) fault old new
    → ((pool : List (ℕ × Puddle)) (before : Image) → ArePlacedPuddles k pool → IsIdle (pool_scope k pool) (log_number_at k number) before old.now.words
    → KeepsRunning (pool_scope k (finished_of pool)) (begun_log (log_number_at k number)) [] before no_write fault old new)
    → Applies size w (after w (commands.Begin client name)) (with_begun (begins_as client name slot k number) memory) fault old new) same
    (λ persists runs.
    Applies-begun size w memory old ready client name slot number m.at vacant may fault new persists
    (runs m.at (reads old.now.words) (placed size w memory old ready client name slot number m.at vacant may) (idle size w memory old ready client name slot number m.at vacant may)) place)
    persists runs
