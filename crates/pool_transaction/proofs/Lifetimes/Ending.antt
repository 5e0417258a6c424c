-- An active transaction ends, committed or undone: what each image that may be left meanwhile stands for, and how the
-- daemon is ready afterwards.
use Rattle.std.proofs.Common.{set, ◌≡◌, ◌≢◌, ◌⊎◌, inl, inr, ℕ, ◌+◌, ◌*◌, ◌<◌, ◌≤◌, true, false, cond, List, Option, Some, None, refl, sym, ap, subst, ◌∙◌, arith}
use Rattle.std.specs.Prelude.{unwrap_or}
use Rattle.std.proofs.lemmas.Bool.{cases_Bool, cases_eq, cases_lt, cond-true, false_from_ne_true}
use Rattle.std.proofs.lemmas.Option.{none-some, same_Some}
use Rattle.pm_model.specs.declared.host.HostFault.{HostFault}
use Rattle.pm_model.specs.Words.{Has, values, Cell, reads, Picks, HasOnly}
use Rattle.pm_model.specs.Moments.{State}
use Rattle.pm_model.specs.Changes.{Footprint, Write, Changes, Leaves, Silently}
use Rattle.pm_model.specs.Masks.{masked_cell, masked, masked_state, masked_image}
use Rattle.pm_model.proofs.Words.{HasOnly-own, HasOnly-newest}
use Rattle.pm_model.proofs.Changes.{Changes-said, Changes-now, HasOnly-kept}
use Rattle.pm_model.proofs.Leaves.{HasOrigin, origin, Leaves-weaker}
use Rattle.pm_model.proofs.Masks.{masked-elsewhere, masked_image-there, Picks-masked, Picks-unmasked, HasOnly-own_masked, Changes-masked}
use Rattle.pud_defs.specs.declared.layout.TheConstants.{DAEMON_LOG, CLIENT_LOGS}
use Rattle.pud_defs.specs.declared.log_words.TheConstants.{CLOSED_GATE}
use Rattle.pud_defs.specs.Formats.Image.{Image}
use Rattle.pud_defs.specs.Formats.Layout as layouts
use Rattle.pud_defs.specs.Formats.Layout.{tables_end, frames_at}
use Rattle.pud_defs.specs.Logging.Entries.{is_idle_gate}
use Rattle.pud_defs.specs.StateMachine.PoolChanges.{pool_named}
use Rattle.pud_defs.specs.Logging.Replay.{is_in_log}
use Rattle.pud_defs.specs.RegistryTables.Spaces.{is_closed_log}
use Rattle.pud_defs.specs.Logging.Settled.{log_number_at}
use Rattle.pud_defs.specs.PoolGraphs.Graph.{Graph, graph_of}
use Rattle.pud_defs.specs.PoolGraphs.Stored.{stored_in}
use Rattle.pud_defs.specs.RegistryTables.Tables.{Pool}
use Rattle.pud_defs.specs.StateMachine.Transactions.{with_open}
use Rattle.pud_defs.specs.StateMachine.World.{StoredWorld, World, world_of, idle_world_of, closed}
use Rattle.pud_defs.proofs.Logging.ClosedLogs.{closed_by_gate}
use Rattle.pud_defs.proofs.Logging.Replay.{outside_log}
use Rattle.pud_defs.proofs.RegistryTables.Spaces.{owner_of-same}
use Rattle.batch.specs.Batches.{HasIdleGate}
use Rattle.batch.specs.Worlds.{IsQuiescent}
use Rattle.batch.proofs.Tables.{HasDurableTables-kept, reads_kept}
use Rattle.word_transaction.specs.Scope.{Scope}
use Rattle.word_transaction.specs.Running.{ByTransaction, RecoversTo, AbortsTransaction, CommitsTransaction}
use Rattle.word_transaction.proofs.Ended.{beside_transaction, CommitsTransaction-either}
use Rattle.hybrid_tx.specs.PoolScopes.{pool_has_word, pool_scope, finished_of}
use Rattle.hybrid_tx.specs.Open.Masks.{OpenPool, is_open_record, IsOpenPool, IsLeftOpen}
use Rattle.hybrid_tx.specs.Open.ManyOpen.{OpenTransaction, Opens, with_transaction, open_masks, AreOpenPools, MasksAll, HasRecords, AreLeftOpen, IsOneMore}
use Rattle.hybrid_tx.proofs.Open.ManyIdle.{one_put, others_records, opens_more, records_more, left_more, masks_elsewhere, idle_world_ended}
use Rattle.hybrid_tx.proofs.Open.ManyMasks.{masks_below, masks_beside_log, masks_of_log, masks_of_mine, masks_same, open_masks_all}
use Rattle.hybrid_tx.proofs.Objects.Opening.{stored_in-has_word}
use Rattle.hybrid_tx.proofs.Open.OpenIdle.{unnamed_idle, IsOpenPool-same}
use Rattle.hybrid_tx.proofs.Open.OpenMasks.{open_record_place, mine_after, mask_of_others}
use Rattle.hybrid_tx.proofs.Open.OpenPools.{open_on_device}
use Rattle.hybrid_tx.proofs.Open.OpenWorlds.{world_with_many, none_refused_with_many}
use Rattle.hybrid_tx.proofs.PoolScope.{pool_has_word-each}
use Rattle.hybrid_tx.specs.Objects.Transactions.{RestsAs}
use Rattle.daemon_memory.proofs.PoolChanges.PoolsBeside.{one_slot}
use Rattle.daemon_memory.proofs.PoolChanges.RestBeside.{active_graph}
use Rattle.daemon_memory.specs.Memory.{ActiveTransaction, Memory, active_under}
use Rattle.daemon_memory.specs.ActiveTransactions.{open_pool_of, open_transaction_of, IsActive, IsActiveUnder, HasIdleLogs}
use Rattle.known_pool.specs.Known.{Known, IsKnown}
use Rattle.daemon_memory.specs.KnownPools.{KnowsPools}
use Rattle.daemon_memory.specs.Ready.{IsReady, RefusesNone, StandsBetween, Applies}
use Rattle.daemon_memory.proofs.Commands.Beside.{Leaves-from, names_none_idle, records_all, opened_as, own_apart, left_apart, ready_idle}
use Rattle.daemon_memory.proofs.Commands.Beneath.{ready_gate, gate_kept, idle_kept}
use Rattle.daemon_memory.proofs.PoolChanges.PuddlesLeft.{LeavesPuddles-after}
use Rattle.pool_transaction.specs.Lifetime.{with_ended}
use Rattle.pool_transaction.proofs.Lifetimes.ActiveRuns.{stands_within}
use Rattle.daemon_memory.proofs.PoolChanges.InTurn.{active_in_turn}
use Rattle.daemon_memory.proofs.PoolsKnown.KnownKept.{HasGraphIn}
use Rattle.daemon_memory.proofs.PoolsKnown.KnownOpen.{KnowsPools-ended, KeepsPools-active, graph_active_in, rest_active}
use Rattle.daemon_memory.proofs.OpenTransactions.OthersActive.{one_of_all, others_are, others_mask, holds_others, sessions_others}
use Rattle.daemon_memory.proofs.PoolChanges.TablesBeside.{types_read}

-- ---- one image

-- Two images differ only in the words of one open transaction, those of its log and its frames. The daemon log of the
-- first image counts nothing.
module _ (size : ℕ) (s : StoredWorld) (number : ℕ) (o : OpenTransaction) (others opens : Opens) (more : IsOneMore number o others opens) (are : AreOpenPools s.frames opens) (i j : Image)
    (idle : is_idle_gate (i DAEMON_LOG) ≡ true) (same : (k : ℕ) → is_in_log (log_number_at s.frames number) k ≡ false → pool_has_word s.frames (finished_of o.pool.puddles) k ≡ false → j k ≡ i k)
    (records : HasRecords opens i) (world : idle_world_of size (masked_image (open_masks s.frames opens) i) ≡ Some s) where
  abbrev F : ℕ
  F = s.frames

  abbrev gate : ℕ
  gate = log_number_at F number

  abbrev m : Write
  m = open_masks F opens

  masks : MasksAll F opens m
  masks = open_masks_all F opens i are records

  -- With the mask applied, the two images are the same.
  masked_same : masked_image m j ≡ masked_image m i
  masked_same =
      let each : (k : ℕ) → masked_image m j k ≡ masked_image m i k = λ k. elim (cases_Bool (is_in_log gate k)) [
        | inl inside ↦ let v = masks_of_log F opens m are masks number o more.here k inside in masked_image-there m j k v.0 v.1 ∙ sym (masked_image-there m i k v.0 v.1)
        | inr outside ↦ elim (cases_Bool (pool_has_word F (finished_of o.pool.puddles) k)) [
          | inl mine ↦
              let is = masks_of_mine F opens m are masks number o more.here k mine in
              masked_image-there m j k (o.before k) is ∙ sym (masked_image-there m i k (o.before k) is)
          | inr other ↦ ap (unwrap_or (m k)) (same k outside other)
        ]
      ] in
      λ q k. each k q

  before_logs : (k : ℕ) → k < tables_end F → j k ≡ i k
  before_logs k below = same k (outside_log gate k (inl (omega arith))) (mine_after F (finished_of o.pool.puddles) k (omega arith))

  pub idle_now : is_idle_gate (j DAEMON_LOG) ≡ true
  idle_now = ap is_idle_gate (before_logs DAEMON_LOG (omega arith)) ∙ idle

  pub records_now : HasRecords opens j
  records_now = record {
    each = λ n q there k of.
        let opened = are.pool n q there in
        let place = open_record_place F q.pool k opened.slot opened.known (open_on_device F q.pool q.before opened) of in
        before_logs k place.high ∙ records.each n q there k of;
  }

  pub world_now : idle_world_of size (masked_image m j) ≡ Some s
  world_now = ap (idle_world_of size) masked_same ∙ world

  -- If the second image is left with each transaction open, it stands for the world, and no log is refused in it.
  pub left_stands : AreLeftOpen F opens j → (world_of size j ≡ Some s) × RefusesNone j
  left_stands left = (world_with_many size F s opens j refl are left world_now, record { each = none_refused_with_many size F s opens j refl are left world_now })

  -- If its log is closed and its frames have these values, the second image stands for the idle world, with the words
  -- of the others masked.
  pub ended_stands : is_closed_log j gate ≡ true → ((k : ℕ) → pool_has_word F (finished_of o.pool.puddles) k ≡ true → j k ≡ o.before k) → idle_world_of size (masked_image (open_masks F others) j) ≡ Some s
  ended_stands shut mine = idle_world_ended size s number o others opens more j are records_now mine (λ k v is. unnamed_idle j k idle_now) shut world_now

-- ---- the calls that end a transaction

-- Each image that is left meanwhile recovers to the values from the beginning or to other values. Without a fault each
-- own word has its other value and no further value, and the log is closed.
pub record EndsBy (g : Scope) (at : ℕ) (before after : Image) (fault : Option HostFault) (old new : State) : Type 0 where
  pub changes : Changes (ByTransaction g at) fault old new
  pub moments : Leaves (Silently (λ image. RecoversTo g at before image ⊎ RecoversTo g at after image)) old new
  pub durable : fault ≡ None → (k : ℕ) → g.has_word k ≡ true → HasOnly (new.now.words k) (after k)
  pub closed : fault ≡ None → HasOnly (new.now.words at) CLOSED_GATE

-- A transaction that is undone ends with the values from its beginning.
pub EndsBy-closes : (g : Scope) (at : ℕ) (before : Image) (fault : Option HostFault) (old new : State) → AbortsTransaction g at before fault old new → EndsBy g at before before fault old new
EndsBy-closes g at before fault old new c = record {
  changes = c.changes;
  moments = Leaves-weaker (Silently (RecoversTo g at before)) (Silently (λ image. RecoversTo g at before image ⊎ RecoversTo g at before image)) old new (λ bytes image m. (m.0, inl m.1)) c.moments;
  durable = c.durable;
  closed = c.closed;
}

-- The image with the own words of one image, and all other words of another.
abbrev pub mixed : Scope → (after before : Image) → Image
mixed g after before k = cond (g.has_word k) (after k) (before k)

RecoversTo-mixed : (g : Scope) (at : ℕ) (after before image : Image) → RecoversTo g at after image → RecoversTo g at (mixed g after before) image
RecoversTo-mixed g at after before image s = record { es = s.es; spells = s.spells; own = s.own; settled = λ k mine. s.settled k mine ∙ sym (cond-true _ _ _ mine) }

-- A transaction that is committed ends with these values, of which only the own words matter.
pub EndsBy-ends : (g : Scope) (at : ℕ) (before after : Image) (fault : Option HostFault) (old new : State) → CommitsTransaction g at before after fault old new → EndsBy g at before (mixed g after before) fault old new
EndsBy-ends g at before after fault old new e = record {
  changes = e.changes;
  moments = Leaves-weaker (Silently (λ image. RecoversTo g at before image ⊎ RecoversTo g at after image)) (Silently (λ image. RecoversTo g at before image ⊎ RecoversTo g at (mixed g after before) image)) old new
      (λ bytes image m. (m.0, elim m.1 [ inl was ↦ inl was | inr now ↦ inr (RecoversTo-mixed g at after before image now) ])) (CommitsTransaction-either g at before after fault old new e);
  durable = λ none k mine. subst (λ (v : ℕ). HasOnly (new.now.words k) v) (sym (cond-true _ _ _ mine)) (e.durable none k mine);
  closed = e.closed;
}

-- ---- the daemon

-- This transaction is open under another number.
pub record IsOpenElsewhere (number : ℕ) (opens : Opens) (m : ℕ) (r : OpenTransaction) : Type 0 where
  pub apart : m ≢ number
  pub was : opens m ≡ Some r

module _ (size : ℕ) (w : World) (memory : Memory) (number : ℕ) (active : ActiveTransaction) (old : State) (ready : IsReady size w memory old) (there : active_under memory.active number ≡ Some active) where
  abbrev n : ℕ
  n = w.stored.frames

  abbrev opens : Opens
  opens = ready.active.opens

  abbrev under : IsActiveUnder w opens ready.mask old.now.words number active
  under = ready.active.each number active there

  abbrev pub is_active : IsActive w active ready.mask old.now.words
  is_active = under.is

  abbrev pool : OpenPool
  pool = open_pool_of active is_active.puddles is_active.rec is_active.own.who

  abbrev before : Image
  before = is_active.before

  abbrev pub own : OpenTransaction
  own = open_transaction_of active is_active.puddles is_active.rec is_active.own.who before

  abbrev others : Opens
  others = with_transaction number None opens

  abbrev pub rest : Write
  rest = open_masks n others

  abbrev g : Scope
  g = pool_scope n (finished_of is_active.puddles)

  abbrev may : Footprint
  may = ByTransaction g active.tx.log.gate_at

  gate_is : active.tx.log.gate_at ≡ log_number_at n number
  gate_is = is_active.own.gate ∙ ap (log_number_at n) under.number_is

  pub more : IsOneMore number own others opens
  more = one_of_all w memory.active ready.mask old ready.active number active there

  rest_are : AreOpenPools n others
  rest_are = others_are w memory.active ready.mask old ready.active number active there

  pub rest_masks : MasksAll n others rest
  rest_masks = others_mask w memory.active ready.mask old ready.active number active there

  records_read : HasRecords opens (reads old.now.words)
  records_read = records_all w memory.active ready.mask old.now.words ready.active

  -- In each image the records of each transaction are as they were at its beginning.
  pub records_there : (i : Image) → Picks old.now.words i → HasRecords opens i
  records_there i picked = record {
    each = λ m r has k of.
        let opened = ready.active.are.pool m r has in
        let place = open_record_place n r.pool k opened.slot opened.known (open_on_device n r.pool r.before opened) of in
        let low = place.low in
        (ready.tables.each k (inr (omega arith)) place.high).each (i k) (picked.each k) ∙ records_read.each m r has k of;
  }

  pub idle_there : (i : Image) → Picks old.now.words i → is_idle_gate (i DAEMON_LOG) ≡ true
  idle_there = ready_idle size w memory old ready

  -- The mask is that of all open transactions. With their words masked, each image stands for the world.
  pub mask_is : ready.mask ≡ open_masks n opens
  mask_is = masks_same n opens ready.mask (open_masks n opens) ready.active.masks (open_masks_all n opens (reads old.now.words) ready.active.are records_read)

  pub world_there : (i : Image) → Picks old.now.words i → idle_world_of size (masked_image (open_masks n opens) i) ≡ Some (closed w)
  world_there i picked =
      ap (λ (m : Write). idle_world_of size (masked_image m i)) (sym mask_is) ∙ ready.settled.stands (masked_image ready.mask i) (Picks-masked ready.mask old.now.words i picked)

  below_mine : (k : ℕ) → k < tables_end n → pool_has_word n (finished_of is_active.puddles) k ≡ false
  below_mine k below = mine_after n (finished_of is_active.puddles) k (omega arith)

  below_log : (k : ℕ) → k < tables_end n → is_in_log active.tx.log.gate_at k ≡ false
  below_log k below = let gate = is_active.own.gate in outside_log active.tx.log.gate_at k (inl (omega arith))

  above_log : (k : ℕ) → frames_at n ≤ k → is_in_log active.tx.log.gate_at k ≡ false
  above_log k above = let gate = is_active.own.gate in let few = is_active.pool.known in outside_log active.tx.log.gate_at k (inr (omega arith))

  not_below : (k v : ℕ) → k < tables_end n → may k v → ⊥
  not_below k v below wrote = beside_transaction g active.tx.log.gate_at k v (below_log k below) (below_mine k below) wrote

  record_below : (k : ℕ) → is_open_record pool k ≡ true → k < tables_end n
  record_below k of = (open_record_place n pool k is_active.pool.slot is_active.pool.known (open_on_device n pool before is_active.pool) of).high

  -- A word after the tables that is none of its own words is masked as it is with only the words of the others.
  rest_same : (k : ℕ) → is_in_log active.tx.log.gate_at k ≡ false → pool_has_word n (finished_of is_active.puddles) k ≡ false → tables_end n ≤ k → ready.mask k ≡ rest k
  rest_same k outside other above =
      masks_elsewhere number own others opens more n ready.mask rest ready.active.masks rest_masks k
      (mask_of_others n pool before k (ap (λ (at : ℕ). is_in_log at k) (sym is_active.own.gate) ∙ outside) other
      (false_from_ne_true (is_open_record pool k) (λ of. let high = record_below k of in absurd (omega arith))))

  open_elsewhere : (m : ℕ) (r : OpenTransaction) → others m ≡ Some r → IsOpenElsewhere number opens m r
  open_elsewhere m r has =
      let apart : m ≢ number = λ same. none-some r (sym more.none ∙ ap others (sym same) ∙ has) in
      record { apart = apart; was = more.same m apart ∙ has }

  -- ---- an image that its calls leave

  module _ (j : Image) (f : HasOrigin may old.now.words j) where
    from_same : (k : ℕ) → is_in_log active.tx.log.gate_at k ≡ false → pool_has_word n (finished_of is_active.puddles) k ≡ false → j k ≡ f.before k
    from_same k outside other = elim (f.from.each k) [ inl same ↦ same | inr wrote ↦ absurd (beside_transaction g active.tx.log.gate_at k (j k) outside other wrote) ]

    from_number : (k : ℕ) → is_in_log (log_number_at n number) k ≡ false → pool_has_word n (finished_of is_active.puddles) k ≡ false → j k ≡ f.before k
    from_number k outside other = from_same k (ap (λ (at : ℕ). is_in_log at k) gate_is ∙ outside) other

    idle_left : is_idle_gate (j DAEMON_LOG) ≡ true
    idle_left = ap is_idle_gate (from_same DAEMON_LOG (below_log DAEMON_LOG (omega arith)) (below_mine DAEMON_LOG (omega arith))) ∙ idle_there f.before f.picked

    record_left : (k : ℕ) → is_open_record pool k ≡ true → j k ≡ before k
    record_left k of =
        let below = record_below k of in
        from_same k (below_log k below) (below_mine k below) ∙ (records_there f.before f.picked).each number own under.opened k of

    -- The other transactions are open in the image.
    others_left : AreLeftOpen n others j
    others_left = record {
      each = λ m r has.
          let x = open_elsewhere m r has in
          let a = opened_as w memory.active ready.mask old.now.words ready.active m r x.was in
          let u = ready.active.each m a.one a.there in
          subst (λ (t : OpenTransaction). IsLeftOpen n t.pool t.before j) (same_Some (open_transaction_of a.one u.is.puddles u.is.rec u.is.own.who u.is.before) r (sym u.opened ∙ x.was))
          (left_apart w a.one ready.mask old.now.words u.is may (own_apart w memory.active ready.mask old.now.words ready.active number m active a.one there a.there (λ same. x.apart (sym same))) ready.tables j f
          (names_none_idle ready.mask j idle_left));
    }

    -- This transaction is open in it, as if it had begun with the values to which the image recovers.
    own_left : (values : Image) → ((k : ℕ) → is_open_record pool k ≡ true → j k ≡ values k) → RecoversTo g active.tx.log.gate_at values j → IsLeftOpen n pool values j
    own_left values records settles = record {
      unnamed = λ k v is. unnamed_idle j k idle_left;
      records = records;
      recovers = subst (λ (at : ℕ). RecoversTo g at values j) is_active.own.gate settles;
    }

  -- Putting this transaction as it is under its number changes nothing.
  all_before : with_transaction number (Some own) opens ≡ opens
  all_before =
      let put = one_put number own opens in
      let each : (m : ℕ) → with_transaction number (Some own) opens m ≡ opens m = λ m. elim (cases_eq m number) [
        | inl same ↦ ap (with_transaction number (Some own) opens) same ∙ put.here ∙ sym under.opened ∙ ap opens (sym same)
        | inr apart ↦ put.same m apart ∙ sym (more.same m apart)
      ] in
      λ i m. each m i

  pub world_before : (i : Image) → Picks old.now.words i → idle_world_of size (masked_image (open_masks n (with_transaction number (Some own) opens)) i) ≡ Some (closed w)
  world_before i picked = ap (λ (all : Opens). idle_world_of size (masked_image (open_masks n all) i)) all_before ∙ world_there i picked

  -- ---- other values of its frames

  module _ (after : Image) (agrees : (k : ℕ) → pool_has_word n (finished_of is_active.puddles) k ≡ false → after k ≡ before k) where
    abbrev pub later : OpenTransaction
    later = record { pool = pool; before = after }

    -- All transactions, with this one as if it had begun with the other values.
    abbrev pub all_later : Opens
    all_later = with_transaction number (Some later) opens

    pub later_more : IsOneMore number later others all_later
    later_more = one_put number later opens

    later_pool : IsOpenPool n pool after
    later_pool = IsOpenPool-same n pool before after (λ k low high. agrees k (below_mine k high)) is_active.pool

    later_are : AreOpenPools n all_later
    later_are = opens_more number later others all_later later_more n rest_are under.number_is later_pool (λ m r has same.
        let x = open_elsewhere m r has in
        absurd (x.apart (ready.active.are.slots m number r own x.was under.opened same)))

    later_records : (i : Image) → Picks old.now.words i → HasRecords all_later i
    later_records i picked =
        let records = records_there i picked in
        records_more number later others all_later later_more i (others_records number own others opens more i records)
        (λ k of. records.each number own under.opened k of ∙ sym (agrees k (below_mine k (record_below k of))))

    pub later_masks : (i : Image) → Picks old.now.words i → MasksAll n all_later (open_masks n all_later)
    later_masks i picked = open_masks_all n all_later i later_are (later_records i picked)

    module _ (ps : List (List ℕ × Pool)) (stands : (i : Image) → Picks old.now.words i → idle_world_of size (masked_image (open_masks n all_later) i) ≡ Some (record w.stored { pools = ps }))
        (kept : (name : List ℕ) → name ≢ active.name → pool_named name (record w.stored { pools = ps }) ≡ pool_named name w.stored)
        (left : Graph) (graph : graph_of w.stored.types (stored_in n is_active.puddles after) ≡ Some left) (fault : Option HostFault) (new : State) (e : EndsBy g active.tx.log.gate_at before after fault old new)
        (known : Known) (same_puddles : known.puddles ≡ is_active.puddles) (so : fault ≡ None → IsKnown n (reads new.now.words) known) where
      abbrev s : StoredWorld
      s = record w.stored { pools = ps }

      abbrev next : World
      next = record w { stored = s; transactions = with_open active.name None w.transactions }

      -- An image that recovers to the other values stands for the next world.
      stands_after : (j : Image) → HasOrigin may old.now.words j → RecoversTo g active.tx.log.gate_at after j → (world_of size j ≡ Some s) × RefusesNone j
      stands_after j f settles =
          left_stands size s number later others all_later later_more later_are f.before j (idle_there f.before f.picked) (from_number j f) (later_records f.before f.picked) (stands f.before f.picked)
          (left_more number later others all_later later_more n j (others_left j f) (own_left j f after (λ k of. record_left j f k of ∙ sym (agrees k (below_mine k (record_below k of)))) settles))

      image_stands : (j : Image) → RecoversTo g active.tx.log.gate_at before j ⊎ RecoversTo g active.tx.log.gate_at after j → HasOrigin may old.now.words j → StandsBetween size w next j
      image_stands j (inl settles) f = let both = stands_within size w memory active old number there ready j f settles in (inl both.0, both.1)
      image_stands j (inr settles) f = let both = stands_after j f settles in (inr both.0, both.1)

      all_moments : Leaves (Silently (StandsBetween size w next)) old new
      all_moments =
          let P = λ (image : Image). RecoversTo g active.tx.log.gate_at before image ⊎ RecoversTo g active.tx.log.gate_at after image in
          Leaves-weaker (Silently (λ image. P image × HasOrigin may old.now.words image)) (Silently (StandsBetween size w next)) old new
          (λ bytes image m. (m.0, image_stands image m.1.0 m.1.1)) (Leaves-from P may fault old new e.changes e.moments)

      module _ (done : fault ≡ None) where
        changed : Changes may None old new
        changed = subst (λ (f : Option HostFault). Changes may f old new) done e.changes

        changed_under : Changes may None (masked_state rest old) (masked_state rest new)
        changed_under = Changes-masked rest may None old new changed

        -- With the words of the others masked, each image stands for the next world.
        ended_world : (j : Image) → Picks new.now.words j → idle_world_of size (masked_image rest j) ≡ Some s
        ended_world j picked =
            let f = origin may old.now.words new.now.words j (Changes-now may None old new changed) picked in
            ended_stands size s number later others all_later later_more later_are f.before j (idle_there f.before f.picked) (from_number j f) (later_records f.before f.picked) (stands f.before f.picked)
            (closed_by_gate j (log_number_at n number) (ap j (sym gate_is) ∙ (e.closed done).each (j active.tx.log.gate_at) (picked.each active.tx.log.gate_at)))
            (λ k mine. (e.durable done k mine).each (j k) (picked.each k))

        gate_idle : HasIdleGate DAEMON_LOG new.now.words
        gate_idle = gate_kept may None old new changed (λ v. not_below DAEMON_LOG v (omega arith)) (ready_gate size w memory old ready)

        settled_ended : IsQuiescent size s (masked rest new.now.words)
        settled_ended = record {
          stands = λ image picked. let u = Picks-unmasked rest new.now.words image picked in ap (idle_world_of size) u.is ∙ ended_world u.under u.picked;
          idle = λ v had. gate_idle.each v (subst (λ (c : Cell). Has (values c) v) (masked-elsewhere rest new.now.words DAEMON_LOG (masks_below n others rest rest_are rest_masks DAEMON_LOG (omega arith))) had);
        }

        frames_single : (k : ℕ) → frames_at n ≤ k → HasOnly (masked rest new.now.words k) (masked rest new.now.words k).newest
        frames_single k above = elim (cases_Bool (pool_has_word n (finished_of is_active.puddles) k)) [
          | inl mine ↦ HasOnly-own_masked rest new.now.words k (HasOnly-own (new.now.words k) (after k) (e.durable done k mine))
          | inr other ↦
              let outside = above_log k above in
              let was = subst (λ (x : Option ℕ). HasOnly (masked_cell x (old.now.words k)) (masked_cell x (old.now.words k)).newest) (rest_same k outside other (omega arith)) (ready.rest.each k above) in
              HasOnly-own (masked rest new.now.words k) (masked rest old.now.words k).newest
              (HasOnly-kept may None (masked_state rest old) (masked_state rest new) k (masked rest old.now.words k).newest changed_under (λ v. beside_transaction g active.tx.log.gate_at k v outside other) was)
        ]

        -- Its own log is closed, and each other log is as it was.
        own_idle : (at : ℕ) → active.tx.log.gate_at ≡ at → rest at ≡ None → HasIdleGate at (masked rest new.now.words)
        own_idle at here none = record {
          each = λ v had. ap is_idle_gate ((subst (λ (k : ℕ). HasOnly (new.now.words k) CLOSED_GATE) here (e.closed done)).each v (subst (λ (c : Cell). Has (values c) v) (masked-elsewhere rest new.now.words at none) had));
        }

        logs_ended : HasIdleLogs n w.clients (masked rest new.now.words)
        logs_ended = record {
          each = λ client number_of low few present.
              let gate = layouts.log_at n client number_of in
              let at : log_number_at n (CLIENT_LOGS * client + number_of) ≡ gate = omega arith in
              elim (cases_eq (CLIENT_LOGS * client + number_of) number) [
                | inl same ↦
                    let known = is_active.pool.known in
                    let here : log_number_at n number ≡ gate = ap (log_number_at n) (sym same) ∙ at in
                    own_idle gate (gate_is ∙ here)
                    (masks_beside_log n others rest rest_are rest_masks number gate more.none (omega (arith, known, under.number_is)) (record { low = omega (arith, here); high = omega (arith, here) }))
                | inr apart ↦
                    let its = gate_is in
                    let outside : is_in_log active.tx.log.gate_at gate ≡ false = outside_log active.tx.log.gate_at gate (elim (cases_lt gate active.tx.log.gate_at) [ inl low ↦ inl low | inr high ↦ inr (omega arith) ]) in
                    let other : pool_has_word n (finished_of is_active.puddles) gate ≡ false = mine_after n (finished_of is_active.puddles) gate (omega arith) in
                    idle_kept gate may None (masked_state rest old) (masked_state rest new) changed_under (λ v wrote. absurd (beside_transaction g active.tx.log.gate_at gate v outside other wrote))
                    (record {
                      each = λ v had. (ready.logs.each client number_of low few present).each v (subst (λ (x : Option ℕ). Has (values (masked_cell x (old.now.words gate))) v) (sym (rest_same gate outside other (omega arith))) had);
                    })
              ];
        }

        -- Each word of its pool has the value that is left.
        left_read : (k : ℕ) → pool_has_word n is_active.puddles k ≡ true → reads new.now.words k ≡ after k
        left_read k mine = elim (cases_Bool (pool_has_word n (finished_of is_active.puddles) k)) [
          | inl own ↦ HasOnly-newest (new.now.words k) (after k) (e.durable done k own)
          | inr other ↦
              let m = pool_has_word-each n is_active.puddles k mine in
              let low = m.low in
              let outside = above_log k (omega arith) in
              HasOnly-newest (new.now.words k) (before k)
              (HasOnly-kept may None old new k (before k) changed (λ v. beside_transaction g active.tx.log.gate_at k v outside other) (is_active.running.rests.each k mine other))
              ∙ sym (agrees k other)
        ]

        -- The words of other pools that rest still rest.
        others_rest : (m : ℕ) (h : ActiveTransaction) (was : active_under memory.active m ≡ Some h) → m ≢ number → RestsAs n (ready.active.each m h was).is.puddles (ready.active.each m h was).is.before new.now.words
        others_rest m h was apart =
            let its = ready.active.each m h was in
            rest_active w active ready.mask old new is_active changed h.slot its.is.puddles its.is.before
            (λ same. apart (one_slot w memory.active ready.mask old.now.words ready.active m number h active was there (sym same))) (active_graph size w memory old ready m h was) its.is.running.rests

        -- The pool has a graph.
        graph_ended : HasGraphIn n active.slot (reads new.now.words) is_active.puddles
        graph_ended =
            graph_active_in w active ready.mask old new is_active changed left (types_read size w memory old ready).types (active_in_turn size w memory old ready number active there)
            (ap (graph_of w.stored.types) (stored_in-has_word n is_active.puddles after (reads new.now.words) left_read) ∙ graph)

        -- What the daemon knows about all pools holds, with the same puddles of this pool.
        knows_ended : KnowsPools n (set memory.known_pools active.slot (Some known)) others (reads new.now.words)
        knows_ended =
            KnowsPools-ended n memory.known_pools number own others opens known (reads old.now.words) (reads new.now.words) more same_puddles (KeepsPools-active w active ready.mask old new is_active changed) graph_ended
            (so done) ready.knows

        ready_ended : IsReady size next (with_ended number active known memory) new
        ready_ended = record {
          mask = rest;
          settled = settled_ended;
          tables = HasDurableTables-kept n may None old new changed not_below ready.tables;
          clients = λ client low.
              owner_of-same (reads new.now.words) (reads old.now.words) client low (λ k from to. reads_kept may old new k changed (λ v. not_below k v (omega arith))) ∙ ready.clients client low;
          frames = ready.frames;
          shelf = e.changes.shelf ∙ ready.shelf;
          active = holds_others w memory.active ready.mask old ready.active number active there ps kept new changed others_rest;
          sessions = sessions_others w memory.active ready.mask old ready.active number active there ps kept memory.sessions ready.sessions;
          rest = record { each = frames_single };
          logs = logs_ended;
          knows = knows_ended;
        }

      pub Applies-ended : Applies size w next (with_ended number active known memory) fault old new
      Applies-ended = record {
        moments = all_moments;
        puddles = LeavesPuddles-after n may fault old new e.changes not_below ready.tables (ready_gate size w memory old ready);
        quiet = Changes-said may fault old new e.changes;
        ready = ready_ended;
        rests = e.changes.rests;
        script = e.changes.script;
      }
