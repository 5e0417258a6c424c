-- Calls of an active transaction: each word that they write is masked and belongs to no other transaction, so each
-- image that is left stands for the world before.
use Rattle.std.proofs.Common.{◌≡◌, ◌≢◌, inl, inr, ℕ, ◌+◌, ◌<◌, true, false, Option, Some, None, refl, sym, ap, subst, ◌∙◌, arith}
use Rattle.std.specs.Prelude.{set}
use Rattle.std.proofs.lemmas.Bool.{cases_eq}
use Rattle.std.proofs.lemmas.Option.{same_Some}
use Rattle.pm_model.specs.declared.host.HostFault.{HostFault}
use Rattle.pm_model.specs.Words.{Has, Cell, values, reads}
use Rattle.pm_model.specs.Moments.{State}
use Rattle.pm_model.specs.Changes.{Footprint, Changes, Leaves, Silently}
use Rattle.pm_model.specs.Masks.{masked, masked_image}
use Rattle.pm_model.proofs.Changes.{Changes-said, Changes-now}
use Rattle.pm_model.proofs.Leaves.{HasOrigin, Leaves-weaker}
use Rattle.pm_model.proofs.Masks.{masked-there, masked-elsewhere, masked_image-there, masked_image-elsewhere, Picks-masked}
use Rattle.pud_defs.specs.declared.layout.TheConstants.{DAEMON_LOG}
use Rattle.pud_defs.specs.Formats.Image.{Image}
use Rattle.pud_defs.specs.Logging.Entries.{is_idle_gate}
use Rattle.pud_defs.specs.Formats.Layout.{tables_end, log_at}
use Rattle.pud_defs.specs.StateMachine.Transactions.{with_changed}
use Rattle.pud_defs.specs.StateMachine.World.{Transaction, World, world_of, idle_world_of, closed}
use Rattle.pud_defs.proofs.RegistryTables.Spaces.{owner_of-same}
use Rattle.batch.specs.Worlds.{IsQuiescent}
use Rattle.batch.proofs.Tables.{reads_kept, HasDurableTables-kept}
use Rattle.word_transaction.specs.Running.{RecoversTo, ByTransaction}
use Rattle.hybrid_tx.specs.PoolScopes.{pool_scope, ArePlacedPuddles, finished_of}
use Rattle.hybrid_tx.specs.Open.ManyOpen.{OpenTransaction, AreLeftOpen}
use Rattle.hybrid_tx.specs.Open.Masks.{OpenPool, IsLeftOpen}
use Rattle.hybrid_tx.specs.Objects.Transactions.{OpenTx, KeepsOpenOn}
use Rattle.hybrid_tx.proofs.Open.OpenMasks.{open_record_place, mine_after}
use Rattle.hybrid_tx.proofs.Open.OpenPools.{open_on_device, placed_by_tables}
use Rattle.pool_transaction.specs.Changing.{StaysOpen, with_known}
use Rattle.daemon_memory.proofs.PoolChanges.RestBeside.{active_graph}
use Rattle.known_pool.specs.Known.{Known, IsKnown}
use Rattle.daemon_memory.specs.Memory.{ActiveTransaction, Memory, active_under, with_active}
use Rattle.daemon_memory.specs.ActiveTransactions.{open_pool_of, open_transaction_of, IsActive, IsActiveUnder, AreActive, HasDurableFrames, HasIdleLogs}
use Rattle.daemon_memory.specs.KnownPools.{KnowsPools}
use Rattle.daemon_memory.specs.Ready.{IsReady, RefusesNone, StandsBetween, Applies}
use Rattle.daemon_memory.proofs.Commands.Beside.{IsApart, KeepsOne, Leaves-from, log_masked, own_masked, record_picked, left_apart, left_all, under_left, own_apart, active_still, names_none_idle, ready_idle}
use Rattle.daemon_memory.proofs.Commands.Beneath.{ready_gate}
use Rattle.daemon_memory.proofs.PoolChanges.PuddlesLeft.{LeavesPuddles-after}
use Rattle.daemon_memory.proofs.OpenTransactions.OpenNames.{changed_there, changed_elsewhere, WereOpen, WereOpen-changed, Charges}
use Rattle.pool_transaction.proofs.Lifetimes.ActiveChanged.{Holds-later, HasSessions-later}
use Rattle.daemon_memory.proofs.PoolChanges.PoolsBeside.{one_slot}
use Rattle.daemon_memory.proofs.PoolChanges.InTurn.{active_in_turn}
use Rattle.daemon_memory.proofs.PoolsKnown.KnownKept.{HasGraphIn}
use Rattle.daemon_memory.proofs.PoolsKnown.KnownOpen.{KeepsPools-active, graph_active_in, KnowsPools-later, rest_active}
use Rattle.daemon_memory.proofs.PoolChanges.TablesBeside.{sound_read, types_read}

-- The active transaction with this transaction on the pool's objects.
abbrev pub with_tx : OpenTx → ActiveTransaction → ActiveTransaction
with_tx tx active = record active { tx = tx }

-- ---- a ready daemon with the transaction active

module _ (size : ℕ) (w : World) (memory : Memory) (active : ActiveTransaction) (old : State) (number : ℕ) (there : active_under memory.active number ≡ Some active) (ready : IsReady size w memory old) where
  abbrev F : ℕ
  F = w.stored.frames

  abbrev under : IsActiveUnder w ready.active.opens ready.mask old.now.words number active
  under = ready.active.each number active there

  abbrev pub is_active : IsActive w active ready.mask old.now.words
  is_active = under.is

  abbrev is : IsActive w active ready.mask old.now.words
  is = is_active

  abbrev p : OpenPool
  p = open_pool_of active is.puddles is.rec is.own.who

  abbrev now : Image
  now = reads old.now.words

  -- Its puddles are placed as a scope needs them.
  pub active_placed : ArePlacedPuddles F is.puddles
  active_placed = placed_by_tables w.stored.next_number F now active.slot is.puddles (sound_read size w memory old ready) (active_in_turn size w memory old ready number active there)

  -- ---- what it may write

  abbrev own : Footprint
  own = ByTransaction (pool_scope F (finished_of is.puddles)) active.tx.log.gate_at

  -- Each word that it may write is masked.
  written_masked : (k v : ℕ) → own k v → ready.mask k ≡ None → ⊥
  written_masked k v (inl inside) none = log_masked w active ready.mask old.now.words is k inside none
  written_masked k v (inr mine) none = own_masked w active ready.mask old.now.words is k mine none

  -- None of these words lies before the logs.
  own_after : (k v : ℕ) → k < tables_end F → own k v → ⊥
  own_after k v below (inl inside) =
      let gate = is.own.gate in
      let low = inside.low in
      absurd (omega arith)
  own_after k v below (inr mine) = let no : true ≡ false = sym mine ∙ mine_after F (finished_of is.puddles) k (omega arith) in cc

  -- None of these words belongs to another active transaction.
  its_own : (n : ℕ) (g : ActiveTransaction) (has : active_under memory.active n ≡ Some g) → n ≢ number
      → IsApart F g (open_pool_of g (ready.active.each n g has).is.puddles (ready.active.each n g has).is.rec (ready.active.each n g has).is.own.who) own
  its_own n g has apart = own_apart w memory.active ready.mask old.now.words ready.active number n active g there has (λ same. apart (sym same))

  -- With the mask applied, an image that is left meanwhile is the same as the image from which it comes.
  module _ (image : Image) (o : HasOrigin own old.now.words image) where
    same_word : (k : ℕ) (x : Option ℕ) → ready.mask k ≡ x → masked_image ready.mask image k ≡ masked_image ready.mask o.before k
    same_word k None none =
        masked_image-elsewhere ready.mask image k none
        ∙ elim (o.from.each k) [ inl same ↦ same | inr may ↦ absurd (written_masked k (image k) may none) ]
        ∙ sym (masked_image-elsewhere ready.mask o.before k none)
    same_word k (Some v) there = masked_image-there ready.mask image k v there ∙ sym (masked_image-there ready.mask o.before k v there)

    same_masked : masked_image ready.mask image ≡ masked_image ready.mask o.before
    same_masked = let each = λ (k : ℕ). same_word k (ready.mask k) refl in λ p k. each k p

    idle_masked : idle_world_of size (masked_image ready.mask image) ≡ Some (closed w)
    idle_masked = ap (idle_world_of size) same_masked ∙ ready.settled.stands (masked_image ready.mask o.before) (Picks-masked ready.mask old.now.words o.before o.picked)

    -- Before the logs no word of the image changed.
    same_before : (k : ℕ) → k < tables_end F → image k ≡ o.before k
    same_before k below = elim (o.from.each k) [ inl same ↦ same | inr may ↦ absurd (own_after k (image k) below may) ]

    log_idle : is_idle_gate (image DAEMON_LOG) ≡ true
    log_idle = ap is_idle_gate (same_before DAEMON_LOG (omega arith)) ∙ ready_idle size w memory old ready o.before o.picked

    left_open : RecoversTo (pool_scope F (finished_of is.puddles)) active.tx.log.gate_at is.before image → IsLeftOpen F p is.before image
    left_open settles = record {
      unnamed = λ k v e. (names_none_idle ready.mask image log_idle).each k v (is.masked k v e);
      records = λ k of.
          let place = open_record_place F p k is.pool.slot is.pool.known (open_on_device F p is.before is.pool) of in
          same_before k place.high ∙ record_picked w active ready.mask old.now.words is ready.tables o.before o.picked k of;
      recovers = subst (λ (n : ℕ). RecoversTo (pool_scope F (finished_of is.puddles)) n is.before image) is.own.gate settles;
    }

    -- Each transaction is left open: this one by its log, and any other because none of its words was written.
    each_open : RecoversTo (pool_scope F (finished_of is.puddles)) active.tx.log.gate_at is.before image → (n : ℕ) (g : ActiveTransaction) (there : active_under memory.active n ≡ Some g) (is : IsActiveUnder w ready.active.opens ready.mask old.now.words n g)
        → IsLeftOpen F (open_pool_of g is.is.puddles is.is.rec is.is.own.who) is.is.before image
    each_open settles n g has other = elim (cases_eq n number) [
      | inl same ↦
          let one : open_transaction_of active is.puddles is.rec is.own.who is.before ≡ open_transaction_of g other.is.puddles other.is.rec other.is.own.who other.is.before =
          same_Some (open_transaction_of active is.puddles is.rec is.own.who is.before) (open_transaction_of g other.is.puddles other.is.rec other.is.own.who other.is.before) (sym under.opened ∙ ap ready.active.opens (sym same) ∙ other.opened) in
          subst (λ (t : OpenTransaction). IsLeftOpen F t.pool t.before image) one (left_open settles)
      | inr apart ↦
          let its = ready.active.each n g has in
          let one : open_transaction_of g its.is.puddles its.is.rec its.is.own.who its.is.before ≡ open_transaction_of g other.is.puddles other.is.rec other.is.own.who other.is.before =
          same_Some (open_transaction_of g its.is.puddles its.is.rec its.is.own.who its.is.before) (open_transaction_of g other.is.puddles other.is.rec other.is.own.who other.is.before) (sym its.opened ∙ other.opened) in
          subst (λ (t : OpenTransaction). IsLeftOpen F t.pool t.before image) one
          (left_apart w g ready.mask old.now.words its.is own (its_own n g has apart) ready.tables image o (names_none_idle ready.mask image log_idle))
    ]

    -- So the image stands for the world, if its log gives back what was there at the beginning.
    pub stands_within : RecoversTo (pool_scope F (finished_of is.puddles)) active.tx.log.gate_at is.before image → (world_of size image ≡ Some (closed w)) × RefusesNone image
    stands_within settles =
        let left : AreLeftOpen F ready.active.opens image = left_all w memory.active ready.mask old.now.words ready.active image (each_open settles) in
        let it = under_left w memory.active ready.mask old.now.words ready.active size image left in
        (it.stands (closed w) refl idle_masked, it.none (closed w) refl idle_masked)

  -- ---- a call within the transaction

  module _ (fault : Option HostFault) (new : State) (changes : Changes own fault old new) where
    -- Each image that is left stands for the world.
    pub moments_within : Leaves (Silently (RecoversTo (pool_scope F (finished_of is.puddles)) active.tx.log.gate_at is.before)) old new → Leaves (Silently (λ image. (world_of size image ≡ Some (closed w)) × RefusesNone image)) old new
    moments_within moments =
        Leaves-weaker (Silently (λ image. RecoversTo (pool_scope F (finished_of is.puddles)) active.tx.log.gate_at is.before image × HasOrigin own old.now.words image)) (Silently (λ image. (world_of size image ≡ Some (closed w)) × RefusesNone image)) old new
        (λ bytes image m. (m.0, stands_within image m.1.1 m.1.0))
        (Leaves-from (RecoversTo (pool_scope F (finished_of is.puddles)) active.tx.log.gate_at is.before) own fault old new changes moments)

    -- With the mask applied, no word has a value that it did not have.
    masked_value : (k v : ℕ) (x : Option ℕ) → ready.mask k ≡ x → Has (values (masked ready.mask new.now.words k)) v → Has (values (masked ready.mask old.now.words k)) v
    masked_value k v None none had =
        subst (λ (c : Cell). Has (values c) v) (sym (masked-elsewhere ready.mask old.now.words k none))
        (elim (Changes-now own fault old new changes k v (subst (λ (c : Cell). Has (values c) v) (masked-elsewhere ready.mask new.now.words k none) had)) [ inl was ↦ was | inr may ↦ absurd (written_masked k v may none) ])
    masked_value k v (Some x) there had =
        subst (λ (c : Cell). Has (values c) v) (masked-there ready.mask new.now.words k x there ∙ sym (masked-there ready.mask old.now.words k x there)) had

    settled_within : IsQuiescent size (closed w) (masked ready.mask new.now.words)
    settled_within = record {
      stands = λ image picked. ready.settled.stands image (record { each = λ k. masked_value k (image k) (ready.mask k) refl (picked.each k) });
      idle = λ v had. ready.settled.idle v (masked_value DAEMON_LOG v (ready.mask DAEMON_LOG) refl had);
    }

    rest_within : HasDurableFrames F (masked ready.mask new.now.words)
    rest_within = record {
      each = λ k above.
          let one = ready.rest.each k above in
          record {
            each = λ x had.
                one.each x (masked_value k x (ready.mask k) refl had)
                ∙ sym (one.each (masked ready.mask new.now.words k).newest (masked_value k (masked ready.mask new.now.words k).newest (ready.mask k) refl (inl refl)));
          };
    }

    logs_within : HasIdleLogs F w.clients (masked ready.mask new.now.words)
    logs_within = record {
      each = λ client n known below present.
          let at = log_at F client n in
          record { each = λ v had. (ready.logs.each client n known below present).each v (masked_value at v (ready.mask at) refl had) };
    }

  -- The transaction was changed, and used this many more units.
  module _ (known : Known) (same_puddles : known.puddles ≡ is.puddles) (tx : OpenTx) (units : ℕ) (change : Transaction → Transaction) (charges : Charges units change) (fault : Option HostFault) (new : State) (at : tx.log.gate_at ≡ active.tx.log.gate_at)
      (used : fault ≡ None → tx.units ≡ active.tx.units + units)
      (runs : KeepsOpenOn F is.puddles w.stored.types tx.log is.before is.graph_before (change is.own.transaction).now (change is.own.transaction).deferred fault old new)
      (so : fault ≡ None → IsKnown F (reads new.now.words) known) where
    abbrev next : World
    next = record w { transactions = with_changed active.name change w.transactions }

    abbrev later : ActiveTransaction
    later = with_tx tx active

    changes_own : Changes own fault old new
    changes_own = subst (λ (n : ℕ). Changes (ByTransaction (pool_scope F (finished_of is.puddles)) n) fault old new) at runs.saves.runs.changes

    moments_own : Leaves (Silently (StandsBetween size w next)) old new
    moments_own =
        Leaves-weaker (Silently (λ image. (world_of size image ≡ Some (closed w)) × RefusesNone image)) (Silently (StandsBetween size w next)) old new
        (λ bytes image m. (m.0, (inl m.1.0, m.1.1)))
        (moments_within fault new changes_own (subst (λ (n : ℕ). Leaves (Silently (RecoversTo (pool_scope F (finished_of is.puddles)) n is.before)) old new) at runs.saves.runs.moments))

    kept_within : fault ≡ None → (k : ℕ) → k < tables_end F → reads new.now.words k ≡ now k
    kept_within none k below =
        reads_kept own old new k (subst (λ (f : Option HostFault). Changes own f old new) none changes_own) (λ v may. own_after k v below may)

    abbrev active_within : fault ≡ None → IsActive next later ready.mask new.now.words
    active_within none = record {
      rec = is.rec;
      own = record {
        who = is.own.who;
        transaction = change is.own.transaction;
        is = changed_there active.name w.transactions change is.own.transaction is.own.is;
        client = charges.client is.own.transaction ∙ is.own.client;
        units = charges.used is.own.transaction ∙ ap (λ (n : ℕ). n + units) is.own.units ∙ sym (used none);
        present = is.own.present;
        owner = is.own.owner;
        gate = at ∙ is.own.gate;
      };
      puddles = is.puddles;
      before = is.before;
      graph_before = is.graph_before;
      name = is.name;
      stored = is.stored;
      pool = is.pool;
      records = λ k of.
          let place = open_record_place F p k is.pool.slot is.pool.known (open_on_device F p is.before is.pool) of in
          kept_within none k place.high ∙ is.records k of;
      running = record {
        redo = runs.redo;
        saving = record { es = runs.saves.es; running = runs.saves.runs.running none; defers = runs.saves.defers };
        rests = runs.rests none;
        was = runs.was;
        is = runs.is none;
        are = runs.are none;
      };
      masked = is.masked;
    }

    same_pool : StaysOpen active later
    same_pool = record { client = refl; name = refl; slot = refl; number = refl; gate = at }

    -- Another transaction is on a pool with another name, and the next world keeps it.
    keeps_other : (n : ℕ) (g : ActiveTransaction) → n ≢ number → active_under memory.active n ≡ Some g → KeepsOne w next g
    keeps_other n g apart has = record {
      frames = refl;
      transaction = changed_elsewhere active.name w.transactions change g.name (λ same. apart (ready.active.names n number g active has there same));
      present = refl;
      stored = refl;
      types = λ id m defined. defined;
      graphs = λ st graph stored. stored;
    }

    other_within : fault ≡ None → (n : ℕ) (g : ActiveTransaction) → n ≢ number → active_under memory.active n ≡ Some g → IsActiveUnder next ready.active.opens ready.mask new.now.words n g
    other_within none n g apart has =
        let other = ready.active.each n g has in
        record {
          is = active_still w next g ready.mask ready.mask old new other.is (keeps_other n g apart has) own (its_own n g has apart) (subst (λ (f : Option HostFault). Changes own f old new) none changes_own) other.is.masked
              (rest_active w active ready.mask old new is (subst (λ (f : Option HostFault). Changes own f old new) none changes_own) g.slot other.is.puddles other.is.before
              (λ same. apart (one_slot w memory.active ready.mask old.now.words ready.active n number g active has there (sym same))) (active_graph size w memory old ready n g has) other.is.running.rests);
          number_is = other.number_is;
          opened = other.opened;
        }

    were : WereOpen w.transactions next.transactions
    were = WereOpen-changed active.name change w.transactions (λ t. sym (charges.client t)) (λ t. sym (charges.depth t))

    abbrev holds_within : fault ≡ None → AreActive next (with_active number (Some later) memory).active ready.mask new.now.words
    holds_within none =
        Holds-later memory.active number active later there same_pool w next were ready.mask ready.mask old.now.words new.now.words ready.active ready.active.opens ready.active.are ready.active.masks
        (record { is = active_within none; number_is = under.number_is; opened = under.opened }) (other_within none) (λ n apart free. free)

    -- The pool has the graph that the transaction shows.
    graph_within : fault ≡ None → HasGraphIn F active.slot (reads new.now.words) is.puddles
    graph_within none =
        graph_active_in w active ready.mask old new is (subst (λ (f : Option HostFault). Changes own f old new) none changes_own) (change is.own.transaction).now (types_read size w memory old ready).types (active_in_turn size w memory old ready number active there) (runs.is none)

    -- What the daemon knows holds for the pool, and for all other pools, which stay.
    knows_within : fault ≡ None → KnowsPools F (set memory.known_pools active.slot (Some known)) ready.active.opens (reads new.now.words)
    knows_within none =
        KnowsPools-later F memory.known_pools number (open_transaction_of active is.puddles is.rec is.own.who is.before) ready.active.opens known now (reads new.now.words) under.opened same_puddles
        (KeepsPools-active w active ready.mask old new is (subst (λ (f : Option HostFault). Changes own f old new) none changes_own))
        (graph_within none) (so none) ready.knows

    ready_within : fault ≡ None → IsReady size next (with_known number active.slot later known memory) new
    ready_within none = record {
      mask = ready.mask;
      settled = settled_within fault new changes_own;
      tables = HasDurableTables-kept F own fault old new changes_own own_after ready.tables;
      clients = λ client low. owner_of-same (reads new.now.words) now client low (λ k from to. kept_within none k (omega arith)) ∙ ready.clients client low;
      frames = ready.frames;
      shelf = changes_own.shelf ∙ ready.shelf;
      active = holds_within none;
      sessions = HasSessions-later memory.active number active later there same_pool w next were memory.sessions ready.sessions;
      rest = rest_within fault new changes_own;
      logs = logs_within fault new changes_own;
      knows = knows_within none;
    }

    pub Applies-runs : Applies size w next (with_known number active.slot later known memory) fault old new
    Applies-runs = record {
      moments = moments_own;
      puddles = LeavesPuddles-after F own fault old new changes_own own_after ready.tables (ready_gate size w memory old ready);
      quiet = Changes-said own fault old new changes_own;
      ready = ready_within;
      rests = changes_own.rests;
      script = changes_own.script;
    }
