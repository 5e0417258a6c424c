-- Changes of pools that write no word of an open transaction: what they do with all these words masked, they do beside
-- the transactions.
use Rattle.std.proofs.Common.{◌≡◌, ◌⊎◌, inl, inr, ℕ, zero, suc, ◌+◌, ◌<◌, ◌≤◌, true, false, not, List, [], ◌∷◌, take, Option, Some, None, refl, sym, ap, subst, ◌∙◌, arith, length-take-le, eqb-true, ne_eqb}
use Rattle.std.specs.Prelude.{⊤}
use Rattle.std.specs.Ordering.{eq_by_cmp}
use Rattle.std.specs.Cmp.{Equal-is}
use Rattle.std.specs.Cmp.Lexicographic.{nat_list_cmp_total}
use Rattle.std.specs.FinMap.Entries.{find, put, find-put, find-where_key}
use Rattle.std.proofs.lemmas.Bool.{cases_Bool, cond-true, cond-false}
use Rattle.pm_model.specs.declared.host.HostFault.{HostFault}
use Rattle.pm_model.specs.declared.host.HostFault.TheVariants.{Cut}
use Rattle.pm_model.specs.Words.{Cell, Words, HasOnly, IsRested, reads}
use Rattle.pm_model.specs.Moments.{State}
use Rattle.pm_model.specs.Changes.{Write, written, Changes, Silently}
use Rattle.pm_model.specs.Masks.{masked, masked_state, IsOff}
use Rattle.pm_model.proofs.Leaves.{Leaves-still, Leaves-weaker}
use Rattle.pm_model.proofs.Masks.{masked-elsewhere, reads-masked}
use Rattle.pm_persist.proofs.Ranges.{placed_within}
use Rattle.pud_defs.specs.declared.layout.TheConstants.{DAEMON_LOG, SPACE_TABLE, PUDDLE_TABLE, TYPE_TABLE}
use Rattle.pud_defs.specs.declared.records.TheConstants.{POOL_RECORDS}
use Rattle.pud_defs.specs.declared.records.Put.{Put}
use Rattle.pud_defs.specs.Formats.Image.{Image}
use Rattle.pud_defs.specs.Logging.Entries.{Entry}
use Rattle.pud_defs.specs.Formats.Frames.{frame_at, fresh_frame}
use Rattle.pud_defs.specs.Formats.Layout.{tables_end, frames_at}
use Rattle.pud_defs.specs.RegistryTables.Keyed.{first_free, without}
use Rattle.pud_defs.specs.Formats.Names.{name_cmp}
use Rattle.pud_defs.specs.RegistryTables.Pools.{pool_record_at}
use Rattle.pud_defs.specs.RegistryTables.Puddles.{Member, puddle_record_at}
use Rattle.pud_defs.specs.RegistryTables.Puts.{is_of_pool}
use Rattle.pud_defs.specs.Logging.Replay.{value_at}
use Rattle.pud_defs.specs.RegistryTables.Tables.{Tables, Pool, tables_of}
use Rattle.pud_defs.specs.RegistryTables.Types.{map_of}
use Rattle.pud_defs.specs.PoolGraphs.Graph.{graph_of}
use Rattle.pud_defs.specs.StateMachine.PoolChanges.{pool_named}
use Rattle.pud_defs.specs.StateMachine.Step.{graph_in}
use Rattle.pud_defs.specs.StateMachine.World.{StoredWorld, World, idle_world_of, closed}
use Rattle.pud_defs.proofs.KeyedTables.Keyed.{first_free_some}
use Rattle.pud_defs.proofs.RegistryTables.PoolsChanged.{same_name}
use Rattle.pud_defs.proofs.RegistryTables.Spaces.{owner_of-same}
use Rattle.pud_defs.proofs.RegistryTables.TablesOf.{frames_of_tables}
use Rattle.batch.specs.Batches.{batch_write, AreBatched, HasIdleGate, ByBatch}
use Rattle.batch.specs.Tables.{HasDurableTables}
use Rattle.batch.proofs.Tables.{StaysDurable, HasDurableTables-changed, reads_kept}
use Rattle.registry.specs.Puts.{puts_batch, AreOfPools, ByPools}
use Rattle.registry.specs.declared.adding.NewPuddle.{NewPuddle}
use Rattle.registry.specs.Adding.{frame_write, filling, PersistsThenCommits, IsOffAdding}
use Rattle.registry.specs.Pools.{making, new_record, changing, freeing, dropping, OrStill, CommitsPuts, MakesSomewhere, IsOffMaking, MayStand, ChangesPools}
use Rattle.registry.proofs.PutBatches.{puts_batched, lies_fit, either_some}
use Rattle.registry.proofs.Made.{making_of}
use Rattle.registry.proofs.Changed.{changing_of, dropping_of}
use Rattle.daemon_memory.specs.Memory.{ActiveTransaction, Memory, active_under}
use Rattle.daemon_memory.specs.ActiveTransactions.{AreActive, HasIdleLogs, ByOthers, NamesNone, LeavesMasked, KeepsActive}
use Rattle.daemon_memory.specs.Ready.{IsReady, AppliesMasked}
use Rattle.daemon_memory.proofs.Commands.Beside.{unmasked_before, names_none_idle}
use Rattle.daemon_memory.proofs.Commands.Beneath.{LeavesMasked-changes, LeavesMasked-commits, LeavesMasked-then, table_reads, table_reads-kept, persisted_single, logs_kept}
use Rattle.daemon_memory.proofs.PoolChanges.PoolsBeside.{IsOfOthers, unmasked_pool, unmasked_puddle, unmasked_frame, active_pool}
use Rattle.registry.proofs.Filled.{length-fresh_frame}

-- ---- changes of records that write no masked word

-- No word of these changes is masked.
abbrev pub AreOff : Write → List Put → Type 0
AreOff mask [] = ⊤
AreOff mask (p ∷ puts) = ((k : ℕ) → p.w ≤ k → k < p.w + p.n → mask k ≡ None) × AreOff mask puts

-- No word that their batch writes is masked.
pub puts_off : (F : ℕ) (mask : Write) (puts : List Put) (k v : ℕ) → AreOfPools F puts → AreOff mask puts → batch_write (puts_batch puts) k ≡ Some v → mask k ≡ None
unfolding batch_write
puts_off F mask [] k v of off is = absurd (let no : None ≡ Some v = is in cc)
puts_off F mask (p ∷ puts) k v of off is = elim (either_some (value_at p.w (take p.n p.vals) k) (batch_write (puts_batch puts) k) v is) [
  | inl later ↦ puts_off F mask puts k v of.1 off.1 later
  | inr first ↦
      let within = placed_within p.w k v (take p.n p.vals) first in
      let high = within.1 in
      off.0 k within.0 (omega (arith, length-take-le p.n p.vals (lies_fit F p of.0)))
]

masked_not : (mask : Write) (k x : ℕ) → mask k ≡ Some x → mask k ≡ None → ⊥
masked_not mask k x is none = let it : Some x ≡ None = sym is ∙ none in cc

module _ (w : World) (active : List (Option ActiveTransaction)) (mask : Write) (words : Words) (holds : AreActive w active mask words) where
  abbrev F : ℕ
  F = w.stored.frames

  abbrev t : Tables
  t = tables_of F (reads words)

  pub IsOff-puts : (puts : List Put) → AreOfPools F puts → AreOff mask puts → IsOff mask (ByBatch DAEMON_LOG (puts_batch puts))
  IsOff-puts puts of off = record {
    apart = λ k x v is may. masked_not mask k x is (elim may [
      | inl log ↦ let high = log.high in unmasked_before w active mask words holds k (omega arith)
      | inr named ↦ puts_off F mask puts k named.value of off named.is
    ]);
  }

  -- ---- a pool is made

  -- A free slot is not the slot of a pool on which a transaction is active.
  pub free_apart : (slot : ℕ) → t.pools slot ≡ None → (number : ℕ) (h : ActiveTransaction) → active_under active number ≡ Some h → slot ≡ h.slot → ⊥
  free_apart slot free number h there same =
      let pool = active_pool w active mask words holds number h there in
      let no : None ≡ Some pool.rec = sym free ∙ ap t.pools same ∙ pool.used in
      cc

  pub free_others : (frame : ℕ) → t.puddles frame ≡ None → IsOfOthers active (t.puddles frame)
  free_others frame free number h there = ap (is_of_pool h.slot) free

  -- The lowest free slot.
  module _ (slot : ℕ) (first : first_free t.pools 0 POOL_RECORDS ≡ Some slot) where
    slot_below : slot < POOL_RECORDS
    slot_below = let free = first_free_some t.pools 0 POOL_RECORDS slot first in let high = free.high in omega arith

    new_slot : (k : ℕ) → pool_record_at slot ≤ k → k < pool_record_at (slot + 1) → mask k ≡ None
    new_slot k low high = unmasked_pool w active mask words holds slot k slot_below (free_apart slot (first_free_some t.pools 0 POOL_RECORDS slot first).free) low high

  -- The lowest free frame.
  module _ (frame : ℕ) (first : first_free t.puddles 0 t.frames ≡ Some frame) where
    pub frame_below : frame < F
    frame_below = let free = first_free_some t.puddles 0 t.frames frame first in let high = free.high in omega (arith, frames_of_tables F (reads words))

    frame_free : t.puddles frame ≡ None
    frame_free = (first_free_some t.puddles 0 t.frames frame first).free

    pub new_frame : (k : ℕ) → puddle_record_at frame ≤ k → k < puddle_record_at (frame + 1) → mask k ≡ None
    new_frame k low high = unmasked_puddle w active mask words holds frame k frame_below (free_others frame frame_free) low high

    pub filling_off : (number ordinal : ℕ) → IsOff mask (written (frame_write t.frames frame number ordinal))
    filling_off number ordinal = record {
      apart = λ k x v is may.
          let within = placed_within (frame_at t.frames frame) k v (fresh_frame number ordinal) may in
          let low = within.0 in
          let high = within.1 in
          masked_not mask k x is (unmasked_frame w active mask words holds frame k frame_below (free_others frame frame_free)
          (omega (arith, frames_of_tables F (reads words))) (omega (arith, frames_of_tables F (reads words), length-fresh_frame number ordinal)));
    }

  pub off_making : (next : ℕ) (name : List ℕ) (uid gid mode : ℕ) → IsOffMaking mask t next name uid gid mode
  off_making next name uid gid mode = record {
    each = λ a for.
        let r = new_record name uid gid mode next in
        record {
          frame = filling_off a.frame for.puddle.frame a.puddle.number a.puddle.ordinal;
          records = IsOff-puts (making r a) (making_of F r a (frame_below a.frame for.puddle.frame) (slot_below a.puddle.pool for.slot)) (
            λ k low high. new_slot a.puddle.pool for.slot k low (omega arith),
            (λ k low high. unmasked_before w active mask words holds k (omega arith), (λ k low high. new_frame a.frame for.puddle.frame k low (omega arith), tt)),
          );
        };
  }

  -- ---- a pool on which no transaction is active is changed, or dropped

  module _ (slot : ℕ) (within : slot < POOL_RECORDS) (apart : (number : ℕ) (h : ActiveTransaction) → active_under active number ≡ Some h → slot ≡ h.slot → ⊥) where
    pub off_changing : (mode : ℕ) → IsOff mask (ByBatch DAEMON_LOG (puts_batch (changing slot mode)))
    off_changing mode =
        IsOff-puts (changing slot mode) (changing_of F slot mode within)
        (λ k low high. unmasked_pool w active mask words holds slot k within apart (omega arith) (omega arith), tt)

    of_one : (s : ℕ) (m : Option Member) → (slot ≡ s → ⊥) → is_of_pool slot m ≡ true → is_of_pool s m ≡ false
    of_one s None other of = refl
    of_one s (Some m) other of =
        let pool : m.pool ≡ slot + 1 = eqb-true m.pool (slot + 1) of in
        ne_eqb m.pool (s + 1) (λ same. other (omega arith))

    freeing_off : (frame count : ℕ) → frame + count ≤ F → AreOff mask (freeing t.puddles slot frame count)
    unfolding freeing
    freeing_off frame zero below = tt
    freeing_off frame (suc count) below = elim (cases_Bool (is_of_pool slot (t.puddles frame))) [
      | inl of ↦ subst (AreOff mask) (sym (cond-true _ _ _ of)) (
        λ k low high. unmasked_puddle w active mask words holds frame k (omega arith) (λ number h there. of_one h.slot (t.puddles frame) (apart number h there) of) low (omega arith),
        freeing_off (frame + 1) count (omega arith),
      )
      | inr other ↦ subst (AreOff mask) (sym (cond-false _ _ _ other)) (freeing_off (frame + 1) count (omega arith))
    ]

    pub off_dropping : IsOff mask (ByBatch DAEMON_LOG (puts_batch (dropping t slot)))
    off_dropping =
        IsOff-puts (dropping t slot) (dropping_of F t slot within (omega (arith, frames_of_tables F (reads words))))
        (λ k low high. unmasked_pool w active mask words holds slot k within apart low (omega arith), freeing_off 0 t.frames (omega (arith, frames_of_tables F (reads words))))

-- ---- what they do beside the transactions

not_spaces : (F k v : ℕ) → SPACE_TABLE ≤ k → k < PUDDLE_TABLE → ByPools F k v → ⊥
not_spaces F k v low high (inl log) = let to = log.high in absurd (omega arith)
not_spaces F k v low high (inr (inl (inl word))) = let to = word.high in absurd (omega arith)
not_spaces F k v low high (inr (inl (inr (inl word)))) = let to = word.high in absurd (omega arith)
not_spaces F k v low high (inr (inl (inr (inr word)))) = let from = word.low in absurd (omega arith)
not_spaces F k v low high (inr (inr (inl frame))) = let from = frame.low in absurd (omega arith)
not_spaces F k v low high (inr (inr (inr type))) = let to = type.high in absurd (omega arith)

-- They write no word of a client's log.
not_logs : (F k v : ℕ) → tables_end F ≤ k → k < frames_at F → ByPools F k v → ⊥
not_logs F k v low high (inl log) = let to = log.high in absurd (omega arith)
not_logs F k v low high (inr (inl (inl word))) = let to = word.high in absurd (omega arith)
not_logs F k v low high (inr (inl (inr (inl word)))) = let to = word.high in absurd (omega arith)
not_logs F k v low high (inr (inl (inr (inr word)))) = let to = word.high in absurd (omega arith)
not_logs F k v low high (inr (inr (inl frame))) = let from = frame.low in absurd (omega arith)
not_logs F k v low high (inr (inr (inr type))) = let to = type.high in absurd (omega arith)

module _ (size : ℕ) (w : World) (memory : Memory) (next : StoredWorld) (also : Image → Type 0) (fault : Option HostFault) (old new : State) (ready : IsReady size w memory old)
    (b : LeavesMasked ready.mask fault old new) (p : ChangesPools size w.stored next also fault (masked_state ready.mask old) (masked_state ready.mask new)) where
  stays_durable : fault ≡ None → (k : ℕ) (x : Option ℕ) → ready.mask k ≡ x → (k < DAEMON_LOG) ⊎ (TYPE_TABLE ≤ k) → k < tables_end w.stored.frames → StaysDurable (ByOthers ready.mask) new k
  stays_durable none k None is outside below = inr (subst (λ (c : Cell). HasOnly c c.newest) (masked-elsewhere ready.mask new.now.words k is) ((p.tables none).each k outside below))
  stays_durable none k (Some x) is outside below = inl (λ v m. masked_not ready.mask k x is m)

  tables_then : fault ≡ None → HasDurableTables w.stored.frames new.now.words
  tables_then none = HasDurableTables-changed w.stored.frames (ByOthers ready.mask) fault old new b.changes (λ k outside below. stays_durable none k (ready.mask k) refl outside below) ready.tables

  space_then : fault ≡ None → (k : ℕ) → SPACE_TABLE ≤ k → k < PUDDLE_TABLE → reads new.now.words k ≡ reads old.now.words k
  space_then none k low high =
      let mask = ready.mask in
      let beside = subst (λ (f : Option HostFault). Changes (ByOthers mask) f old new) none b.changes in
      let changes = subst (λ (f : Option HostFault). Changes (ByPools w.stored.frames) f (masked_state mask old) (masked_state mask new)) none p.changes in
      let now = λ (words : Words). ap (λ (i : Image). i k) (reads-masked mask words) in
      sym (table_reads-kept w memory.active mask old new ready.active beside k (omega arith))
      ∙ sym (now new.now.words)
      ∙ reads_kept (ByPools w.stored.frames) (masked_state mask old) (masked_state mask new) k changes (λ v. not_spaces w.stored.frames k v low high)
      ∙ now old.now.words
      ∙ table_reads w memory.active mask old.now.words ready.active k (omega arith)

  pub AppliesMasked-pools : next.frames ≡ w.stored.frames → AppliesMasked size w (record w { stored = next }) ready.mask fault old new
  AppliesMasked-pools frames = record {
    beside = b;
    moments = Leaves-weaker (Silently (MayStand size w.stored next also)) (Silently (λ image. (idle_world_of size image ≡ Some (closed w)) ⊎ (idle_world_of size image ≡ Some next))) (masked_state ready.mask old) (masked_state ready.mask new)
        (λ bytes image m. (m.0, elim m.1 [ inl before ↦ inl before | inr after ↦ inr after.0 ])) p.moments;
    settled = p.settled;
    tables = λ none. subst (λ (n : ℕ). HasDurableTables n new.now.words) (sym frames) (tables_then none);
    logs = λ none. subst (λ (n : ℕ). HasIdleLogs n w.clients (masked ready.mask new.now.words)) (sym frames)
        (logs_kept w.stored.frames w.clients (ByPools w.stored.frames) fault (masked_state ready.mask old) (masked_state ready.mask new) p.changes (λ k v low high. not_logs w.stored.frames k v low high) ready.logs);
    clients = λ none client low. owner_of-same (reads new.now.words) (reads old.now.words) client low (λ k from to. space_then none k from to) ∙ ready.clients client low;
    shelf = refl;
  }

-- ---- what stays of the pools on which a transaction is active

pub KeepsActive-stored : (w : World) (next : StoredWorld) (active : List (Option ActiveTransaction)) → next.frames ≡ w.stored.frames → next.types ≡ w.stored.types
    → ((number : ℕ) (h : ActiveTransaction) → active_under active number ≡ Some h → pool_named h.name next ≡ pool_named h.name w.stored) → KeepsActive w (record w { stored = next }) active
KeepsActive-stored w next active frames types pool = record {
  frames = frames;
  transactions = refl;
  present = λ number h there. refl;
  stored = λ number h there. ap graph_in (pool number h there);
  types = λ id m is. ap (map_of id) types ∙ is;
  graphs = λ st g is. ap (λ (ts : List (ℕ × ℕ)). graph_of ts st) types ∙ is;
}

-- Two different names do not compare as equal.
names_apart : (x y : List ℕ) → (x ≡ y → ⊥) → eq_by_cmp name_cmp x y ≡ false
names_apart x y apart = elim (cases_Bool (eq_by_cmp name_cmp x y)) [
  | inl is ↦ absurd (apart (same_name x y ((Equal-is (name_cmp x y)).0 is)))
  | inr other ↦ other
]

pub found_beside_put : (name other : List ℕ) (p : Pool) (ps : List (List ℕ × Pool)) → (other ≡ name → ⊥) → find name_cmp other (put name_cmp name p ps) ≡ find name_cmp other ps
found_beside_put name other p ps apart = find-put name_cmp nat_list_cmp_total other name p ps ∙ cond-false _ _ _ (names_apart other name apart)

pub found_beside_without : (name other : List ℕ) (ps : List (List ℕ × Pool)) → (other ≡ name → ⊥) → find name_cmp other (without name_cmp name ps) ≡ find name_cmp other ps
found_beside_without name other ps apart =
    find-where_key name_cmp (λ (x : List ℕ). not (eq_by_cmp name_cmp name x)) other (λ x tied. ap (λ (y : List ℕ). not (eq_by_cmp name_cmp name y)) (sym (same_name other x tied))) ps
    ∙ cond-true _ _ _ (ap not (names_apart name other (λ same. apart (sym same))))

-- ---- what calls on pools do beside the transactions

-- Nothing happened.
pub LeavesMasked-still : (mask : Write) (fault : Option HostFault) (old new : State) → HasIdleGate DAEMON_LOG old.now.words → (fault ≡ Some Cut → IsRested new.now.words) → new ≡ old → LeavesMasked mask fault old new
LeavesMasked-still mask fault old new idle rests same =
    subst (λ (n : State). (fault ≡ Some Cut → IsRested n.now.words) → LeavesMasked mask fault old n) (sym same) (λ rests. record {
      changes = record {
        added = [];
        history = refl;
        quiet = λ m h. absurd h;
        within = λ m h k v. absurd h;
        keeps = λ not_cut k none. record { newest = refl; marked = λ marked. marked };
        rests = rests;
        script = refl;
        shelf = refl;
      };
      names = Leaves-still (Silently (NamesNone mask)) old old (λ image picked. (refl, names_none_idle mask image (idle.each (image DAEMON_LOG) (picked.each DAEMON_LOG)))) refl;
      single = λ none. record { each = λ k outside one. one };
    }) rests

-- A batch was committed, or nothing happened.
pub LeavesMasked-puts : (mask : Write) (puts : List Put) (fault : Option HostFault) (old new : State) → IsOff mask (ByBatch DAEMON_LOG (puts_batch puts)) → HasIdleGate DAEMON_LOG old.now.words
    → (fault ≡ Some Cut → IsRested new.now.words) → OrStill (CommitsPuts puts) fault old new → LeavesMasked mask fault old new
LeavesMasked-puts mask puts fault old new off idle rests (inl still) = LeavesMasked-still mask fault old new idle rests still.0
LeavesMasked-puts mask puts fault old new off idle rests (inr commits) = LeavesMasked-commits mask (puts_batch puts) fault old new off (puts_batched puts) commits

-- Words were made durable, and then a batch was committed.
pub LeavesMasked-filled : (mask write : Write) (es : List Entry) (fault : Option HostFault) (old new : State) → IsOff mask (written write) → IsOff mask (ByBatch DAEMON_LOG es) → ((v : ℕ) → written write DAEMON_LOG v → ⊥)
    → AreBatched es → HasIdleGate DAEMON_LOG old.now.words → PersistsThenCommits write es fault old new → LeavesMasked mask fault old new
LeavesMasked-filled mask write es fault old new off_write off apart batched idle c =
    let first : LeavesMasked mask c.first old c.mid = LeavesMasked-changes mask (written write) c.first old c.mid off_write apart idle (persisted_single write c.first old c.mid c.persists) c.persists.changes in
    elim c.then [
      | inl end ↦ subst (λ (s : State). LeavesMasked mask fault old s) (sym end.0) (subst (λ (f : Option HostFault). LeavesMasked mask f old c.mid) (sym end.1) first)
      | inr on ↦ LeavesMasked-then mask fault old c.mid new (subst (λ (f : Option HostFault). LeavesMasked mask f old c.mid) on.0 first) (LeavesMasked-commits mask es fault c.mid new off batched on.1)
    ]

-- A puddle was added.
pub LeavesMasked-adds : (mask : Write) (F : ℕ) (a : NewPuddle) (puts : List Put) (fault : Option HostFault) (old new : State) → IsOffAdding mask F a puts → HasIdleGate DAEMON_LOG old.now.words
    → PersistsThenCommits (filling F a) (puts_batch puts) fault old new → LeavesMasked mask fault old new
LeavesMasked-adds mask F a puts fault old new off idle commits =
    LeavesMasked-filled mask (filling F a) (puts_batch puts) fault old new off.frame off.records
    (λ v may. let within = placed_within (frame_at F a.frame) DAEMON_LOG v (fresh_frame a.puddle.number a.puddle.ordinal) may in let low = within.0 in absurd (omega arith))
    (puts_batched puts) idle commits

-- A pool was made somewhere.
pub LeavesMasked-makes : (mask : Write) (t : Tables) (next : ℕ) (name : List ℕ) (uid gid mode : ℕ) (fault : Option HostFault) (old new : State) → IsOffMaking mask t next name uid gid mode
    → HasIdleGate DAEMON_LOG old.now.words → (fault ≡ Some Cut → IsRested new.now.words) → OrStill (MakesSomewhere t next name uid gid mode) fault old new → LeavesMasked mask fault old new
LeavesMasked-makes mask t next name uid gid mode fault old new off idle rests (inl still) = LeavesMasked-still mask fault old new idle rests still.0
LeavesMasked-makes mask t next name uid gid mode fault old new off idle rests (inr m) =
    LeavesMasked-adds mask t.frames m.added (making (new_record name uid gid mode next) m.added) fault old new (off.each m.added m.is) idle m.commits
