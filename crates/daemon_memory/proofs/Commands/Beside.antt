-- What a command does beside the active transactions, as it follows from what it does with their words masked.
use Rattle.std.proofs.Common.{◌≡◌, ◌≢◌, ◌⊎◌, inl, inr, ℕ, ◌+◌, ◌<◌, true, false, List, Option, Some, None, refl, sym, ap, subst, ◌∙◌, arith}
use Rattle.std.proofs.lemmas.Bool.{and_from, le-leb, lt-ltb, or_left, or_right, cases_Bool}
use Rattle.std.proofs.lemmas.Option.{none-some, same_Some}
use Rattle.pm_model.specs.declared.host.HostFault.{HostFault}
use Rattle.pm_model.specs.Words.{Has, Cell, values, Words, reads, Picks, HasOnly}
use Rattle.pm_model.specs.Moments.{State}
use Rattle.pm_model.specs.Changes.{Write, Footprint, Changes, Leaves, Silently}
use Rattle.pm_model.specs.Masks.{masked_cell, masked, masked_image}
use Rattle.pm_model.proofs.Changes.{Changes-said}
use Rattle.pm_model.proofs.Leaves.{HasOrigin, Leaves-both, Leaves-weaker, Leaves-changes}
use Rattle.pm_model.proofs.Masks.{masked-elsewhere, Picks-masked, Leaves-unmasked}
use Rattle.pud_defs.specs.declared.layout.TheConstants.{DAEMON_LOG, LOG_WORDS, POOL_TABLE}
use Rattle.pud_defs.specs.Formats.Image.{Image}
use Rattle.pud_defs.specs.Logging.Entries.{log_of, is_idle_gate}
use Rattle.pud_defs.specs.Logging.Replay.{device_word, IsInLog, is_in_log}
use Rattle.pud_defs.specs.PoolGraphs.Stored.{Stored, IsOnDevice, stored_in}
use Rattle.pud_defs.specs.PoolGraphs.Graph.{Graph, graph_of}
use Rattle.pud_defs.specs.StateMachine.PoolChanges.{pool_named}
use Rattle.pud_defs.specs.RegistryTables.Puddles.{Member}
use Rattle.pud_defs.specs.StateMachine.Step.{graph_in}
use Rattle.pud_defs.specs.Logging.Settled.{log_number_at}
use Rattle.pud_defs.specs.RegistryTables.Types.{map_of}
use Rattle.pud_defs.specs.StateMachine.World.{Transaction, World, StoredWorld, world_of, idle_world_of, closed, open_on}
use Rattle.pud_defs.proofs.Logging.Replay.{empty_range_of, new_value-closed, outside_log}
use Rattle.hybrid_tx.specs.PoolScopes.{pool_has_word, pool_scope, finished_of}
use Rattle.hybrid_tx.specs.Open.Masks.{OpenPool, is_open_record, open_mask, IsOpenPool, IsLeftOpen}
use Rattle.hybrid_tx.specs.Open.ManyOpen.{OpenTransaction, Opens, MasksAll, AreOpenPools, HasRecords, AreLeftOpen}
use Rattle.hybrid_tx.proofs.Open.ManyMasks.{masks_below, opens_apart, two_logs, log_or_own, mine_or_record}
use Rattle.hybrid_tx.proofs.Open.OpenMasks.{open_record_place, mask_of_mine, mask_of_record, mask_of_log}
use Rattle.hybrid_tx.proofs.Open.OpenPools.{open_on_device}
use Rattle.hybrid_tx.proofs.Open.OpenSettled.{nothing_given}
use Rattle.hybrid_tx.proofs.Open.OpenWorlds.{world_with_masked, none_refused_with_masked}
use Rattle.hybrid_tx.specs.Objects.Transactions.{IsOpenOn, RestsAs}
use Rattle.hybrid_tx.proofs.Objects.Opening.{stored_in-has_word}
use Rattle.hybrid_tx.proofs.Objects.DeferredKept.{KeepsObjects-same, place_in_pool-stored, AreDeferredEntries-wider, keeps_prefix}
use Rattle.batch.specs.Tables.{HasDurableTables}
use Rattle.nesting.specs.declared.Session.{Session}
use Rattle.word_transaction.specs.Running.{RecoversTo, ByTransaction}
use Rattle.word_transaction.proofs.Calls.{IsRunning-kept}
use Rattle.word_transaction.proofs.Images.{RecoversTo-local, IsRunning-recovers}
use Rattle.pm_model.proofs.Words.{HasOnly-newest}
use Rattle.daemon_memory.specs.Memory.{ActiveTransaction, Memory, active_under}
use Rattle.daemon_memory.specs.ActiveTransactions.{open_pool_of, open_transaction_of, IsActive, IsActiveUnder, AreActive, HasSessions, HasDurableFrames, ByOthers, NamesNone, StaysSingle, KeepsActive}
use Rattle.daemon_memory.specs.KnownPools.{KnowsPools}
use Rattle.daemon_memory.specs.Moves.{LeavesPuddles}
use Rattle.daemon_memory.specs.Ready.{IsReady, RefusesNone, StandsBetween, AppliesMasked, AppliesBy}
use Rattle.batch.proofs.Tables.{reads_kept}

-- ---- moments

-- Each image left while words change has what is claimed about it, and it comes from an image of the start.
pub Leaves-from : (P : Image → Type 0) (may : Footprint) (fault : Option HostFault) (old new : State) → Changes may fault old new → Leaves (Silently P) old new
    → Leaves (Silently (λ image. P image × HasOrigin may old.now.words image)) old new
Leaves-from P may fault old new c l =
    Leaves-both P (HasOrigin may old.now.words) old new l
    (Leaves-changes (HasOrigin may old.now.words) may fault old new (λ before image picked from. record { before = before; picked = picked; from = from }) c)

-- ---- one image

-- The image stands for the world of this many frames that it stands for when it is masked, and none of its registered
-- logs is refused.
pub record IsUnderMask (size F : ℕ) (mask : Write) (image : Image) : Type 0 where
  pub stands : (s : StoredWorld) → F ≡ s.frames → idle_world_of size (masked_image mask image) ≡ Some s → world_of size image ≡ Some s
  pub none : (s : StoredWorld) → F ≡ s.frames → idle_world_of size (masked_image mask image) ≡ Some s → RefusesNone image

in_log : (at k : ℕ) → IsInLog at k → is_in_log at k ≡ true
in_log at k inside = and_from _ _ (le-leb at k inside.low) (lt-ltb k (at + LOG_WORDS) inside.high)

-- No word that may be written is in the transaction's log, in the frames of its finished puddles, or in the records
-- that it rests on.
pub record IsApart (F : ℕ) (active : ActiveTransaction) (p : OpenPool) (may : Footprint) : Type 0 where
  pub log : (k v : ℕ) → may k v → IsInLog active.tx.log.gate_at k → ⊥
  pub has_word : (k v : ℕ) → may k v → pool_has_word F (finished_of p.puddles) k ≡ true → ⊥
  pub records : (k v : ℕ) → may k v → is_open_record p k ≡ true → ⊥

-- The next world has the same as this one for one active transaction.
pub record KeepsOne (w next : World) (active : ActiveTransaction) : Type 0 where
  pub frames : next.stored.frames ≡ w.stored.frames
  pub transaction : open_on active.name next ≡ open_on active.name w
  pub present : next.clients active.client ≡ w.clients active.client
  pub stored : graph_in (pool_named active.name next.stored) ≡ graph_in (pool_named active.name w.stored)
  pub types : (id m : ℕ) → map_of id w.stored.types ≡ Some m → map_of id next.stored.types ≡ Some m
  pub graphs : (st : Stored) (g : Graph) → graph_of w.stored.types st ≡ Some g → graph_of next.stored.types st ≡ Some g

pub keeps_one : (w next : World) (active : List (Option ActiveTransaction)) → KeepsActive w next active → (number : ℕ) (h : ActiveTransaction) → active_under active number ≡ Some h → KeepsOne w next h
keeps_one w next active keeps number h there = record {
  frames = keeps.frames;
  transaction = ap (λ (o : List ℕ → Option Transaction). o h.name) keeps.transactions;
  present = keeps.present number h there;
  stored = keeps.stored number h there;
  types = keeps.types;
  graphs = keeps.graphs;
}

module _ (w : World) (active : ActiveTransaction) (mask : Write) (words : Words) (is : IsActive w active mask words) where
  abbrev F : ℕ
  F = w.stored.frames

  abbrev p : OpenPool
  p = open_pool_of active is.puddles is.rec is.own.who

  on_device : IsOnDevice F (finished_of is.puddles)
  on_device = open_on_device F p is.before is.pool

  -- Each word of the log, of the frames of the pool's finished puddles and of the transaction's records is masked.
  pub log_masked : (k : ℕ) → IsInLog active.tx.log.gate_at k → mask k ≡ None → ⊥
  log_masked k inside none =
      let there = subst (λ (n : ℕ). IsInLog n k) is.own.gate inside in
      let m = mask_of_log F p is.before k (in_log (log_number_at F active.log_number) k there) in
      none-some m.0 (sym none ∙ is.masked k m.0 m.1)

  pub own_masked : (k : ℕ) → pool_has_word F (finished_of is.puddles) k ≡ true → mask k ≡ None → ⊥
  own_masked k mine none = none-some (is.before k) (sym none ∙ is.masked k (is.before k) (mask_of_mine F p is.before k is.pool.known mine))

  pub record_masked : (k : ℕ) → is_open_record p k ≡ true → mask k ≡ None → ⊥
  record_masked k of none =
      let place = open_record_place F p k is.pool.slot is.pool.known on_device of in
      none-some (is.before k) (sym none ∙ is.masked k (is.before k) (mask_of_record F p is.before k place.high of))

  -- So what others write is apart from it.
  pub others_apart : IsApart F active p (ByOthers mask)
  others_apart = record {
    log = λ k v none inside. log_masked k inside none;
    has_word = λ k v none mine. own_masked k mine none;
    records = λ k v none of. record_masked k of none;
  }

  -- An image that may be left has the transaction's records as they were.
  pub record_picked : HasDurableTables F words → (image : Image) → Picks words image → (k : ℕ) → is_open_record p k ≡ true → image k ≡ is.before k
  record_picked tables image picked k of =
      let place = open_record_place F p k is.pool.slot is.pool.known on_device of in
      let low = place.low in
      (tables.each k (inr (omega arith)) place.high).each (image k) (picked.each k) ∙ is.records k of

  module _ (may : Footprint) (apart : IsApart F active p may) where
    -- An image that is left by calls that write none of the transaction's words has the transaction open.
    module _ (tables : HasDurableTables F words) (image : Image) (o : HasOrigin may words image) (names : NamesNone mask image) where
      same : (k : ℕ) → ((v : ℕ) → may k v → ⊥) → image k ≡ o.before k
      same k never = elim (o.from.each k) [ inl e ↦ e | inr wrote ↦ absurd (never (image k) wrote) ]

      was_record : (k : ℕ) → is_open_record p k ≡ true → o.before k ≡ is.before k
      was_record k of = record_picked tables o.before o.picked k of

      pub left_apart : IsLeftOpen F p is.before image
      left_apart = record {
        unnamed = λ k v e. names.each k v (is.masked k v e);
        records = λ k of. same k (λ v wrote. apart.records k v wrote of) ∙ was_record k of;
        recovers = subst (λ (n : ℕ). RecoversTo (pool_scope F (finished_of is.puddles)) n is.before image) is.own.gate
            (RecoversTo-local (pool_scope F (finished_of is.puddles)) active.tx.log.gate_at is.before o.before image
            (λ k inside. same k (λ v wrote. apart.log k v wrote inside)) (λ k mine. same k (λ v wrote. apart.has_word k v wrote mine))
            (IsRunning-recovers (pool_scope F (finished_of is.puddles)) active.tx.log is.running.saving.es is.before o.before words is.running.saving.running o.picked));
      }

-- ---- the active transactions stay

module _ (w next : World) (active : ActiveTransaction) (mask renewed : Write) (old new : State) (is : IsActive w active mask old.now.words) (keeps : KeepsOne w next active) (may : Footprint)
    (apart : IsApart w.stored.frames active (open_pool_of active is.puddles is.rec is.own.who) may) (c : Changes may None old new)
    (masked_so : (k v : ℕ) → open_mask w.stored.frames (open_pool_of active is.puddles is.rec is.own.who) is.before k ≡ Some v → renewed k ≡ Some v)
    (rests : RestsAs w.stored.frames is.puddles is.before new.now.words) where
  abbrev n : ℕ
  n = w.stored.frames

  stored_still : stored_in n is.puddles (reads new.now.words) ≡ stored_in n is.puddles (reads old.now.words)
  stored_still =
      stored_in-has_word n is.puddles (reads old.now.words) (reads new.now.words)
      (λ k mine. elim (cases_Bool (pool_has_word n (finished_of is.puddles) k)) [
        | inl own ↦ reads_kept may old new k c (λ v wrote. apart.has_word k v wrote own)
        | inr other ↦
            HasOnly-newest (new.now.words k) (is.before k) (rests.each k mine other) ∙ sym (HasOnly-newest (old.now.words k) (is.before k) (is.running.rests.each k mine other))
      ])

  pub still_running : IsOpenOn n is.puddles next.stored.types active.tx.log is.before is.graph_before is.own.transaction.now is.own.transaction.deferred new.now.words
  still_running =
      let r = is.running in
      record {
        redo = r.redo;
        saving = record {
          es = r.saving.es;
          running = IsRunning-kept (pool_scope n (finished_of is.puddles)) active.tx.log r.saving.es is.before may None old new c
              (λ k v inside wrote. apart.log k v wrote inside) (λ k v mine wrote. apart.has_word k v wrote mine) r.saving.running;
          defers = r.saving.defers;
        };
        rests = rests;
        was = keeps.graphs (stored_in n is.puddles is.before) is.graph_before r.was;
        is = keeps.graphs (stored_in n is.puddles (reads new.now.words)) is.own.transaction.now
            (ap (graph_of w.stored.types) stored_still ∙ r.is);
        are = AreDeferredEntries-wider n is.puddles is.puddles w.stored.types next.stored.types (reads old.now.words) (reads new.now.words) is.own.transaction.now is.own.transaction.now (keeps_prefix is.puddles is.puddles (λ o e there. there))
            (record { each = keeps.types }) (record { each = λ s o live. place_in_pool-stored n is.puddles (reads old.now.words) (reads new.now.words) stored_still s }) (KeepsObjects-same is.own.transaction.now)
            is.own.transaction.deferred r.redo r.are;
      }

  -- The transaction is still active, with these words masked, after calls that write none of its own words.
  abbrev pub active_still : IsActive next active renewed new.now.words
  active_still =
      let back = sym keeps.frames in
      record {
        rec = is.rec;
        own = record {
          who = is.own.who;
          transaction = is.own.transaction;
          is = keeps.transaction ∙ is.own.is;
          client = is.own.client;
          units = is.own.units;
          present = keeps.present ∙ is.own.present;
          owner = is.own.owner;
          gate = is.own.gate ∙ ap (λ (m : ℕ). log_number_at m active.log_number) back;
        };
        puddles = is.puddles;
        before = is.before;
        graph_before = is.graph_before;
        name = is.name;
        stored = keeps.stored ∙ is.stored;
        pool = subst (λ (m : ℕ). IsOpenPool m (open_pool_of active is.puddles is.rec is.own.who) is.before) back is.pool;
        records = λ k of. reads_kept may old new k c (λ v wrote. apart.records k v wrote of) ∙ is.records k of;
        running = subst (λ (m : ℕ). IsOpenOn m is.puddles next.stored.types active.tx.log is.before is.graph_before is.own.transaction.now is.own.transaction.deferred new.now.words) back still_running;
        masked = subst (λ (m : ℕ). (k v : ℕ) → open_mask m (open_pool_of active is.puddles is.rec is.own.who) is.before k ≡ Some v → renewed k ≡ Some v) back masked_so;
      }

  -- It is active under its number too, if it is open under that number.
  abbrev pub still_under : (opens : Opens) (number : ℕ) → active.log_number ≡ number → opens number ≡ Some (open_transaction_of active is.puddles is.rec is.own.who is.before) → IsActiveUnder next opens renewed new.now.words number active
  still_under opens number its opened = record { is = active_still; number_is = its; opened = opened }

-- ---- all active transactions

-- What is open under a number is what is active under it.
pub record IsOpenAs (w : World) (opens : Opens) (active : List (Option ActiveTransaction)) (mask : Write) (words : Words) (number : ℕ) (o : OpenTransaction) : Type 0 where
  pub one : ActiveTransaction
  pub there : active_under active number ≡ Some one
  pub under : IsActiveUnder w opens mask words number one
  pub same : open_transaction_of one under.is.puddles under.is.rec under.is.own.who under.is.before ≡ o

module _ (w : World) (active : List (Option ActiveTransaction)) (mask : Write) (words : Words) (holds : AreActive w active mask words) where
  abbrev N : ℕ
  N = w.stored.frames

  -- Each transaction in the list is active.
  abbrev pub active_is : (number : ℕ) (h : ActiveTransaction) → active_under active number ≡ Some h → IsActive w h mask words
  active_is number h there = (holds.each number h there).is

  opened_by : (number : ℕ) (o : OpenTransaction) (x : Option ActiveTransaction) → active_under active number ≡ x → holds.opens number ≡ Some o → IsOpenAs w holds.opens active mask words number o
  opened_by number o None e there = absurd (none-some o (sym (holds.none number e) ∙ there))
  opened_by number o (Some h) e there =
      let under = holds.each number h e in
      record { one = h; there = e; under = under; same = same_Some (open_transaction_of h under.is.puddles under.is.rec under.is.own.who under.is.before) o (sym under.opened ∙ there) }

  pub opened_as : (number : ℕ) (o : OpenTransaction) → holds.opens number ≡ Some o → IsOpenAs w holds.opens active mask words number o
  opened_as number o there = opened_by number o (active_under active number) refl there

  -- No transaction is open on a pool on which none is active.
  pub opens_apart_from : (slot : ℕ) → ((number : ℕ) (h : ActiveTransaction) → active_under active number ≡ Some h → h.slot ≢ slot) → (number : ℕ) (o : OpenTransaction) → holds.opens number ≡ Some o → o.pool.slot ≢ slot
  opens_apart_from slot apart number o there same =
      let a = opened_as number o there in
      apart number a.one a.there (ap (λ (t : OpenTransaction). t.pool.slot) a.same ∙ same)

  -- If each active transaction is left open in the image, each open one is.
  module _ (image : Image) (each : (number : ℕ) (h : ActiveTransaction) (there : active_under active number ≡ Some h) (under : IsActiveUnder w holds.opens mask words number h) → IsLeftOpen N (open_pool_of h under.is.puddles under.is.rec under.is.own.who) under.is.before image) where
    pub left_all : AreLeftOpen N holds.opens image
    left_all = record {
      each = λ number o there.
          let a = opened_as number o there in
          subst (λ (t : OpenTransaction). IsLeftOpen N t.pool t.before image) a.same (each number a.one a.there a.under);
    }

  -- What is read has the records of each transaction as they were at its beginning.
  pub records_all : HasRecords holds.opens (reads words)
  records_all = record {
    each = λ number o there k of.
        let a = opened_as number o there in
        a.under.is.records k (ap (λ (t : OpenTransaction). is_open_record t.pool k) a.same ∙ of) ∙ ap (λ (t : OpenTransaction). t.before k) a.same;
  }

  -- A word that belongs to no transaction is not masked.
  pub unmasked_by_all : (k : ℕ) → ((number : ℕ) (h : ActiveTransaction) (there : active_under active number ≡ Some h) (is : IsActive w h mask words) → open_mask N (open_pool_of h is.puddles is.rec is.own.who) is.before k ≡ None) → mask k ≡ None
  unmasked_by_all k each = nothing_given (mask k) (λ v given.
      let m = holds.masks.each k v given in
      let a = opened_as m.number m.transaction m.there in
      none-some v (sym (each m.number a.one a.there a.under.is) ∙ ap (λ (t : OpenTransaction). open_mask N t.pool t.before k) a.same ∙ m.is))

  given_by_one : (k v : ℕ) → ((number : ℕ) (h : ActiveTransaction) (there : active_under active number ≡ Some h)
      → open_mask N (open_pool_of h (holds.each number h there).is.puddles (holds.each number h there).is.rec (holds.each number h there).is.own.who) (holds.each number h there).is.before k ≡ None)
      → (number : ℕ) (o : OpenTransaction) → holds.opens number ≡ Some o → open_mask N o.pool o.before k ≡ Some v → (x : Option ActiveTransaction) → active_under active number ≡ x → ⊥
  given_by_one k v each number o there is None e = none-some o (sym (holds.none number e) ∙ there)
  given_by_one k v each number o there is (Some h) e =
      let under = holds.each number h e in
      let same = same_Some (open_transaction_of h under.is.puddles under.is.rec under.is.own.who under.is.before) o (sym under.opened ∙ there) in
      none-some v (sym (each number h e) ∙ ap (λ (t : OpenTransaction). open_mask N t.pool t.before k) same ∙ is)

  -- The same, by what is known about each transaction.
  pub unmasked_by_each : (k : ℕ) → ((number : ℕ) (h : ActiveTransaction) (there : active_under active number ≡ Some h)
      → open_mask N (open_pool_of h (holds.each number h there).is.puddles (holds.each number h there).is.rec (holds.each number h there).is.own.who) (holds.each number h there).is.before k ≡ None) → mask k ≡ None
  unmasked_by_each k each = nothing_given (mask k) (λ v given.
      let m = holds.masks.each k v given in
      given_by_one k v each m.number m.transaction m.there m.is (active_under active m.number) refl)

  -- No word before the pool table is masked.
  pub unmasked_before : (k : ℕ) → k < POOL_TABLE → mask k ≡ None
  unmasked_before k below = masks_below N holds.opens mask holds.are holds.masks k below

  -- An image that is left with all of them open stands for what it stands for when it is masked.
  module _ (size : ℕ) (image : Image) (left : AreLeftOpen N holds.opens image) where
    pub under_left : IsUnderMask size N mask image
    under_left = record {
      stands = λ s frames idle. world_with_masked size N s holds.opens mask image frames holds.are holds.masks idle left;
      none = λ s frames idle. record { each = none_refused_with_masked size N s holds.opens mask image frames holds.are holds.masks idle left };
    }

  -- So does an image that others leave.
  pub under_mask : (size : ℕ) → HasDurableTables N words → (image : Image) → HasOrigin (ByOthers mask) words image → NamesNone mask image → IsUnderMask size N mask image
  under_mask size tables image origin names =
      under_left size image
      (left_all image (λ number h there under. left_apart w h mask words under.is (ByOthers mask) (others_apart w h mask words under.is) tables image origin names))

  -- ---- the words that one of them may write

  module _ (number other : ℕ) (h g : ActiveTransaction) (here : active_under active number ≡ Some h) (there : active_under active other ≡ Some g) (apart : number ≢ other) where
    abbrev its : IsActiveUnder w holds.opens mask words number h
    its = holds.each number h here

    abbrev others : IsActiveUnder w holds.opens mask words other g
    others = holds.each other g there

    abbrev o : OpenTransaction
    o = open_transaction_of h its.is.puddles its.is.rec its.is.own.who its.is.before

    abbrev q : OpenTransaction
    q = open_transaction_of g others.is.puddles others.is.rec others.is.own.who others.is.before

    in_its_log : (k : ℕ) → IsInLog h.tx.log.gate_at k → is_in_log (log_number_at N h.log_number) k ≡ true
    in_its_log k inside = in_log (log_number_at N h.log_number) k (subst (λ (n : ℕ). IsInLog n k) its.is.own.gate inside)

    in_others_log : (k : ℕ) → IsInLog g.tx.log.gate_at k → is_in_log (log_number_at N g.log_number) k ≡ true
    in_others_log k inside = in_log (log_number_at N g.log_number) k (subst (λ (n : ℕ). IsInLog n k) others.is.own.gate inside)

    -- They are no words of another transaction.
    pub own_apart : IsApart N g (open_pool_of g others.is.puddles others.is.rec others.is.own.who) (ByTransaction (pool_scope N (finished_of its.is.puddles)) h.tx.log.gate_at)
    own_apart = record {
      log = λ k v wrote inside. elim wrote [
        | inl log ↦ two_logs N holds.opens (reads words) holds.are records_all number other o q its.opened others.opened apart k (in_its_log k log) (in_others_log k inside)
        | inr mine ↦ log_or_own N holds.opens (reads words) holds.are records_all other number q o others.opened its.opened (λ same. apart (sym same)) k (in_others_log k inside) (or_left (pool_has_word N (finished_of its.is.puddles) k) _ mine)
      ];
      has_word = λ k v wrote also. elim wrote [
        | inl log ↦ log_or_own N holds.opens (reads words) holds.are records_all number other o q its.opened others.opened apart k (in_its_log k log) (or_left (pool_has_word N (finished_of others.is.puddles) k) _ also)
        | inr mine ↦ let no : true ≡ false = sym also ∙ (opens_apart N holds.opens (reads words) holds.are records_all).each number other o q its.opened others.opened apart k mine in cc
      ];
      records = λ k v wrote of. elim wrote [
        | inl log ↦ log_or_own N holds.opens (reads words) holds.are records_all number other o q its.opened others.opened apart k (in_its_log k log) (or_right (pool_has_word N (finished_of others.is.puddles) k) _ of)
        | inr mine ↦ mine_or_record N holds.opens (reads words) holds.are records_all number other o q its.opened others.opened apart k mine of
      ];
    }

-- The gate of the daemon log is not masked.
pub daemon_log_unmasked : (w : World) (active : List (Option ActiveTransaction)) (mask : Write) (words : Words) → AreActive w active mask words → mask DAEMON_LOG ≡ None
daemon_log_unmasked w active mask words holds = unmasked_before w active mask words holds DAEMON_LOG (omega arith)

-- ---- the active transactions stay beside others

-- For each active transaction the words of the puddles that are not finished rest.
pub record RestAfter (w : World) (active : List (Option ActiveTransaction)) (mask : Write) (words : Words) (holds : AreActive w active mask words) (after : Words) : Type 0 where
  pub each : (number : ℕ) (h : ActiveTransaction) (there : active_under active number ≡ Some h) → RestsAs w.stored.frames (holds.each number h there).is.puddles (holds.each number h there).is.before after

module _ (w next : World) (active : List (Option ActiveTransaction)) (mask : Write) (old new : State) (holds : AreActive w active mask old.now.words) (keeps : KeepsActive w next active) (c : Changes (ByOthers mask) None old new)
    (rests : (number : ℕ) (h : ActiveTransaction) (there : active_under active number ≡ Some h) → RestsAs w.stored.frames (holds.each number h there).is.puddles (holds.each number h there).is.before new.now.words) where
  abbrev pub under_still : (number : ℕ) (h : ActiveTransaction) → active_under active number ≡ Some h → IsActiveUnder next holds.opens mask new.now.words number h
  under_still number h there =
      let under = holds.each number h there in
      still_under w next h mask mask old new under.is (keeps_one w next active keeps number h there) (ByOthers mask) (others_apart w h mask old.now.words under.is) c under.is.masked (rests number h there) holds.opens number
      under.number_is under.opened

  abbrev pub holds_still : AreActive next active mask new.now.words
  holds_still =
      let back = sym keeps.frames in
      record {
        opens = holds.opens;
        are = subst (λ (m : ℕ). AreOpenPools m holds.opens) back holds.are;
        masks = subst (λ (m : ℕ). MasksAll m holds.opens mask) back holds.masks;
        each = under_still;
        none = holds.none;
        known = λ name t is. holds.known name t (ap (λ (o : List ℕ → Option Transaction). o name) (sym keeps.transactions) ∙ is);
        names = holds.names;
      }

-- So do its sessions.
pub sessions_still : (w next : World) (active : List (Option ActiveTransaction)) (sessions : List (Option Session)) → next.transactions ≡ w.transactions → HasSessions w active sessions → HasSessions next active sessions
sessions_still w next active sessions same has = record {
  each = λ number h t there is. has.each number h t there (ap (λ (o : List ℕ → Option Transaction). o h.name) (sym same) ∙ is);
  only = has.only;
}

-- ---- words of the frames

-- A masked word has one value if it had one unmasked, or if it keeps one.
masked_single : (o : Option ℕ) (before after : Cell) → (HasOnly before before.newest → HasOnly after after.newest) → HasOnly (masked_cell o before) (masked_cell o before).newest
    → HasOnly (masked_cell o after) (masked_cell o after).newest
masked_single None before after still one = still one
masked_single (Some v) before after still one = record { each = λ x had. elim had [ inl e ↦ e | inr none ↦ absurd none ] }

pub durable_frames_still : (F : ℕ) (mask : Write) (old new : State) → StaysSingle old new → HasDurableFrames F (masked mask old.now.words) → HasDurableFrames F (masked mask new.now.words)
durable_frames_still F mask old new stays frames = record {
  each = λ k above. masked_single (mask k) (old.now.words k) (new.now.words k) (stays.each k (outside_log DAEMON_LOG k (inr (omega arith)))) (frames.each k above);
}

-- ---- the command

module _ (size : ℕ) (w next : World) (memory : Memory) (fault : Option HostFault) (old new : State) (ready : IsReady size w memory old) (frames : next.stored.frames ≡ w.stored.frames)
    (a : AppliesMasked size w next ready.mask fault old new) where
  abbrev MaskedBetween : Image → Type 0
  MaskedBetween image = (idle_world_of size (masked_image ready.mask image) ≡ Some (closed w)) ⊎ (idle_world_of size (masked_image ready.mask image) ≡ Some (closed next))

  stands_between : (image : Image) → MaskedBetween image → NamesNone ready.mask image → HasOrigin (ByOthers ready.mask) old.now.words image → StandsBetween size w next image
  stands_between image (inl before) names origin =
      let under = under_mask w memory.active ready.mask old.now.words ready.active size ready.tables image origin names in
      (inl (under.stands (closed w) refl before), under.none (closed w) refl before)
  stands_between image (inr after) names origin =
      let under = under_mask w memory.active ready.mask old.now.words ready.active size ready.tables image origin names in
      (inr (under.stands (closed next) (sym frames) after), under.none (closed next) (sym frames) after)

  -- At every moment each image stands for one of the two worlds.
  pub moments_beside : Leaves (Silently (StandsBetween size w next)) old new
  moments_beside =
      let idle = Leaves-unmasked ready.mask (Silently (λ image. (idle_world_of size image ≡ Some (closed w)) ⊎ (idle_world_of size image ≡ Some (closed next)))) (ByOthers ready.mask) fault old new a.beside.changes a.moments in
      let both = Leaves-both MaskedBetween (NamesNone ready.mask) old new idle a.beside.names in
      let from = Leaves-from (λ image. MaskedBetween image × NamesNone ready.mask image) (ByOthers ready.mask) fault old new a.beside.changes both in
      Leaves-weaker (Silently (λ image. (MaskedBetween image × NamesNone ready.mask image) × HasOrigin (ByOthers ready.mask) old.now.words image)) (Silently (StandsBetween size w next)) old new
      (λ bytes image m. (m.0, stands_between image m.1.0.0 m.1.0.1 m.1.1)) from

module _ (size : ℕ) (w next : World) (memory : Memory) (fault : Option HostFault) (old new : State) (ready : IsReady size w memory old) (keeps : KeepsActive w next memory.active)
    (a : AppliesMasked size w next ready.mask fault old new) where
  -- The command applies with the memory after it, which differs only in what is known about pools.
  pub Applies-beside : (becomes : Member → Option Member → Type 0) → LeavesPuddles w.stored.frames becomes old new → (following : Memory) → following.frames ≡ memory.frames → following.active ≡ memory.active → following.sessions ≡ memory.sessions
      → (fault ≡ None → KnowsPools w.stored.frames following.known_pools ready.active.opens (reads new.now.words))
      → (fault ≡ None → RestAfter w memory.active ready.mask old.now.words ready.active new.now.words)
      → AppliesBy becomes size w next following fault old new
  Applies-beside becomes puddles following frames holds same_sessions knows rest = record {
    moments = moments_beside size w next memory fault old new ready keeps.frames a;
    puddles = puddles;
    quiet = Changes-said (ByOthers ready.mask) fault old new a.beside.changes;
    ready = λ none. subst (λ (m : Memory). IsReady size next m new) (λ i. record { frames = following.frames; active = sym holds i; sessions = sym same_sessions i; known_pools = following.known_pools }) (record {
      mask = ready.mask;
      settled = a.settled none;
      tables = a.tables none;
      clients = a.clients none;
      frames = frames ∙ ready.frames ∙ sym keeps.frames;
      shelf = a.beside.changes.shelf ∙ ready.shelf ∙ sym a.shelf;
      active = holds_still w next memory.active ready.mask old new ready.active keeps (subst (λ (f : Option HostFault). Changes (ByOthers ready.mask) f old new) none a.beside.changes)
          (rest none).each;
      sessions = sessions_still w next memory.active memory.sessions keeps.transactions ready.sessions;
      rest = subst (λ (n : ℕ). HasDurableFrames n (masked ready.mask new.now.words)) (sym keeps.frames) (durable_frames_still w.stored.frames ready.mask old new (a.beside.single none) ready.rest);
      logs = a.logs none;
      knows = subst (λ (n : ℕ). KnowsPools n following.known_pools ready.active.opens (reads new.now.words)) (sym keeps.frames) (knows none);
    });
    rests = a.beside.changes.rests;
    script = a.beside.changes.script;
  }

-- ---- a daemon that is ready

-- A daemon log that counts nothing names no masked word.
pub names_none_idle : (mask : Write) (image : Image) → is_idle_gate (image DAEMON_LOG) ≡ true → NamesNone mask image
names_none_idle mask image idle = record { each = λ k v is. new_value-closed device_word (log_of image DAEMON_LOG) k (empty_range_of (image DAEMON_LOG) idle) }

-- The daemon log counts nothing in any image that may be left.
pub ready_idle : (size : ℕ) (w : World) (memory : Memory) (s : State) → IsReady size w memory s → (image : Image) → Picks s.now.words image → is_idle_gate (image DAEMON_LOG) ≡ true
ready_idle size w memory s ready image picked =
    let none : ready.mask DAEMON_LOG ≡ None = daemon_log_unmasked w memory.active ready.mask s.now.words ready.active in
    ready.settled.idle (image DAEMON_LOG) (subst (λ (c : Cell). Has (values c) (image DAEMON_LOG)) (sym (masked-elsewhere ready.mask s.now.words DAEMON_LOG none)) (picked.each DAEMON_LOG))

-- Each image that may be left stands for the world, and none of its registered logs is refused.
pub ready_stands : (size : ℕ) (w : World) (memory : Memory) (s : State) → IsReady size w memory s → (image : Image) → Picks s.now.words image → (world_of size image ≡ Some (closed w)) × RefusesNone image
ready_stands size w memory s ready image picked =
    let idle = ready.settled.stands (masked_image ready.mask image) (Picks-masked ready.mask s.now.words image picked) in
    let origin : HasOrigin (ByOthers ready.mask) s.now.words image = record { before = image; picked = picked; from = record { each = λ k. inl refl } } in
    let under = under_mask w memory.active ready.mask s.now.words ready.active size ready.tables image origin (names_none_idle ready.mask image (ready_idle size w memory s ready image picked)) in
    (under.stands (closed w) refl idle, under.none (closed w) refl idle)
