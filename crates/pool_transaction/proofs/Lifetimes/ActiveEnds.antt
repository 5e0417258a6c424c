-- An active transaction is committed or undone: what the calls that do this ask of the device, and the world that they
-- give.
use Rattle.std.proofs.Common.{◌≡◌, Bool, ◌≢◌, inl, inr, ℕ, ◌+◌, ◌<◌, ◌≤◌, true, false, ◌||◌, cond, leb, eqb, List, [], ◌∷◌, Option, Some, None, option_map, refl, sym, ap, ap₂, subst, ◌∙◌, arith}
use Rattle.std.specs.Prelude.{unwrap_or}
use Rattle.std.specs.FinMap.Entries.{find, put}
use Rattle.std.proofs.lemmas.Bool.{cond-true, cond-false, le-leb, cases_Bool}
use Rattle.std.proofs.lemmas.List.{set-get_or}
use Rattle.std.proofs.lemmas.Option.{none-some, same_Some}
use Rattle.pm_model.specs.declared.host.HostFault.{HostFault}
use Rattle.pm_model.specs.Words.{reads, Picks}
use Rattle.pm_model.specs.Moments.{State}
use Rattle.pm_model.specs.Changes.{Write, Changes}
use Rattle.pm_model.proofs.Changes.{Changes-wider}
use Rattle.pm_model.specs.Masks.{masked_image}
use Rattle.pm_model.proofs.Words.{HasOnly-newest, Picks-reads}
use Rattle.pm_model.proofs.Masks.{masked_image-there, masked_image-elsewhere, Picks-masked}
use Rattle.pud_defs.specs.declared.layout.TheConstants.{DAEMON_LOG, TYPE_TABLE, LOG_WORDS}
use Rattle.pud_defs.specs.declared.machine.Command.TheVariants.{Commit, Abort}
use Rattle.pud_defs.specs.declared.records.Puddle.{Puddle}
use Rattle.pud_defs.specs.Logging.Allowed.{puddle_word}
use Rattle.pud_defs.specs.PoolGraphs.Graph.{Graph, graph_of}
use Rattle.pud_defs.specs.PoolGraphs.DeferredValues.{DeferredValue, with_deferred_set}
use Rattle.pud_defs.specs.Formats.Image.{Image}
use Rattle.pud_defs.specs.Formats.Layout.{tables_end, frames_at, device_words}
use Rattle.pud_defs.specs.Logging.Entries.{Entry, is_idle_gate, gate_used, gate_word}
use Rattle.pud_defs.specs.Formats.Names.{name_cmp}
use Rattle.pud_defs.specs.StateMachine.PoolChanges.{pool_named, changed_pool}
use Rattle.pud_defs.specs.StateMachine.Step.{after}
use Rattle.pud_defs.specs.PoolGraphs.Stored.{stored_in}
use Rattle.pud_defs.specs.RegistryTables.Tables.{Tables, Pool, tables_of, puddles_in_turn}
use Rattle.pud_defs.specs.StateMachine.Transactions.{with_open, lowered, holding_graph, committed_pools}
use Rattle.pud_defs.specs.StateMachine.World.{Transaction, World, open_on, idle_world_of}
use Rattle.pud_defs.specs.declared.log_words.TheConstants.{COMMITTING_LO, COMMITTING_HI, CLOSED_GATE}
use Rattle.pud_defs.specs.Logging.Replay.{is_in_log}
use Rattle.pud_defs.specs.Logging.Settled.{log_number_at}
use Rattle.pud_defs.proofs.RegistryTables.TablesOf.{tables_of-same}
use Rattle.log_store.specs.Store.{OpenLog, IsOpen}
use Rattle.log_store.proofs.Open.{IsOpen-fits, used_is}
use Rattle.log_replay.specs.Replaying.{ByLog}
use Rattle.word_transaction.specs.Scope.{saved_in, pending_in}
use Rattle.nesting.specs.Sessions.{session_depth, depth_in}
use Rattle.word_transaction.specs.Running.{ByTransaction, ByCommit, ByCommitOf, HasPlaces, HasOneTable, CanRedo}
use Rattle.hybrid_tx.specs.PoolScopes.{pool_place, pool_has_word, pool_scope, ArePlacedPuddles, finished_of}
use Rattle.hybrid_tx.specs.Open.Masks.{OpenPool, is_open_record, open_mask}
use Rattle.hybrid_tx.specs.Open.ManyOpen.{open_masks}
use Rattle.hybrid_tx.specs.Objects.Transactions.{IsOpenOn, AbortsOnPool, CommitsOnPool}
use Rattle.hybrid_tx.proofs.Open.ManyIdle.{masks_changed, places_beside}
use Rattle.hybrid_tx.proofs.Objects.Opening.{stored_in-has_word}
use Rattle.hybrid_tx.proofs.Objects.DeferredKept.{AreDeferredEntries-none}
use Rattle.word_transaction.proofs.Pending.{defers-none, pending-none}
use Rattle.word_transaction.proofs.Settled.{pending_open}
use Rattle.hybrid_tx.proofs.Open.OpenMasks.{mask_of_mine}
use Rattle.hybrid_tx.proofs.PoolScope.{pool_has_word-each}
use Rattle.hybrid_tx.proofs.FinishedPuddles.{none_of_finished}
use Rattle.known_pool.specs.Known.{Known, IsKnown, by_puddles, without_counts, after_end}
use Rattle.known_pool.specs.Serials.{serial_in}
use Rattle.known_pool.proofs.PlacesFollowed.{puddles_after_end}
use Rattle.known_pool.proofs.KnownKept.{IsKnown-puddles, IsKnown-counts}
use Rattle.daemon_memory.proofs.PoolChanges.RestBeside.{rest_unmasked}
use Rattle.daemon_memory.specs.PoolKnowledge.{puddles_known, known_pool_in}
use Rattle.daemon_memory.proofs.PoolsKnown.KnownKept.{graph_parts}
use Rattle.daemon_memory.proofs.PoolsKnown.KnownOpen.{KeepsPools-gate}
use Rattle.daemon_memory.specs.Memory.{ActiveTransaction, Memory, active_under, with_active}
use Rattle.daemon_memory.specs.Leaving.{AfterTables, world_without_log}
use Rattle.daemon_memory.specs.ActiveTransactions.{open_pool_of, IsActive, IsOwnTransaction}
use Rattle.daemon_memory.specs.Ready.{IsReady, Applies}
use Rattle.daemon_memory.proofs.Commands.Applying.{Applies-idle}
use Rattle.daemon_memory.proofs.Commands.Beneath.{table_reads}
use Rattle.daemon_memory.proofs.Commands.Beside.{daemon_log_unmasked}
use Rattle.daemon_memory.proofs.OpenTransactions.Committing.{idle_world_with_graph}
use Rattle.pool_transaction.specs.Changing.{RunsWith}
use Rattle.pool_transaction.specs.Lifetime.{with_ended}
use Rattle.pool_transaction.specs.Writing.{ByCommitting, ByAborting, WritesWithin}
use Rattle.pool_transaction.proofs.WordsWritten.OpenLogs.{open_log}
use Rattle.pool_transaction.proofs.Lifetimes.Ending.{EndsBy-closes, EndsBy-ends, mixed, is_active, own, rest, more, rest_masks, later, all_later, later_more, later_masks, records_there, idle_there, world_there, world_before, Applies-ended}
use Rattle.pool_transaction.proofs.Lifetimes.ActiveRuns.{active_placed}
use Rattle.pool_transaction.specs.Ending.{CommitsActive, AbortsActive}
use Rattle.daemon_memory.proofs.PoolChanges.InTurn.{active_in_turn, active_there_known}
use Rattle.daemon_memory.proofs.PoolChanges.PoolsApart.{found_beside_put}
use Rattle.daemon_memory.proofs.PoolChanges.PoolsBeside.{used_still}
use Rattle.daemon_memory.proofs.PoolChanges.TablesBeside.{header_read}

-- ---- pools with other names

changed_beside_by : (name other : List ℕ) (change : Pool → Pool) (pools : List (List ℕ × Pool)) (o : Option Pool) → other ≢ name → find name_cmp name pools ≡ o
    → find name_cmp other (changed_pool name change pools) ≡ find name_cmp other pools
changed_beside_by name other change pools None apart e = ap (λ (o : Option Pool). find name_cmp other (unwrap_or (option_map (λ p. put name_cmp name (change p) pools) o) pools)) e
changed_beside_by name other change pools (Some p) apart e =
    ap (λ (o : Option Pool). find name_cmp other (unwrap_or (option_map (λ p. put name_cmp name (change p) pools) o) pools)) e ∙ found_beside_put name other (change p) pools apart

-- A pool with another name does not change.
pub changed_beside : (name other : List ℕ) (change : Pool → Pool) (pools : List (List ℕ × Pool)) → other ≢ name → find name_cmp other (changed_pool name change pools) ≡ find name_cmp other pools
changed_beside name other change pools apart = changed_beside_by name other change pools (find name_cmp name pools) apart refl

-- ---- masks

-- Two images that agree on a word give the same mask for it.
mask_agrees : (F : ℕ) (p : OpenPool) (after before : Image) (k : ℕ) → after k ≡ before k → open_mask F p after k ≡ open_mask F p before k
unfolding open_mask
mask_agrees F p after before k same q = cond (is_in_log (log_number_at F p.log_number) k) (Some (cond (eqb k (log_number_at F p.log_number)) CLOSED_GATE 0)) (cond (pool_has_word F (finished_of p.puddles) k || is_open_record p k) (Some (same q)) None)

-- ---- what the calls promise

-- What an abort promises, and what a commit promises, on this many frames of a device with this many words, with this
-- log.
abbrev pub Undoes : (F sz : ℕ) → OpenLog → Option HostFault → State → State → Type 0
Undoes F sz log fault old new =
    (pool : List (ℕ × Puddle)) (types : List (ℕ × ℕ)) (before : Image) (graph_before : Graph) (seen : Graph) (deferred : List DeferredValue) → ArePlacedPuddles F pool → device_words F ≤ sz → log.gate_at + LOG_WORDS ≤ frames_at F
    → IsOpenOn F pool types log before graph_before seen deferred old.now.words → HasPlaces (pool_scope F (finished_of pool)) (puddle_word (tables_of F (reads old.now.words))) → HasOneTable F old.now.words
    → AbortsOnPool F pool types log.gate_at before graph_before fault old new

abbrev pub Commits : (F sz : ℕ) → OpenLog → Option HostFault → State → State → Type 0
Commits F sz log fault old new =
    (pool : List (ℕ × Puddle)) (types : List (ℕ × ℕ)) (before : Image) (graph_before : Graph) (seen : Graph) (deferred : List DeferredValue) → ArePlacedPuddles F pool → device_words F ≤ sz → log.gate_at + LOG_WORDS ≤ frames_at F
    → IsOpenOn F pool types log before graph_before seen deferred old.now.words → (log.defers ≡ true → CanRedo (pool_scope F (finished_of pool)) F log.gate_at old.now.words)
    → CommitsOnPool F pool types log.gate_at before graph_before (with_deferred_set deferred seen) fault old new

-- Apart from the gate, an abort writes only words that undo entries of the log name, and a commit only words that redo
-- entries name.
abbrev pub NamesUndo : (F sz : ℕ) → OpenLog → Option HostFault → State → State → Type 0
NamesUndo F sz log fault old new =
    (pool : List (ℕ × Puddle)) (types : List (ℕ × ℕ)) (before : Image) (graph_before : Graph) (seen : Graph) (deferred : List DeferredValue) → ArePlacedPuddles F pool → device_words F ≤ sz → log.gate_at + LOG_WORDS ≤ frames_at F
    → IsOpenOn F pool types log before graph_before seen deferred old.now.words → HasPlaces (pool_scope F (finished_of pool)) (puddle_word (tables_of F (reads old.now.words))) → HasOneTable F old.now.words
    → Changes (ByLog log.gate_at (saved_in (pool_place F (finished_of pool)) log.gate_at (reads old.now.words))) fault old new

abbrev pub NamesRedo : (F sz : ℕ) → OpenLog → Option HostFault → State → State → Type 0
NamesRedo F sz log fault old new =
    (pool : List (ℕ × Puddle)) (types : List (ℕ × ℕ)) (before : Image) (graph_before : Graph) (seen : Graph) (deferred : List DeferredValue) → ArePlacedPuddles F pool → device_words F ≤ sz → log.gate_at + LOG_WORDS ≤ frames_at F
    → IsOpenOn F pool types log before graph_before seen deferred old.now.words → (log.defers ≡ true → CanRedo (pool_scope F (finished_of pool)) F log.gate_at old.now.words)
    → Changes (ByCommitOf log (pending_in (pool_place F (finished_of pool)) log.gate_at (reads old.now.words))) fault old new

-- If the log tells that no value was ever deferred, only its gate is written.
abbrev pub ClosesAlone : OpenLog → Option HostFault → State → State → Type 0
ClosesAlone log fault old new = (es : List Entry) → IsOpen log es old.now.words → log.defers ≡ false → Changes (ByCommit log) fault old new

-- A transaction writes no word that lies before the clients' logs.
past_tables : (F number : ℕ) (at : List (ℕ × Puddle)) (k v : ℕ) → ByTransaction (pool_scope F at) (log_number_at F number) k v → AfterTables F k v
past_tables F number at k v (inl inside) = let low = inside.low in omega arith
past_tables F number at k v (inr mine) = let m = pool_has_word-each F at k mine in let low = m.low in omega arith

-- ---- what is known when it ends

module _ (size : ℕ) (w : World) (memory : Memory) (number : ℕ) (active : ActiveTransaction) (old : State) (ready : IsReady size w memory old) (there : active_under memory.active number ≡ Some active) where
  abbrev is : IsActive w active ready.mask old.now.words
  is = is_active size w memory number active old ready there

  abbrev n : ℕ
  n = w.stored.frames

  abbrev p : OpenPool
  p = open_pool_of active is.puddles is.rec is.own.who

  abbrev now : Image
  now = reads old.now.words

  placed : ArePlacedPuddles n is.puddles
  placed = active_placed size w memory active old number there ready

  active_places : HasPlaces (pool_scope n (finished_of is.puddles)) (puddle_word (tables_of n now))
  active_places =
      let picked = Picks-reads old.now.words in
      places_beside size n w.stored ready.active.opens now refl ready.active.are (idle_there size w memory number active old ready there now picked) (records_there size w memory number active old ready there now picked)
      (world_there size w memory number active old ready there now picked) number (own size w memory number active old ready there) (more size w memory number active old ready there).here

  active_table : HasOneTable n old.now.words
  active_table = record { each = λ k within. let low = within.low in let high = within.high in ready.tables.each k (inr (omega arith)) high }

  can_redo : CanRedo (pool_scope n (finished_of is.puddles)) n active.tx.log.gate_at old.now.words
  can_redo = record { before = let gate = is.own.gate in omega arith; table = active_table; places = active_places }

  log_apart : active.tx.log.gate_at + LOG_WORDS ≤ frames_at n
  log_apart = let gate = is.own.gate in let few = is.pool.known in omega arith

  room : device_words n ≤ size
  room = (header_read size w memory old ready).room

  -- The depth of its session is how often it was begun.
  depth_is : depth_in memory.sessions active.slot ≡ is.own.transaction.depth
  depth_is = ap session_depth (ready.sessions.each number active is.own.transaction there is.own.is)

  -- ---- undone

  module _ (F sz : ℕ) (fault : Option HostFault) (new : State) (on : F ≡ n) (same : size ≡ sz) (undoes : Undoes F sz active.tx.log fault old new) where
    closes : AbortsOnPool n is.puddles w.stored.types active.tx.log.gate_at is.before is.graph_before fault old new
    closes =
        subst (λ (m : ℕ). Undoes m sz active.tx.log fault old new) on undoes is.puddles w.stored.types is.before is.graph_before is.own.transaction.now is.own.transaction.deferred placed (omega (arith, same, room)) log_apart is.running active_places active_table

    pub undone_after : Changes (AfterTables n) fault old new
    undone_after =
        Changes-wider (ByTransaction (pool_scope n (finished_of is.puddles)) active.tx.log.gate_at) (AfterTables n) fault old new
        (λ k v may. past_tables n active.log_number (finished_of is.puddles) k v (subst (λ (at : ℕ). ByTransaction (pool_scope n (finished_of is.puddles)) at k v) is.own.gate may)) closes.closes.changes

    -- Only words of its log and of its finished puddles are written.
    pub undone_written : WritesWithin F active.client (ByTransaction (pool_scope F (finished_of (puddles_in_turn (tables_of F now) active.slot)))) fault old new
    undone_written =
        subst (λ (m : ℕ). WritesWithin m active.client (ByTransaction (pool_scope m (finished_of (puddles_in_turn (tables_of m now) active.slot)))) fault old new) (sym on)
        (subst (λ (at : List (ℕ × Puddle)). WritesWithin n active.client (ByTransaction (pool_scope n (finished_of at))) fault old new) (sym (active_in_turn size w memory old ready number active there))
        (record { gate = active.tx.log.gate_at; is = open_log size w memory active old number there ready n refl; changes = closes.closes.changes }))

    pub Applies-aborted : (known : Known) → known.puddles ≡ is.puddles → (fault ≡ None → IsKnown n (reads new.now.words) known) → Applies size w (world_without_log (Some active) w) (with_ended number active known memory) fault old new
    Applies-aborted known same_puddles so =
        Applies-ended size w memory number active old ready there is.before (λ k other. refl) w.stored.pools (world_before size w memory number active old ready there) (λ name apart. refl) is.graph_before is.running.was fault new
        (EndsBy-closes (pool_scope n (finished_of is.puddles)) active.tx.log.gate_at is.before fault old new closes.closes) known same_puddles so

  -- Only the gate is written, and words that undo entries of its log name.
  pub undone_named : (F sz : ℕ) (fault : Option HostFault) (new : State) → F ≡ n → size ≡ sz → NamesUndo F sz active.tx.log fault old new
      → WritesWithin F active.client (ByAborting F (puddles_in_turn (tables_of F now) active.slot) now) fault old new
  undone_named F sz fault new on same names =
      subst (λ (m : ℕ). WritesWithin m active.client (ByAborting m (puddles_in_turn (tables_of m now) active.slot) now) fault old new) (sym on)
      (subst (λ (at : List (ℕ × Puddle)). WritesWithin n active.client (ByAborting n at now) fault old new) (sym (active_in_turn size w memory old ready number active there))
      (record {
        gate = active.tx.log.gate_at;
        is = open_log size w memory active old number there ready n refl;
        changes = subst (λ (m : ℕ). NamesUndo m sz active.tx.log fault old new) on names is.puddles w.stored.types is.before is.graph_before is.own.transaction.now is.own.transaction.deferred placed (omega (arith, same, room)) log_apart is.running active_places
            active_table;
      }))

  -- ---- committed

  -- With the mask applied, an image has the tables that are read.
  masked_table : (i : Image) → Picks old.now.words i → (k : ℕ) → TYPE_TABLE ≤ k → k < tables_end n → masked_image ready.mask i k ≡ now k
  masked_table i picked k low below =
      ap (unwrap_or (ready.mask k)) ((ready.tables.each k (inr low) below).each (i k) (picked.each k)) ∙ table_reads w memory.active ready.mask old.now.words ready.active k below

  masked_tables : (i : Image) → Picks old.now.words i → tables_of n (masked_image ready.mask i) ≡ tables_of n now
  masked_tables i picked = tables_of-same n (masked_image ready.mask i) now (λ k low high. masked_table i picked k (omega arith) (omega arith)) (λ k low high. masked_table i picked k (omega arith) high)

  -- The graph that the transaction makes, with its deferred set.
  abbrev made : Graph
  made = with_deferred_set is.own.transaction.deferred is.own.transaction.now

  module _ (x : Image) (graph : graph_of w.stored.types (stored_in n is.puddles x) ≡ Some made)
      (beside : (k : ℕ) → pool_has_word n is.puddles k ≡ true → pool_has_word n (finished_of is.puddles) k ≡ false → x k ≡ is.before k) where
    abbrev values : Image
    values = mixed (pool_scope n (finished_of is.puddles)) x is.before

    abbrev pools_after : List (List ℕ × Pool)
    pools_after = changed_pool is.rec.name (holding_graph made) w.stored.pools

    values_beside : (k : ℕ) → pool_has_word n (finished_of is.puddles) k ≡ false → values k ≡ is.before k
    values_beside k other = cond-false _ _ _ other

    values_read : (k : ℕ) → pool_has_word n is.puddles k ≡ true → values k ≡ x k
    values_read k mine = elim (cases_Bool (pool_has_word n (finished_of is.puddles) k)) [
      | inl own ↦ cond-true _ _ _ own
      | inr other ↦ cond-false _ _ _ other ∙ sym (beside k mine other)
    ]

    graph_after : graph_of w.stored.types (stored_in n is.puddles values) ≡ Some made
    graph_after = ap (graph_of w.stored.types) (stored_in-has_word n is.puddles x values values_read) ∙ graph

    -- The mask of all open transactions, with these values for the words of its frames.
    abbrev renewed : Write
    renewed = open_masks n (all_later size w memory number active old ready there values values_beside)

    -- A word outside its frames is masked as it was.
    again_beside : (i : Image) → Picks old.now.words i → (k : ℕ) → pool_has_word n (finished_of is.puddles) k ≡ false → renewed k ≡ ready.mask k
    again_beside i picked k other =
        masks_changed number (own size w memory number active old ready there) (later size w memory number active old ready there values values_beside) _ ready.active.opens
        (all_later size w memory number active old ready there values values_beside) (more size w memory number active old ready there) (later_more size w memory number active old ready there values values_beside) n ready.mask renewed
        (rest size w memory number active old ready there) ready.active.masks (later_masks size w memory number active old ready there values values_beside i picked) (rest_masks size w memory number active old ready there) k
        (mask_agrees n p values is.before k (values_beside k other))

    values_graph : (i : Image) → Picks old.now.words i → graph_of w.stored.types (stored_in n is.puddles (masked_image renewed i)) ≡ Some made
    values_graph i picked =
        let masks = later_masks size w memory number active old ready there values values_beside i picked in
        let its = later_more size w memory number active old ready there values values_beside in
        ap (graph_of w.stored.types) (stored_in-has_word n is.puddles x (masked_image renewed i) (λ k mine. elim (cases_Bool (pool_has_word n (finished_of is.puddles) k)) [
          | inl own ↦
              masked_image-there renewed i k (values k) (masks.has number (later size w memory number active old ready there values values_beside) its.here k (values k) (mask_of_mine n p values k is.pool.known own))
              ∙ cond-true _ _ _ own
          | inr other ↦
              masked_image-elsewhere renewed i k (again_beside i picked k other ∙ rest_unmasked size w memory old ready number active there k mine other)
              ∙ (is.running.rests.each k mine other).each (i k) (picked.each k)
              ∙ sym (beside k mine other)
        ])) ∙ graph

    stands_after : (i : Image) → Picks old.now.words i → idle_world_of size (masked_image renewed i) ≡ Some (record w.stored { pools = pools_after })
    stands_after i picked =
        let tables = masked_tables i picked in
        idle_world_with_graph size w.stored (masked_image ready.mask i) (masked_image renewed i) active.slot is.rec is.puddles made
        (ap is_idle_gate (masked_image-elsewhere ready.mask i DAEMON_LOG (daemon_log_unmasked w memory.active ready.mask old.now.words ready.active)) ∙ idle_there size w memory number active old ready there i picked)
        (ready.settled.stands (masked_image ready.mask i) (Picks-masked ready.mask old.now.words i picked)) is.pool.slot
        (ap (λ (t : Tables). t.pools active.slot) tables ∙ used_still w active ready.mask old.now.words is)
        (ap (λ (t : Tables). puddles_in_turn t active.slot) tables ∙ active_in_turn size w memory old ready number active there)
        (λ k other. ap (λ (o : Option ℕ). unwrap_or o (i k)) (again_beside i picked k (none_of_finished n is.puddles k other))) (values_graph i picked)

    pools_beside : (name : List ℕ) → name ≢ active.name → pool_named name (record w.stored { pools = pools_after }) ≡ pool_named name w.stored
    pools_beside name apart = changed_beside is.rec.name name (holding_graph made) w.stored.pools (λ same. apart (same ∙ is.name))

  -- What a commit promises about its pool.
  commits_there : (sz : ℕ) (fault : Option HostFault) (new : State) → size ≡ sz → Commits n sz active.tx.log fault old new → CommitsOnPool n is.puddles w.stored.types active.tx.log.gate_at is.before is.graph_before made fault old new
  commits_there sz fault new same commits =
      commits is.puddles w.stored.types is.before is.graph_before is.own.transaction.now is.own.transaction.deferred placed (omega (arith, same, room)) log_apart is.running (λ some. can_redo)

  module _ (client : ℕ) (last : depth_in memory.sessions active.slot ≤ 1) where
    -- The world that the last commit gives.
    committed_world : after w (Commit client active.name)
        ≡ record w { stored = record w.stored { pools = changed_pool is.rec.name (holding_graph made) w.stored.pools }; transactions = with_open active.name None w.transactions }
    unfolding after
    committed_world =
        let one : leb is.own.transaction.depth 1 ≡ true = le-leb is.own.transaction.depth 1 (omega (arith, depth_is, last)) in
        ap₂ (λ (ps : List (List ℕ × Pool)) (t : Option Transaction). record w { stored = record w.stored { pools = ps }; transactions = with_open active.name t w.transactions })
        (ap (λ (o : Option Transaction). committed_pools active.name o w.stored.pools) is.own.is ∙ cond-true _ _ _ one ∙ ap (λ (name : List ℕ). changed_pool name (holding_graph made) w.stored.pools) (sym is.name))
        (ap lowered is.own.is ∙ cond-true _ _ _ one)

    pub Applies-committed : (F sz : ℕ) (fault : Option HostFault) (new : State) → F ≡ n → size ≡ sz → Commits F sz active.tx.log fault old new
        → (known : Known) → known.puddles ≡ is.puddles → (fault ≡ None → IsKnown n (reads new.now.words) known) → Applies size w (after w (Commit client active.name)) (with_ended number active known memory) fault old new
    Applies-committed F sz fault new on same commits known same_puddles so =
        let e = commits_there sz fault new same (subst (λ (m : ℕ). Commits m sz active.tx.log fault old new) on commits) in
        subst (λ (v : World). Applies size w v (with_ended number active known memory) fault old new) (sym committed_world)
        (Applies-ended size w memory number active old ready there (values e.after e.is e.beside) (values_beside e.after e.is e.beside) (pools_after e.after e.is e.beside) (stands_after e.after e.is e.beside) (pools_beside e.after e.is e.beside) made
        (graph_after e.after e.is e.beside) fault new (EndsBy-ends (pool_scope n (finished_of is.puddles)) active.tx.log.gate_at is.before e.after fault old new e.ends) known same_puddles so)

  -- the values that the redo entries of its log give
  abbrev redo : Write
  redo = pending_in (pool_place n (finished_of is.puddles)) active.tx.log.gate_at now

  named_there : (F sz : ℕ) (fault : Option HostFault) (new : State) → F ≡ n → size ≡ sz → NamesRedo F sz active.tx.log fault old new → Changes (ByCommitOf active.tx.log redo) fault old new
  named_there F sz fault new on same names =
      subst (λ (m : ℕ). NamesRedo m sz active.tx.log fault old new) on names is.puddles w.stored.types is.before is.graph_before is.own.transaction.now is.own.transaction.deferred placed (omega (arith, same, room)) log_apart is.running (λ some. can_redo)

  -- If nothing is deferred, only the gate is written. Otherwise words that redo entries of its log name are written
  -- too.
  committed_by : (F sz : ℕ) (fault : Option HostFault) (new : State) → F ≡ n → size ≡ sz → NamesRedo F sz active.tx.log fault old new → (deferred : List DeferredValue)
      → is.own.transaction.deferred ≡ deferred → Changes (ByCommitting n is.puddles now deferred active.tx.log.gate_at) fault old new
  committed_by F sz fault new on same names [] none =
      let saving = is.running.saving in
      let opened = saving.running.opened in
      let empty = AreDeferredEntries-none n is.puddles w.stored.types now is.own.transaction.now is.own.transaction.deferred is.running.redo none is.running.are in
      let used : gate_used (now active.tx.log.gate_at) ≡ active.tx.log.used =
      ap gate_used (HasOnly-newest (old.now.words active.tx.log.gate_at) _ opened.gate) ∙ used_is active.tx.log (IsOpen-fits active.tx.log saving.es old.now.words opened) in
      let nothing : (k : ℕ) → redo k ≡ None = λ k.
      ap (λ (w : Write). w k) (pending_open (pool_place n (finished_of is.puddles)) active.tx.log saving.es old.now.words opened)
      ∙ pending-none (pool_place n (finished_of is.puddles)) saving.es k (defers-none saving.es (saving.defers ∙ empty)) in
      Changes-wider (ByCommitOf active.tx.log redo) (ByCommitting n is.puddles now [] active.tx.log.gate_at) fault old new
      (λ k v may. elim may [
        | inl gate ↦ record { here = gate.gate; value = elim gate.value [ inl moved ↦ inl (moved ∙ ap (gate_word COMMITTING_LO COMMITTING_HI) (sym used)) | inr closed ↦ inr closed ] }
        | inr named ↦ absurd (let it : None ≡ Some named.value = sym (nothing k) ∙ named.is in cc)
      ])
      (named_there F sz fault new on same names)
  committed_by F sz fault new on same names (d ∷ deferred) some =
      Changes-wider (ByCommitOf active.tx.log redo) (ByLog active.tx.log.gate_at redo) fault old new (λ k v may. elim may [ inl gate ↦ inl gate.gate | inr named ↦ inr named ])
      (named_there F sz fault new on same names)

  pub committed_written : (F sz : ℕ) (fault : Option HostFault) (new : State) → F ≡ n → size ≡ sz → NamesRedo F sz active.tx.log fault old new → (t : Transaction) → open_on active.name w ≡ Some t
      → WritesWithin F active.client (ByCommitting F (puddles_in_turn (tables_of F now) active.slot) now t.deferred) fault old new
  committed_written F sz fault new on same names t opened =
      subst (λ (m : ℕ). WritesWithin m active.client (ByCommitting m (puddles_in_turn (tables_of m now) active.slot) now t.deferred) fault old new) (sym on)
      (subst (λ (at : List (ℕ × Puddle)). WritesWithin n active.client (ByCommitting n at now t.deferred) fault old new) (sym (active_in_turn size w memory old ready number active there))
      (record {
        gate = active.tx.log.gate_at;
        is = open_log size w memory active old number there ready n refl;
        changes = committed_by F sz fault new on same names t.deferred (ap (λ (x : Transaction). x.deferred) (same_Some is.own.transaction t (sym is.own.is ∙ opened)));
      }))

  -- What the daemon knows about the pool still holds if nothing was deferred.
  known_quiet : (fault : Option HostFault) (new : State) → active.tx.log.defers ≡ false → ClosesAlone active.tx.log fault old new → (known : Known) → known_pool_in memory.known_pools active.slot ≡ Some known → fault ≡ None
      → IsKnown n (reads new.now.words) known
  known_quiet fault new quiet alone known is_known none =
      let saving = is.running.saving in
      let c = subst (λ (f : Option HostFault). Changes (ByCommit active.tx.log) f old new) none (alone saving.es saving.running.opened quiet) in
      let keeps = KeepsPools-gate n active.log_number (ByCommit active.tx.log) old new is.pool.known (λ k v may. may.gate ∙ is.own.gate) c in
      keeps.known active.slot known (λ no. none-some active.slot no) (graph_parts n active.slot now known.puddles (ready.knows.known_pools.each active.slot known.puddles (ap puddles_known is_known))) (ready.knows.known_pools.known active.slot known is_known)

  -- No commit moves an object. So all but the counts of references still holds.
  known_still : (fault : Option HostFault) (new : State) → Commits n size active.tx.log fault old new → (known : Known) → known_pool_in memory.known_pools active.slot ≡ Some known → fault ≡ None → IsKnown n (reads new.now.words) (without_counts known)
  known_still fault new commits known is_known none =
      let e = commits_there size fault new refl commits in
      let its : is.puddles ≡ known.puddles = same_Some is.puddles known.puddles (sym (active_there_known size w memory old ready number active there) ∙ ap puddles_known is_known) in
      IsKnown-counts n known now (reads new.now.words)
      (record { count = refl; classes = λ p below. refl; each = λ p below. subst (λ (at : List (ℕ × Puddle)). serial_in n at (reads new.now.words) p ≡ serial_in n at now p) its (e.serials none p) })
      (ready.knows.known_pools.known active.slot known is_known)

  -- After the commit what the daemon knows holds: all of it, or all but the counts if values were deferred.
  known_by : (deferred : Bool) → active.tx.log.defers ≡ deferred → (fault : Option HostFault) (new : State) → Commits n size active.tx.log fault old new → ClosesAlone active.tx.log fault old new
      → (known : Known) → known_pool_in memory.known_pools active.slot ≡ Some known → fault ≡ None → IsKnown n (reads new.now.words) (after_end false deferred known)
  known_by true deferred fault new commits alone known is_known none = known_still fault new commits known is_known none
  known_by false quiet fault new commits alone known is_known none = known_quiet fault new quiet alone known is_known none

  pub known_after : (F sz : ℕ) (fault : Option HostFault) (new : State) → F ≡ n → size ≡ sz → Commits F sz active.tx.log fault old new → ClosesAlone active.tx.log fault old new
      → (known : Known) → known_pool_in memory.known_pools active.slot ≡ Some known → fault ≡ None → IsKnown n (reads new.now.words) (after_end false active.tx.log.defers known)
  known_after F sz fault new on same commits =
      known_by active.tx.log.defers refl fault new (subst (λ (s : ℕ). Commits n s active.tx.log fault old new) (sym same) (subst (λ (m : ℕ). Commits m sz active.tx.log fault old new) on commits))

-- ---- by the clause of each call

module _ (size : ℕ) (w : World) (memory : Memory) (active : ActiveTransaction) (known : Known) (old : State) (F words : ℕ) (runs : RunsWith F words active known size w memory old) where
  on : F ≡ w.stored.frames
  on = sym runs.its.frames ∙ runs.ready.frames

  its_puddles : known.puddles ≡ (is_active size w memory active.log_number active old runs.ready runs.its.there).puddles
  its_puddles =
      same_Some known.puddles (is_active size w memory active.log_number active old runs.ready runs.its.there).puddles
      (sym (ap puddles_known runs.its.known) ∙ active_there_known size w memory old runs.ready active.log_number active runs.its.there)

  pub commits_active : (fault : Option HostFault) (new : State) → Commits F words active.tx.log fault old new → NamesRedo F words active.tx.log fault old new → ClosesAlone active.tx.log fault old new
      → CommitsActive F active known size w memory fault old new
  commits_active fault new commits names alone = record {
    applies = λ last.
        Applies-committed size w memory active.log_number active old runs.ready runs.its.there active.client last F words fault new on runs.words_are commits (after_end false active.tx.log.defers known)
        (puddles_after_end false active.tx.log.defers known ∙ its_puddles) (known_after size w memory active.log_number active old runs.ready runs.its.there F words fault new on runs.words_are commits alone known runs.its.known);
    writes = committed_written size w memory active.log_number active old runs.ready runs.its.there F words fault new on runs.words_are names;
  }

  pub aborts_active : (fault : Option HostFault) (new : State) → Undoes F words active.tx.log fault old new → NamesUndo F words active.tx.log fault old new → AbortsActive F active known size w memory fault old new
  aborts_active fault new undoes names = record {
    applies = Applies-aborted size w memory active.log_number active old runs.ready runs.its.there F words fault new on runs.words_are undoes (by_puddles known.puddles) its_puddles
        (λ none. IsKnown-puddles w.stored.frames known.puddles (reads new.now.words));
    after_tables = undone_after size w memory active.log_number active old runs.ready runs.its.there F words fault new on runs.words_are undoes;
    writes = undone_written size w memory active.log_number active old runs.ready runs.its.there F words fault new on runs.words_are undoes;
    names = undone_named size w memory active.log_number active old runs.ready runs.its.there F words fault new on runs.words_are names;
  }

-- Without the client's own transaction, the world is the one that its `abort` gives.
aborted_world : (w : World) (client : ℕ) (name : List ℕ) (number : ℕ) (active : List (Option ActiveTransaction)) → IsOwnTransaction client name number active → world_without_log (active_under active number) w ≡ after w (Abort client name)
unfolding after
aborted_world w client name number active own =
    ap (λ (o : Option ActiveTransaction). world_without_log o w) own.is ∙ ap (λ (n : List ℕ). record w { transactions = with_open n None w.transactions }) own.pool

pub Applies-own : (size : ℕ) (w : World) (client : ℕ) (name : List ℕ) (number : ℕ) (memory first following : Memory) (fault : Option HostFault) (old new : State) → IsOwnTransaction client name number memory.active → first.active ≡ memory.active
    → Applies size w (world_without_log (active_under first.active number) w) following fault old new → Applies size w (after w (Abort client name)) following fault old new
Applies-own size w client name number memory first following fault old new own same applies =
    subst (λ (v : World). Applies size w v following fault old new) (ap (λ (l : List (Option ActiveTransaction)). world_without_log (active_under l number) w) same ∙ aborted_world w client name number memory.active own) applies

-- If no transaction is active under the log number, nothing is undone.
pub Applies-unheld : (size : ℕ) (w : World) (memory : Memory) (number : ℕ) (s : State) → IsReady size w memory s → active_under memory.active number ≡ None
    → Applies size w (world_without_log (active_under memory.active number) w) (with_active number None memory) None s s
Applies-unheld size w memory number s ready none =
    let same : with_active number None memory ≡ memory =
    ap (λ (o : Option ActiveTransaction). with_active number o memory) (sym none) ∙ ap (λ (active : List (Option ActiveTransaction)). record memory { active = active }) (set-get_or memory.active number None) in
    subst (λ (o : Option ActiveTransaction). Applies size w (world_without_log o w) (with_active number None memory) None s s) (sym none)
    (subst (λ (m : Memory). Applies size w w m None s s) (sym same) (Applies-idle size w memory s s ready refl))
