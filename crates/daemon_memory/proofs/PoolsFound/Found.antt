-- The pool that a line names: why the line is refused, and what is found.
use Rattle.std.proofs.Common.{◌≡◌, ℕ, ◌<◌, Bool, true, false, not, cond, List, [], map, unwrap_or, Option, Some, None, Result, Ok, Err, is_some, is_none, option_map, eqb, eqb-true, refl, sym, ap, ap₂, subst, ◌∙◌}
use Rattle.std.specs.Prelude.{IfOk, IfSome}
use Rattle.std.specs.FinMap.Entries.{find}
use Rattle.std.proofs.lemmas.Bool.{not-false}
use Rattle.std.proofs.lemmas.Option.{none-some, same_Some}
use Rattle.std.proofs.lemmas.Simd.{map-map}
use Rattle.pm_model.specs.Words.{reads}
use Rattle.pm_model.specs.Masks.{masked}
use Rattle.pm_model.proofs.Masks.{reads-masked}
use Rattle.pm_model.specs.Moments.{State}
use Rattle.pud_defs.specs.declared.layout.TheConstants.{CLIENTS}
use Rattle.pud_defs.specs.declared.records.PoolRecord.{PoolRecord}
use Rattle.pud_defs.specs.declared.records.Puddle.{Puddle}
use Rattle.pud_defs.specs.declared.machine.Refusal.{Refusal}
use Rattle.pud_defs.specs.declared.machine.Refusal.TheVariants as refusals
use Rattle.pud_defs.specs.Formats.Image.{Image}
use Rattle.pud_defs.specs.Logging.Settled.{ALL_LOGS}
use Rattle.pud_defs.specs.RegistryTables.Spaces.{Owner, owner}
use Rattle.pud_defs.specs.Formats.Names.{name_cmp}
use Rattle.pud_defs.specs.Formats.Rights.{may_read, may_write}
use Rattle.pud_defs.specs.RegistryTables.Types.{types_of}
use Rattle.pud_defs.specs.PoolGraphs.Stored.{stored_in}
use Rattle.pud_defs.specs.PoolGraphs.Graph.{Graph, graph_of}
use Rattle.pud_defs.specs.PoolGraphs.Exported.{IsExportable}
use Rattle.pud_defs.specs.PoolGraphs.Holdings.{holding_in}
use Rattle.pud_defs.specs.RegistryTables.SoundTables.{is_sound_pool, HasSoundTables}
use Rattle.pud_defs.specs.RegistryTables.Tables.{Tables, Pool, Reader, tables_of, records_of, pool_in, puddles_of, puddles_in_turn, listed, pool_of}
use Rattle.pud_defs.specs.StateMachine.PoolChanges.{pool_named}
use Rattle.pud_defs.specs.StateMachine.World.{Transaction, World, open_on}
use Rattle.pud_defs.specs.StateMachine.Transactions.{is_others}
use Rattle.pud_defs.specs.StateMachine.Step.{has_write_right, graph_in, graph_seen}
use Rattle.pud_defs.proofs.RegistryTables.PuddlesListed.{puddles_in_turn-listed}
use Rattle.pud_defs.proofs.RegistryTables.Exportable.{exportable as pool_exportable}
use Rattle.pud_defs.proofs.StateMachine.PoolRefusals.{pool_by_record, found_record}
use Rattle.pud_defs.proofs.RegistryTables.RecordsPlaced.{legal_mode, mode_read}
use Rattle.pud_defs.proofs.RegistryTables.SoundChanged.{legal_pool}
use Rattle.nesting.specs.declared.Session.{Session}
use Rattle.nesting.specs.Sessions.{session_client, session_in, session_depth, IsSession}
use Rattle.daemon_memory.specs.Memory.{Memory}
use Rattle.daemon_memory.specs.ActiveTransactions.{IsActive}
use Rattle.daemon_memory.specs.OwnOnPool.{IsOwnTransactionOn}
use Rattle.known_pool.specs.Known.{Known}
use Rattle.daemon_memory.specs.PoolKnowledge.{known_puddles_in, AreKnownPools, puddles_with_graph}
use Rattle.daemon_memory.specs.Owning.{refusal_found, IsRecordSlot}
use Rattle.daemon_memory.specs.Beginning.{MayBegin}
use Rattle.daemon_memory.specs.Ready.{IsReady}
use Rattle.daemon_memory.proofs.Commands.Applying.{IsReady-beside}
use Rattle.daemon_memory.proofs.Commands.Beside.{active_is}
use Rattle.daemon_memory.proofs.PoolsKnown.Known.{judged_puddles}
use Rattle.daemon_memory.proofs.PoolChanges.InTurn.{active_there_known}
use Rattle.daemon_memory.proofs.PoolsKnown.KnownOpen.{KnowsPools-read}
use Rattle.daemon_memory.proofs.OpenTransactions.OpenBeside.{not_named, pool_unmasked}
use Rattle.daemon_memory.proofs.OpenTransactions.Sessions.{IsSessionOf, own_on, session_open, session_shut}
use Rattle.daemon_memory.proofs.PoolChanges.TablesBeside.{types_read, sound_read}
use Rattle.daemon_memory.proofs.PoolChanges.Pooling.{IsNamed, no_record, named_by, pool_there}
use Rattle.daemon_memory.proofs.PoolsFound.Causes.{unless}
use Rattle.daemon_memory.specs.declared.finding.Need.{Need}
use Rattle.daemon_memory.specs.declared.finding.Need.TheVariants as needs
use Rattle.daemon_memory.specs.declared.finding.FoundPool.{FoundPool}
use Rattle.daemon_memory.specs.Finding.{IsStoredPool}
use Rattle.daemon_memory.specs.Finding.{needs_graph, lacks_graph, has_right, right_by, need_refusal, refusal_to, found_unless_busy, session_found, IsRecordOf, IsFound}
use Rattle.daemon_memory.specs.Finding.{SeesGraph}
use Rattle.pud_defs.proofs.KeyedTables.DistinctKeys.{none_by_some}
use Rattle.daemon_memory.proofs.PoolChanges.GraphLonger.{graph_as}

-- ---- puddles that are judged as they were read

kept_with_graph : (puddles : List (ℕ × Puddle)) (g : Option Graph) → option_map (λ graph. puddles) g ≡ cond (is_some g) (Some puddles) None
kept_with_graph puddles None = refl
kept_with_graph puddles (Some graph) = refl

pub puddles_judged : (frames slot : ℕ) (image : Image) (puddles slice : List (ℕ × Puddle)) (sound : Bool) → puddles ≡ puddles_in_turn (tables_of frames image) slot → slice ≡ puddles
    → sound ≡ is_some (graph_of (types_of image) (stored_in frames slice image)) → puddles_with_graph frames image slot ≡ cond sound (Some puddles) None
unfolding puddles_with_graph
puddles_judged frames slot image puddles slice sound turned same known_pools =
    ap (λ at. option_map (λ graph. at) (graph_of (types_of image) (stored_in frames at image))) (sym turned)
    ∙ kept_with_graph puddles (graph_of (types_of image) (stored_in frames puddles image))
    ∙ ap (λ b. cond b (Some puddles) None) (sym (known_pools ∙ ap (λ at. is_some (graph_of (types_of image) (stored_in frames at image))) same))

-- What a ready daemon knows about pools is true.
pub judged_ready : (size : ℕ) (w : World) (memory : Memory) (s : State) → IsReady size w memory s → AreKnownPools memory.frames memory.known_pools (reads s.now.words)
judged_ready size w memory s ready = subst (λ (n : ℕ). AreKnownPools n memory.known_pools (reads s.now.words)) (sym ready.frames) ready.knows.known_pools

-- ---- whose transaction is open

-- If the pool was found, the client's own transaction is open on it, or none is.
whose_own : (sessions : List (Option Session)) (client slot number : ℕ) (s : Session) → session_in sessions slot ≡ Some s → (own : Bool) → eqb s.client client ≡ own
    → IfOk {T = FoundPool} (cond own (Ok (record { slot = slot; number = number; own = Some s.log_number })) (Err refusals.Busy)) (λ found. session_in sessions found.slot ≡ session_found sessions client found)
whose_own sessions client slot number s is false e = tt
whose_own sessions client slot number s is true e = is ∙ ap₂ (λ (c d : ℕ). Some (record { client = c; log_number = s.log_number; depth = d })) (eqb-true s.client client e) (sym (ap session_depth is))

whose_by : (sessions : List (Option Session)) (client slot number : ℕ) (o : Option Session) → session_in sessions slot ≡ o
    → IfOk (found_unless_busy o client slot number) (λ found. session_in sessions found.slot ≡ session_found sessions client found)
whose_by sessions client slot number None is = is
whose_by sessions client slot number (Some s) is = whose_own sessions client slot number s is (eqb s.client client) refl

pub whose_found : (sessions : List (Option Session)) (client slot number : ℕ) → IfOk (found_unless_busy (session_in sessions slot) client slot number) (λ found. session_in sessions found.slot ≡ session_found sessions client found)
whose_found sessions client slot number = whose_by sessions client slot number (session_in sessions slot) refl

-- The log of the client's own transaction has a number that exists.
pub number_found : (o : Option Session) (client slot number : ℕ) → IfSome o IsSession → IfOk (found_unless_busy o client slot number) (λ found. IfSome found.own (λ n. n < ALL_LOGS))
number_found None client slot number is = tt
number_found (Some s) client slot number is = by_own (eqb s.client client)
  where
    by_own : (own : Bool) → IfOk {T = FoundPool} (cond own (Ok (record { slot = slot; number = number; own = Some s.log_number })) (Err refusals.Busy)) (λ found. IfSome found.own (λ n. n < ALL_LOGS))
    by_own false = tt
    by_own true = is.number

-- ---- whether a graph is lacking

none_needed : (need : Need) → needs_graph need ≡ true → (g : Option Graph) (found : Option Pool) → graph_in found ≡ g → not (is_some g) ≡ lacks_graph need found
none_needed needs.Owner needed g found is = absurd (let no : false ≡ true = needed in cc)
none_needed needs.Read needed g found is = sym (none_by_some g) ∙ ap is_none (sym is)
none_needed needs.Write needed g found is = sym (none_by_some g) ∙ ap is_none (sym is)
none_needed needs.Graph needed g found is = sym (none_by_some g) ∙ ap is_none (sym is)

none_lacking : (need : Need) (g : Graph) (found : Option Pool) → graph_in found ≡ Some g → false ≡ lacks_graph need found
none_lacking needs.Owner g found is = refl
none_lacking needs.Read g found is = ap is_none (sym is)
none_lacking needs.Write g found is = ap is_none (sym is)
none_lacking needs.Graph g found is = ap is_none (sym is)

-- If no graph is needed, none is lacking.
pub none_unneeded : (need : Need) (found : Option Pool) → needs_graph need ≡ false → false ≡ lacks_graph need found
none_unneeded needs.Owner found off = refl
none_unneeded needs.Read found off = absurd (let it : true ≡ false = off in cc)
none_unneeded needs.Write found off = absurd (let it : true ≡ false = off in cc)
none_unneeded needs.Graph found off = absurd (let it : true ≡ false = off in cc)

some_mapped : {A B : Type 0} (f : A → B) (o : Option A) → is_some (option_map f o) ≡ is_some o
some_mapped f None = refl
some_mapped f (Some x) = refl

has_graph : (F slot : ℕ) (image : Image) → is_some (puddles_with_graph F image slot) ≡ is_some (graph_of (types_of image) (stored_in F (puddles_in_turn (tables_of F image) slot) image))
unfolding puddles_with_graph
has_graph F slot image = some_mapped (λ (graph : Graph). puddles_in_turn (tables_of F image) slot) (graph_of (types_of image) (stored_in F (puddles_in_turn (tables_of F image) slot) image))

-- The puddles that are known of a pool are those that it has, and they have a graph.
record AreWithGraph (F slot : ℕ) (image : Image) (at : List (ℕ × Puddle)) : Type 0 where
  graph : Graph
  turned : puddles_in_turn (tables_of F image) slot ≡ at
  stored : graph_of (types_of image) (stored_in F at image) ≡ Some graph

with_graph : (F : ℕ) (image : Image) (at had : List (ℕ × Puddle)) (g : Option Graph) → graph_of (types_of image) (stored_in F had image) ≡ g → option_map (λ (graph : Graph). had) g ≡ Some at
    → (graph : Graph) × (had ≡ at) × (graph_of (types_of image) (stored_in F at image) ≡ Some graph)
with_graph F image at had None is some = absurd (none-some at some)
with_graph F image at had (Some g) is some = let same = same_Some had at some in (g, same, ap (λ puddles. graph_of (types_of image) (stored_in F puddles image)) (sym same) ∙ is)

are_with_graph : (F slot : ℕ) (image : Image) (at : List (ℕ × Puddle)) → puddles_with_graph F image slot ≡ Some at → AreWithGraph F slot image at
unfolding puddles_with_graph
are_with_graph F slot image at is =
    let found = with_graph F image at (puddles_in_turn (tables_of F image) slot) (graph_of (types_of image) (stored_in F (puddles_in_turn (tables_of F image) slot) image)) refl is in
    record { graph = found.0; turned = found.1; stored = found.2 }

-- ---- what a client has that may write a pool

record MayWrite (who : Option Owner) (found : Option Pool) : Type 0 where
  owner_is : Owner
  there : who ≡ Some owner_is
  right : has_write_right who found ≡ true

may_write_by : (who : Option Owner) (found : Option Pool) (client : ℕ) (opened : Option Transaction) → need_refusal needs.Write who found client opened ≡ None → MayWrite who found
may_write_by None found client opened none = absurd (none-some refusals.Client (sym none))
may_write_by (Some who) None client opened none = absurd (none-some refusals.Pool (sym none))
may_write_by (Some who) (Some pool) client opened none =
    let graph = unless (is_none (graph_in (Some pool))) refusals.Wild _ none in
    let right = unless (not (has_write_right (Some who) (Some pool))) refusals.Denied _ graph.1 in
    record { owner_is = who; there = refl; right = not-false (has_write_right (Some who) (Some pool)) right.0 }

-- ---- what the found pool stores

module _ (size : ℕ) (w : World) (memory : Memory) (s : State) (ready : IsReady size w memory s) (client : ℕ) (name : List ℕ) where
  abbrev image : Image
  image = reads s.now.words

  -- The image with the words masked.
  abbrev under : Image
  under = reads (masked ready.mask s.now.words)

  abbrev F : ℕ
  F = w.stored.frames

  abbrev t : Tables
  t = tables_of F image

  abbrev hold : Reader
  hold = holding_in w.stored.types F under

  sound : HasSoundTables w.stored.next_number t
  sound = sound_read size w memory s ready

  there_by : pool_named name w.stored ≡ option_map (pool_by_record hold t) (find name_cmp name (records_of t))
  there_by = pool_there size w memory s ready name

  -- A line of a client that is not present is refused for that.
  pub need_client : (need : Need) → w.clients client ≡ None → refusal_to w need client name ≡ Some refusals.Client
  need_client need none = ap (λ who. need_refusal need who (pool_named name w.stored) client (open_on name w)) none

  -- If no record has the name, no pool of the world has it.
  pub unnamed : None ≡ pool_in t name → pool_named name w.stored ≡ None
  unnamed none = there_by ∙ ap (option_map (pool_by_record hold t)) (no_record (find name_cmp name (records_of t)) none)

  pub need_pool : (need : Need) (who : Owner) → w.clients client ≡ Some who → None ≡ pool_in t name → refusal_to w need client name ≡ Some refusals.Pool
  need_pool need who there none = ap₂ (λ (acts : Option Owner) (found : Option Pool). need_refusal need acts found client (open_on name w)) there (unnamed none)

  module _ (slot : ℕ) (rec : PoolRecord) (is : IsRecordOf F name image slot rec) where
    pub found : IsNamed t name slot rec
    found = named_by t name slot rec (find name_cmp name (records_of t)) refl is

    pub named : pool_named name w.stored ≡ Some (pool_by_record hold t (slot, found.r))
    named = there_by ∙ ap (option_map (pool_by_record hold t)) found.found

    pub slot_is : IsRecordSlot F name image slot
    slot_is = let at = found_record t name slot found.r found.found in record { rec = found.r; used = at.used; name_is = at.name_is }

    -- The pool's puddles as they are read one by one are those that it has.
    puddles_are : puddles_in_turn t slot ≡ listed (puddles_of t slot)
    puddles_are =
        let at = found_record t name slot found.r found.found in
        puddles_in_turn-listed w.stored.next_number t slot found.r sound at.below at.used

    -- The mode that was read is that of the record.
    pub mode_same : rec.mode ≡ found.r.mode
    mode_same =
        let at = found_record t name slot found.r found.found in
        ap (λ (x : PoolRecord). x.mode) found.same
        ∙ mode_read found.r.mode (legal_mode w.stored.next_number found.r (ap (is_sound_pool w.stored.next_number) (sym at.used) ∙ legal_pool w.stored.next_number t sound slot at.below))

    uid_same : rec.uid ≡ found.r.uid
    uid_same = ap (λ (x : PoolRecord). x.uid) found.same

    gid_same : rec.gid ≡ found.r.gid
    gid_same = ap (λ (x : PoolRecord). x.gid) found.same

    -- Someone who acts as this owner has the needed right exactly if what was read gives it.
    right_there : (need : Need) (uid gid : ℕ) → has_right need (Some (owner uid gid)) (Some (pool_by_record hold t (slot, found.r))) ≡ right_by need rec (owner uid gid)
    unfolding pool_of
    right_there needs.Owner uid gid = ap (eqb uid) (sym uid_same)
    right_there needs.Read uid gid = λ p. may_read (sym mode_same p) (owner (sym uid_same p) (sym gid_same p)) (owner uid gid)
    right_there needs.Write uid gid = λ p. may_write (sym mode_same p) (owner (sym uid_same p) (sym gid_same p)) (owner uid gid)
    right_there needs.Graph uid gid = refl

    -- Why the line is refused, by what was read of the pool and what is open on it.
    module _ (need : Need) (uid gid : ℕ) (there : w.clients client ≡ Some (owner uid gid)) where
      by_parts : (lacks right : Bool) → lacks ≡ lacks_graph need (pool_named name w.stored) → right ≡ right_by need rec (owner uid gid)
          → refusal_to w need client name ≡ cond lacks (Some refusals.Wild) (cond (not right) (Some refusals.Denied) (cond (is_others client (open_on name w)) (Some refusals.Busy) None))
      by_parts lacks right no_graph is_right =
          (λ p. need_refusal need (there p) (named p) client (open_on name w))
          ∙ ap₂ (λ (b r : Bool). cond b (Some refusals.Wild) (cond (not r) (Some refusals.Denied) (cond (is_others client (open_on name w)) (Some refusals.Busy) None)))
          (ap (lacks_graph need) (sym named) ∙ sym no_graph) (right_there need uid gid ∙ sym is_right)

      pub need_wild : true ≡ lacks_graph need (pool_named name w.stored) → refusal_to w need client name ≡ Some refusals.Wild
      need_wild no_graph = by_parts true (right_by need rec (owner uid gid)) no_graph refl

      pub need_denied : false ≡ lacks_graph need (pool_named name w.stored) → false ≡ right_by need rec (owner uid gid) → refusal_to w need client name ≡ Some refusals.Denied
      need_denied graph no_right = by_parts false false graph no_right

      pub need_beside : false ≡ lacks_graph need (pool_named name w.stored) → true ≡ right_by need rec (owner uid gid)
          → refusal_to w need client name ≡ cond (is_others client (open_on name w)) (Some refusals.Busy) None
      need_beside graph right = by_parts false true graph right

    -- ---- no transaction is open on it

    pub shut_by : session_in memory.sessions slot ≡ None → open_on name w ≡ None
    shut_by shut = session_shut size w memory s ready name slot slot_is shut

    module _ (shut : open_on name w ≡ None) where
      stored_read : stored_in F (puddles_in_turn t slot) under ≡ stored_in F (puddles_in_turn t slot) image
      stored_read =
          let at = found_record t name slot found.r found.found in
          ap (stored_in F (puddles_in_turn t slot)) (reads-masked ready.mask s.now.words)
          ∙ pool_unmasked w memory.active ready.mask s.now.words name slot found.r ready.active (not_named w memory.active ready.mask s.now.words name ready.active shut) at.used at.name_is

      -- Then the pool has the graph that these puddles have.
      graph_read : graph_in (pool_named name w.stored) ≡ graph_of (types_of image) (stored_in F (puddles_in_turn t slot) image)
      unfolding pool_of
      graph_read =
          ap graph_in named
          ∙ graph_as (stored_in F (listed (puddles_of t slot)) under) (graph_of w.stored.types (stored_in F (listed (puddles_of t slot)) under))
          ∙ ap₂ (λ types at. graph_of types (stored_in F at under)) (sym (types_read size w memory s ready).types) (sym puddles_are)
          ∙ ap (graph_of (types_of image)) stored_read

      holds_by : (had puddles : List (ℕ × Puddle)) (g : Option Graph) → graph_of (types_of image) (stored_in F had image) ≡ g → graph_in (pool_named name w.stored) ≡ g
          → Some puddles ≡ option_map (λ graph. had) g → SeesGraph w F name image puddles
      holds_by had puddles None stored there some = absurd (none-some puddles (sym some))
      holds_by had puddles (Some graph) stored there some = record {
        graph = graph;
        stored = ap (λ at. graph_of (types_of image) (stored_in F at image)) (same_Some puddles had some) ∙ stored;
        is = ap (λ (o : Option Transaction). graph_seen o (pool_named name w.stored)) shut ∙ there;
      }

      -- The puddles that were found with a graph have the graph of the pool.
      pub holds_graph : (puddles : List (ℕ × Puddle)) → Some puddles ≡ puddles_with_graph F image slot → SeesGraph w F name image puddles
      unfolding puddles_with_graph
      holds_graph puddles some = holds_by (puddles_in_turn t slot) puddles _ refl graph_read some

      had : (holds : SeesGraph w F name image (puddles_in_turn t slot)) → graph_in (pool_named name w.stored) ≡ Some holds.graph
      had holds = sym (ap (λ (o : Option Transaction). graph_seen o (pool_named name w.stored)) shut) ∙ holds.is

      known_are : (puddles : List (ℕ × Puddle)) (g : Option Graph) → Some puddles ≡ option_map (λ graph. puddles_in_turn t slot) g → puddles_in_turn t slot ≡ puddles
      known_are puddles None some = absurd (none-some puddles (sym some))
      known_are puddles (Some graph) some = same_Some (puddles_in_turn t slot) puddles (sym some)

      -- This is the pool as it is known, and it can be written into a file.
      pub stored_pool : (puddles : List (ℕ × Puddle)) → Some puddles ≡ puddles_with_graph F image slot → IsStoredPool w F name image rec.number puddles
      unfolding puddles_with_graph pool_of
      stored_pool puddles some =
          let at = found_record t name slot found.r found.found in
          let are : puddles_in_turn t slot ≡ puddles = known_are puddles _ some in
          let holds = subst (λ (p : List (ℕ × Puddle)). SeesGraph w F name image p) (sym are) (holds_graph puddles some) in
          let types = types_read size w memory s ready in
          record {
            pool = pool_by_record hold t (slot, found.r);
            there = named;
            graph = holds.graph;
            holds = ap graph_in (sym named) ∙ had holds;
            stored = ap (λ (p : List (ℕ × Puddle)). graph_of (types_of image) (stored_in F p image)) (sym are) ∙ holds.stored;
            number_is = ap (λ (x : PoolRecord). x.number) found.same;
            classes = ap (map (λ (e : ℕ × Puddle). e.1.class)) (sym are ∙ puddles_are) ∙ map-map (λ (e : ℕ × Puddle). e.1.class) (λ (e : ℕ × (ℕ × Puddle)). e.1) (puddles_of t slot);
            types = types.types;
            exportable = subst (λ (p : List (ℕ × Puddle)). IsExportable (types_of image) (stored_in F p image)) are
                (pool_exportable w.stored.next_number image F slot found.r types.legal sound at.below at.used);
          }

      -- The pool lacks a needed graph exactly if it was judged to have none.
      lacks_shut : (need : Need) (judged_sound : Bool) → needs_graph need ≡ true → judged_sound ≡ is_some (puddles_with_graph F image slot) → not judged_sound ≡ lacks_graph need (pool_named name w.stored)
      lacks_shut need judged_sound needed known_pools =
          ap not (known_pools ∙ has_graph F slot image ∙ ap is_some (sym graph_read)) ∙ none_needed need needed (graph_in (pool_named name w.stored)) (pool_named name w.stored) refl

    -- ---- a transaction is open on it

    module _ (session : Session) (at : session_in memory.sessions slot ≡ Some session) where
      abbrev pub of_session : IsSessionOf w memory.active name slot session
      of_session = session_open size w memory s ready name slot slot_is session at

      pub its_client : of_session.transaction.client ≡ session.client
      its_client = sym (ap session_client of_session.session_is)

      abbrev pub its : IsActive w of_session.active ready.mask s.now.words
      its = active_is w memory.active ready.mask s.now.words ready.active session.log_number of_session.active of_session.is

      pub its_graph : graph_in (pool_named name w.stored) ≡ Some its.graph_before
      its_graph = ap (λ (n : List ℕ). graph_in (pool_named n w.stored)) (sym of_session.name_is) ∙ its.stored

      -- Then the pool has a graph, as it is judged.
      pub its_puddles : puddles_with_graph F image slot ≡ Some its.puddles
      its_puddles =
          subst (λ (i : ℕ). puddles_with_graph F image i ≡ Some its.puddles) of_session.slot_is
          (ready.knows.known_pools.each of_session.active.slot its.puddles (active_there_known size w memory s ready session.log_number of_session.active of_session.is))

    -- ---- whether or not a transaction is open on it

    lacks_by : (need : Need) (judged_sound : Bool) → needs_graph need ≡ true → judged_sound ≡ is_some (puddles_with_graph F image slot) → (o : Option Session) → session_in memory.sessions slot ≡ o
        → not judged_sound ≡ lacks_graph need (pool_named name w.stored)
    lacks_by need judged_sound needed known_pools None at = lacks_shut (shut_by at) need judged_sound needed known_pools
    lacks_by need judged_sound needed known_pools (Some session) at =
        ap not (known_pools ∙ ap is_some (its_puddles session at)) ∙ none_lacking need _ (pool_named name w.stored) (its_graph session at)

    -- The pool lacks a needed graph exactly if it was judged to have none.
    pub lacks_judged : (need : Need) (judged_sound : Bool) → needs_graph need ≡ true → judged_sound ≡ is_some (puddles_with_graph F image slot) → not judged_sound ≡ lacks_graph need (pool_named name w.stored)
    lacks_judged need judged_sound needed known_pools = lacks_by need judged_sound needed known_pools (session_in memory.sessions slot) refl

    others_by : (o : Option Session) → session_in memory.sessions slot ≡ o → (number : ℕ) → refusal_found (found_unless_busy o client slot number) ≡ cond (is_others client (open_on name w)) (Some refusals.Busy) None
    others_by None at number = ap (λ (t : Option Transaction). cond (is_others client t) (Some refusals.Busy) None) (sym (shut_by at))
    others_by (Some session) at number =
        busy_by (eqb session.client client)
        ∙ ap (λ (n : ℕ). cond (not (eqb n client)) (Some refusals.Busy) None) (sym (its_client session at))
        ∙ ap (λ (t : Option Transaction). cond (is_others client t) (Some refusals.Busy) None) (sym (of_session session at).there)
      where
        busy_by : (own : Bool) → refusal_found {A = FoundPool} (cond own (Ok (record { slot = slot; number = number; own = Some session.log_number })) (Err refusals.Busy)) ≡ cond (not own) (Some refusals.Busy) None
        busy_by true = refl
        busy_by false = refl

    pub refusal_beside_it : (number : ℕ) → refusal_found (found_unless_busy (session_in memory.sessions slot) client slot number) ≡ cond (is_others client (open_on name w)) (Some refusals.Busy) None
    refusal_beside_it = others_by (session_in memory.sessions slot) refl

    -- What is known about the pool if it was judged.
    module _ (need : Need) (known : needs_graph need ≡ true → true ≡ is_some (known_puddles_in memory.known_pools slot)) where
      known_here : needs_graph need ≡ true → Some (unwrap_or (known_puddles_in memory.known_pools slot) []) ≡ puddles_with_graph F image slot
      known_here needed = judged_puddles F slot image memory.known_pools (known needed) ready.knows.known_pools

      found_by : (o : Option Session) → session_in memory.sessions slot ≡ o → IfOk (found_unless_busy o client slot rec.number) (IsFound w need client name image memory)
      found_by None at = record {
        rec = rec;
        is = is;
        number_is = refl;
        own = λ number own. absurd (none-some number own);
        none = λ shut. shut_by at;
        known = known_here;
      }
      found_by (Some session) at = own_by (eqb session.client client) refl
        where
          own_by : (own : Bool) → eqb session.client client ≡ own
              → IfOk {T = FoundPool} (cond own (Ok (record { slot = slot; number = rec.number; own = Some session.log_number })) (Err refusals.Busy)) (IsFound w need client name image memory)
          own_by false e = tt
          own_by true e = record {
            rec = rec;
            is = is;
            number_is = refl;
            own = λ number own.
                subst (λ (n : ℕ). IsOwnTransactionOn client name slot n memory.active) (same_Some session.log_number number own)
                (own_on w memory.active client name slot session (of_session session at) (eqb-true session.client client e));
            none = λ shut. absurd (none-some session.log_number (sym shut));
            known = known_here;
          }

      pub found_beside : IfOk (found_unless_busy (session_in memory.sessions slot) client slot rec.number) (IsFound w need client name image memory)
      found_beside = found_by (session_in memory.sessions slot) refl

    -- If the client may write the pool, its transaction may begin.
    pub may_begin : (at : List (ℕ × Puddle)) → client < CLIENTS → refusal_to w needs.Write client name ≡ None → Some at ≡ puddles_with_graph F image slot → MayBegin F client name image slot at
    unfolding pool_of
    may_begin at known free some =
        let here = found_record t name slot found.r found.found in
        let puddles = are_with_graph F slot image at (sym some) in
        let may = may_write_by (w.clients client) (pool_named name w.stored) client (open_on name w) free in
        record {
          rec = found.r;
          who = may.owner_is;
          graph = puddles.graph;
          used = here.used;
          name_is = here.name_is;
          puddles = puddles.turned;
          stored = puddles.stored;
          owned = ready.clients client known ∙ may.there;
          right = (λ p. has_write_right (sym may.there p) (sym named p)) ∙ may.right;
        }

-- ---- whether the client's own transaction is open on the found pool

pub its_number : (own : Option ℕ) → is_some own ≡ true → (number : ℕ) × (own ≡ Some number)
its_number None there = absurd (let no : false ≡ true = there in cc)
its_number (Some number) there = (number, refl)

pub no_number : (own : Option ℕ) → is_some own ≡ false → own ≡ None
no_number None none = refl
no_number (Some number) none = absurd (let no : true ≡ false = none in cc)

-- ---- more is known about pools

-- After a call that judges a pool and forgets none, the daemon is still ready.
pub judged_more : (size : ℕ) (w : World) (memory : Memory) (known_pools : List (Option Known)) (old : State) → IsReady size w memory old → AreKnownPools memory.frames known_pools (reads old.now.words)
    → ((i : ℕ) (at : List (ℕ × Puddle)) → known_puddles_in memory.known_pools i ≡ Some at → known_puddles_in known_pools i ≡ Some at) → IsReady size w (record memory { known_pools = known_pools }) old
judged_more size w memory known_pools old ready right kept =
    IsReady-beside size w memory (record memory { known_pools = known_pools }) old refl refl refl ready
    (KnowsPools-read w.stored.frames memory.known_pools known_pools ready.active.opens (reads old.now.words) (subst (λ (n : ℕ). AreKnownPools n known_pools (reads old.now.words)) ready.frames right) kept ready.knows)

-- ---- after the call that finds a pool

-- The daemon is ready, what was found is the pool of the name, and no line of the client with this need is refused
-- because of the pool.
pub record Finds (size : ℕ) (w : World) (need : Need) (client : ℕ) (name : List ℕ) (memory : Memory) (s : State) (found : FoundPool) : Type 0 where
  pub ready : IsReady size w memory s
  pub is : IsFound w need client name (reads s.now.words) memory found
  pub whose : session_in memory.sessions found.slot ≡ session_found memory.sessions client found
  pub free : refusal_to w need client name ≡ None

pub finds : (size : ℕ) (w : World) (need : Need) (client : ℕ) (name : List ℕ) (old now : Memory) (a b : State) (result : Result FoundPool Refusal) (found : FoundPool) → result ≡ Ok found → b ≡ a
    → now.sessions ≡ old.sessions → IsReady size w now a → refusal_found result ≡ refusal_to w need client name → IfOk result (IsFound w need client name (reads a.now.words) now)
    → IfOk result (λ f. session_in old.sessions f.slot ≡ session_found old.sessions client f) → Finds size w need client name now b found
finds size w need client name old now a b result found ok same sessions ready refusal is whose = record {
  ready = subst (IsReady size w now) (sym same) ready;
  is = subst (λ (s : State). IsFound w need client name (reads s.now.words) now found) (sym same) (subst (λ (r : Result FoundPool Refusal). IfOk r (IsFound w need client name (reads a.now.words) now)) ok is);
  whose = subst (λ (ss : List (Option Session)). session_in ss found.slot ≡ session_found ss client found) (sym sessions)
      (subst (λ (r : Result FoundPool Refusal). IfOk r (λ f. session_in old.sessions f.slot ≡ session_found old.sessions client f)) ok whose);
  free = sym refusal ∙ ap refusal_found ok;
}
