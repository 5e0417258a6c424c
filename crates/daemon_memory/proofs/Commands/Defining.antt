-- What the definition of a type does to the worlds that images stand for.
use Rattle.std.proofs.Common.{◌≡◌, ◌⊎◌, inl, inr, ℕ, zero, suc, ◌+◌, ◌<◌, ◌≤◌, Bool, true, false, ◌&&◌, leb, eqb, cond, List, Option, Some, None, Result, Ok, Err, IfOk, is_some, is_none, option_map, unwrap_or, nat_cmp, refl, sym, ap, ap₂, subst, ◌∙◌, ⊎_elim, arith, eqb-true}
use Rattle.std.proofs.lemmas.Bool.{cases_eq, cond-false, ne_eqb}
use Rattle.std.proofs.lemmas.Option.{none-some}
use Rattle.pm_model.specs.declared.host.HostFault.{HostFault}
use Rattle.pm_model.specs.declared.host.HostFault.TheVariants.{Cut}
use Rattle.pm_model.specs.Words.{Has, values, Words, Picks, IsRested, reads}
use Rattle.pm_model.specs.Counts.{fault_of}
use Rattle.pm_model.specs.Moments.{State}
use Rattle.pm_model.specs.Changes.{Write, IsFrom, written, Leaves, Silently}
use Rattle.pm_model.specs.Masks.{masked, masked_state, masked_image, IsOff}
use Rattle.pm_model.proofs.Changes.{Changes-wider, Changes-now}
use Rattle.pm_model.proofs.Leaves.{Leaves-weaker, Leaves-changes}
use Rattle.pm_model.proofs.Masks.{Picks-masked, Picks-unmasked, IsOff-none, Persists-masked, Leaves-masked}
use Rattle.pud_defs.specs.declared.layout.TheConstants.{TYPE_RECORDS, TYPE_TABLE, POOL_TABLE, DAEMON_LOG, CLIENTS}
use Rattle.pud_defs.specs.declared.machine.Command.TheVariants.{Define}
use Rattle.pud_defs.specs.declared.machine.Refusal.{Refusal}
use Rattle.pud_defs.specs.declared.machine.Refusal.TheVariants.{Clash, Full}
use Rattle.pud_defs.specs.Formats.Image.{Image}
use Rattle.pud_defs.specs.Formats.Image.{image_with as write_word}
use Rattle.pud_defs.specs.RegistryTables.Keyed.{first_free}
use Rattle.pud_defs.specs.Formats.Names.{name_cmp}
use Rattle.pud_defs.specs.RegistryTables.Spaces.{Owner, owner_of}
use Rattle.pud_defs.specs.PoolGraphs.Stored.{Stored}
use Rattle.pud_defs.specs.PoolGraphs.Graph.{Graph, graph_of}
use Rattle.pud_defs.specs.RegistryTables.Tables.{Pool}
use Rattle.pud_defs.specs.PoolGraphs.Holdings.{Holding, graph_held, read_again}
use Rattle.pud_defs.specs.PoolGraphs.Holdings.Holding.{Sound, Wild}
use Rattle.pud_defs.specs.Formats.TypeMap.{is_legal_map, is_legal_type_id}
use Rattle.pud_defs.specs.RegistryTables.Types.{type_record_at, type_at, types_of, free_type, used_types, map_of, with_type}
use Rattle.pud_defs.specs.Logging.Entries.{is_idle_gate}
use Rattle.pud_defs.specs.StateMachine.PoolChanges.{pool_named, reread_pool, with_type_defined}
use Rattle.pud_defs.specs.StateMachine.World.{StoredWorld, World, idle_world_of, closed}
use Rattle.pud_defs.specs.StateMachine.Step.{is_other, is_clash, graph_in, answer_by, refusal_of, after, unless_refused, world_by}
use Rattle.pud_defs.proofs.KeyedTables.Keyed.{IsLowestFree, first_free_some, keyed-same}
use Rattle.pud_defs.proofs.KeyedTables.KeyedMaps.{find-mapped}
use Rattle.pud_defs.proofs.RegistryTables.PoolsCounted.{count_used-same}
use Rattle.pud_defs.proofs.PoolGraphs.TypeMore.{map_of-more, graph_of-more}
use Rattle.pud_defs.proofs.RegistryTables.TypeTable.{free_word, type_at-same}
use Rattle.pud_defs.proofs.RegistryTables.Spaces.{owner_of-same}
use Rattle.pud_defs.proofs.StateMachine.Parts.{StandsFor}
use Rattle.pud_defs.proofs.StateMachine.IdleWorlds.{types_sorted, pools_settled, map_of_world, length_of_world, full_of_world, room_of_world}
use Rattle.pud_defs.proofs.RegistryTables.Definitions.{idle_world_of-map_written, idle_world_of-defined}
use Rattle.pud_defs.specs.StateMachine.Step.Answer.{of_reply}
use Rattle.pud_defs.proofs.StateMachine.Steps.{refused_answer, answer_is_ok, refusal_of-define, define-same, define-clash, define-full, define-new, after-same}
use Rattle.type_maps.specs.declared.TypeFault.{TypeFault}
use Rattle.type_maps.specs.declared.TypeFault.TheVariants as faults
use Rattle.type_maps.specs.Define.{fault_in, refusal_in, table_refusal, place_for, record_write, half_defined, defined, IsDefining, IsDefined, Defines}
use Rattle.batch.specs.Tables.{HasDurableTables}
use Rattle.batch.specs.Worlds.{IsQuiescent}
use Rattle.batch.proofs.Tables.{reads_kept, HasDurableTables-persisted}
use Rattle.daemon_memory.proofs.PoolChanges.RestBeside.{rest_beside}
use Rattle.daemon_memory.specs.Memory.{ActiveTransaction, Memory}
use Rattle.daemon_memory.specs.ActiveTransactions.{HasIdleLogs, AreActive, ByOthers, NamesNone, KeepsActive}
use Rattle.daemon_memory.proofs.Commands.Beneath.{ready_gate, single_changes, persisted_single, logs_kept}
use Rattle.daemon_memory.proofs.PoolChanges.PuddlesLeft.{LeavesPuddles-changes}
use Rattle.daemon_memory.specs.Defined.{reply_of_definition}
use Rattle.daemon_memory.specs.Moves.{Stays, LeavesPuddles}
use Rattle.daemon_memory.specs.Ready.{KeepsRest, IsReady, AppliesMasked, Applies}
use Rattle.daemon_memory.proofs.Commands.Keeping.{KeepsRest-changes, KeepsRest-still}
use Rattle.daemon_memory.specs.KnownPools.{KnowsPools}
use Rattle.daemon_memory.proofs.Commands.Beside.{active_is, ready_idle, names_none_idle, Applies-beside, RestAfter}
use Rattle.daemon_memory.proofs.PoolsKnown.KnownLines.{KeepsPools-defined}
use Rattle.daemon_memory.proofs.PoolsKnown.KnownOpen.{KnowsPools-all}
use Rattle.daemon_memory.proofs.PoolChanges.TablesBeside.{ready_beside, read_beside, under_durable, standing}
use Rattle.daemon_memory.proofs.Commands.Applying.{Applies-still}

abbrev table_refusal_by : Option ℕ → ℕ → ℕ → Option Refusal
table_refusal_by found count map = cond (is_other map found) (Some Clash) (cond (is_none found && leb TYPE_RECORDS count) (Some Full) None)

module _ (size : ℕ) (w : World) (image : Image) (id map : ℕ) (stands : StandsFor size image (closed w)) where
  abbrev types : List (ℕ × ℕ)
  types = w.stored.types

  -- The table refuses what the machine refuses.
  pub refusal_of_table : table_refusal image id map ≡ refusal_of w (Define id map)
  refusal_of_table =
      (λ i. table_refusal_by (map_of_world size image (closed w) id stands i) (length_of_world size image (closed w) stands i) map)
      ∙ sym (refusal_of-define w id map)

  found_by : (found : Option ℕ) → map_of id types ≡ found → cond (is_some found) None (free_type image) ≡ None → unless_refused (refusal_of w (Define id map)) w (after w (Define id map)) ≡ w
  found_by (Some other) e none = ⊎_elim
      (λ same. ap (λ (o : Option Refusal). unless_refused o w (after w (Define id map))) (define-same w id map (e ∙ ap Some same)) ∙ after-same w id map (types_sorted size image (closed w) stands) (pools_settled size image (closed w) stands) (e ∙ ap Some same))
      (λ apart. ap (λ (o : Option Refusal). unless_refused o w (after w (Define id map))) (define-clash w id map other e apart))
      (cases_eq other map)
  found_by None e none =
      let many = full_of_world size image (closed w) stands none in
      ap (λ (o : Option Refusal). unless_refused o w (after w (Define id map))) (define-full w id map e (omega arith))

  -- If nothing is to be written, the world stays.
  pub idle_world : place_for image id ≡ None → world_by w (Some (Define id map)) ≡ w
  idle_world none = found_by (map_of id types) refl (ap (λ (o : Option ℕ). cond (is_some o) None (free_type image)) (sym (map_of_world size image (closed w) id stands)) ∙ none)

  place_by_found : (found : Option ℕ) (r : ℕ) → cond (is_some found) None (free_type image) ≡ Some r → (found ≡ None) × (free_type image ≡ Some r)
  place_by_found (Some other) r e = absurd (let no : None ≡ Some r = e in cc)
  place_by_found None r e = (refl, e)

  -- The type is new, and this is the lowest free record.
  pub record IsNew (r : ℕ) : Type 0 where
    pub missing : map_of id types ≡ None
    pub lowest : IsLowestFree (type_at image) 0 TYPE_RECORDS r
    pub allowed : refusal_of w (Define id map) ≡ None
    pub world : world_by w (Some (Define id map)) ≡ after w (Define id map)

  pub new_type : (r : ℕ) → place_for image id ≡ Some r → IsNew r
  new_type r place =
      let parts = place_by_found (map_of id types) r (ap (λ (o : Option ℕ). cond (is_some o) None (free_type image)) (sym (map_of_world size image (closed w) id stands)) ∙ place) in
      let allowed = define-new w id map parts.0 (room_of_world size image (closed w) r stands parts.1) in
      record {
        missing = parts.0;
        lowest = first_free_some (type_at image) 0 TYPE_RECORDS r parts.1;
        allowed = allowed;
        world = ap (λ (o : Option Refusal). unless_refused o w (after w (Define id map))) allowed;
      }

closed_after : (w : World) (id map : ℕ) → closed (after w (Define id map)) ≡ with_type_defined id map w.stored
unfolding after
closed_after w id map = refl

-- A definition writes no word outside the type table.
not_outside : (r id map k v : ℕ) → r < TYPE_RECORDS → (k < TYPE_TABLE) ⊎ (POOL_TABLE ≤ k) → written (record_write r id map) k v → ⊥
not_outside r id map k v known outside may =
    let apart : (at : ℕ) → TYPE_TABLE ≤ at → at < POOL_TABLE → eqb k at ≡ false = λ at low high.
    ne_eqb k at (λ e. ⊎_elim (λ below. absurd (omega arith)) (λ above. absurd (omega arith)) outside) in
    let one = apart (type_record_at r) (omega arith) (omega arith) in
    let two = apart (type_record_at r + 1) (omega arith) (omega arith) in
    let it : None ≡ Some v = sym (cond-false _ _ _ one ∙ cond-false _ _ _ two) ∙ may in
    absurd (cc)

-- ---- masked words

-- A word that is not masked may be written before masking or after it.
masked_written : (mask : Write) (at v : ℕ) (image : Image) → mask at ≡ None → masked_image mask (write_word at v image) ≡ write_word at v (masked_image mask image)
masked_written mask at v image none = λ i k. each k i
  where
    by_cell : (o : Option ℕ) (is : Bool) (x : ℕ) → (is ≡ true → o ≡ None) → unwrap_or o (cond is v x) ≡ cond is v (unwrap_or o x)
    by_cell None is x beside = refl
    by_cell (Some m) false x beside = refl
    by_cell (Some m) true x beside = absurd (let no : Some m ≡ None = beside refl in cc)

    each : (k : ℕ) → masked_image mask (write_word at v image) k ≡ write_word at v (masked_image mask image) k
    each k = by_cell (mask k) (eqb k at) (image k) (λ here. ap mask (eqb-true k at here) ∙ none)

module _ (mask : Write) (r id map : ℕ) (id_beside : mask (type_record_at r) ≡ None) (map_beside : mask (type_record_at r + 1) ≡ None) where
  half_masked : (image : Image) → masked_image mask (half_defined r map image) ≡ half_defined r map (masked_image mask image)
  half_masked image = masked_written mask (type_record_at r + 1) map image map_beside

  defined_masked : (image : Image) → masked_image mask (defined r id map image) ≡ defined r id map (masked_image mask image)
  defined_masked image = masked_written mask (type_record_at r) id (half_defined r map image) id_beside ∙ ap (write_word (type_record_at r) id) (half_masked image)

  IsDefining-masked : (words : Words) (image : Image) → IsDefining words r id map image → IsDefining (masked mask words) r id map (masked_image mask image)
  IsDefining-masked words image d = record {
    before = masked_image mask d.before;
    picked = Picks-masked mask words d.before d.picked;
    is = elim d.is [
      | inl same ↦ inl (ap (masked_image mask) same)
      | inr more ↦ elim more [
        | inl half ↦ inr (inl (ap (masked_image mask) half ∙ half_masked d.before))
        | inr whole ↦ inr (inr (ap (masked_image mask) whole ∙ defined_masked d.before))
      ]
    ];
  }

  IsDefined-masked : (words : Words) (image : Image) → IsDefined words r id map image → IsDefined (masked mask words) r id map (masked_image mask image)
  IsDefined-masked words image d = record { before = masked_image mask d.before; picked = Picks-masked mask words d.before d.picked; is = ap (masked_image mask) d.is ∙ defined_masked d.before }

  off_define : IsOff mask (written (record_write r id map))
  off_define = record { apart = λ k x v is may. not_both (mask k) x is (unmasked_at k v may) }
    where
      not_both : (o : Option ℕ) (x : ℕ) → o ≡ Some x → o ≡ None → ⊥
      not_both o x is none = let no : Some x ≡ None = sym is ∙ none in cc

      by_test : (one two : Bool) (v : ℕ) (o : Option ℕ) → cond one (Some id) (cond two (Some map) None) ≡ Some v → (one ≡ true → o ≡ None) → (two ≡ true → o ≡ None) → o ≡ None
      by_test true two v o may first second = first refl
      by_test false true v o may first second = second refl
      by_test false false v o may first second = absurd (let no : None ≡ Some v = may in cc)

      unmasked_at : (k v : ℕ) → written (record_write r id map) k v → mask k ≡ None
      unmasked_at k v may = by_test (eqb k (type_record_at r)) (eqb k (type_record_at r + 1)) v (mask k) may (λ here. ap mask (eqb-true _ _ here) ∙ id_beside) (λ here. ap mask (eqb-true _ _ here) ∙ map_beside)

  -- A definition is the same on the masked device.
  Defines-masked : (fault : Option HostFault) (old new : State) → Defines r id map fault old new → Defines r id map fault (masked_state mask old) (masked_state mask new)
  Defines-masked fault old new d = record {
    persists = Persists-masked mask (record_write r id map) fault old new off_define d.persists;
    moments = Leaves-masked mask (Silently (IsDefining (masked mask old.now.words) r id map)) old new
        (Leaves-weaker (Silently (IsDefining old.now.words r id map)) (λ bytes image. Silently (IsDefining (masked mask old.now.words) r id map) bytes (masked_image mask image)) old new
        (λ bytes image m. (m.0, IsDefining-masked old.now.words image m.1)) d.moments);
    done = λ none image picked.
        let under = Picks-unmasked mask new.now.words image picked in
        subst (λ (i : Image). IsDefined (masked mask old.now.words) r id map i) (sym under.is) (IsDefined-masked old.now.words under.under (d.done none under.under under.picked));
  }

-- ---- a new type is defined in the lowest free record

module _ (size : ℕ) (w : World) (id map r : ℕ) (old : State) (settled : IsQuiescent size (closed w) old.now.words) (durable : HasDurableTables w.stored.frames old.now.words)
    (stands : StandsFor size (reads old.now.words) (closed w)) (legal_id : is_legal_type_id id ≡ true) (legal_map : is_legal_map map ≡ true) (is_new : IsNew size w (reads old.now.words) id map stands r) where
  within : r < TYPE_RECORDS
  within = let high = is_new.lowest.high in omega arith

  -- The record is free in each image that may be left.
  free : (image : Image) → Picks old.now.words image → image (type_record_at r) ≡ 0
  free image picked =
      let known = within in
      let one = durable.each (type_record_at r) (inr (omega arith)) (omega arith) in
      one.each (image (type_record_at r)) (picked.each (type_record_at r)) ∙ free_word (reads old.now.words) r is_new.lowest.free

  gate : (image : Image) → Picks old.now.words image → is_idle_gate (image DAEMON_LOG) ≡ true
  gate image picked = settled.idle (image DAEMON_LOG) (picked.each DAEMON_LOG)

  half_gives : (image : Image) → Picks old.now.words image → idle_world_of size (half_defined r map image) ≡ Some (closed w)
  half_gives image picked = idle_world_of-map_written size image (closed w) r map (gate image picked) (settled.stands image picked) within (free image picked)

  gives : (image : Image) → Picks old.now.words image → idle_world_of size (defined r id map image) ≡ Some (with_type_defined id map w.stored)
  gives image picked = idle_world_of-defined size image (closed w) r id map (gate image picked) (settled.stands image picked) within (free image picked) legal_id legal_map is_new.missing

  still_closed : (new : State) → Defines r id map None old new → (v : ℕ) → Has (values (new.now.words DAEMON_LOG)) v → is_idle_gate v ≡ true
  still_closed new d v had = elim (Changes-now (written (record_write r id map)) None old new d.persists.changes DAEMON_LOG v had) [
    | inl was ↦ settled.idle v was
    | inr may ↦ absurd (not_outside r id map DAEMON_LOG v within (inl (omega arith)) may)
  ]

  settled_now : (new : State) → Defines r id map None old new → IsQuiescent size (closed (after w (Define id map))) new.now.words
  settled_now new d = record {
    stands = λ image picked. let h = d.done refl image picked in ap (idle_world_of size) h.is ∙ gives h.before h.picked ∙ ap Some (sym (closed_after w id map));
    idle = still_closed new d;
  }

  stands_meanwhile : (fault : Option HostFault) (new : State) → Defines r id map fault old new
      → Leaves (Silently (λ image. (idle_world_of size image ≡ Some (closed w)) ⊎ (idle_world_of size image ≡ Some (closed (after w (Define id map)))))) old new
  stands_meanwhile fault new d = Leaves-weaker _ _ old new (λ bytes image m. (
    m.0,
    elim m.1.is [
      | inl same ↦ inl (ap (idle_world_of size) same ∙ settled.stands m.1.before m.1.picked)
      | inr more ↦ elim more [
        | inl half ↦ inl (ap (idle_world_of size) half ∙ half_gives m.1.before m.1.picked)
        | inr whole ↦ inr (ap (idle_world_of size) whole ∙ gives m.1.before m.1.picked ∙ ap Some (sym (closed_after w id map)))
      ]
    ],
  )) d.moments

-- ---- the active transactions stay

active_kept : (more : List (ℕ × ℕ)) (h : Holding) (g : Graph) → graph_held h ≡ Some g → graph_held (read_again more h) ≡ Some g
active_kept more (Sound other) g is = is
active_kept more (Wild st) g is = absurd (none-some g is)

graph_kept : (more : List (ℕ × ℕ)) (o : Option Pool) (g : Graph) → graph_in o ≡ Some g → graph_in (option_map (reread_pool more) o) ≡ Some g
graph_kept more None g is = absurd (none-some g is)
graph_kept more (Some p) g is = active_kept more p.holding g is

-- A pool that has a graph still has it with one more type.
pub pool_kept : (id map : ℕ) (s : StoredWorld) (name : List ℕ) (g : Graph) → graph_in (pool_named name s) ≡ Some g → graph_in (pool_named name (with_type_defined id map s)) ≡ Some g
unfolding with_type_defined
pool_kept id map s name g is =
    let more = with_type id map s.types in
    ap graph_in (find-mapped name_cmp (reread_pool more) name s.pools) ∙ graph_kept more (pool_named name s) g is

graphs_kept : (id map : ℕ) (s : StoredWorld) → map_of id s.types ≡ None → (st : Stored) (g : Graph) → graph_of s.types st ≡ Some g → graph_of (with_type_defined id map s).types st ≡ Some g
unfolding with_type_defined
graphs_kept id map s none st g is = graph_of-more id map s.types st g none is

types_kept : (id map : ℕ) (s : StoredWorld) → map_of id s.types ≡ None → (other m : ℕ) → map_of other s.types ≡ Some m → map_of other (with_type_defined id map s).types ≡ Some m
unfolding with_type_defined
types_kept id map s none other m is = map_of-more id map other m s.types none is ∙ is

frames_kept : (id map : ℕ) (s : StoredWorld) → (with_type_defined id map s).frames ≡ s.frames
unfolding with_type_defined
frames_kept id map s = refl

KeepsActive-define : (w : World) (active : List (Option ActiveTransaction)) (mask : Write) (words : Words) (id map : ℕ) → AreActive w active mask words → map_of id w.stored.types ≡ None → KeepsActive w (after w (Define id map)) active
unfolding after
KeepsActive-define w active mask words id map holds none = record {
  frames = frames_kept id map w.stored;
  transactions = refl;
  present = λ number h there. refl;
  stored = λ number h there.
      let is = active_is w active mask words holds number h there in
      pool_kept id map w.stored h.name is.graph_before is.stored ∙ sym is.stored;
  types = types_kept id map w.stored none;
  graphs = graphs_kept id map w.stored none;
}

-- ---- the line

module _ (size : ℕ) (w : World) (memory : Memory) (id map r : ℕ) (old : State) (ready : IsReady size w memory old) (legal_id : is_legal_type_id id ≡ true) (legal_map : is_legal_map map ≡ true)
    (is_new : IsNew size w (reads (masked ready.mask old.now.words)) id map (standing size w memory old ready) r) where
  abbrev F : ℕ
  F = w.stored.frames

  abbrev m : Write
  m = ready.mask

  abbrev next : World
  next = after w (Define id map)

  known : r < TYPE_RECORDS
  known = within size w id map r (masked_state m old) ready.settled (under_durable size w memory old ready) (standing size w memory old ready) legal_id legal_map is_new

  id_unmasked : m (type_record_at r) ≡ None
  id_unmasked = let low = known in (ready_beside size w memory old ready).below (type_record_at r) (omega arith)

  map_unmasked : m (type_record_at r + 1) ≡ None
  map_unmasked = let low = known in (ready_beside size w memory old ready).below (type_record_at r + 1) (omega arith)

  by_others : (k v : ℕ) → written (record_write r id map) k v → ByOthers m k v
  by_others k v may = IsOff-none m (written (record_write r id map)) k v (off_define m r id map id_unmasked map_unmasked) may

  frames_next : next.stored.frames ≡ F
  unfolding after with_type_defined
  frames_next = refl

  clients_next : next.clients ≡ w.clients
  unfolding after
  clients_next = refl

  shelf_next : next.shelf ≡ w.shelf
  unfolding after
  shelf_next = refl

  module _ (fault : Option HostFault) (new : State) (d : Defines r id map fault old new) where
    under_mask : Defines r id map fault (masked_state m old) (masked_state m new)
    under_mask = Defines-masked m r id map id_unmasked map_unmasked fault old new d

    names_meanwhile : Leaves (Silently (NamesNone m)) old new
    names_meanwhile = Leaves-changes (NamesNone m) (written (record_write r id map)) fault old new
        (λ before image picked from. names_none_idle m image (ap is_idle_gate (daemon_kept before image from) ∙ ready_idle size w memory old ready before picked)) d.persists.changes
      where
        daemon_kept : (before image : Image) → IsFrom (written (record_write r id map)) before image → image DAEMON_LOG ≡ before DAEMON_LOG
        daemon_kept before image from = elim (from.each DAEMON_LOG) [ inl same ↦ same | inr may ↦ absurd (not_outside r id map DAEMON_LOG (image DAEMON_LOG) known (inl (omega arith)) may) ]

    now_done : fault ≡ None → Defines r id map None old new
    now_done none = subst (λ (f : Option HostFault). Defines r id map f old new) none d

    clients_now : fault ≡ None → (client : ℕ) → client < CLIENTS → owner_of (reads new.now.words) client ≡ next.clients client
    clients_now none client low =
        owner_of-same (reads new.now.words) (reads old.now.words) client low
        (λ k from to. let there = known in reads_kept (written (record_write r id map)) old new k (now_done none).persists.changes (λ v. not_outside r id map k v there (inr (omega arith))))
        ∙ ready.clients client low ∙ sym (ap (λ (c : ℕ → Option Owner). c client) clients_next)

    logs_now : HasIdleLogs next.stored.frames next.clients (masked m new.now.words)
    logs_now =
        subst (λ (n : ℕ). HasIdleLogs n next.clients (masked m new.now.words)) (sym frames_next)
        (subst (λ (c : ℕ → Option Owner). HasIdleLogs F c (masked m new.now.words)) (sym clients_next)
        (logs_kept F w.clients (written (record_write r id map)) fault (masked_state m old) (masked_state m new) under_mask.persists.changes
        (λ k v low high. not_outside r id map k v known (inr (omega arith))) ready.logs))

    applies_masked : AppliesMasked size w next m fault old new
    applies_masked = record {
      beside = record { changes = Changes-wider (written (record_write r id map)) (ByOthers m) fault old new by_others d.persists.changes; names = names_meanwhile; single = λ none. single_changes (written (record_write r id map)) fault old new d.persists.changes (λ k outside. persisted_single (record_write r id map) fault old new d.persists none k) };
      moments = stands_meanwhile size w id map r (masked_state m old) ready.settled (under_durable size w memory old ready) (standing size w memory old ready) legal_id legal_map is_new fault (masked_state m new) under_mask;
      settled = λ none. settled_now size w id map r (masked_state m old) ready.settled (under_durable size w memory old ready) (standing size w memory old ready) legal_id legal_map is_new (masked_state m new)
          (subst (λ (f : Option HostFault). Defines r id map f (masked_state m old) (masked_state m new)) none under_mask);
      tables = λ none. subst (λ (n : ℕ). HasDurableTables n new.now.words) (sym frames_next) (HasDurableTables-persisted F (record_write r id map) old new (now_done none).persists ready.tables);
      clients = clients_now;
      logs = λ none. logs_now;
      shelf = shelf_next;
    }

    knows_now : place_for (reads old.now.words) id ≡ Some r → fault ≡ None → KnowsPools F memory.known_pools ready.active.opens (reads new.now.words)
    knows_now place none =
        KnowsPools-all F memory.known_pools ready.active.opens (reads old.now.words) (reads new.now.words) (KeepsPools-defined r id map old new place legal_id (now_done none) F) ready.knows

    rest_now : place_for (reads old.now.words) id ≡ Some r → fault ≡ None → RestAfter w memory.active m old.now.words ready.active new.now.words
    rest_now place none =
        rest_beside size w memory old ready None new (λ number h there no. none-some h.slot no) (KeepsPools-defined r id map old new place legal_id (now_done none) F) (applies_masked.beside.single none)

    -- No record of a puddle is written.
    puddles_now : LeavesPuddles F Stays old new
    puddles_now =
        LeavesPuddles-changes F (written (record_write r id map)) fault old new d.persists.changes (λ k v low high. not_outside r id map k v known (inr (omega arith)))
        (λ v. not_outside r id map DAEMON_LOG v known (inl (omega arith))) ready.tables (ready_gate size w memory old ready)

    new_applies : place_for (reads old.now.words) id ≡ Some r → Applies size w (world_by w (Some (Define id map))) memory fault old new
    new_applies place = subst (λ (v : World). Applies size w v memory fault old new) (sym is_new.world)
        (Applies-beside size w next memory fault old new ready (KeepsActive-define w memory.active m old.now.words id map ready.active is_new.missing) applies_masked Stays puddles_now memory refl refl refl (knows_now place) (rest_now place))

-- ---- the table as it is read

-- The same records have the same lowest free record.
first_free-same : {A : Type 0} (f g : ℕ → Option A) (from count : ℕ) → ((j : ℕ) → from ≤ j → j < from + count → f j ≡ g j) → first_free f from count ≡ first_free g from count
unfolding first_free
first_free-same f g from zero same = refl
first_free-same f g from (suc count) same =
    ap₂ (λ (o : Option _) (later : Option ℕ). cond (is_none o) (Some from) later) (same from (omega arith) (omega arith)) (first_free-same f g (from + 1) count (λ j low high. same j (omega arith) (omega arith)))

module _ (size : ℕ) (w : World) (memory : Memory) (s : State) (ready : IsReady size w memory s) (id : ℕ) where
  abbrev under : Image
  under = reads (masked ready.mask s.now.words)

  abbrev now : Image
  now = reads s.now.words

  same_type : (n : ℕ) → n < TYPE_RECORDS → type_at under n ≡ type_at now n
  same_type n below = type_at-same now under n (read_beside size w memory s ready (type_record_at n) (omega arith)) (read_beside size w memory s ready (type_record_at n + 1) (omega arith))

  types_same : types_of under ≡ types_of now
  types_same = keyed-same nat_cmp (type_at under) (type_at now) 0 TYPE_RECORDS (λ n low high. same_type n (omega arith))

  free_same : free_type under ≡ free_type now
  free_same = first_free-same (type_at under) (type_at now) 0 TYPE_RECORDS (λ n low high. same_type n (omega arith))

  used_same : used_types under ≡ used_types now
  used_same = count_used-same (type_at under) (type_at now) 0 TYPE_RECORDS (λ n low high. ap is_none (same_type n (omega arith)))

  place_same : place_for under id ≡ place_for now id
  place_same = ap₂ (λ (types : List (ℕ × ℕ)) (lowest : Option ℕ). cond (is_some (map_of id types)) None lowest) types_same free_same

  refusal_same : (map : ℕ) → table_refusal under id map ≡ table_refusal now id map
  refusal_same map =
      ap₂ (λ (types : List (ℕ × ℕ)) (used : ℕ). cond (is_clash types id map) (Some Clash) (cond (is_none (map_of id types) && leb TYPE_RECORDS used) (Some Full) None)) types_same used_same

module _ (size : ℕ) (w : World) (memory : Memory) (id map : ℕ) (fault : Option HostFault) (old new : State) (ready : IsReady size w memory old) (legal_id : is_legal_type_id id ≡ true) (legal_map : is_legal_map map ≡ true) where
  place_applies : (place : Option ℕ) → place_for (reads old.now.words) id ≡ place
      → (place_for (reads old.now.words) id ≡ None → new ≡ old) → ((r : ℕ) → place_for (reads old.now.words) id ≡ Some r → Defines r id map fault old new)
      → (fault ≡ Some Cut → IsRested new.now.words)
      → Applies size w (world_by w (Some (Define id map))) memory fault old new
  place_applies None place idle defines rests =
      subst (λ (v : World). Applies size w v memory fault old new)
      (sym (idle_world size w (reads (masked ready.mask old.now.words)) id map (standing size w memory old ready) (place_same size w memory old ready id ∙ place)))
      (Applies-still size w memory fault old new ready (idle place) rests)
  place_applies (Some r) place idle defines rests =
      new_applies size w memory id map r old ready legal_id legal_map
      (new_type size w (reads (masked ready.mask old.now.words)) id map (standing size w memory old ready) r (place_same size w memory old ready id ∙ place)) fault new (defines r place) place

-- A definition is carried out or refused as the machine does it.
pub Applies-define : (size : ℕ) (w : World) (memory : Memory) (id map : ℕ) (fault : Option HostFault) (old new : State) → IsReady size w memory old → is_legal_type_id id ≡ true → is_legal_map map ≡ true
    → (place_for (reads old.now.words) id ≡ None → new ≡ old) → ((r : ℕ) → place_for (reads old.now.words) id ≡ Some r → Defines r id map fault old new)
    → (fault ≡ Some Cut → IsRested new.now.words)
    → Applies size w (world_by w (Some (Define id map))) memory fault old new
Applies-define size w memory id map fault old new ready legal_id legal_map idle defines rests =
    place_applies size w memory id map fault old new ready legal_id legal_map (place_for (reads old.now.words) id) refl idle defines rests

-- A type for which a record is to be written is not refused.
pub allowed_when_placed : (size : ℕ) (w : World) (memory : Memory) (id map r : ℕ) (s : State) → IsReady size w memory s → place_for (reads s.now.words) id ≡ Some r → refusal_of w (Define id map) ≡ None
allowed_when_placed size w memory id map r s ready place =
    (new_type size w (reads (masked ready.mask s.now.words)) id map (standing size w memory s ready) r (place_same size w memory s ready id ∙ place)).allowed

-- The refusal, and so the reply, is the machine's.
pub refusal_when_ready : (size : ℕ) (w : World) (memory : Memory) (id map : ℕ) (old : State) → IsReady size w memory old → table_refusal (reads old.now.words) id map ≡ refusal_of w (Define id map)
refusal_when_ready size w memory id map old ready =
    sym (refusal_same size w memory old ready id map) ∙ refusal_of_table size w (reads (masked ready.mask old.now.words)) id map (standing size w memory old ready)

pub fault_of_reply : (done : Result (Unit {0}) TypeFault) → fault_of (reply_of_definition done) ≡ fault_in done
fault_of_reply (Ok x) = refl
fault_of_reply (Err faults.Clash) = refl
fault_of_reply (Err faults.Full) = refl
fault_of_reply (Err (faults.Host fault)) = refl

pub reply_when_ready : (size : ℕ) (w : World) (memory : Memory) (id map : ℕ) (done : Result (Unit {0}) TypeFault) (old : State) → IsReady size w memory old
    → (fault_in done ≡ None → refusal_in done ≡ table_refusal (reads old.now.words) id map) → IfOk (reply_of_definition done) (λ reply. of_reply reply ≡ answer_by w (Some (Define id map)))
reply_when_ready size w memory id map (Ok x) old ready told = sym (answer_is_ok w (Define id map) refl refl (sym (told refl ∙ refusal_when_ready size w memory id map old ready)))
reply_when_ready size w memory id map (Err faults.Clash) old ready told = sym (refused_answer w (Define id map) Clash (sym (told refl ∙ refusal_when_ready size w memory id map old ready)))
reply_when_ready size w memory id map (Err faults.Full) old ready told = sym (refused_answer w (Define id map) Full (sym (told refl ∙ refusal_when_ready size w memory id map old ready)))
reply_when_ready size w memory id map (Err (faults.Host fault)) old ready told = tt

rest_by_place : (image : Image) (id map : ℕ) (fault : Option HostFault) (old new : State) → (place : Option ℕ) → place_for image id ≡ place
    → (place_for image id ≡ None → new ≡ old) → ((r : ℕ) → place_for image id ≡ Some r → Defines r id map fault old new) → KeepsRest old new
rest_by_place image id map fault old new None place idle defines =
    let same = idle place in
    KeepsRest-still old new same
rest_by_place image id map fault old new (Some r) place idle defines =
    let d = defines r place in
    KeepsRest-changes _ fault old new d.persists.changes

-- Whatever the device stores, a definition prints nothing, and it leaves the bytes left to read and the shelf.
pub KeepsRest-define : (image : Image) (id map : ℕ) (fault : Option HostFault) (old new : State)
    → (place_for image id ≡ None → new ≡ old) → ((r : ℕ) → place_for image id ≡ Some r → Defines r id map fault old new) → KeepsRest old new
KeepsRest-define image id map fault old new idle defines = rest_by_place image id map fault old new (place_for image id) refl idle defines
