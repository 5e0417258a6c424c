-- A pool is placed beside the active transactions: the next world keeps these, and each pool that has a graph keeps it,
-- and its puddles.
use Rattle.std.proofs.Common.{◌≡◌, ◌≢◌, inl, inr, ℕ, suc, ◌+◌, ◌-◌, ◌^◌, ◌<◌, ◌≤◌, true, false, eqb, List, [], ◌∷◌, ◌++◌, map, length, Option, Some, None, is_none, nat_cmp, refl, sym, ap, subst, ◌∙◌, arith, ne_eqb}
use Rattle.std.specs.Prelude.{slice_get, bytes_eq, ⊤}
use Rattle.std.specs.FinMap.Entries.{put, find-put}
use Rattle.std.proofs.lemmas.Bool.{cases_eq, cases_Bool, cond-true, cond-false, cond_both}
use Rattle.std.proofs.lemmas.Cmp.{nat_cmp_total}
use Rattle.std.proofs.lemmas.Option.{none-some}
use Rattle.pm_model.specs.declared.host.HostFault.{HostFault}
use Rattle.pm_model.specs.Words.{Words, reads}
use Rattle.pm_model.specs.Moments.{State}
use Rattle.pm_model.specs.Changes.{Write}
use Rattle.pm_model.specs.Masks.{masked}
use Rattle.pud_defs.specs.declared.layout.TheConstants.{DAEMON_LOG, TYPE_RECORDS, TYPE_TABLE, PUDDLE_TABLE}
use Rattle.pud_defs.specs.declared.records.TheConstants.{POOL_RECORDS}
use Rattle.pud_defs.specs.declared.records.PoolRecord.{PoolRecord}
use Rattle.pud_defs.specs.declared.records.PuddleRecord.{PuddleRecord}
use Rattle.pud_defs.specs.declared.records.Put.{Put}
use Rattle.pud_defs.specs.PoolGraphs.ExportFile.{FileContents}
use Rattle.pud_defs.specs.PoolGraphs.Graph.{Graph, graph_of}
use Rattle.pud_defs.specs.Formats.Image.{Image}
use Rattle.pud_defs.specs.StateMachine.Imports.{types_missing, with_types_defined, imported_pool, with_imported_pool}
use Rattle.pud_defs.specs.Formats.Geometry.{steps_of}
use Rattle.pud_defs.proofs.Formats.Geometry.{few_slots}
use Rattle.pud_defs.specs.Formats.Layout.{tables_end, frames_at}
use Rattle.pud_defs.specs.StateMachine.PoolChanges.{pool_named, with_type_defined}
use Rattle.pud_defs.specs.RegistryTables.Puts.{with_put, pool_put, member_by, changed_at, with_puddle_at}
use Rattle.pud_defs.specs.RegistryTables.SoundTables.{HasSoundTables}
use Rattle.pud_defs.specs.RegistryTables.Spaces.{Owner}
use Rattle.pud_defs.specs.StateMachine.Step.{graph_in}
use Rattle.pud_defs.specs.PoolGraphs.Stored.{Stored}
use Rattle.pud_defs.specs.RegistryTables.Tables.{Tables, tables_of, member_of}
use Rattle.pud_defs.specs.RegistryTables.Types.{map_of, with_type, types_of}
use Rattle.pud_defs.specs.StateMachine.World.{StoredWorld, World}
use Rattle.pud_defs.proofs.RegistryTables.PoolsChanged.{changed_here, changed_elsewhere}
use Rattle.pud_defs.proofs.RegistryTables.TablesOf.{frames_of_tables}
use Rattle.pud_defs.proofs.RegistryTables.TypeLists.{same_test}
use Rattle.pud_defs.proofs.PoolGraphs.TypeMore.{graph_of-wider}
use Rattle.daemon_memory.specs.Memory.{ActiveTransaction, Memory}
use Rattle.daemon_memory.specs.ActiveTransactions.{AreActive, KeepsActive}
use Rattle.daemon_memory.proofs.Commands.Beside.{active_is}
use Rattle.daemon_memory.proofs.Commands.Defining.{pool_kept}
use Rattle.daemon_memory.proofs.PoolChanges.PoolsApart.{found_beside_put}
use Rattle.daemon_memory.proofs.PoolChanges.Pooling.{IsNotNamed}
use Rattle.pud_defs.specs.RegistryTables.Types.{type_at, type_record_at}
use Rattle.pud_defs.proofs.RegistryTables.TypeTable.{type_at-same}
use Rattle.pud_defs.proofs.KeyedTables.Keyed.{first_free_some}
use Rattle.pud_defs.proofs.RegistryTables.PutsMade.{with_put-outside}
use Rattle.pud_defs.proofs.RegistryTables.TablesOf.{tables_of-same}
use Rattle.batch.specs.Batches.{ByBatch}
use Rattle.batch.proofs.Tables.{reads_kept, reads_committed}
use Rattle.registry.specs.declared.adding.NewPuddle.{NewPuddle}
use Rattle.registry.specs.declared.placing.NewType.{NewType}
use Rattle.registry.specs.Puts.{puts_batch, with_puts, AreOfTables}
use Rattle.registry.specs.Adding.{adding}
use Rattle.registry.specs.Pools.{CommitsPuts}
use Rattle.registry.specs.Placing.{new_type_put, placing, puddle_of_added, HasFreeRecords, IsPlacedFor}
use Rattle.registry.proofs.NewPuddles.{AreWithin, HaveFrontiers, with_added, adding_of, adding_tables}
use Rattle.registry.proofs.PutBatches.{of_tables, overwritten-table_puts}
use Rattle.pud_defs.specs.StateMachine.Imports.{numbers_drawn}
use Rattle.daemon_memory.proofs.PoolsKnown.KnownKept.{KeepsGraphs, KeepsPools, KeepsPools-each, puddles_same, own_word}
use Rattle.daemon_memory.proofs.PoolsKnown.KnownJudged.{not_free}
use Rattle.pm_model.proofs.Words.{Picks-reads}
use Rattle.pud_defs.specs.declared.machine.Command.{Command}
use Rattle.pud_defs.specs.StateMachine.Step.{refusal_of, after, world_by}
use Rattle.pud_defs.proofs.StateMachine.IdleWorlds.{standing_beside, standing_idle}
use Rattle.pud_defs.proofs.StateMachine.Parts.{Holds-same, StandsFor}
use Rattle.pud_defs.proofs.StateMachine.Parts.Part.{Types}
use Rattle.pud_defs.proofs.StateMachine.Steps.{done_world}
use Rattle.daemon_memory.specs.Moves.{Stays, LeavesPuddles}
use Rattle.daemon_memory.specs.Ready.{IsReady, Applies}
use Rattle.daemon_memory.proofs.Commands.Beside.{Applies-beside}
use Rattle.daemon_memory.proofs.Commands.Beneath.{read_masked-kept}
use Rattle.daemon_memory.proofs.PoolsKnown.KnownOpen.{KnowsPools-all}
use Rattle.daemon_memory.proofs.PoolChanges.PoolsApart.{AppliesMasked-pools}
use Rattle.daemon_memory.proofs.PoolChanges.Pooling.{ChangesBeside}
use Rattle.daemon_memory.proofs.PoolChanges.RestBeside.{rest_beside}
use Rattle.daemon_memory.proofs.PoolChanges.TablesBeside.{types_read, read_beside}
use Rattle.daemon_memory.proofs.PoolChanges.PlacedWords.{IsFreeWord, AreWords, slice_get-mapped, placed_slot, placed_frame, placing_words}

-- ---- types that are added

-- None of these is defined by those.
abbrev pub AreMissing : (types come : List (ℕ × ℕ)) → Type 0
AreMissing types [] = ⊤
AreMissing types (t ∷ come) = (map_of t.0 types ≡ None) × AreMissing types come

none_when : (o : Option ℕ) → is_none o ≡ true → o ≡ None
none_when None is = refl
none_when (Some x) is = absurd (let no : false ≡ true = is in cc)

-- Those of a file that are missing are not defined.
pub are_missing : (types file : List (ℕ × ℕ)) → AreMissing types (types_missing types file)
are_missing types [] = tt
are_missing types (t ∷ file) = elim (cases_Bool (is_none (map_of t.0 types))) [
  | inl missing ↦ subst (AreMissing types) (sym (cond-true _ _ _ missing)) (none_when (map_of t.0 types) missing, are_missing types file)
  | inr there ↦ subst (AreMissing types) (sym (cond-false _ _ _ there)) (are_missing types file)
]

-- Each type that these define has the same map by those.
pub record Defines (types wider : List (ℕ × ℕ)) : Type 0 where
  pub each : (id m : ℕ) → map_of id types ≡ Some m → map_of id wider ≡ Some m

defines_more : (types now : List (ℕ × ℕ)) (id map : ℕ) → map_of id types ≡ None → Defines types now → Defines types (with_type id map now)
defines_more types now id map none defines = record {
  each = λ other m there.
      find-put nat_cmp nat_cmp_total other id map now
      ∙ cond-false _ _ _ (same_test other id ∙ ne_eqb other id (λ e. none-some m (sym none ∙ ap (λ k. map_of k types) (sym e) ∙ there)))
      ∙ defines.each other m there;
}

-- Types that were not defined leave those that were.
defined_still : (types come : List (ℕ × ℕ)) (s : StoredWorld) → AreMissing types come → Defines types s.types → Defines types (with_types_defined come s).types
unfolding with_types_defined with_type_defined
defined_still types [] s missing defines = defines
defined_still types (t ∷ come) s missing defines = defined_still types come (with_type_defined t.0 t.1 s) missing.1 (defines_more types s.types t.0 t.1 missing.0 defines)

frames_still : (come : List (ℕ × ℕ)) (s : StoredWorld) → (with_types_defined come s).frames ≡ s.frames
unfolding with_types_defined with_type_defined
frames_still [] s = refl
frames_still (t ∷ come) s = frames_still come (with_type_defined t.0 t.1 s)

-- A pool that has a graph still has it.
pools_still : (come : List (ℕ × ℕ)) (s : StoredWorld) (name : List ℕ) (g : Graph) → graph_in (pool_named name s) ≡ Some g → graph_in (pool_named name (with_types_defined come s)) ≡ Some g
unfolding with_types_defined
pools_still [] s name g is = is
pools_still (t ∷ come) s name g is = pools_still come (with_type_defined t.0 t.1 s) name g (pool_kept t.0 t.1 s name g is)

-- So does whatever is stored.
pub graphs_defined : (types wider : List (ℕ × ℕ)) → Defines types wider → (st : Stored) (g : Graph) → graph_of types st ≡ Some g → graph_of wider st ≡ Some g
graphs_defined types wider defines st g is = graph_of-wider types wider st g (record { each = λ p m below live there. defines.each _ m there }) is

-- ---- the world with the pool of a file

module _ (name : List ℕ) (who : Owner) (mode : ℕ) (file : FileContents) (s : StoredWorld) where
  abbrev next : StoredWorld
  next = with_imported_pool name who mode file s

  pub imported_frames : next.frames ≡ s.frames
  unfolding with_imported_pool
  imported_frames = frames_still (types_missing s.types file.types) s

  pub imported_types : Defines s.types next.types
  unfolding with_imported_pool
  imported_types = defined_still s.types (types_missing s.types file.types) s (are_missing s.types file.types) (record { each = λ id m there. there })

  imported_pools : (other : List ℕ) (g : Graph) → (other ≡ name → ⊥) → graph_in (pool_named other s) ≡ Some g → graph_in (pool_named other next) ≡ Some g
  unfolding with_imported_pool
  imported_pools other g apart is =
      let typed = with_types_defined (types_missing s.types file.types) s in
      ap graph_in (found_beside_put name other (imported_pool who mode s.next_number file) typed.pools apart) ∙ pools_still (types_missing s.types file.types) s other g is

-- It keeps the active transactions.
pub KeepsActive-imported : (w : World) (active : List (Option ActiveTransaction)) (mask : Write) (words : Words) (name : List ℕ) (who : Owner) (mode : ℕ) (file : FileContents) → AreActive w active mask words → IsNotNamed name active
    → KeepsActive w (record w { stored = with_imported_pool name who mode file w.stored }) active
KeepsActive-imported w active mask words name who mode file holds apart = record {
  frames = imported_frames name who mode file w.stored;
  transactions = refl;
  present = λ number h there. refl;
  stored = λ number h there.
      let is = active_is w active mask words holds number h there in
      imported_pools name who mode file w.stored h.name is.graph_before (apart number h there) is.stored ∙ sym is.stored;
  types = (imported_types name who mode file w.stored).each;
  graphs = λ st g is. graphs_defined w.stored.types (with_imported_pool name who mode file w.stored).types (imported_types name who mode file w.stored) st g is;
}

-- ---- the tables after the batch

with_puts-append : (first later : List Put) (image : Image) → with_puts (first ++ later) image ≡ with_puts later (with_puts first image)
unfolding with_puts
with_puts-append [] later image = refl
with_puts-append (put ∷ first) later image = with_puts-append first later (with_put put image)

-- A word that the changes do not write stays.
with_puts-free : (P : ℕ → Type 0) (puts : List Put) (image : Image) (k : ℕ) → AreWords P puts → (P k → ⊥) → with_puts puts image k ≡ image k
unfolding with_puts
with_puts-free P [] image k are not = refl
with_puts-free P (put ∷ puts) image k are not = with_puts-free P puts (with_put put image) k are.1 not ∙ with_put-outside put image k (λ low high. not (are.0 k low high))

-- The record of another pool's puddle is not one of this pool's.
member_new : (slot frame : ℕ) (r : PuddleRecord) → slot ≢ r.pool → member_of slot frame (Some (member_by r)) ≡ None
member_new slot frame r other = cond-false (eqb (r.pool + 1) (slot + 1)) _ None (ne_eqb (r.pool + 1) (slot + 1) (λ e. other (let it : slot ≡ r.pool = omega arith in it)))

member_beside : (slot frame : ℕ) (r : PuddleRecord) (t : Tables) → slot ≢ r.pool → member_of slot frame (t.puddles frame) ≡ None
    → (f : ℕ) → member_of slot f ((with_puddle_at frame (Some (member_by r)) t).puddles f) ≡ member_of slot f (t.puddles f)
member_beside slot frame r t other none f = elim (cases_eq f frame) [
  | inl here ↦
      ap (λ (n : ℕ). member_of slot n (changed_at frame (Some (member_by r)) t.puddles n)) here
      ∙ ap (member_of slot frame) (changed_here frame (Some (member_by r)) t.puddles)
      ∙ member_new slot frame r other
      ∙ sym (ap (λ (n : ℕ). member_of slot n (t.puddles n)) here ∙ none)
  | inr apart ↦ ap (member_of slot f) (changed_elsewhere frame (Some (member_by r)) t.puddles f apart)
]

-- These puddles belong to another pool than the one in the slot, and lie in frames that have none of its puddles.
abbrev AreOthers : (slot : ℕ) → Tables → List NewPuddle → Type 0
AreOthers slot t [] = ⊤
AreOthers slot t (a ∷ all) = (slot ≢ a.puddle.pool) × (member_of slot a.frame (t.puddles a.frame) ≡ None) × AreOthers slot t all

others_more : (slot frame : ℕ) (r : PuddleRecord) (t : Tables) → slot ≢ r.pool → member_of slot frame (t.puddles frame) ≡ None → (all : List NewPuddle) → AreOthers slot t all
    → AreOthers slot (with_puddle_at frame (Some (member_by r)) t) all
others_more slot frame r t other none [] are = tt
others_more slot frame r t other none (a ∷ all) are = (are.0, member_beside slot frame r t other none a.frame ∙ are.1, others_more slot frame r t other none all are.2)

-- So they leave its puddles.
others_added : (slot : ℕ) (all : List NewPuddle) (t : Tables) (f : ℕ) → AreOthers slot t all → member_of slot f ((with_added all t).puddles f) ≡ member_of slot f (t.puddles f)
others_added slot [] t f are = refl
others_added slot (a ∷ all) t f are =
    others_added slot all (with_puddle_at a.frame (Some (member_by a.puddle)) t) f (others_more slot a.frame a.puddle t are.0 are.1 all are.2)
    ∙ member_beside slot a.frame a.puddle t are.0 are.1 f

others_by : (F slot its : ℕ) (t : Tables) (all : List NewPuddle) → slot ≢ its → ((o : ℕ) (a : NewPuddle) → slice_get all o ≡ Some a → (a.puddle.pool ≡ its) × (t.puddles a.frame ≡ None)) → AreOthers slot t all
others_by F slot its t [] other each = tt
others_by F slot its t (a ∷ all) other each =
    let here = each 0 a refl in
    (λ same. other (same ∙ here.0), ap (member_of slot a.frame) here.1, others_by F slot its t all other (λ o b there. each (suc o) b there))

within_by : (F its : ℕ) (all : List NewPuddle) → its < POOL_RECORDS → ((o : ℕ) (a : NewPuddle) → slice_get all o ≡ Some a → (a.puddle.pool ≡ its) × (a.frame < F)) → AreWithin F all
within_by F its [] known each = tt
within_by F its (a ∷ all) known each =
    let here = each 0 a refl in
    let pool = here.0 in
    (here.1, omega arith, within_by F its all known (λ o b there. each (suc o) b there))

frontiers_by : (all : List NewPuddle) → ((o : ℕ) (a : NewPuddle) → slice_get all o ≡ Some a → a.puddle.frontier < 2 ^ 32) → HaveFrontiers all
frontiers_by [] each = tt
frontiers_by (a ∷ all) each = (each 0 a refl, frontiers_by all (λ o b there. each (suc o) b there))

types_of_tables : (F : ℕ) (at : ℕ → Option (ℕ × ℕ)) (from : ℕ) (types : List NewType) → HasFreeRecords at from types → from ≤ TYPE_RECORDS → AreOfTables F (map new_type_put types)
types_of_tables F at from [] has known = tt
types_of_tables F at from (new ∷ types) has known =
    let one = first_free_some at from (TYPE_RECORDS - from) new.record_number has.0 in
    let low = one.low in let high = one.high in
    (inr (record { low = omega arith; high = omega arith; some = omega arith; fits = omega arith }), types_of_tables F at (new.record_number + 1) types has.1 (omega arith))

of_tables-append : (F : ℕ) (first later : List Put) → AreOfTables F first → AreOfTables F later → AreOfTables F (first ++ later)
of_tables-append F [] later of rest = rest
of_tables-append F (put ∷ first) later of rest = (of.0, of_tables-append F first later of.1 rest)

types_in_front : (types : List NewType) (at : ℕ → Option (ℕ × ℕ)) (from : ℕ) → HasFreeRecords at from types → from ≤ TYPE_RECORDS → AreWords (λ k. k < PUDDLE_TABLE) (map new_type_put types)
types_in_front [] at from has known = tt
types_in_front (new ∷ types) at from has known =
    let one = first_free_some at from (TYPE_RECORDS - from) new.record_number has.0 in
    let low = one.low in let high = one.high in
    (λ k from_here to. omega arith, types_in_front types at (new.record_number + 1) has.1 (omega arith))

module _ (F : ℕ) (image : Image) (file : List (ℕ × ℕ)) (wanted classes : List ℕ) (slot : ℕ) (r : PoolRecord) (types : List NewType) (puddles : List NewPuddle) (is : IsPlacedFor F image file wanted classes slot r types puddles) where
  abbrev t : Tables
  t = tables_of F image

  abbrev puts : List Put
  puts = placing slot r types puddles

  abbrev last : ℕ
  last = r.number + numbers_drawn (length puddles)

  known_slot : slot < POOL_RECORDS
  known_slot = (placed_slot F image file wanted classes slot r types puddles is).0

  free_slot : t.pools slot ≡ None
  free_slot = (placed_slot F image file wanted classes slot r types puddles is).1

  their_frame : (o : ℕ) (a : NewPuddle) → slice_get puddles o ≡ Some a → (a.puddle.pool ≡ slot) × (a.frame < F)
  their_frame o a there = let at = placed_frame F image file wanted classes slot r types puddles is o a there in let below = at.below in ((is.members o a there).0, omega (arith, frames_of_tables F image))

  are_within : AreWithin F puddles
  are_within = within_by F slot puddles known_slot their_frame

  -- Each frontier is that of a puddle with all steps done, or with none.
  frontiers_fit : HaveFrontiers puddles
  frontiers_fit = frontiers_by puddles (λ o a there.
      let at = map puddle_of_added puddles in
      let d = (puddle_of_added a).1 in
      subst (λ (n : ℕ). n < 2 ^ 32) (sym (is.placed.frontier o (puddle_of_added a) (slice_get-mapped puddle_of_added puddles o a there)))
      (cond_both (bytes_eq (map (λ e. e.1.base) at) wanted) (steps_of d) 0 (λ n. n < 2 ^ 32) (λ kept. let few = few_slots d.class in omega arith) (λ moved. omega arith)))

  pub placing_of : AreOfTables F puts
  placing_of =
      let few = known_slot in
      of_tables-append F (map new_type_put types) (pool_put slot r ∷ adding last puddles) (types_of_tables F (type_at image) 0 types is.records (omega arith))
      (of_tables F (pool_put slot r ∷ adding last puddles) (inr (inl (record { low = omega arith; high = omega arith; some = omega arith; fits = omega arith })), adding_of F last puddles are_within))

  -- The members of another pool are those that it had, in any image with this puddle table.
  members_then : (other : ℕ) → other ≢ slot → (now : Image) → ((k : ℕ) → PUDDLE_TABLE ≤ k → k < tables_end F → now k ≡ image k) → (f : ℕ) → f < F
      → member_of other f ((tables_of F (with_puts puts now)).puddles f) ≡ member_of other f (t.puddles f)
  unfolding with_puts
  members_then other apart now same f below =
      let few = known_slot in
      let mid = with_put (pool_put slot r) (with_puts (map new_type_put types) now) in
      let kept : (k : ℕ) → PUDDLE_TABLE ≤ k → k < tables_end F → mid k ≡ image k =
      λ k low high.
      with_put-outside (pool_put slot r) (with_puts (map new_type_put types) now) k (λ from to. omega arith)
      ∙ with_puts-free (λ n. n < PUDDLE_TABLE) (map new_type_put types) now k (types_in_front types (type_at image) 0 is.records (omega arith)) (λ before. omega arith)
      ∙ same k low high in
      ap (λ (i : Image). member_of other f ((tables_of F i).puddles f)) (with_puts-append (map new_type_put types) (pool_put slot r ∷ adding last puddles) now)
      ∙ ap (λ (u : Tables). member_of other f (u.puddles f)) (adding_tables F last puddles mid are_within frontiers_fit)
      ∙ others_added other puddles (tables_of F mid) f
      (others_by F other slot (tables_of F mid) puddles apart (λ o a there. (
        (is.members o a there).0,
        let at = placed_frame F image file wanted classes slot r types puddles is o a there in
            puddles_same F image mid kept a.frame (their_frame o a there).1 ∙ at.free,
      )))
      ∙ ap (member_of other f) (puddles_same F image mid kept f below)

  module _ (next : ℕ) (sound : HasSoundTables next t) (mid new : State) (filled : (k : ℕ) → k < frames_at F → reads mid.now.words k ≡ image k) (graphs : KeepsGraphs (reads mid.now.words) (reads new.now.words))
      (commits : CommitsPuts puts None mid new) where
    batch_read : (k : ℕ) → TYPE_TABLE ≤ k → reads new.now.words k ≡ with_puts puts (reads mid.now.words) k
    batch_read k low =
        reads_committed (puts_batch puts) mid new k (inr low) commits.changes (commits.durable refl)
        ∙ ap (λ (i : Image). i k) (overwritten-table_puts F puts (reads mid.now.words) placing_of)

    same_now : tables_of F (reads mid.now.words) ≡ t
    same_now = tables_of-same F (reads mid.now.words) image (λ k low high. filled k (omega arith)) (λ k low high. filled k (omega arith))

    frames_still_read : (k : ℕ) → frames_at F ≤ k → reads new.now.words k ≡ reads mid.now.words k
    frames_still_read k above =
        reads_kept (ByBatch DAEMON_LOG (puts_batch puts)) mid new k commits.changes
        (λ v may. following (placing_words F image file wanted classes slot r types puddles is k v may))
      where
        following : IsFreeWord F t k → ⊥
        following (inl front) = omega arith
        following (inr (inl of)) = let high = of.within.high in let few = of.below in omega arith
        following (inr (inr of)) = let high = of.within.high in let few = of.below in omega arith

    -- Each pool that has a graph keeps it after the batch.
    pub KeepsPools-placing : KeepsPools F None (reads mid.now.words) (reads new.now.words)
    KeepsPools-placing =
        KeepsPools-each F None (reads mid.now.words) (reads new.now.words) graphs
        (λ other at apart has. record {
          puddles = λ f below.
              let not_its : other ≢ slot =
              λ same. not_free F next other (reads mid.now.words) at (subst (HasSoundTables next) (sym same_now) sound) has (ap (λ (u : Tables). u.pools other) same_now ∙ ap t.pools same ∙ free_slot) in
              ap (member_of other f) (puddles_same F (with_puts puts (reads mid.now.words)) (reads new.now.words) (λ k low high. batch_read k (omega arith)) f below)
              ∙ members_then other not_its (reads mid.now.words) (λ k low high. filled k (omega arith)) f below
              ∙ sym (ap (λ (u : Tables). member_of other f (u.puddles f)) same_now);
          words = λ k mine. let own = own_word F other (reads mid.now.words) k mine in let low = own.low in frames_still_read k (omega arith);
        })

-- ---- the line

-- The command is carried out beside the active transactions: the next world has all of them, and each pool that has a
-- graph keeps it.
pub Applies-wider : (size : ℕ) (w : World) (memory : Memory) (c : Command) (next : StoredWorld) (also : Image → Type 0) (fault : Option HostFault) (old new : State) (ready : IsReady size w memory old)
    → LeavesPuddles w.stored.frames Stays old new → refusal_of w c ≡ None → after w c ≡ record w { stored = next } → next.frames ≡ w.stored.frames → KeepsActive w (record w { stored = next }) memory.active
    → ChangesBeside size w.stored next also ready.mask fault old new → (fault ≡ None → KeepsPools w.stored.frames None (reads old.now.words) (reads new.now.words))
    → Applies size w (world_by w (Some c)) memory fault old new
Applies-wider size w memory c next also fault old new ready puddles free gives frames keeps b stay =
    subst (λ (v : World). Applies size w v memory fault old new) (sym (done_world w c free ∙ gives))
    (Applies-beside size w (record w { stored = next }) memory fault old new ready keeps (AppliesMasked-pools size w memory next also fault old new ready b.beside b.pools frames)
    Stays puddles memory refl refl refl
    (λ none. KnowsPools-all w.stored.frames memory.known_pools ready.active.opens (reads old.now.words) (reads new.now.words) (stay none) ready.knows)
    (λ none. rest_beside size w memory old ready None new (λ number h there no. none-some h.slot no) (stay none) (b.beside.single none)))

-- ---- the types that are read after it

module _ (size : ℕ) (w : World) (memory : Memory) (next : StoredWorld) (also : Image → Type 0) (old new : State) (ready : IsReady size w memory old) (b : ChangesBeside size w.stored next also ready.mask None old new)
    (frames : next.frames ≡ w.stored.frames) where
  abbrev F : ℕ
  F = w.stored.frames

  abbrev under : Words
  under = masked ready.mask new.now.words

  stands_then : StandsFor size (reads under) next
  stands_then =
      let settled = b.pools.settled refl in
      standing_beside size (reads under) next (standing_idle size (reads under) next (settled.idle (reads under DAEMON_LOG) (inl refl)) (settled.stands (reads under) (Picks-reads under)))

  pub types_then : types_of (reads new.now.words) ≡ next.types
  types_then =
      (Holds-same Types size next (reads under) (reads new.now.words)
      (λ k of. let high = of.high in sym (read_masked-kept w memory.active ready.mask old new ready.active b.beside.changes k (omega arith))) (stands_then.holds Types)).types

  -- Whatever had a graph before has it then.
  pub KeepsGraphs-then : Defines w.stored.types next.types → KeepsGraphs (reads old.now.words) (reads new.now.words)
  KeepsGraphs-then defines = record {
    each = λ st g is.
        ap (λ (ts : List (ℕ × ℕ)). graph_of ts st) types_then
        ∙ graphs_defined w.stored.types next.types defines st g (ap (λ (ts : List (ℕ × ℕ)). graph_of ts st) (sym (types_read size w memory old ready).types) ∙ is);
  }

-- Each record of the type table reads the same, masked or not.
pub type_beside : (size : ℕ) (w : World) (memory : Memory) (s : State) (ready : IsReady size w memory s) (i : ℕ) → i < TYPE_RECORDS → type_at (reads (masked ready.mask s.now.words)) i ≡ type_at (reads s.now.words) i
type_beside size w memory s ready i below =
    type_at-same (reads s.now.words) (reads (masked ready.mask s.now.words)) i
    (read_beside size w memory s ready (type_record_at i) (omega arith)) (read_beside size w memory s ready (type_record_at i + 1) (omega arith))
