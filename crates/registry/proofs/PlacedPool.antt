-- A pool that is placed: what its batch makes of the tables, and of the world.
use Rattle.std.proofs.Common.{◌≡◌, inl, inr, ℕ, suc, ◌+◌, ◌^◌, ◌<◌, ◌≤◌, List, [], ◌∷◌, map, length, Option, Some, nat_cmp, refl, sym, ap, ap₂, ◌∙◌, subst, arith, le-leb}
use Rattle.std.specs.Prelude.{All, slice_get, ⊤}
use Rattle.std.specs.List.{AllByRecursion}
use Rattle.std.specs.FinMap.Entries.{put}
use Rattle.std.proofs.lemmas.Bool.{and_from}
use Rattle.std.proofs.lemmas.List.{length-map}
use Rattle.std.proofs.lemmas.List.Elements.{All-head, All-tail}
use Rattle.pm_model.specs.declared.host.HostFault.{HostFault}
use Rattle.pm_model.specs.Words.{Words, Picks, reads}
use Rattle.pm_model.specs.Moments.{State}
use Rattle.pm_model.specs.Changes.{Write}
use Rattle.pm_model.specs.Masks.{masked, masked_state, IsOff}
use Rattle.pm_model.proofs.Words.{Picks-reads}
use Rattle.pud_defs.specs.declared.layout.TheConstants.{NEXT_NUMBER_WORD, DAEMON_LOG, MAX_OWNER_ID, TYPE_RECORDS}
use Rattle.pud_defs.specs.declared.records.TheConstants.{POOL_RECORDS, MAX_PUDDLES}
use Rattle.pud_defs.specs.declared.records.PoolRecord.{PoolRecord}
use Rattle.pud_defs.specs.declared.records.Puddle.{Puddle}
use Rattle.pud_defs.specs.declared.records.Put.{Put}
use Rattle.pud_defs.specs.Logging.Entries.{Entry}
use Rattle.pud_defs.specs.PoolGraphs.Holdings.{Holding, held_by, holding_in}
use Rattle.pud_defs.specs.Formats.Image.{Image}
use Rattle.pud_defs.specs.StateMachine.Imports.{types_missing, numbers_drawn}
use Rattle.pud_defs.specs.Formats.Layout.{tables_end, frames_at}
use Rattle.pud_defs.specs.Formats.Names.{name_cmp}
use Rattle.pud_defs.specs.RegistryTables.Pools.{IsEncodable}
use Rattle.pud_defs.specs.RegistryTables.Puts.{pool_put, member_by, with_put, with_pool_at}
use Rattle.pud_defs.specs.Logging.Replay.{settled_by}
use Rattle.pud_defs.specs.RegistryTables.Spaces.{owner}
use Rattle.pud_defs.specs.RegistryTables.Tables.{Tables, Pool, tables_of, listed, classes_of, pool_of}
use Rattle.pud_defs.specs.RegistryTables.Types.{type_record_at, type_at, types_of}
use Rattle.pud_defs.specs.StateMachine.World.{StoredWorld, idle_registry}
use Rattle.pud_defs.proofs.PoolGraphs.Holdings.{HasSameFrame, stored_in-same}
use Rattle.pud_defs.proofs.StateMachine.IdleWorlds.{standing_of_idle_world, idle_registry_standing}
use Rattle.pud_defs.proofs.KeyedTables.Keyed.{keyed-same}
use Rattle.pud_defs.proofs.StateMachine.Parts.{StandsFor}
use Rattle.pud_defs.proofs.StateMachine.Parts.Part.{Types}
use Rattle.pud_defs.proofs.RegistryTables.PoolsCounted.{no_member}
use Rattle.pud_defs.proofs.RegistryTables.PuddlesPlaced.{IsNewPool}
use Rattle.pud_defs.proofs.RegistryTables.PutsMade.{pool_put_made}
use Rattle.pud_defs.proofs.RegistryTables.TablesOf.{frames_of_tables}
use Rattle.pud_defs.proofs.RegistryTables.TypeTable.{type_at-same}
use Rattle.pud_defs.proofs.RegistryTables.TypesDefined.{types_missing-new, AreNewTypes, typed, typed-is}
use Rattle.batch.specs.Batches.{HasIdleGate, IsFree, ByBatch, Commits}
use Rattle.batch.specs.Worlds.{IsQuiescent, MovesBy, Moves}
use Rattle.batch.specs.Tables.{HasDurableTables}
use Rattle.registry.specs.declared.adding.NewPuddle.{NewPuddle}
use Rattle.registry.specs.declared.placing.NewType.{NewType}
use Rattle.registry.specs.Puts.{puts_batch, with_puts, AreOfPools, AreOfTables}
use Rattle.registry.specs.Adding.{adding, IsAddedWithin, MakesPools, pools_next}
use Rattle.registry.specs.Placing.{new_type_put, placing, type_of, added_classes, puddle_of_added, MayComeTo, MayBePlaced, placed_pool, with_placed_pool, MayPlace}
use Rattle.registry.specs.Pools.{IsLegalPool, CommitsPuts, ChangesMasked}
use Rattle.registry.proofs.Made.{no_name, none_of}
use Rattle.registry.proofs.Moved.{ReadsWorld, reads_world, settled_word, settled_tables, standing_with_puts, ChangesPools-moves}
use Rattle.registry.proofs.NewPuddles.{AreWithin, HaveFrontiers, with_added, frontier_of_legal, given, adding_of, adding_next, adding_tables}
use Rattle.registry.proofs.PuddlesStanding.{own_entry, listed-own, classes-own, AllStand, all_standing}
use Rattle.registry.proofs.PutBatches.{of_tables, overwritten-table_puts, puts_allowed, IsFree-table_puts}
use Rattle.registry.proofs.TypesPut.{with_puts-append, AreOfTables-append, AreRecords, records_each, records_free, types_of_table, types_stay, types_keep_tables, HasFreeRecords-same, standing_with_new_types}

-- ---- the changes

-- the records of the pool and of its puddles, and the next number
abbrev pub pool_puts : (slot : ℕ) → PoolRecord → List NewPuddle → List Put
pool_puts slot r puddles = pool_put slot r ∷ adding (r.number + numbers_drawn (length puddles)) puddles

pub pool_puts_of : (F slot : ℕ) (r : PoolRecord) (puddles : List NewPuddle) → slot < POOL_RECORDS → AreWithin F puddles → AreOfPools F (pool_puts slot r puddles)
pool_puts_of F slot r puddles below within =
    (inr (inl (record { low = omega arith; high = omega arith; some = omega arith; fits = omega arith })), adding_of F (r.number + numbers_drawn (length puddles)) puddles within)

pub placing_of : (F slot : ℕ) (r : PoolRecord) (types : List NewType) (puddles : List NewPuddle) → slot < POOL_RECORDS → AreRecords types → AreWithin F puddles → AreOfTables F (placing slot r types puddles)
placing_of F slot r types puddles below records within =
    AreOfTables-append F (map new_type_put types) (pool_puts slot r puddles) (types_of_table F types records) (of_tables F (pool_puts slot r puddles) (pool_puts_of F slot r puddles below within))

within_each : (F : ℕ) (puddles : List NewPuddle) → All (IsAddedWithin F) puddles → AreWithin F puddles
within_each F [] all = tt
within_each F (a ∷ puddles) all = let first = All-head (IsAddedWithin F) a puddles all in (first.frame, first.slot, within_each F puddles (All-tail (IsAddedWithin F) a puddles all))

-- for any content of the device the batch is written, all of it or nothing
pub Commits-placed : (F size slot : ℕ) (r : PoolRecord) (types : List NewType) (puddles : List NewPuddle) (es : List Entry) (fault : Option HostFault) (a b : State) → tables_end F ≤ size → slot < POOL_RECORDS
    → All (λ t. t.record_number < TYPE_RECORDS) types → All (IsAddedWithin F) puddles → es ≡ puts_batch (placing slot r types puddles)
    → (IsFree size DAEMON_LOG es a.now.words → Commits DAEMON_LOG es fault a b) → HasIdleGate DAEMON_LOG a.now.words → CommitsPuts (placing slot r types puddles) fault a b
Commits-placed F size slot r types puddles es fault a b room below records within is commits idle =
    let of = placing_of F slot r types puddles below (records_each types records) (within_each F puddles within) in
    subst (λ (es : List Entry). Commits DAEMON_LOG es fault a b) is
    (commits (subst (λ (es : List Entry). IsFree size DAEMON_LOG es a.now.words) (sym is) (IsFree-table_puts F size (placing slot r types puddles) a.now.words room of idle)))

-- ---- the tables

-- each puddle stands in a frame of the device and in a pool of the table
added_within : (F slot : ℕ) (puddles : List NewPuddle) → slot < POOL_RECORDS → ((i : ℕ) (a : NewPuddle) → slice_get puddles i ≡ Some a → (a.frame < F) × (a.puddle.pool ≡ slot)) → AreWithin F puddles
added_within F slot [] below each = tt
added_within F slot (a ∷ puddles) below each = let first = each 0 a refl in (first.0, (let pool = first.1 in omega arith), added_within F slot puddles below (λ i b there. each (suc i) b there))

frontiers_each : (puddles : List NewPuddle) → ((i : ℕ) (a : NewPuddle) → slice_get puddles i ≡ Some a → a.puddle.frontier < 2 ^ 32) → HaveFrontiers puddles
frontiers_each [] each = tt
frontiers_each (a ∷ puddles) each = (each 0 a refl, frontiers_each puddles (λ i b there. each (suc i) b there))

module _ (s : StoredWorld) (image : Image) (holding : Holding) (slot : ℕ) (r : PoolRecord) (types : List NewType) (puddles : List NewPuddle) (world : ReadsWorld s image)
    (legal : IsLegalPool r.name r.uid r.gid r.mode) (may : MayBePlaced s.frames image slot r types puddles) (some : 1 ≤ length puddles) (few : length puddles ≤ MAX_PUDDLES) where
  abbrev t : Tables
  t = tables_of s.frames image

  abbrev at : List (ℕ × Puddle)
  at = map puddle_of_added puddles

  -- the next UUID number after all that the pool draws
  abbrev later : ℕ
  later = s.next_number + numbers_drawn (length puddles)

  drawn : r.number ≡ s.next_number
  drawn = may.number ∙ world.number

  following : r.number + numbers_drawn (length puddles) ≡ later
  following = let is = drawn in omega arith

  new_pool_there : IsNewPool later t slot r
  new_pool_there =
      let low = world.low in
      let is = drawn in
      record {
        slot_below = may.slot_below;
        slot_free = may.slot_free;
        none = λ f below. none_of slot f (t.puddles f) (no_member s.next_number t world.sound slot f below may.slot_free);
        new_name = no_name t r.name may.absent;
        legal = and_from _ _ (and_from _ _ (and_from _ _ (and_from _ _ legal.has_legal_name (le-leb r.uid MAX_OWNER_ID legal.uid_fits)) (le-leb r.gid MAX_OWNER_ID legal.gid_fits)) legal.has_legal_mode)
            (given later r.number (omega arith) (omega arith));
      }

  placed_now : AllStand later t slot r may.slot_below (map own_entry puddles) (with_added puddles (with_pool_at slot (Some r) t))
  placed_now =
      all_standing s.next_number later (omega arith) t slot r may.slot_below world.sound new_pool_there (r.number + 1) puddles some few
      (λ o a there. subst (λ (n : ℕ). MayComeTo t slot o (r.number + 1 + o) n a) following (may.each o a there)) may.apart

  pub puddles_within : AreWithin s.frames puddles
  puddles_within = added_within s.frames slot puddles may.slot_below (λ i a there.
      let one = may.each i a there in
      let below = one.frame in
      (omega (arith, frames_of_tables s.frames image), one.slot_is))

  frontiers_fit : HaveFrontiers puddles
  frontiers_fit = frontiers_each puddles (λ i a there. frontier_of_legal (r.number + numbers_drawn (length puddles)) (member_by a.puddle).puddle (may.each i a there).legal)

  is_held : IsEncodable r
  is_held = let uid = legal.uid_fits in record { name = legal.is_name; legal = legal.has_legal_name; uid = omega arith }

  -- ---- the pools

  -- the world with the types that the pool brings
  abbrev pub with_its_types : StoredWorld
  with_its_types = typed (map type_of types) s

  -- the frames of its puddles store this
  abbrev pub HoldsThis : Image → Type 0
  HoldsThis i = holding_in with_its_types.types s.frames i at ≡ holding

  abbrev its_pool : Pool
  its_pool = placed_pool (owner r.uid r.gid) r.mode s.next_number (added_classes puddles) holding

  abbrev pub its_pools : List (List ℕ × Pool)
  its_pools = put name_cmp r.name its_pool with_its_types.pools

  pool_is : (i : Image) → HoldsThis i → pool_of (holding_in with_its_types.types s.frames i) r (map own_entry puddles) ≡ its_pool
  unfolding pool_of
  pool_is i holds =
      let n : classes_of (map own_entry puddles) ≡ added_classes puddles = classes-own puddles in
      let held : holding_in with_its_types.types s.frames i (listed (map own_entry puddles)) ≡ holding = ap (holding_in with_its_types.types s.frames i) (listed-own puddles) ∙ holds in
      let is = drawn in
      λ p. record { owner = owner r.uid r.gid; mode = r.mode; number = is p; classes = n p; holding = held p }

  placed_tables : (i : Image) → tables_of s.frames i ≡ t → tables_of s.frames (with_puts (pool_puts slot r puddles) i) ≡ with_added puddles (with_pool_at slot (Some r) t)
  unfolding with_puts
  placed_tables i same =
      adding_tables s.frames (r.number + numbers_drawn (length puddles)) puddles (with_put (pool_put slot r) i) puddles_within frontiers_fit
      ∙ ap (with_added puddles) (pool_put_made s.frames i slot may.slot_below r is_held ∙ ap (with_pool_at slot (Some r)) same)

  placed_next : (i : Image) → with_puts (pool_puts slot r puddles) i NEXT_NUMBER_WORD ≡ later
  unfolding with_puts
  placed_next i = adding_next (r.number + numbers_drawn (length puddles)) puddles (with_put (pool_put slot r) i) ∙ following

  pub MakesPools-placed : MakesPools with_its_types later its_pools (pool_puts slot r puddles) HoldsThis t
  MakesPools-placed = record {
    of = pool_puts_of s.frames slot r puddles may.slot_below puddles_within;
    low = omega arith;
    high = let enough = may.enough in let is = drawn in omega arith;
    next = λ i read. placed_next i;
    now = with_added puddles (with_pool_at slot (Some r) t);
    tables = placed_tables;
    pools = λ i holds pools. placed_now.pools (holding_in with_its_types.types s.frames i) ∙ ap₂ (put name_cmp r.name) (pool_is i holds) pools;
    sound = placed_now.sound;
  }

  -- ---- the world

  pub placed_world : pools_next with_its_types later its_pools ≡ with_placed_pool r.name (owner r.uid r.gid) r.mode (map type_of types) (added_classes puddles) holding s
  unfolding with_placed_pool
  placed_world =
      ap₂ (λ (x : StoredWorld) (n : ℕ). record x { next_number = s.next_number + numbers_drawn n; pools = put name_cmp r.name its_pool x.pools })
      (typed-is (map type_of types) s) (sym (length-map puddles (λ a. a.puddle.class)))

-- ---- the types that are read

type_settled : (size : ℕ) (s : StoredWorld) (words : Words) (image : Image) → IsQuiescent size s words → HasDurableTables s.frames words → Picks words image
    → (n : ℕ) → n < TYPE_RECORDS → type_at (settled_by DAEMON_LOG image) n ≡ type_at (reads words) n
type_settled size s words image settled tables picked n below =
    type_at-same (reads words) (settled_by DAEMON_LOG image) n
    (settled_word size s words image (type_record_at n) settled tables picked (inr (omega arith)) (omega arith))
    (settled_word size s words image (type_record_at n + 1) settled tables picked (inr (omega arith)) (omega arith))

-- the types that are read are the world's
pub types_read : (size : ℕ) (s : StoredWorld) (words : Words) → IsQuiescent size s words → HasDurableTables s.frames words → types_of (reads words) ≡ s.types
types_read size s words settled tables =
    let picked = Picks-reads words in
    let stands = standing_of_idle_world size (reads words) s (settled.stands (reads words) picked) in
    sym (keyed-same nat_cmp (type_at (settled_by DAEMON_LOG (reads words))) (type_at (reads words)) 0 TYPE_RECORDS (λ n low high. type_settled size s words (reads words) settled tables picked n (omega arith)))
    ∙ (stands.holds Types).types

all_frames : (F : ℕ) (i j : Image) (at : List (ℕ × Puddle)) → ((k : ℕ) → frames_at F ≤ k → j k ≡ i k) → AllByRecursion (λ e. HasSameFrame F i j e.0) at
all_frames F i j [] same = tt
all_frames F i j (e ∷ at) same = (record { each = λ k high. same _ (omega arith) }, all_frames F i j at same)

-- ---- the batch

module _ (size : ℕ) (s : StoredWorld) (holding : Holding) (slot : ℕ) (r : PoolRecord) (types : List NewType) (puddles : List NewPuddle) (mask : Write) (words : Words)
    (m : MayPlace size s s.frames holding slot r types puddles mask words) where
  abbrev held : Words
  held = masked mask words

  abbrev read : Image
  read = reads held

  abbrev brought : List (ℕ × ℕ)
  brought = map type_of types

  abbrev next : StoredWorld
  next = with_placed_pool r.name (owner r.uid r.gid) r.mode brought (added_classes puddles) holding s

  world : ReadsWorld s read
  world = reads_world size s held m.settled m.tables

  pub are_records : AreRecords types
  are_records = records_free (type_at read) 0 types m.may.records

  -- the types that the pool brings are new to the world
  are_new : AreNewTypes s.types brought
  are_new =
      let missing : types_missing s.types brought ≡ brought = ap (λ (ts : List (ℕ × ℕ)). types_missing ts brought) (sym (types_read size s held m.settled m.tables)) ∙ m.may.new_types in
      subst (AreNewTypes s.types) missing (types_missing-new s.types brought m.may.legal_types)

  abbrev makes_pools : MakesPools (typed brought s) (s.next_number + numbers_drawn (length puddles)) (its_pools s read holding slot r types puddles world m.legal m.may m.some m.few) (pool_puts slot r puddles)
      (HoldsThis s read holding slot r types puddles world m.legal m.may m.some m.few) (tables_of s.frames read)
  makes_pools = MakesPools-placed s read holding slot r types puddles world m.legal m.may m.some m.few

  module _ (image : Image) (picked : Picks held image) where
    abbrev i : Image
    i = settled_by DAEMON_LOG image

    -- the image with the types
    abbrev typed_image : Image
    typed_image = with_puts (map new_type_put types) i

    stands_typed : StandsFor size typed_image (typed brought s)
    stands_typed =
        let stands = standing_of_idle_world size image s (m.settled.stands image picked) in
        let free = HasFreeRecords-same (type_at read) (type_at i) 0 types (λ n low high. sym (type_settled size s held image m.settled m.tables picked n high)) m.may.records in
        subst (StandsFor size typed_image) (sym (typed-is brought s)) (standing_with_new_types size types 0 i s stands free are_new)

    tables_typed : tables_of s.frames typed_image ≡ tables_of s.frames read
    tables_typed = types_keep_tables s.frames types i are_records ∙ settled_tables size s held image m.settled m.tables picked

    holds_typed : holding_in (typed brought s).types s.frames typed_image (map puddle_of_added puddles) ≡ holding
    holds_typed =
        ap (held_by (typed brought s).types) (stored_in-same s.frames i typed_image (map puddle_of_added puddles) (all_frames s.frames i typed_image (map puddle_of_added puddles) (λ k low. types_stay types i k are_records (λ from to. omega arith))))
        ∙ m.holds image picked

    stands_placed : StandsFor size (with_puts (placing slot r types puddles) i) next
    stands_placed =
        let made = standing_with_puts size (typed brought s) _ _ (pool_puts slot r puddles) _ (tables_of s.frames read) makes_pools typed_image stands_typed tables_typed holds_typed in
        let then = subst (StandsFor size (with_puts (pool_puts slot r puddles) typed_image)) (placed_world s read holding slot r types puddles world m.legal m.may m.some m.few) made in
        subst (λ (j : Image). StandsFor size j next) (sym (with_puts-append (map new_type_put types) (pool_puts slot r puddles) i)) then

  pub are_of_tables : AreOfTables s.frames (placing slot r types puddles)
  are_of_tables = placing_of s.frames slot r types puddles m.may.slot_below are_records (puddles_within s read holding slot r types puddles world m.legal m.may m.some m.few)

  pub MovesBy-placed : MovesBy size s next (puts_batch (placing slot r types puddles)) held
  MovesBy-placed = record {
    allowed = puts_allowed s.frames (puts_batch (placing slot r types puddles)) (placing slot r types puddles) are_of_tables;
    stands = λ image picked.
        ap (idle_registry size) (overwritten-table_puts s.frames (placing slot r types puddles) (settled_by DAEMON_LOG image) are_of_tables)
        ∙ idle_registry_standing size (with_puts (placing slot r types puddles) (settled_by DAEMON_LOG image)) next (stands_placed image picked);
  }

-- what the call promises
pub ChangesPools-placed : (size : ℕ) (s : StoredWorld) (F : ℕ) (holding : Holding) (slot : ℕ) (r : PoolRecord) (types : List NewType) (puddles : List NewPuddle) (mask : Write) (es : List Entry) (fault : Option HostFault) (a b : State)
    → MayPlace size s F holding slot r types puddles mask a.now.words → es ≡ puts_batch (placing slot r types puddles)
    → ((next : StoredWorld) → IsOff mask (ByBatch DAEMON_LOG es) → IsQuiescent size s (masked mask a.now.words) → MovesBy size s next es (masked mask a.now.words) → Moves size s next es fault (masked_state mask a) (masked_state mask b))
    → ChangesMasked mask size s (with_placed_pool r.name (owner r.uid r.gid) r.mode (map type_of types) (added_classes puddles) holding s) (λ _. ⊤) fault a b
ChangesPools-placed size s F holding slot r types puddles mask es fault a b may is moves =
    let here = subst (λ (n : ℕ). MayPlace size s n holding slot r types puddles mask a.now.words) may.frames may in
    let next = with_placed_pool r.name (owner r.uid r.gid) r.mode (map type_of types) (added_classes puddles) holding s in
    let then = subst (λ (es : List Entry). (n : StoredWorld) → IsOff mask (ByBatch DAEMON_LOG es) → IsQuiescent size s (masked mask a.now.words) → MovesBy size s n es (masked mask a.now.words) → Moves size s n es fault (masked_state mask a) (masked_state mask b)) is moves in
    ChangesPools-moves size s next (placing slot r types puddles) (λ _. ⊤) fault (masked_state mask a) (masked_state mask b) (are_of_tables size s holding slot r types puddles mask a.now.words here) here.tables (λ image between. tt)
    (then next here.off here.settled (MovesBy-placed size s holding slot r types puddles mask a.now.words here))
