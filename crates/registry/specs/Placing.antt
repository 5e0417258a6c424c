-- A pool that is placed: its record, its puddles, whose frames were filled before, and the types that it brings, all by one batch.
use Rattle.std.specs.Prelude.{◌≡◌, ◌≢◌, ℕ, ◌+◌, ◌-◌, ◌<◌, ◌≤◌, true, List, [], ◌∷◌, ◌++◌, length, map, slice_get, Option, Some, None, ⊤}
use Rattle.std.specs.FinMap.Entries.{put}
use Rattle.pm_model.specs.declared.host.HostFault.{HostFault}
use Rattle.pm_model.specs.Words.{Words, Picks, reads}
use Rattle.pm_model.specs.Moments.{State}
use Rattle.pm_model.specs.Changes.{Write}
use Rattle.pm_model.specs.Masks.{masked, IsOff}
use Rattle.pud_defs.specs.declared.layout.TheConstants.{DAEMON_LOG, NEXT_NUMBER_WORD, NUMBER_LIMIT, TYPE_RECORDS}
use Rattle.pud_defs.specs.declared.records.TheConstants.{POOL_RECORDS, MAX_PUDDLES}
use Rattle.pud_defs.specs.declared.records.PoolRecord.{PoolRecord}
use Rattle.pud_defs.specs.declared.records.Puddle.{Puddle}
use Rattle.pud_defs.specs.declared.records.Put.{Put}
use Rattle.pud_defs.specs.Formats.Image.{Image}
use Rattle.pud_defs.specs.Formats.Names.{name_cmp}
use Rattle.pud_defs.specs.RegistryTables.Keyed.{first_free}
use Rattle.pud_defs.specs.RegistryTables.Types.{type_at, types_of}
use Rattle.pud_defs.specs.RegistryTables.Puddles.{is_legal_puddle}
use Rattle.pud_defs.specs.PoolGraphs.Holdings.{Holding, holding_in}
use Rattle.pud_defs.specs.PoolGraphs.ExportFile.{are_file_types}
use Rattle.pud_defs.specs.Logging.Replay.{settled_by}
use Rattle.pud_defs.specs.RegistryTables.Puts.{pool_put, member_by}
use Rattle.pud_defs.specs.RegistryTables.Placement.{has_another_base, ArePlaced}
use Rattle.pud_defs.specs.RegistryTables.Spaces.{Owner, owner}
use Rattle.pud_defs.specs.StateMachine.Imports.{type_put, types_missing, numbers_drawn, with_types_defined}
use Rattle.pud_defs.specs.RegistryTables.Tables.{Tables, Pool, tables_of, pool_in}
use Rattle.pud_defs.specs.StateMachine.World.{StoredWorld}
use Rattle.batch.specs.Batches.{ByBatch}
use Rattle.batch.specs.Worlds.{IsQuiescent}
use Rattle.batch.specs.Tables.{HasDurableTables}
use Rattle.registry.specs.declared.adding.NewPuddle.{NewPuddle}
use Rattle.registry.specs.declared.placing.NewType.{NewType}
use Rattle.registry.specs.Puts.{puts_batch}
use Rattle.registry.specs.Adding.{adding}
use Rattle.registry.specs.Pools.{IsLegalPool, ChangesMasked}

-- ---- what the batch writes

-- the change that defines a type in its record of the type table
abbrev pub new_type_put : NewType → Put
new_type_put t = type_put t.record_number t.id t.map

-- the changes that place a pool: the types, its record, the next UUID number after all that it draws, and its puddles
abbrev pub placing : (slot : ℕ) → PoolRecord → List NewType → List NewPuddle → List Put
placing slot r types puddles = map new_type_put types ++ pool_put slot r ∷ adding (r.number + numbers_drawn (length puddles)) puddles

-- ---- what may be placed

-- the id and the map of a type
abbrev pub type_of : NewType → ℕ × ℕ
type_of t = (t.id, t.map)

-- the classes of the puddles
abbrev pub added_classes : List NewPuddle → List ℕ
added_classes puddles = map (λ a. a.puddle.class) puddles

-- the puddle with its frame
abbrev pub puddle_of_added : NewPuddle → ℕ × Puddle
puddle_of_added a = (a.frame, (member_by a.puddle).puddle)

-- Each type has the lowest free record, from a record on, that comes after the record of the type before it.
abbrev pub HasFreeRecords : (ℕ → Option (ℕ × ℕ)) → (from : ℕ) → List NewType → Type 0
HasFreeRecords at from [] = ⊤
HasFreeRecords at from (t ∷ types) = (first_free at from (TYPE_RECORDS - from) ≡ Some t.record_number) × HasFreeRecords at (t.record_number + 1) types

-- The puddle may be added to the pool of a slot, under its ordinal and with its UUID number, if `next` is the next
-- number afterwards. Its frame is one of the device's and is free, the puddle is legal, and no puddle has its base.
pub record MayComeTo (t : Tables) (slot ordinal number next : ℕ) (a : NewPuddle) : Type 0 where
  pub frame : a.frame < t.frames
  pub free : t.puddles a.frame ≡ None
  pub slot_is : a.puddle.pool ≡ slot
  pub ordinal_is : a.puddle.ordinal ≡ ordinal
  pub number_is : a.puddle.number ≡ number
  pub legal : is_legal_puddle next (member_by a.puddle).puddle ≡ true
  pub base : (f : ℕ) → f < t.frames → has_another_base a.puddle.base (t.puddles f) ≡ true

-- two puddles share no frame, no base and no old base
pub record ShareNothing (a b : NewPuddle) : Type 0 where
  pub frame : a.frame ≢ b.frame
  pub base : a.puddle.base ≢ b.puddle.base
  pub old_base : a.puddle.old_base ≢ b.puddle.old_base

-- The pool may be placed on a device with this image, wherever its puddles are. Its record is free, no pool has the
-- name, and the pool draws the next UUID number. Each of its puddles may be added to it, with the number after that of
-- the puddle before, and no two share a frame, a base or an old base. Its types are legal, stand by ascending ids and
-- are not defined; each has the lowest free record after that of the type before.
pub record MayBePlaced (F : ℕ) (image : Image) (slot : ℕ) (r : PoolRecord) (types : List NewType) (puddles : List NewPuddle) : Type 0 where
  pub slot_below : slot < POOL_RECORDS
  pub slot_free : (tables_of F image).pools slot ≡ None
  pub absent : pool_in (tables_of F image) r.name ≡ None
  pub number : r.number ≡ image NEXT_NUMBER_WORD
  pub enough : r.number + numbers_drawn (length puddles) ≤ NUMBER_LIMIT
  pub each : (o : ℕ) (a : NewPuddle) → slice_get puddles o ≡ Some a → MayComeTo (tables_of F image) slot o (r.number + 1 + o) (r.number + numbers_drawn (length puddles)) a
  pub apart : (i o : ℕ) (a b : NewPuddle) → i < o → slice_get puddles i ≡ Some a → slice_get puddles o ≡ Some b → ShareNothing a b
  pub legal_types : are_file_types (map type_of types) ≡ true
  pub new_types : types_missing (types_of image) (map type_of types) ≡ map type_of types
  pub records : HasFreeRecords (type_at image) 0 types

-- ---- what is placed for a file

-- The pool is one that is placed, on a device with this image, for a file with these bases and classes. Its record is
-- the lowest free one, no pool has the name, and the pool draws the next UUID number. Its puddles are placed in turn.
-- Each type that it brings was not defined, and has a free record.
pub record IsPlacedFor (F : ℕ) (image : Image) (file : List (ℕ × ℕ)) (wanted classes : List ℕ) (slot : ℕ) (r : PoolRecord) (types : List NewType) (puddles : List NewPuddle) : Type 0 where
  pub slot_is : first_free (tables_of F image).pools 0 POOL_RECORDS ≡ Some slot
  pub absent : pool_in (tables_of F image) r.name ≡ None
  pub number : r.number ≡ image NEXT_NUMBER_WORD
  pub enough : r.number + numbers_drawn (length puddles) ≤ NUMBER_LIMIT
  pub types_are : map type_of types ≡ types_missing (types_of image) file
  pub records : HasFreeRecords (type_at image) 0 types
  pub placed : ArePlaced (tables_of F image) r.number wanted classes (map puddle_of_added puddles)
  pub members : (o : ℕ) (a : NewPuddle) → slice_get puddles o ≡ Some a → (a.puddle.pool ≡ slot) × (a.puddle.ordinal ≡ o)

-- ---- worlds

-- a pool whose puddles are of these classes and store this
abbrev pub placed_pool : Owner → (mode number : ℕ) → (classes : List ℕ) → Holding → Pool
placed_pool owner mode number classes holding = record { owner = owner; mode = mode; number = number; classes = classes; holding = holding }

-- the world with that pool under this name, and with these types
unfoldable pub with_placed_pool : List ℕ → Owner → (mode : ℕ) → List (ℕ × ℕ) → (classes : List ℕ) → Holding → StoredWorld → StoredWorld
with_placed_pool name owner mode types classes holding s =
    let typed = with_types_defined types s in
    record typed { next_number = s.next_number + numbers_drawn (length classes); pools = put name_cmp name (placed_pool owner mode s.next_number classes holding) typed.pools }

-- The mask covers no word that the batch writes. With it, each image stands for world s and the tables are durable. The
-- pool is legal, has 1 to 16 puddles, and may be placed by what is read. In each image the frames of its puddles store
-- the same, a graph or words that are none, by the types that are defined once the pool is placed.
pub record MayPlace (size : ℕ) (s : StoredWorld) (F : ℕ) (holding : Holding) (slot : ℕ) (r : PoolRecord) (types : List NewType) (puddles : List NewPuddle) (mask : Write) (words : Words) : Type 0 where
  pub frames : F ≡ s.frames
  pub off : IsOff mask (ByBatch DAEMON_LOG (puts_batch (placing slot r types puddles)))
  pub settled : IsQuiescent size s (masked mask words)
  pub tables : HasDurableTables F (masked mask words)
  pub legal : IsLegalPool r.name r.uid r.gid r.mode
  pub some : 1 ≤ length puddles
  pub few : length puddles ≤ MAX_PUDDLES
  pub may : MayBePlaced F (reads (masked mask words)) slot r types puddles
  pub holds : (image : Image) → Picks (masked mask words) image
      → holding_in (with_types_defined (map type_of types) s).types F (settled_by DAEMON_LOG image) (map puddle_of_added puddles) ≡ holding

-- the world with the pool of this record, with these types and puddles
abbrev pub with_placed : PoolRecord → List NewType → List NewPuddle → Holding → StoredWorld → StoredWorld
with_placed r types puddles holding s = with_placed_pool r.name (owner r.uid r.gid) r.mode (map type_of types) (added_classes puddles) holding s

-- In each world in which it may be placed, the pool is placed, wholly or not at all.
abbrev pub PlacesPool : (size F slot : ℕ) → PoolRecord → List NewType → List NewPuddle → Option HostFault → State → State → Type 0
PlacesPool size F slot r types puddles fault old new =
    (s : StoredWorld) (holding : Holding) (mask : Write) → MayPlace size s F holding slot r types puddles mask old.now.words
    → ChangesMasked mask size s (with_placed r types puddles holding s) (λ _. ⊤) fault old new
