-- A file that is placed on a device as a pool: why it is not placed, and what is done.
use Rattle.std.specs.Prelude.{◌≡◌, ◌≢◌, ◌⊎◌, ℕ, Bool, ◌+◌, ◌<◌, ◌||◌, nat_lt, cond, List, length, map, Option, Some, None, is_none, Result, Ok, Err, ⊤}
use Rattle.pm_model.specs.declared.host.HostFault.{HostFault}
use Rattle.pm_model.specs.Words.{Words, reads}
use Rattle.pm_model.specs.Moments.{State}
use Rattle.pm_model.specs.Changes.{Write, Changes}
use Rattle.pm_model.specs.Masks.{masked, IsOff}
use Rattle.pud_defs.specs.declared.layout.TheConstants.{DAEMON_LOG, NEXT_NUMBER_WORD, NUMBER_LIMIT, TYPE_RECORDS}
use Rattle.pud_defs.specs.declared.records.TheConstants.{POOL_RECORDS}
use Rattle.pud_defs.specs.declared.records.PoolRecord.{PoolRecord}
use Rattle.pud_defs.specs.Formats.Image.{Image}
use Rattle.pud_defs.specs.RegistryTables.Keyed.{first_free, count_used}
use Rattle.pud_defs.specs.PoolGraphs.Stored.{Stored}
use Rattle.pud_defs.specs.PoolGraphs.ExportFile.{FileContents, file_graph}
use Rattle.pud_defs.specs.StateMachine.Imports.{types_missing, numbers_drawn, with_imported_pool}
use Rattle.pud_defs.specs.RegistryTables.Spaces.{owner}
use Rattle.pud_defs.specs.StateMachine.Step.{clashes_with}
use Rattle.pud_defs.specs.RegistryTables.Tables.{Tables, tables_of, pool_in}
use Rattle.pud_defs.specs.RegistryTables.Types.{type_at, types_of, used_types}
use Rattle.pud_defs.specs.StateMachine.World.{StoredWorld}
use Rattle.batch.specs.Batches.{HasIdleGate, ByBatch}
use Rattle.batch.specs.Worlds.{IsQuiescent}
use Rattle.batch.specs.Tables.{HasDurableTables}
use Rattle.registry.specs.declared.adding.NewPuddle.{NewPuddle}
use Rattle.registry.specs.declared.placing.NewType.{NewType}
use Rattle.registry.specs.Puts.{puts_batch}
use Rattle.registry.specs.Pools.{IsLegalPool, KeepsTables, OrStill, CommitsPuts, ChangesMasked, new_record}
use Rattle.registry.specs.Placing.{placing, IsPlacedFor}
use Rattle.pud_import.specs.Contents.{types_held, stored_held, bases_held, classes_held}
use Rattle.pud_import.specs.Filling.{ByFrames, AreFilled}
use Rattle.pud_import.specs.declared.plan.Plan.{Plan}
use Rattle.pud_import.specs.declared.placing.PlaceFault.{PlaceFault}
use Rattle.pud_import.specs.declared.placing.PlaceFault.TheVariants as faults

-- ---- why a file is not placed

-- the host's fault that placing a file returned
abbrev pub place_fault : {T : Type 0} → Result T PlaceFault → Option HostFault
place_fault (Ok x) = None
place_fault (Err faults.Clash) = None
place_fault (Err faults.Full) = None
place_fault (Err faults.NoSpace) = None
place_fault (Err (faults.Host fault)) = Some fault

-- the error that placing a file returned instead of Ok
abbrev pub refusal_in : {T : Type 0} → Result T PlaceFault → Option PlaceFault
refusal_in (Ok x) = None
refusal_in (Err fault) = Some fault

-- the types of the file that are not defined are more than the free records
abbrev pub lacks_records : (types : List (ℕ × ℕ)) → (used : ℕ) → (file : List (ℕ × ℕ)) → Bool
lacks_records types used file = nat_lt TYPE_RECORDS (used + length (types_missing types file))

-- why the types of the file cannot be defined by this image: one clashes, or too few records are free
abbrev pub types_refusal : Image → (file : List (ℕ × ℕ)) → Option PlaceFault
types_refusal image file =
    cond (clashes_with (types_of image) file) (Some faults.Clash) (cond (lacks_records (types_of image) (used_types image) file) (Some faults.Full) None)

-- why no slot is found for a pool: no record is free
abbrev pub slot_refusal : Tables → Option PlaceFault
slot_refusal t = cond (is_none (first_free t.pools 0 POOL_RECORDS)) (Some faults.Full) None

-- why no frame is found, by the lowest free one
abbrev pub frames_refusal : Option ℕ → Option PlaceFault
frames_refusal None = Some faults.NoSpace
frames_refusal (Some frame) = None

-- Why no file of these contents is placed, if these types are defined in `used` records, these are the tables, and
-- `next` is the next UUID number. Either a type is defined with another map; or no record is free for the pool, or too
-- few for its types, or too few numbers are left; or too few frames are free.
abbrev pub place_refusal : (types : List (ℕ × ℕ)) → (used : ℕ) → Tables → (next : ℕ) → FileContents → Option PlaceFault
place_refusal types used t next file =
    cond (clashes_with types file.types) (Some faults.Clash)
    (cond (is_none (first_free t.pools 0 POOL_RECORDS) || lacks_records types used file.types || nat_lt NUMBER_LIMIT (next + numbers_drawn (length file.classes))) (Some faults.Full)
    (cond (nat_lt t.frames (count_used t.puddles 0 t.frames + length file.classes)) (Some faults.NoSpace) None))

-- the same by the image of a device of F frames
abbrev pub refusal_by : (F : ℕ) → Image → FileContents → Option PlaceFault
refusal_by F image file = place_refusal (types_of image) (used_types image) (tables_of F image) (image NEXT_NUMBER_WORD) file

-- ---- what is done

-- What is placed for a file: the slot of its pool, the types that it brings, and its puddles.
pub record Placement : Type 0 where
  pub slot : ℕ
  pub types : List NewType
  pub puddles : List NewPuddle

-- A pool is placed somewhere, as is right by what was read. Its frames are filled, durably, and only after that the
-- batch is written that names them. If filling the frames returned a fault, the batch is not written.
pub record PlacesSomewhere (F : ℕ) (image : Image) (file : Stored) (types : List (ℕ × ℕ)) (name : List ℕ) (uid gid mode : ℕ) (fault : Option HostFault) (old new : State) : Type 0 where
  pub placement : Placement
  pub is : IsPlacedFor F image types (map (λ d. d.base) file.puddles) (map (λ d. d.class) file.puddles) placement.slot (new_record name uid gid mode (image NEXT_NUMBER_WORD)) placement.types placement.puddles
  pub mid : State
  pub first : Option HostFault
  pub fills : Changes (ByFrames F placement.puddles) first old mid
  pub filled : first ≡ None → AreFilled F file placement.puddles mid.now.words
  pub then : ((new ≡ mid) × (fault ≡ first) × (first ≢ None))
      ⊎ ((first ≡ None) × CommitsPuts (placing placement.slot (new_record name uid gid mode (image NEXT_NUMBER_WORD)) placement.types placement.puddles) fault mid new)

-- the plan is one for a pool of this name, owner, group and mode that has what the file has, by what an image has
abbrev pub IsPlanFor : (F : ℕ) → Image → (bytes name : List ℕ) → (uid gid mode : ℕ) → Plan → Type 0
IsPlanFor F image bytes name uid gid mode plan =
    IsPlacedFor F image (types_held bytes) (bases_held bytes) (classes_held bytes) plan.slot (new_record name uid gid mode plan.number) plan.types.items plan.puddles.items

-- If this was found for a file by an image, and the daemon log counts nothing, the frames are filled and the batch is written.
abbrev pub FillsAndCommits : (F : ℕ) → Stored → (slot : ℕ) → PoolRecord → List NewType → List NewPuddle → Option HostFault → State → State → Type 0
FillsAndCommits F stored slot r types puddles fault old new =
    (image : Image) (file : List (ℕ × ℕ)) → IsPlacedFor F image file (map (λ d. d.base) stored.puddles) (map (λ d. d.class) stored.puddles) slot r types puddles → HasIdleGate DAEMON_LOG old.now.words
    → PlacesSomewhere F image stored file r.name r.uid r.gid r.mode fault old new

-- If the daemon log counts nothing, no pool has the name and nothing prevents the pool, it is placed, or a read failed and nothing changed.
abbrev pub CommitsFile : (F : ℕ) → Image → (bytes name : List ℕ) → (uid gid mode : ℕ) → Option HostFault → State → State → Type 0
CommitsFile F image bytes name uid gid mode fault old new =
    HasIdleGate DAEMON_LOG old.now.words → (file : FileContents) → file_graph bytes ≡ Some file → pool_in (tables_of F image) name ≡ None → refusal_by F image file ≡ None
    → OrStill (PlacesSomewhere F image (stored_held bytes) file.types name uid gid mode) fault old new

-- ---- worlds

-- the mask covers none of the words that a pool takes, wherever the pool is placed
pub record IsOffPlacing (mask : Write) (F : ℕ) (image : Image) (file : Stored) (types : List (ℕ × ℕ)) (name : List ℕ) (uid gid mode : ℕ) : Type 0 where
  pub each : (p : Placement) → IsPlacedFor F image types (map (λ d. d.base) file.puddles) (map (λ d. d.class) file.puddles) p.slot (new_record name uid gid mode (image NEXT_NUMBER_WORD)) p.types p.puddles
      → IsOff mask (ByFrames F p.puddles) × IsOff mask (ByBatch DAEMON_LOG (puts_batch (placing p.slot (new_record name uid gid mode (image NEXT_NUMBER_WORD)) p.types p.puddles)))

-- with the mask, each record of the type table is the same as it is read
pub record KeepsTypes (mask : Write) (words : Words) : Type 0 where
  pub each : (i : ℕ) → i < TYPE_RECORDS → type_at (reads (masked mask words)) i ≡ type_at (reads words) i

-- The mask covers no word that the pool takes. With it, each image stands for world s, the tables are durable, the pool
-- is legal, no pool has its name, and nothing prevents it.
pub record MayImport (size : ℕ) (s : StoredWorld) (F : ℕ) (name : List ℕ) (uid gid mode : ℕ) (file : FileContents) (stored : Stored) (mask : Write) (words : Words) : Type 0 where
  pub frames : F ≡ s.frames
  pub keeps : KeepsTables F mask (reads words)
  pub types : KeepsTypes mask words
  pub off : IsOffPlacing mask F (reads words) stored file.types name uid gid mode
  pub settled : IsQuiescent size s (masked mask words)
  pub tables : HasDurableTables F (masked mask words)
  pub legal : IsLegalPool name uid gid mode
  pub absent : pool_in (tables_of F (reads words)) name ≡ None
  pub none : refusal_by F (reads words) file ≡ None

-- with words masked, the world gets the pool of the file and its types, wholly or not at all
abbrev pub ImportsPool : Write → (size : ℕ) → StoredWorld → FileContents → List ℕ → (uid gid mode : ℕ) → Option HostFault → State → State → Type 0
ImportsPool mask size s file name uid gid mode fault old new = ChangesMasked mask size s (with_imported_pool name (owner uid gid) mode file s) (λ _. ⊤) fault old new

-- Each world in which the file may be imported gets its pool and its types, wholly or not at all.
abbrev pub ImportsFile : (size F : ℕ) → (bytes name : List ℕ) → (uid gid mode : ℕ) → Option HostFault → State → State → Type 0
ImportsFile size F bytes name uid gid mode fault old new =
    (s : StoredWorld) (file : FileContents) (mask : Write) → file_graph bytes ≡ Some file → MayImport size s F name uid gid mode file (stored_held bytes) mask old.now.words
    → ImportsPool mask size s file name uid gid mode fault old new

-- The same for a pool of this record, with types and puddles that were found for the file.
abbrev pub FillsAndImports : (size F : ℕ) → (bytes : List ℕ) → (slot : ℕ) → PoolRecord → List NewType → List NewPuddle → Option HostFault → State → State → Type 0
FillsAndImports size F bytes slot r types puddles fault old new =
    (s : StoredWorld) (file : FileContents) (mask : Write) → file_graph bytes ≡ Some file
    → MayImport size s F r.name r.uid r.gid r.mode file (stored_held bytes) mask old.now.words
    → IsPlacedFor F (reads old.now.words) file.types (bases_held bytes) (classes_held bytes) slot r types puddles
    → ImportsPool mask size s file r.name r.uid r.gid r.mode fault old new
