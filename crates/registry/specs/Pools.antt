-- Pools that are made, changed and dropped, each by one batch.
use Rattle.std.specs.Prelude.{◌≡◌, ◌≢◌, ◌⊎◌, ℕ, zero, suc, ◌+◌, ◌≤◌, Bool, true, cond, List, [], ◌∷◌, Option, Some, None, ⊤}
use Rattle.pm_model.specs.declared.host.HostFault.{HostFault}
use Rattle.pm_model.specs.declared.host.HostFault.TheVariants.{Cut}
use Rattle.pm_model.specs.Words.{Words, reads}
use Rattle.pm_model.specs.Moments.{State}
use Rattle.pm_model.specs.Changes.{Write, Changes, Leaves, Silently}
use Rattle.pm_model.specs.Masks.{masked, masked_image, masked_state, IsOff}
use Rattle.pud_defs.specs.declared.layout.TheConstants.{DAEMON_LOG, NEXT_NUMBER_WORD, MAX_OWNER_ID}
use Rattle.pud_defs.specs.declared.records.PoolRecord.{PoolRecord}
use Rattle.pud_defs.specs.declared.records.Put.{Put}
use Rattle.pud_defs.specs.Formats.Image.{Image}
use Rattle.pud_defs.specs.declared.records.TheConstants.{MAX_PUDDLES}
use Rattle.pud_defs.specs.RegistryTables.Keyed.{first_free, count_used}
use Rattle.pud_defs.specs.Formats.Frames.{IsFreshFrame}
use Rattle.pud_defs.specs.Formats.Modes.{is_legal_mode}
use Rattle.pud_defs.specs.Formats.Names.{IsName, is_legal_name}
use Rattle.pud_defs.specs.RegistryTables.Puddles.{Member}
use Rattle.pud_defs.specs.RegistryTables.Tables.{Tables, tables_of, members}
use Rattle.pud_defs.specs.RegistryTables.Puts.{pool_put, mode_put, free_pool_put, free_puddle_put, is_of_pool}
use Rattle.pud_defs.specs.StateMachine.PoolChanges.{with_new_pool, with_pool_mode, without_pool}
use Rattle.pud_defs.specs.RegistryTables.Spaces.{owner}
use Rattle.pud_defs.specs.StateMachine.World.{StoredWorld, idle_world_of}
use Rattle.batch.specs.Batches.{HasIdleGate, ByBatch, Commits}
use Rattle.batch.specs.Worlds.{IsQuiescent}
use Rattle.batch.specs.Tables.{HasDurableTables}
use Rattle.registry.specs.declared.adding.NewPuddle.{NewPuddle}
use Rattle.registry.specs.Puts.{puts_batch, ByPools}
use Rattle.registry.specs.Adding.{filling, adding, PersistsThenCommits, IsOffAdding}
use Rattle.registry.specs.Places.{make_refusal, IsFirstFor}

-- ---- what each batch writes

-- the changes that make a pool: its record, and with it its first puddle
abbrev pub making : PoolRecord → NewPuddle → List Put
making r a = pool_put a.puddle.pool r ∷ adding (a.puddle.number + 1) (a ∷ [])

-- the change of a pool's mode
abbrev pub changing : (slot mode : ℕ) → List Put
changing slot mode = mode_put slot mode ∷ []

-- the change before the others, if it is wanted
abbrev pub put_if : Bool → Put → List Put → List Put
put_if wanted put puts = cond wanted (put ∷ puts) puts

-- the changes that free the records of a pool's puddles, among `count` frames from one frame on
unfoldable pub freeing : (ℕ → Option Member) → (slot frame count : ℕ) → List Put
freeing at slot frame zero = []
freeing at slot frame (suc count) = let later = freeing at slot (frame + 1) count in put_if (is_of_pool slot (at frame)) (free_puddle_put frame) later

-- the changes that drop a pool: its record is freed, and so are those of its puddles
abbrev pub dropping : Tables → ℕ → List Put
dropping t slot = free_pool_put slot ∷ freeing t.puddles slot 0 t.frames

-- ---- what each call does

-- either this was done, or a read failed and nothing changed; a read never loses power
abbrev pub OrStill : (Option HostFault → State → State → Type 0) → Option HostFault → State → State → Type 0
OrStill Does fault old new = ((new ≡ old) × (fault ≢ None) × (fault ≢ Some Cut)) ⊎ Does fault old new

-- the batch of these changes is written, all of it or nothing
abbrev pub CommitsPuts : List Put → Option HostFault → State → State → Type 0
CommitsPuts puts fault old new = Commits DAEMON_LOG (puts_batch puts) fault old new

-- the record of a pool that is made when this UUID number is the next one
abbrev pub new_record : List ℕ → (uid gid mode next : ℕ) → PoolRecord
new_record name uid gid mode next = record { name = name; uid = uid; gid = gid; mode = mode; number = next }

-- A pool is made with a first puddle that is the right one for it. The frame is filled durably, and after that the
-- records are written.
pub record MakesSomewhere (t : Tables) (next : ℕ) (name : List ℕ) (uid gid mode : ℕ) (fault : Option HostFault) (old new : State) : Type 0 where
  pub added : NewPuddle
  pub is : IsFirstFor t next name added
  pub commits : PersistsThenCommits (filling t.frames added) (puts_batch (making (new_record name uid gid mode next) added)) fault old new

-- If the daemon log counts nothing and nothing prevents a pool of this name, its records are made.
abbrev pub MakesRecords : (F : ℕ) → Image → List ℕ → (uid gid mode : ℕ) → Option HostFault → State → State → Type 0
MakesRecords F image name uid gid mode fault old new =
    HasIdleGate DAEMON_LOG old.now.words → make_refusal (tables_of F image) (image NEXT_NUMBER_WORD) name ≡ None
    → OrStill (MakesSomewhere (tables_of F image) (image NEXT_NUMBER_WORD) name uid gid mode) fault old new

-- If the daemon log counts nothing and the pool of the slot has at most 16 puddles, its records are freed.
abbrev pub DropsRecords : (F slot : ℕ) → Image → Option HostFault → State → State → Type 0
DropsRecords F slot image fault old new =
    HasIdleGate DAEMON_LOG old.now.words → count_used (members (tables_of F image) slot) 0 F ≤ MAX_PUDDLES → OrStill (CommitsPuts (dropping (tables_of F image) slot)) fault old new

-- the lowest free frame of these tables is the frame of a new puddle of this number, the first of its pool
pub record HasFreshFrame (t : Tables) (number : ℕ) (image : Image) : Type 0 where
  pub frame : ℕ
  pub lowest : first_free t.puddles 0 t.frames ≡ Some frame
  pub fresh : IsFreshFrame t.frames frame number 0 image

-- a name, a mode, a uid and a gid that a pool may have
pub record IsLegalPool (name : List ℕ) (uid gid mode : ℕ) : Type 0 where
  pub is_name : IsName name
  pub has_legal_name : is_legal_name name ≡ true
  pub has_legal_mode : is_legal_mode mode ≡ true
  pub uid_fits : uid ≤ MAX_OWNER_ID
  pub gid_fits : gid ≤ MAX_OWNER_ID

-- the tables of a device of F frames are durable, and the record of the slot is this one
pub record IsPoolAt (F slot : ℕ) (r : PoolRecord) (words : Words) : Type 0 where
  pub tables : HasDurableTables F words
  pub used : (tables_of F (reads words)).pools slot ≡ Some r

-- ---- with words masked

-- With the mask, the tables of a device of F frames are the same as they are read, and so is the next UUID number.
pub record KeepsTables (F : ℕ) (mask : Write) (image : Image) : Type 0 where
  pub tables : tables_of F (masked_image mask image) ≡ tables_of F image
  pub number : masked_image mask image NEXT_NUMBER_WORD ≡ image NEXT_NUMBER_WORD

-- the mask covers none of the words that a new pool takes, wherever the pool is to stand
pub record IsOffMaking (mask : Write) (t : Tables) (next : ℕ) (name : List ℕ) (uid gid mode : ℕ) : Type 0 where
  pub each : (a : NewPuddle) → IsFirstFor t next name a → IsOffAdding mask t.frames a (making (new_record name uid gid mode next) a)

-- the image stands for the world before, or it stands for the next one and this further fact holds too
abbrev pub MayStand : (size : ℕ) → (s next : StoredWorld) → (Image → Type 0) → Image → Type 0
MayStand size s next also image = (idle_world_of size image ≡ Some s) ⊎ ((idle_world_of size image ≡ Some next) × also image)

-- Pools are changed, wholly or not at all. At each moment each image stands for the world before, or it stands for the
-- next one and the further fact holds. Without a fault, at the end each image stands for the next world, the tables are
-- durable and the daemon log is closed. Only words of the daemon log, of pools, of frames and of the type table change.
pub record ChangesPools (size : ℕ) (s next : StoredWorld) (also : Image → Type 0) (fault : Option HostFault) (old new : State) : Type 0 where
  pub changes : Changes (ByPools s.frames) fault old new
  pub moments : Leaves (Silently (MayStand size s next also)) old new
  pub settled : fault ≡ None → IsQuiescent size next new.now.words
  pub tables : fault ≡ None → HasDurableTables s.frames new.now.words

-- the same with these words masked
abbrev pub ChangesMasked : Write → (size : ℕ) → (s next : StoredWorld) → (Image → Type 0) → Option HostFault → State → State → Type 0
ChangesMasked mask size s next also fault old new = ChangesPools size s next also fault (masked_state mask old) (masked_state mask new)

-- This is promised of the pool in a slot, if the device is quiescent and the slot's record is used.
abbrev pub ForPoolAt : (size slot : ℕ) → StoredWorld → Words → (PoolRecord → Type 0) → Type 0
ForPoolAt size slot s words Promised = IsQuiescent size s words → (r : PoolRecord) → IsPoolAt s.frames slot r words → Promised r

-- In each world, under each mask that covers no word of the batch, the pool in the slot gets the mode, if it is legal.
abbrev pub ChangesMode : (size slot mode : ℕ) → Option HostFault → State → State → Type 0
ChangesMode size slot mode fault old new =
    (s : StoredWorld) → (mask : Write) → IsOff mask (ByBatch DAEMON_LOG (puts_batch (changing slot mode)))
    → ForPoolAt size slot s (masked mask old.now.words) (λ r. is_legal_mode mode ≡ true → ChangesMasked mask size s (with_pool_mode r.name mode s) (λ _. ⊤) fault old new)

-- In each world of F frames, under each mask that keeps the tables and covers no word of the batch, the pool in the slot is dropped.
abbrev pub DropsPool : (size F slot : ℕ) → Option HostFault → State → State → Type 0
DropsPool size F slot fault old new =
    (s : StoredWorld) → F ≡ s.frames → (mask : Write) → KeepsTables F mask (reads old.now.words)
    → IsOff mask (ByBatch DAEMON_LOG (puts_batch (dropping (tables_of F (reads old.now.words)) slot)))
    → ForPoolAt size slot s (masked mask old.now.words) (λ r. ChangesMasked mask size s (without_pool r.name s) (λ _. ⊤) fault old new)

-- The mask covers no word that a new pool takes. With it, each image stands for world s and the tables are durable. The
-- pool is legal, and nothing prevents it.
pub record MayMake (size : ℕ) (s : StoredWorld) (F : ℕ) (name : List ℕ) (uid gid mode : ℕ) (mask : Write) (words : Words) : Type 0 where
  pub frames : F ≡ s.frames
  pub keeps : KeepsTables F mask (reads words)
  pub off : IsOffMaking mask (tables_of F (reads words)) (reads words NEXT_NUMBER_WORD) name uid gid mode
  pub settled : IsQuiescent size s (masked mask words)
  pub tables : HasDurableTables F (masked mask words)
  pub legal : IsLegalPool name uid gid mode
  pub none : make_refusal (tables_of F (reads words)) (reads words NEXT_NUMBER_WORD) name ≡ None

-- The world gets the pool, wholly or not at all. With the pool, the frame that was the lowest free one is the frame of
-- a new puddle.
abbrev pub MakesPool : (size : ℕ) → StoredWorld → ℕ → List ℕ → (uid gid mode : ℕ) → Write → Option HostFault → State → State → Type 0
MakesPool size s F name uid gid mode mask fault old new =
    ChangesMasked mask size s (with_new_pool name (owner uid gid) mode s) (HasFreshFrame (tables_of F (reads old.now.words)) (s.next_number + 1)) fault old new
