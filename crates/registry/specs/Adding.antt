-- Puddles that are added to pools: what each one is, what fills its frame, what its batch writes, and what the pools
-- are afterwards.
use Rattle.std.specs.Prelude.{◌≡◌, ◌≢◌, ◌⊎◌, ℕ, ◌<◌, ◌≤◌, List, [], ◌∷◌, map, Option, Some, None}
use Rattle.pm_model.specs.declared.host.HostFault.{HostFault}
use Rattle.pm_model.specs.Words.{Words, reads}
use Rattle.pm_model.specs.Moments.{State}
use Rattle.pm_model.specs.Changes.{Write, placed, written, Persists}
use Rattle.pm_model.specs.Masks.{masked, IsOff}
use Rattle.pud_defs.specs.declared.layout.TheConstants.{DAEMON_LOG, NEXT_NUMBER_WORD, NUMBER_LIMIT}
use Rattle.pud_defs.specs.declared.space.TheConstants.{CLASSES}
use Rattle.pud_defs.specs.Formats.Geometry.{class_steps}
use Rattle.pud_defs.specs.declared.records.TheConstants.{POOL_RECORDS}
use Rattle.pud_defs.specs.declared.records.Put.{Put}
use Rattle.pud_defs.specs.Formats.Image.{Image}
use Rattle.pud_defs.specs.RegistryTables.Keyed.{first_free}
use Rattle.pud_defs.specs.Logging.Entries.{Entry}
use Rattle.pud_defs.specs.Formats.Frames.{frame_at, fresh_frame, IsFreshFrame}
use Rattle.pud_defs.specs.PoolGraphs.Holdings.{holding_in}
use Rattle.pud_defs.specs.RegistryTables.Places.{IsLowestBase}
use Rattle.pud_defs.specs.RegistryTables.Puts.{puddle_put}
use Rattle.pud_defs.specs.RegistryTables.SoundTables.{HasSoundTables}
use Rattle.pud_defs.specs.RegistryTables.Tables.{Tables, Pool, tables_of, pools_of}
use Rattle.pud_defs.specs.StateMachine.World.{StoredWorld}
use Rattle.batch.specs.Batches.{ByBatch, Commits}
use Rattle.batch.specs.Worlds.{IsQuiescent}
use Rattle.batch.specs.Tables.{HasDurableTables}
use Rattle.registry.specs.declared.adding.NewPuddle.{NewPuddle}
use Rattle.registry.specs.Puts.{puts_batch, with_puts, number_put, AreOfPools}

-- ---- a puddle

-- The puddle is the new one of this ordinal and this UUID number in the pool of a slot. It stands in the lowest free
-- frame and at the lowest free base, and all of its pointers stand over that base. A device may have puddles of its
-- class.
pub record IsNewPuddle (t : Tables) (slot ordinal number : ℕ) (a : NewPuddle) : Type 0 where
  pub frame : first_free t.puddles 0 t.frames ≡ Some a.frame
  pub base : IsLowestBase t [] a.puddle.base
  pub slot_is : a.puddle.pool ≡ slot
  pub ordinal_is : a.puddle.ordinal ≡ ordinal
  pub number_is : a.puddle.number ≡ number
  pub old_base : a.puddle.old_base ≡ a.puddle.base
  pub class : a.puddle.class < CLASSES
  pub frontier : a.puddle.frontier ≡ class_steps a.puddle.class

-- The frame is one of F frames, the pool's record is one of the pool table, and the UUID number is below the limit, so
-- there is a number after it.
pub record IsAddedWithin (F : ℕ) (a : NewPuddle) : Type 0 where
  pub frame : a.frame < F
  pub slot : a.puddle.pool < POOL_RECORDS
  pub number : a.puddle.number < NUMBER_LIMIT

-- ---- what is written for it

-- the words of the frame of a new puddle
abbrev pub frame_write : (F frame number ordinal : ℕ) → Write
frame_write F frame number ordinal = placed (frame_at F frame) (fresh_frame number ordinal)

-- what is written into the frame of the puddle that is added
abbrev pub filling : ℕ → NewPuddle → Write
filling F a = frame_write F a.frame a.puddle.number a.puddle.ordinal

-- the frame of the puddle has these words
abbrev pub IsFilled : ℕ → NewPuddle → Image → Type 0
IsFilled F a image = IsFreshFrame F a.frame a.puddle.number a.puddle.ordinal image

-- the records of puddles that are added
abbrev pub puddle_records : List NewPuddle → List Put
puddle_records added = map (λ (a : NewPuddle). puddle_put a.frame a.puddle) added

-- the changes that add puddles: the next UUID number, and the record of each puddle
abbrev pub adding : (next : ℕ) → List NewPuddle → List Put
adding next added = number_put next ∷ puddle_records added

-- ---- what a call does

-- Words are made durable, and only after that the batch is written. If making the words durable returned a fault, this
-- is the fault, and the batch is not written.
pub record PersistsThenCommits (write : Write) (es : List Entry) (fault : Option HostFault) (old new : State) : Type 0 where
  pub mid : State
  pub first : Option HostFault
  pub persists : Persists write first old mid
  pub then : ((new ≡ mid) × (fault ≡ first) × (first ≢ None)) ⊎ ((first ≡ None) × Commits DAEMON_LOG es fault mid new)

-- the mask covers none of the words that fill the frame, and none that the batch of these changes writes
pub record IsOffAdding (mask : Write) (F : ℕ) (a : NewPuddle) (puts : List Put) : Type 0 where
  pub frame : IsOff mask (written (filling F a))
  pub records : IsOff mask (ByBatch DAEMON_LOG (puts_batch puts))

-- Take an image that has these tables, the world's pools and next number, and for which `besides` holds. With these
-- changes it has next number `number`, and sound tables of the pools `ps`.
pub record MakesPools (s : StoredWorld) (number : ℕ) (ps : List (List ℕ × Pool)) (puts : List Put) (besides : Image → Type 0) (t : Tables) : Type 0 where
  pub of : AreOfPools s.frames puts
  pub low : 1 ≤ number
  pub high : number ≤ NUMBER_LIMIT
  pub next : (image : Image) → image NEXT_NUMBER_WORD ≡ s.next_number → with_puts puts image NEXT_NUMBER_WORD ≡ number
  pub now : Tables
  pub tables : (image : Image) → tables_of s.frames image ≡ t → tables_of s.frames (with_puts puts image) ≡ now
  pub pools : (image : Image) → besides image → pools_of (holding_in s.types s.frames image) t ≡ s.pools → pools_of (holding_in s.types s.frames image) now ≡ ps
  pub sound : HasSoundTables number now

-- the world with these pools and this next number
abbrev pub pools_next : StoredWorld → ℕ → List (List ℕ × Pool) → StoredWorld
pools_next s number ps = record s { next_number = number; pools = ps }

-- The mask covers no word of the puddle's frame and no word that the batch writes. With it, each image stands for world
-- s, the tables are durable, and the puddle's frame is free. Once that frame is filled, the batch makes the pools of
-- the next world.
pub record AddsTo (size : ℕ) (s next : StoredWorld) (F : ℕ) (a : NewPuddle) (es : List Entry) (mask : Write) (words : Words) : Type 0 where
  pub frames : F ≡ s.frames
  pub puts : List Put
  pub is : es ≡ puts_batch puts
  pub off : IsOffAdding mask F a puts
  pub settled : IsQuiescent size s (masked mask words)
  pub tables : HasDurableTables s.frames (masked mask words)
  pub free : (tables_of s.frames (reads (masked mask words))).puddles a.frame ≡ None
  pub number : ℕ
  pub pools : List (List ℕ × Pool)
  pub makes : MakesPools s number pools puts (IsFilled s.frames a) (tables_of s.frames (reads (masked mask words)))
  pub stands : pools_next s number pools ≡ next
