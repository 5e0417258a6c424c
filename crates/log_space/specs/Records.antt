-- How one batch writes a client's record of the log-space table.
use Rattle.std.specs.Prelude.{◌≡◌, ◌⊎◌, ℕ, ◌+◌, ◌<◌, ◌≤◌, true, false, List, [], ◌∷◌, Option, Some, None}
use Rattle.pm_model.specs.declared.host.HostFault.{HostFault}
use Rattle.pm_model.specs.Words.{Words, Picks, HasOnly, reads}
use Rattle.pm_model.specs.Moments.{State}
use Rattle.pm_model.specs.Changes.{Footprint, Changes, Leaves, Silently}
use Rattle.pud_defs.specs.declared.layout.TheConstants.{DAEMON_LOG, PUDDLE_TABLE, CLIENTS}
use Rattle.pud_defs.specs.Formats.Image.{Image}
use Rattle.pud_defs.specs.Logging.Entries.{Entry}
use Rattle.pud_defs.specs.Logging.Replay.{is_in_log, settled_by}
use Rattle.pud_defs.specs.RegistryTables.Spaces.{Owner, owner, with_owner, space_record_at, owner_of, has_closed_logs}
use Rattle.pud_defs.specs.StateMachine.World.{StoredWorld, idle_world_of}
use Rattle.batch.specs.Batches.{batch_entry, batch_write, ByBatch}
use Rattle.batch.specs.Worlds.{IsQuiescent, WhileQuiescent, MovesBy, Moves}

-- the batch that writes these values to the first words of a client's record
abbrev pub record_batch : ℕ → List ℕ → List Entry
record_batch slot vals = batch_entry (space_record_at slot) vals ∷ []

-- the batch that registers a client's logs for an owner
abbrev pub registration : ℕ → ℕ → ℕ → List Entry
registration slot uid gid = record_batch slot (1 ∷ uid ∷ gid ∷ [])

-- the batch that frees a client's record
abbrev pub unregistration : ℕ → List Entry
unregistration slot = record_batch slot (0 ∷ [])

-- if this batch may move the world to the next one, it does
abbrev pub RecordMoves : (size : ℕ) → (s next : StoredWorld) → (slot : ℕ) → List ℕ → Option HostFault → (old new : State) → Type 0
RecordMoves size s next slot vals fault old new = MovesBy size s next (record_batch slot vals) old.now.words → Moves size s next (record_batch slot vals) fault old new

-- This is promised of each world that a device of so many words stands for, while it is quiescent.
abbrev pub InEachWorld : (words : ℕ) → Footprint → (old new : State) → ((size : ℕ) → StoredWorld → (old new : State) → Type 0) → Type 0
InEachWorld words may old new Promise = (size : ℕ) → size ≡ words → (s : StoredWorld) → WhileQuiescent size s may old new (Promise size s)

-- the table of an image with the daemon log replayed: whose the logs of each client are
abbrev pub owners : Image → ℕ → Option Owner
owners image client = owner_of (settled_by DAEMON_LOG image) client

-- in each image that may be left, each log of the client is closed
pub record HasClosedLogs (F slot : ℕ) (words : Words) : Type 0 where
  pub each : (image : Image) → Picks words image → has_closed_logs image F slot ≡ true

-- An image that stands for the world. It is an image of these words that is changed only in the daemon log and in words
-- of the batch, and in no word after the log-space table. Its table is as it was, or the client's record in it is
-- changed.
pub record MayHaveOwner (size : ℕ) (s : StoredWorld) (slot : ℕ) (now : Option Owner) (es : List Entry) (words : Words) (image : Image) : Type 0 where
  pub stands : idle_world_of size image ≡ Some s
  pub before : Image
  pub picked : Picks words before
  pub outside : (k : ℕ) → is_in_log DAEMON_LOG k ≡ false → batch_write es k ≡ None → image k ≡ before k
  pub after_pools : (k : ℕ) → PUDDLE_TABLE ≤ k → image k ≡ before k
  pub table : (owners image ≡ owners before) ⊎ (owners image ≡ with_owner slot now (owners before))

-- An image of these words that is changed only in the daemon log and in words of the batch. In its table the client's
-- record is changed.
pub record HasOwner (slot : ℕ) (now : Option Owner) (es : List Entry) (words : Words) (image : Image) : Type 0 where
  pub before : Image
  pub picked : Picks words before
  pub outside : (k : ℕ) → is_in_log DAEMON_LOG k ≡ false → batch_write es k ≡ None → image k ≡ before k
  pub table : owners image ≡ with_owner slot now (owners before)

-- One batch changes the client's record, wholly or not at all. At each moment each image stands for the world, with the
-- record as it was or changed. Without a fault it is changed in each image that may be left and in what is read, the
-- words of the batch are durable, and the device is quiescent.
pub record ChangesOwner (size : ℕ) (s : StoredWorld) (slot : ℕ) (now : Option Owner) (es : List Entry) (fault : Option HostFault) (old new : State) : Type 0 where
  pub changes : Changes (ByBatch DAEMON_LOG es) fault old new
  pub moments : Leaves (Silently (MayHaveOwner size s slot now es old.now.words)) old new
  pub settled : fault ≡ None → IsQuiescent size s new.now.words
  pub done : fault ≡ None → (image : Image) → Picks new.now.words image → HasOwner slot now es old.now.words image
  pub durable : fault ≡ None → (k v : ℕ) → batch_write es k ≡ Some v → HasOnly (new.now.words k) v
  pub read : fault ≡ None → (client : ℕ) → client < CLIENTS → owner_of (reads new.now.words) client ≡ with_owner slot now (owner_of (reads old.now.words)) client

-- The client's logs are registered for the owner. Without a fault each of the three words of the record has only its
-- one value.
pub record Registers (size : ℕ) (s : StoredWorld) (slot uid gid : ℕ) (fault : Option HostFault) (old new : State) : Type 0 where
  pub table : ChangesOwner size s slot (Some (owner uid gid)) (registration slot uid gid) fault old new
  pub used_word : fault ≡ None → HasOnly (new.now.words (space_record_at slot)) 1
  pub uid_word : fault ≡ None → HasOnly (new.now.words (space_record_at slot + 1)) uid
  pub gid_word : fault ≡ None → HasOnly (new.now.words (space_record_at slot + 2)) gid

-- The client's record is freed. Without a fault its first word has only the value 0.
pub record Unregisters (size : ℕ) (s : StoredWorld) (slot : ℕ) (fault : Option HostFault) (old new : State) : Type 0 where
  pub table : ChangesOwner size s slot None (unregistration slot) fault old new
  pub used_word : fault ≡ None → HasOnly (new.now.words (space_record_at slot)) 0
