-- The world that an idle device stands for, and how one batch moves it to the next. On an idle device nothing is under
-- way and each registered log is closed.
use Rattle.std.specs.Prelude.{◌≡◌, ◌⊎◌, ℕ, true, false, List, Option, Some, None}
use Rattle.std.specs.List.{list_all}
use Rattle.pm_model.specs.declared.host.HostFault.{HostFault}
use Rattle.pm_model.specs.Words.{Has, values, Words, Picks}
use Rattle.pm_model.specs.Moments.{State}
use Rattle.pm_model.specs.Changes.{Footprint, Write, Leaves, Silently}
use Rattle.pm_model.specs.Masks.{masked, masked_state, IsOff}
use Rattle.pud_defs.specs.declared.layout.TheConstants.{DAEMON_LOG}
use Rattle.pud_defs.specs.Formats.Image.{Image}
use Rattle.pud_defs.specs.Logging.Entries.{Entry, is_idle_gate}
use Rattle.pud_defs.specs.Logging.Replay.{overwritten, is_in_log, settled_by}
use Rattle.pud_defs.specs.RegistryTables.Registry.{is_loggable}
use Rattle.pud_defs.specs.StateMachine.World.{StoredWorld, idle_registry, idle_world_of}
use Rattle.batch.specs.Batches.{batch_write, committed, IsBatched, Commits}

-- The device is quiescent. Each image that may be left stands for this world, with each registered log closed. The
-- daemon log counts nothing in it.
pub record IsQuiescent (size : ℕ) (s : StoredWorld) (words : Words) : Type 0 where
  pub stands : (image : Image) → Picks words image → idle_world_of size image ≡ Some s
  pub idle : (v : ℕ) → Has (values (words DAEMON_LOG)) v → is_idle_gate v ≡ true

-- This is promised with words masked that the calls do not write, if the device is then quiescent.
abbrev pub WhileQuiescent : (size : ℕ) → StoredWorld → Footprint → (old new : State) → ((old new : State) → Type 0) → Type 0
WhileQuiescent size s may old new Promise =
    (mask : Write) → IsOff mask may → IsQuiescent size s (masked mask old.now.words) → Promise (masked_state mask old) (masked_state mask new)

-- the image with the daemon log replayed, and then the words of these entries written over it
abbrev pub with_batch : List Entry → Image → Image
with_batch es image = overwritten (batch_write es) (settled_by DAEMON_LOG image)

-- What is needed of a batch that is to move one world to the next. Its entries lie where the daemon log may write. With
-- their words written over it, each image that may be left stands for the next world, with each registered log closed.
pub record MovesBy (size : ℕ) (s next : StoredWorld) (es : List Entry) (words : Words) : Type 0 where
  pub allowed : list_all (is_loggable s.frames (committed es)) es ≡ true
  pub stands : (image : Image) → Picks words image → idle_registry size (with_batch es image) ≡ Some next

-- An image left while the batch is written. Either it stands for the world before, and with the daemon log replayed it
-- is as it was. Or it stands for the next world, and with the daemon log replayed it has all of the batch's words.
pub record IsBetween (size : ℕ) (s next : StoredWorld) (es : List Entry) (words : Words) (image : Image) : Type 0 where
  pub batched : IsBatched words DAEMON_LOG es image
  pub stands : ((settled_by DAEMON_LOG image ≡ settled_by DAEMON_LOG batched.before) × (idle_world_of size image ≡ Some s))
      ⊎ ((settled_by DAEMON_LOG image ≡ with_batch es batched.before) × (idle_world_of size image ≡ Some next))

-- An image of these words that is changed only in the daemon log and in words of the batch. With the daemon log
-- replayed it has all of the batch's words.
pub record HasBatch (es : List Entry) (words : Words) (image : Image) : Type 0 where
  pub before : Image
  pub picked : Picks words before
  pub outside : (k : ℕ) → is_in_log DAEMON_LOG k ≡ false → batch_write es k ≡ None → image k ≡ before k
  pub settled : settled_by DAEMON_LOG image ≡ with_batch es before

-- This batch moves the world, wholly or not at all. At each moment each image stands for the world before or for the
-- next. Without a fault each image stands for the next and has all of the batch's words, and the daemon log is closed.
pub record Moves (size : ℕ) (s next : StoredWorld) (es : List Entry) (fault : Option HostFault) (old new : State) : Type 0 where
  pub commits : Commits DAEMON_LOG es fault old new
  pub moments : Leaves (Silently (IsBetween size s next es old.now.words)) old new
  pub settled : fault ≡ None → IsQuiescent size next new.now.words
  pub done : fault ≡ None → (image : Image) → Picks new.now.words image → HasBatch es old.now.words image
