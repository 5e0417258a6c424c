-- How one batch empties the log-space table.
use Rattle.std.specs.Prelude.{◌≡◌, ◌⊎◌, ℕ, zero, suc, ◌<◌, false, List, [], ◌∷◌, ◌++◌, Option, Some, None}
use Rattle.pm_model.specs.declared.host.HostFault.{HostFault}
use Rattle.pm_model.specs.Words.{Words, Picks, HasOnly}
use Rattle.pm_model.specs.Moments.{State}
use Rattle.pm_model.specs.Changes.{Changes, Leaves, Silently}
use Rattle.pud_defs.specs.declared.layout.TheConstants.{DAEMON_LOG, CLIENTS}
use Rattle.pud_defs.specs.Formats.Image.{Image}
use Rattle.pud_defs.specs.Logging.Entries.{Entry}
use Rattle.pud_defs.specs.Logging.Replay.{is_in_log}
use Rattle.pud_defs.specs.RegistryTables.Spaces.{Owner, space_record_at}
use Rattle.pud_defs.specs.StateMachine.World.{StoredWorld, idle_world_of}
use Rattle.batch.specs.Batches.{batch_entry, batch_write, ByBatch, Commits}
use Rattle.batch.specs.Worlds.{IsQuiescent}
use Rattle.log_space.specs.Records.{owners}

-- the batch that empties the records of the clients with numbers below the given one
unfoldable pub clearing : ℕ → List Entry
clearing zero = []
clearing (suc n) = clearing n ++ batch_entry (space_record_at n) (0 ∷ []) ∷ []

-- no client's logs are registered
pub record HasNoOwners (table : ℕ → Option Owner) : Type 0 where
  pub each : (client : ℕ) → client < CLIENTS → table client ≡ None

-- An image of these words that is changed only in the daemon log and in words of the batch. Its table is either wholly
-- as it was or wholly empty.
pub record MayBeEmptied (words : Words) (image : Image) : Type 0 where
  pub before : Image
  pub picked : Picks words before
  pub outside : (k : ℕ) → is_in_log DAEMON_LOG k ≡ false → batch_write (clearing CLIENTS) k ≡ None → image k ≡ before k
  pub table : (owners image ≡ owners before) ⊎ HasNoOwners (owners image)

-- One batch empties the log-space table, wholly or not at all at each moment. Without a fault the table is empty in
-- each image that may be left.
pub record Empties (fault : Option HostFault) (old new : State) : Type 0 where
  pub commits : Commits DAEMON_LOG (clearing CLIENTS) fault old new
  pub moments : Leaves (Silently (MayBeEmptied old.now.words)) old new
  pub done : fault ≡ None → (image : Image) → Picks new.now.words image → HasNoOwners (owners image)

-- The log-space table was emptied. At each moment each image stands for the world. Without a fault no record is used,
-- and this is durable.
pub record Clears (size : ℕ) (s : StoredWorld) (fault : Option HostFault) (old new : State) : Type 0 where
  pub changes : Changes (ByBatch DAEMON_LOG (clearing CLIENTS)) fault old new
  pub moments : Leaves (Silently (λ image. idle_world_of size image ≡ Some s)) old new
  pub settled : fault ≡ None → IsQuiescent size s new.now.words
  pub durable : fault ≡ None → (k v : ℕ) → batch_write (clearing CLIENTS) k ≡ Some v → HasOnly (new.now.words k) v
  pub cleared : fault ≡ None → (client : ℕ) → client < CLIENTS → HasOnly (new.now.words (space_record_at client)) 0
