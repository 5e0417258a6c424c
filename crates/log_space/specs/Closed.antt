-- How the four logs of a client are closed.
use Rattle.std.specs.Prelude.{◌≡◌, ℕ, ◌<◌, [], Option, Some, None}
use Rattle.pm_model.specs.declared.host.HostFault.{HostFault}
use Rattle.pm_model.specs.Words.{HasOnly}
use Rattle.pm_model.specs.Moments.{State}
use Rattle.pm_model.specs.Changes.{Footprint, Changes, Leaves, Silently}
use Rattle.pud_defs.specs.declared.layout.TheConstants.{CLIENT_LOGS}
use Rattle.pud_defs.specs.declared.log_words.TheConstants.{CLOSED_GATE}
use Rattle.pud_defs.specs.Formats.Layout.{log_at}
use Rattle.pud_defs.specs.RegistryTables.Spaces.{IsGateOf}
use Rattle.pud_defs.specs.StateMachine.World.{StoredWorld, idle_world_of}
use Rattle.batch.specs.Worlds.{IsQuiescent}
use Rattle.log_space.specs.Records.{HasClosedLogs}

-- each gate of the client's logs may get the value of a closed log's gate
abbrev pub ByClosing : ℕ → ℕ → Footprint
ByClosing F slot k v = IsGateOf F slot k × (v ≡ CLOSED_GATE)

-- Only the gates of the client's logs may be written. Without a fault those of the first `n` logs are written, and
-- marked.
pub record WritesGates (F slot n : ℕ) (fault : Option HostFault) (old new : State) : Type 0 where
  pub changes : Changes (ByClosing F slot) fault old new
  pub newest : fault ≡ None → (m : ℕ) → m < n → (new.now.words (log_at F slot m)).newest ≡ CLOSED_GATE
  pub marked : fault ≡ None → (m : ℕ) → m < n → (new.now.words (log_at F slot m)).kept ≡ []

-- Only the gates of the client's logs may be written. Without a fault each has the value of a closed log's gate and no
-- other.
pub record ClosesGates (F slot : ℕ) (fault : Option HostFault) (old new : State) : Type 0 where
  pub changes : Changes (ByClosing F slot) fault old new
  pub durable : fault ≡ None → (m : ℕ) → m < CLIENT_LOGS → HasOnly (new.now.words (log_at F slot m)) CLOSED_GATE

-- The client's logs are closed. At each moment each image stands for the world. Without a fault the logs are closed in
-- each image, and the device is quiescent.
pub record ClosesClientLogs (size : ℕ) (s : StoredWorld) (slot : ℕ) (fault : Option HostFault) (old new : State) : Type 0 where
  pub changes : Changes (ByClosing s.frames slot) fault old new
  pub moments : Leaves (Silently (λ image. idle_world_of size image ≡ Some s)) old new
  pub settled : fault ≡ None → IsQuiescent size s new.now.words
  pub closed : fault ≡ None → HasClosedLogs s.frames slot new.now.words
