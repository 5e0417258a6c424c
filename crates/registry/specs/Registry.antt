-- How a registry is brought up to date.
use Rattle.std.specs.Prelude.{◌≡◌, ℕ, Option, Some, None, Result, Ok, Err}
use Rattle.pm_model.specs.declared.host.HostFault.{HostFault}
use Rattle.pm_model.specs.Words.{IsRested, reads}
use Rattle.pm_model.specs.Moments.{State}
use Rattle.pm_model.specs.Changes.{Leaves, Silently}
use Rattle.pud_defs.specs.declared.layout.TheConstants.{DAEMON_LOG}
use Rattle.pud_defs.specs.Formats.Image.{Image}
use Rattle.pud_defs.specs.Logging.Replay.{settled_by}
use Rattle.pud_defs.specs.StateMachine.World.{StoredWorld, world_of}
use Rattle.batch.specs.Batches.{HasIdleGate}
use Rattle.registry.specs.declared.LoadFault.{LoadFault}
use Rattle.registry.specs.declared.LoadFault.TheVariants as faults

-- the host's fault that a load returned
abbrev pub load_fault : {T : Type 0} → Result T LoadFault → Option HostFault
load_fault (Ok x) = None
load_fault (Err faults.NotSound) = None
load_fault (Err (faults.Host fault)) = Some fault

-- the image stands for the world, and with the daemon log replayed it is the same as the one before
pub record StillStands (size : ℕ) (s : StoredWorld) (before image : Image) : Type 0 where
  pub settled : settled_by DAEMON_LOG image ≡ settled_by DAEMON_LOG before
  pub stands : world_of size image ≡ Some s

-- The daemon log of a rested device was applied and closed. At each moment each image stands for the world, with
-- nothing of the clients' logs replayed. Without a fault, at the end the log counts nothing in any image, and the
-- device is rested again.
pub record AppliesLog (size : ℕ) (s : StoredWorld) (fault : Option HostFault) (old new : State) : Type 0 where
  pub moments : Leaves (Silently (StillStands size s (reads old.now.words))) old new
  pub idle : fault ≡ None → HasIdleGate DAEMON_LOG new.now.words
  pub rested : fault ≡ None → IsRested new.now.words
