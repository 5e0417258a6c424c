-- What the recovery of a device does, at each moment and at the end.
use Rattle.std.specs.Prelude.{◌≡◌, ◌⊎◌, ℕ, ◌<◌, true, false, Option, Some, None, Result, Ok, Err}
use Rattle.pm_model.specs.declared.host.HostFault.{HostFault}
use Rattle.pm_model.specs.Words.{reads, HasOnly, IsRested}
use Rattle.pm_model.specs.Moments.{State}
use Rattle.pm_model.specs.Changes.{Footprint, Changes, Leaves, Silently}
use Rattle.pud_defs.specs.declared.layout.TheConstants.{DAEMON_LOG, CLIENTS}
use Rattle.pud_defs.specs.declared.log_words.TheConstants.{CLOSED_GATE}
use Rattle.pud_defs.specs.Formats.Image.{Image}
use Rattle.pud_defs.specs.Logging.Entries.{log_of}
use Rattle.pud_defs.specs.Logging.Replay.{device_word, new_value, IsInLog, is_in_log, settled_by}
use Rattle.pud_defs.specs.RegistryTables.Spaces.{space_record_at, has_closed_logs}
use Rattle.pud_defs.specs.Logging.Settled.{ALL_LOGS, log_number_at, is_refused_log, is_accepted_log, is_in_logs, settled}
use Rattle.pud_defs.specs.StateMachine.World.{StoredWorld, world_of}
use Rattle.log_replay.specs.Replaying.{IsNamed}
use Rattle.registry.specs.declared.LoadFault.{LoadFault}
use Rattle.registry.specs.declared.LoadFault.TheVariants as loads
use Rattle.recover.specs.declared.recovery.RecoverFault.{RecoverFault}
use Rattle.recover.specs.declared.recovery.RecoverFault.TheVariants as faults
use Rattle.recover.specs.RecoveredLogs.{IsOfLogs}

-- the host's fault that a recovery returned
abbrev pub recover_fault : {T : Type 0} → Result T RecoverFault → Option HostFault
recover_fault (Ok x) = None
recover_fault (Err faults.NotSound) = None
recover_fault (Err (faults.Host fault)) = Some fault

-- the error of a recovery whose load failed with this error
abbrev pub of_load : LoadFault → RecoverFault
of_load loads.NotSound = faults.NotSound
of_load (loads.Host fault) = faults.Host fault

-- Rights at replay. A recovery writes only the daemon log, the words that it names, and the gates of the logs that are
-- registered and allowed once it is replayed, with the words to which these logs give values.
abbrev pub ByRecovery : ℕ → Image → Footprint
ByRecovery F start k v =
    IsInLog DAEMON_LOG k
    ⊎ (IsNamed (new_value device_word (log_of start DAEMON_LOG)) k
    ⊎ IsOfLogs F ALL_LOGS (settled_by DAEMON_LOG start) k)

-- An image that differs from another one only in words that a recovery of that one may write.
pub record DiffersByRecovery (F : ℕ) (start image : Image) : Type 0 where
  pub each : (k : ℕ) → (image k ≡ start k) ⊎ ByRecovery F start k (image k)

-- The same logs are registered and refused in both images, judged once the daemon log is replayed.
pub record RefusesSame (F : ℕ) (start image : Image) : Type 0 where
  pub each : (number : ℕ) → number < ALL_LOGS → is_refused_log F (settled_by DAEMON_LOG image) number ≡ is_refused_log F (settled_by DAEMON_LOG start) number

-- The first word of a client's log-space record, which tells whether the record is used. With the daemon log replayed,
-- it is the same in both images. If the daemon log at the start gives it no value, it is also the same as it stands.
pub record KeepsRecord (client : ℕ) (start image : Image) : Type 0 where
  pub replayed : settled_by DAEMON_LOG image (space_record_at client) ≡ settled_by DAEMON_LOG start (space_record_at client)
  pub now : new_value device_word (log_of start DAEMON_LOG) (space_record_at client) ≡ None → image (space_record_at client) ≡ start (space_record_at client)

-- An image that stands as the one at the start: a recovery makes the same of both. It stands for the same world, its
-- settled image is the same, the same logs are refused, a client's logs that are closed in the other are closed in it,
-- and the same clients' logs are registered.
pub record StandsAsStart (size : ℕ) (s : StoredWorld) (start image : Image) : Type 0 where
  pub stands : world_of size image ≡ Some s
  pub settles : (k : ℕ) → settled s.frames image k ≡ settled s.frames start k
  pub refused : RefusesSame s.frames start image
  pub closed : (client : ℕ) → client < CLIENTS → has_closed_logs start s.frames client ≡ true → has_closed_logs image s.frames client ≡ true
  pub records : (client : ℕ) → client < CLIENTS → KeepsRecord client start image

-- A sound device of F frames was recovered, whether it was rested or not. It was written only by rights. Without a
-- fault, tables and frames read as in the settled image, the daemon log and each log that is registered and allowed
-- have the gate of a closed log, and no word of a refused log changed.
pub record ReplaysLogs (F : ℕ) (fault : Option HostFault) (old new : State) : Type 0 where
  pub changes : Changes (ByRecovery F (reads old.now.words)) fault old new
  pub reads_so : fault ≡ None → (k : ℕ) → is_in_log DAEMON_LOG k ≡ false → is_in_logs F k ≡ false → reads new.now.words k ≡ settled F (reads old.now.words) k
  pub daemon_log : fault ≡ None → HasOnly (new.now.words DAEMON_LOG) CLOSED_GATE
  pub closed : fault ≡ None → (number : ℕ) → number < ALL_LOGS → is_accepted_log F (settled_by DAEMON_LOG (reads old.now.words)) number ≡ true
      → reads new.now.words (log_number_at F number) ≡ CLOSED_GATE
  pub untouched : fault ≡ None → (number : ℕ) → number < ALL_LOGS → is_refused_log F (settled_by DAEMON_LOG (reads old.now.words)) number ≡ true
      → (k : ℕ) → IsInLog (log_number_at F number) k → reads new.now.words k ≡ reads old.now.words k

-- A rested device that stands for a world was recovered. A start makes of whatever a power loss leaves at any moment
-- the same as of what was read, and it differs from that only where a recovery may write. Without a fault, the device
-- is rested again.
pub record RecoversDevice (size : ℕ) (s : StoredWorld) (fault : Option HostFault) (old new : State) : Type 0 where
  pub rights : Leaves (Silently (DiffersByRecovery s.frames (reads old.now.words))) old new
  pub moments : Leaves (Silently (StandsAsStart size s (reads old.now.words))) old new
  pub rested : fault ≡ None → IsRested new.now.words
