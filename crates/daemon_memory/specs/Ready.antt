-- What the daemon needs of its device between two lines of input, and what a command does that is carried out.
use Rattle.std.specs.Prelude.{◌≡◌, ◌<◌, ◌⊎◌, ℕ, true, false, Option, Some, None, is_some}
use Rattle.pm_model.specs.declared.host.HostFault.{HostFault}
use Rattle.pm_model.specs.declared.host.HostFault.TheVariants as hosts
use Rattle.pm_model.specs.Words.{reads, IsRested}
use Rattle.pm_model.specs.Moments.{State}
use Rattle.pm_model.specs.Changes.{Leaves, Silently, Write}
use Rattle.pm_model.specs.Masks.{masked, masked_state}
use Rattle.pud_defs.specs.declared.layout.TheConstants.{DAEMON_LOG, CLIENTS}
use Rattle.pud_defs.specs.Formats.Image.{Image}
use Rattle.pud_defs.specs.Logging.Entries.{log_of}
use Rattle.pud_defs.specs.RegistryTables.Puddles.{Member}
use Rattle.pud_defs.specs.Logging.Replay.{device_word, new_value, settled_by}
use Rattle.pud_defs.specs.RegistryTables.Spaces.{space_record_at, owner_of, has_closed_logs}
use Rattle.pud_defs.specs.RegistryTables.Registry.{frames_of}
use Rattle.pud_defs.specs.Logging.Settled.{ALL_LOGS, is_refused_log}
use Rattle.pud_defs.specs.StateMachine.World.{World, world_of, idle_world_of, closed}
use Rattle.pud_defs.specs.declared.machine.Command.{Command}
use Rattle.pud_defs.specs.declared.machine.Command.TheVariants.{Leave}
use Rattle.batch.specs.Tables.{HasDurableTables}
use Rattle.batch.specs.Worlds.{IsQuiescent}
use Rattle.daemon_memory.specs.Memory.{Memory}
use Rattle.daemon_memory.specs.ActiveTransactions.{AreActive, HasSessions, HasDurableFrames, HasIdleLogs, LeavesMasked}
use Rattle.daemon_memory.specs.KnownPools.{KnowsPools}
use Rattle.daemon_memory.specs.Moves.{Stays, LeavesPuddles}

-- Nothing is printed, and the bytes left to read and the shelf stay.
pub record KeepsRest (old new : State) : Type 0 where
  pub quiet : new.now.said ≡ old.now.said
  pub script : new.script ≡ old.script
  pub shelf : new.shelf ≡ old.shelf

-- The bytes left to read and the shelf stay.
pub record KeepsInput (old new : State) : Type 0 where
  pub script : new.script ≡ old.script
  pub shelf : new.shelf ≡ old.shelf

-- What the daemon needs of its device between two lines of input. With the words of the active transactions masked the
-- device is quiescent. That means: each image that may be left stands for the closed world with nothing under way, each
-- registered log and the daemon log are closed in it, and the daemon log counts no word. The tables are durable, and
-- the clients that are read from them are those that are present. Masked, each word of the frames has one value, and
-- each log of a client that is present counts nothing. The number of frames is the one that the daemon keeps in memory,
-- and the shelf is the world's. Each transaction has its session. What the daemon knows about pools is what a scan
-- gives, and it knows each pool on which a transaction is open.
pub record IsReady (size : ℕ) (w : World) (memory : Memory) (s : State) : Type 0 where
  pub mask : Write
  pub settled : IsQuiescent size (closed w) (masked mask s.now.words)
  pub tables : HasDurableTables w.stored.frames s.now.words
  pub clients : (client : ℕ) → client < CLIENTS → owner_of (reads s.now.words) client ≡ w.clients client
  pub frames : memory.frames ≡ w.stored.frames
  pub shelf : s.shelf ≡ w.shelf
  pub active : AreActive w memory.active mask s.now.words
  pub sessions : HasSessions w memory.active memory.sessions
  pub rest : HasDurableFrames w.stored.frames (masked mask s.now.words)
  pub logs : HasIdleLogs w.stored.frames w.clients (masked mask s.now.words)
  pub knows : KnowsPools w.stored.frames memory.known_pools active.opens (reads s.now.words)

-- No registered log of the image is refused: a start on it prints `ready` alone.
pub record RefusesNone (image : Image) : Type 0 where
  pub each : (number : ℕ) → number < ALL_LOGS → is_refused_log (frames_of image) (settled_by DAEMON_LOG image) number ≡ false

-- The image stands for the world before or for the next one, and none of its registered logs is refused.
abbrev pub StandsBetween : (size : ℕ) → (w next : World) → Image → Type 0
StandsBetween size w next image = ((world_of size image ≡ Some (closed w)) ⊎ (world_of size image ≡ Some (closed next))) × RefusesNone image

-- A command was carried out beside the active transactions, whose words are masked. Masked, at every moment the images
-- stand, idle, for the world before the command or for the one that it gives. Without a fault they stand for the one
-- that it gives, with durable tables that have its clients, and the clients' logs count nothing.
pub record AppliesMasked (size : ℕ) (w next : World) (mask : Write) (fault : Option HostFault) (old new : State) : Type 0 where
  pub beside : LeavesMasked mask fault old new
  pub moments : Leaves (Silently (λ image. (idle_world_of size image ≡ Some (closed w)) ⊎ (idle_world_of size image ≡ Some (closed next)))) (masked_state mask old) (masked_state mask new)
  pub settled : fault ≡ None → IsQuiescent size (closed next) (masked mask new.now.words)
  pub tables : fault ≡ None → HasDurableTables next.stored.frames new.now.words
  pub clients : fault ≡ None → (client : ℕ) → client < CLIENTS → owner_of (reads new.now.words) client ≡ next.clients client
  pub logs : fault ≡ None → HasIdleLogs next.stored.frames next.clients (masked mask new.now.words)
  pub shelf : next.shelf ≡ w.shelf

-- A command was carried out or refused, and nothing was printed. At every moment the images stand for the world before
-- it or for the one that it gives, and no registered log is refused. Each record of a puddle has become what is stated.
-- Without a fault the daemon is ready in the world that the command gives, with this memory.
pub record AppliesBy (becomes : Member → Option Member → Type 0) (size : ℕ) (w next : World) (memory : Memory) (fault : Option HostFault) (old new : State) : Type 0 where
  pub moments : Leaves (Silently (StandsBetween size w next)) old new
  pub puddles : LeavesPuddles w.stored.frames becomes old new
  pub quiet : new.now.said ≡ old.now.said
  pub ready : fault ≡ None → IsReady size next memory new
  pub rests : fault ≡ Some hosts.Cut → IsRested new.now.words
  pub script : new.script ≡ old.script

-- The same, and each record of a puddle stays: no frontier moves.
abbrev pub Applies : (size : ℕ) → (w next : World) → Memory → Option HostFault → State → State → Type 0
Applies = AppliesBy Stays

-- The client's record of the log-space table is used, also after the daemon log is replayed.
pub record IsUsedStill (client : ℕ) (image : Image) : Type 0 where
  pub now : image (space_record_at client) ≡ 1
  pub replayed : settled_by DAEMON_LOG image (space_record_at client) ≡ 1

-- The client's record is still used, or each of the client's logs is closed.
abbrev pub IsClosedIfFree : ℕ → ℕ → Image → Type 0
IsClosedIfFree F client image = IsUsedStill client image ⊎ (has_closed_logs image F client ≡ true)

-- The client's record is used, and the daemon log gives its first word no value: no replay of that log writes it.
pub record IsUsedAlone (client : ℕ) (image : Image) : Type 0 where
  pub now : image (space_record_at client) ≡ 1
  pub unnamed : new_value device_word (log_of image DAEMON_LOG) (space_record_at client) ≡ None

-- The client's record is used and no batch under way names it, or each of the client's logs is closed.
abbrev pub IsClosedIfNamed : ℕ → ℕ → Image → Type 0
IsClosedIfNamed F client image = IsUsedAlone client image ⊎ (has_closed_logs image F client ≡ true)

-- Each image left at any moment has each of the client's logs closed, unless the client's record is still used.
abbrev pub ClosesFirst : ℕ → ℕ → State → State → Type 0
ClosesFirst F client old new = Leaves (λ bytes image. IsClosedIfFree F client image) old new

-- Each such image has them closed, unless the record is used and no batch under way names it. So the logs are closed
-- before the batch that frees the record.
abbrev pub ClosesBefore : ℕ → ℕ → State → State → Type 0
ClosesBefore F client old new = Leaves (λ bytes image. IsClosedIfNamed F client image) old new

-- If the command removes a client that is present, its logs are closed first, in the sense given.
pub record ClosesLogs (closes : ℕ → ℕ → State → State → Type 0) (w : World) (command : Option Command) (old new : State) : Type 0 where
  pub first : (client : ℕ) → command ≡ Some (Leave client) → true ≡ is_some (w.clients client) → closes w.stored.frames client old new
