-- What a start does, at every moment.
use Rattle.std.specs.Prelude.{◌≡◌, ◌≢◌, ◌⊎◌, ℕ, ◌<◌, ◌≤◌, false, List, ◌++◌, slice_index_or, Some, Result, Ok, Err, IfOk}
use Rattle.pm_model.specs.Words.{reads}
use Rattle.pm_model.specs.Moments.{State, all_said}
use Rattle.pm_model.specs.Changes.{Footprint, Leaves, Silently}
use Rattle.pud_defs.specs.declared.layout.TheConstants.{VERSION, FIRST_VERSION, VERSION_WORD, DAEMON_LOG, SPACE_TABLE, PUDDLE_TABLE, CLIENTS}
use Rattle.pud_defs.specs.Formats.Image.{Image}
use Rattle.pud_defs.specs.Formats.Layout.{IsWithin}
use Rattle.pud_defs.specs.Logging.Replay.{is_in_log, settled_by}
use Rattle.pud_defs.specs.RegistryTables.Registry.{frames_of}
use Rattle.pud_defs.specs.Logging.Settled.{ALL_LOGS, is_refused_log, is_in_logs, settled}
use Rattle.pud_defs.specs.StateMachine.Run.{newlines}
use Rattle.pud_defs.specs.RegistryTables.Tables.{tables_of}
use Rattle.pud_defs.specs.Output.StartText.{refused_lines, start_text}
use Rattle.pud_defs.specs.Output.Texts.{ready_text}
use Rattle.pud_defs.specs.StateMachine.World.{StoredWorld, World, world_of, closed, restart}
use Rattle.log_space.specs.Records.{owners}
use Rattle.log_space.specs.Clearing.{HasNoOwners}
use Rattle.recover.specs.declared.judge.Mark.{Mark}
use Rattle.recover.specs.declared.judge.Mark.TheVariants.{Closed}
use Rattle.recover.specs.Verdicts.{is_refused_mark}
use Rattle.recover.specs.Recovery.{ByRecovery, RefusesSame}
use Rattle.daemon_memory.specs.Memory.{Memory}
use Rattle.daemon_memory.specs.Ready.{IsReady, RefusesNone, IsClosedIfFree, IsClosedIfNamed}
use Rattle.puddled.specs.declared.daemon.StartFault.{StartFault}
use Rattle.puddled.specs.Faults.{start_fault}
use Rattle.puddled.specs.Saying.{IsPart, SaysPart}

-- Rights at a start: it may write what a recovery may write, the log-space table, and the present version where the
-- first one was read.
abbrev pub ByStart : ℕ → Image → Footprint
ByStart F start k v = ByRecovery F start k v ⊎ (IsWithin SPACE_TABLE PUDDLE_TABLE k ⊎ ((k ≡ VERSION_WORD) × ((v ≡ VERSION) × (start VERSION_WORD ≡ FIRST_VERSION))))

-- An image that differs from another one only in words that a start on that one may write.
pub record DiffersByStart (F : ℕ) (start image : Image) : Type 0 where
  pub each : (k : ℕ) → (image k ≡ start k) ⊎ ByStart F start k (image k)

-- An image with the same records of pools and puddles as another one, once the daemon log of each is replayed.
abbrev pub HasTablesOf : ℕ → Image → Image → Type 0
HasTablesOf F start image = tables_of F (settled_by DAEMON_LOG image) ≡ tables_of F (settled_by DAEMON_LOG start)

-- An image has the version of another one, or the present version and no log that is registered.
abbrev pub UpgradesLast : Image → Image → Type 0
UpgradesLast start image = (image VERSION_WORD ≡ start VERSION_WORD) ⊎ ((image VERSION_WORD ≡ VERSION) × HasNoOwners (owners image))

-- The lines on the refused logs of an image, judged once the daemon log is replayed.
abbrev pub refused_text : Image → List ℕ
refused_text image = refused_lines (is_refused_log (frames_of image) (settled_by DAEMON_LOG image))

-- What was found out about the clients' logs of an image, by their numbers: which of them are registered and refused,
-- judged once the daemon log is replayed.
pub record AreMarks (image : Image) (marks : List Mark) : Type 0 where
  pub each : (number : ℕ) → number < ALL_LOGS → is_refused_mark (slice_index_or marks number Closed) ≡ is_refused_log (frames_of image) (settled_by DAEMON_LOG image) number

-- What a device reads after a start: the present version, and each other word except those of the logs and of the
-- log-space table as the settled image has it.
pub record IsReplayed (before now : Image) : Type 0 where
  pub version : now VERSION_WORD ≡ VERSION
  pub each : (k : ℕ) → k ≢ VERSION_WORD → is_in_log DAEMON_LOG k ≡ false → is_in_logs (frames_of before) k ≡ false → (k < SPACE_TABLE) ⊎ (PUDDLE_TABLE ≤ k) → now k ≡ settled (frames_of before) before k

-- What a restart came to: the memory of the daemon that has started, or why none has.
abbrev pub started : Memory → Result Unit StartFault → Result Memory StartFault
started memory (Ok done) = Ok memory
started memory (Err fault) = Err fault

-- The device was brought up to date after a power loss, and nothing was printed. It was rested and stood for a world.
-- At each moment each image stands for the world, has the pools and puddles that were read, once the daemon log is
-- replayed, and differs from what was read only in words that a start may write. If no log was refused before, the
-- image refuses none. If, in addition, a client's logs were closed, unless its record was used and no batch named it,
-- they are closed in the image unless its record is still used. The version changes only after the log-space table is
-- empty. Without a fault the daemon is ready in the world.
pub record Recovers (size : ℕ) (w : World) (result : Result Memory StartFault) (old new : State) : Type 0 where
  pub moments : Leaves (Silently (λ image. world_of size image ≡ Some (closed w))) old new
  pub tables : Leaves (λ bytes image. HasTablesOf w.stored.frames (reads old.now.words) image) old new
  pub rights : Leaves (λ bytes image. DiffersByStart w.stored.frames (reads old.now.words) image) old new
  pub allowed : RefusesNone (reads old.now.words) → Leaves (λ bytes image. RefusesNone image) old new
  pub logs : RefusesNone (reads old.now.words) → (client : ℕ) → client < CLIENTS → IsClosedIfNamed w.stored.frames client (reads old.now.words)
      → Leaves (λ bytes image. IsClosedIfFree w.stored.frames client image) old new
  pub upgraded : Leaves (λ bytes image. UpgradesLast (reads old.now.words) image) old new
  pub quiet : new.now.said ≡ old.now.said
  pub ready : IfOk result (λ memory. IsReady size (restart w) memory new)
  pub script : new.script ≡ old.script
  pub shelf : new.shelf ≡ old.shelf

-- An image left by a start, with the bytes printed since it began. They are a prefix of the start's text. The image
-- stands for the world, differs from what was read only in words that a start may write, and has the records of pools
-- and puddles that were read, once the daemon log is replayed. Until there is a line on each refused log, each of them
-- is still refused, so that the next start prints the lines. The version changes only after the log-space table is
-- empty. Once `ready` is printed, no registered log is refused, and the version is the present one.
pub record StandsInStart (size : ℕ) (s : StoredWorld) (start : Image) (bytes : List ℕ) (image : Image) : Type 0 where
  pub part : IsPart bytes (start_text start)
  pub stands : world_of size image ≡ Some s
  pub rights : DiffersByStart s.frames start image
  pub tables : HasTablesOf s.frames start image
  pub untold : newlines bytes < newlines (refused_text start) → RefusesSame s.frames start image
  pub upgraded : UpgradesLast start image
  pub allowed : newlines (start_text start) ≤ newlines bytes → RefusesNone image
  pub current : newlines (start_text start) ≤ newlines bytes → image VERSION_WORD ≡ VERSION

-- `ready` was printed last. No device step was taken after it, or while it was printed.
pub record SaysReady (now : State) : Type 0 where
  pub done : State
  pub is : now ≡ all_said ready_text done

-- A rested device that stands for a world was started on. At each moment each image stands for the world. The start's
-- text for what was read was printed, or with a fault a part of it. Without a fault the daemon is ready, and nothing
-- was done after the text.
pub record Starts (size : ℕ) (w : World) (result : Result Memory StartFault) (old new : State) : Type 0 where
  pub says : SaysPart (start_text (reads old.now.words)) (start_fault result) old new
  pub moments : Leaves (StandsInStart size (closed w) (reads old.now.words)) old new
  pub last : IfOk result (λ memory. SaysReady new)
  pub ready : IfOk result (λ memory. IsReady size (restart w) memory new)
  pub script : new.script ≡ old.script
  pub shelf : new.shelf ≡ old.shelf

-- What a start, from its first state to the end of its text, does to a rested device that stands for this world. At
-- each moment each image is one that a start may leave. At the end the version word has the present version, and each
-- other word except those of the logs and of the log-space table reads as the settled image has it.
pub record Begins (size : ℕ) (s : StoredWorld) (old new : State) : Type 0 where
  pub said : new.now.said ≡ old.now.said ++ start_text (reads old.now.words)
  pub moments : Leaves (StandsInStart size s (reads old.now.words)) old new
  pub last : SaysReady new
  pub replayed : IsReplayed (reads old.now.words) (reads new.now.words)
  pub script : new.script ≡ old.script
  pub shelf : new.shelf ≡ old.shelf
