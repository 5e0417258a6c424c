-- What a line does to the device and to the files, step by step, by what was read before it. It writes no other word.
use Rattle.std.specs.Prelude.{◌≡◌, ℕ, Option, Some, None, Result}
use Rattle.pm_model.specs.declared.host.HostFault.{HostFault}
use Rattle.pm_model.specs.declared.host.HostFault.TheVariants as hosts
use Rattle.pm_model.specs.Words.{reads}
use Rattle.pm_model.specs.Moments.{State}
use Rattle.pud_defs.specs.declared.layout.TheConstants.{DAEMON_LOG}
use Rattle.pud_defs.specs.declared.machine.Command.{Command}
use Rattle.pud_defs.specs.declared.machine.Command.TheVariants as commands
use Rattle.pud_defs.specs.StateMachine.World.{World}
use Rattle.batch.specs.Batches.{Commits}
use Rattle.type_maps.specs.Define.{place_for, Defines}
use Rattle.log_space.specs.Closed.{ClosesGates}
use Rattle.log_space.specs.Records.{registration, unregistration}
use Rattle.daemon_memory.specs.Sequences.{Then}
use Rattle.pool_transaction.specs.declared.changing.Update.TheVariants as updates
use Rattle.daemon_memory.specs.declared.line_answer.LineAnswer.{LineAnswer}
use Rattle.pool_transaction.specs.Ending.{UndoesOwn, BeginsOn, CommitsOn, AbortsOn, ChangesPool}
use Rattle.pool_lines.specs.Files.{WritesFile}
use Rattle.pool_transaction.specs.declared.changing.Change.TheVariants as changes
use Rattle.daemon_memory.specs.Doing.{ChangesNothing, ActsWith}
use Rattle.pool_lines.specs.Effects.{MakesPool, ChangesMode, DropsPool, ImportsFile, RewritesPool}

-- The type is written into the lowest free record, or it was defined so already.
abbrev pub DefinesAt : Option ℕ → (t map : ℕ) → Option HostFault → State → State → Type 0
DefinesAt None t map fault old new = new ≡ old
DefinesAt (Some place) t map fault old new = Defines place t map fault old new

-- The same, by what is read before it.
abbrev pub DefinesType : (t map : ℕ) → Option HostFault → State → State → Type 0
DefinesType t map fault old new = DefinesAt (place_for (reads old.now.words) t) t map fault old new

-- Power is lost at once.
abbrev pub LosesPower : Option HostFault → State → State → Type 0
LosesPower fault old new = fault ≡ Some hosts.Cut

-- What a command does if it is not refused, by what it reads.
abbrev pub Acts : World → Command → Option HostFault → State → State → Type 0
Acts w (commands.Client client uid gid) = Then (ClosesGates w.stored.frames client) (Commits DAEMON_LOG (registration client uid gid))
Acts w (commands.Leave client) = Then (UndoesOwn w client) (Then (ClosesGates w.stored.frames client) (Commits DAEMON_LOG (unregistration client)))
Acts w (commands.Define t map) = DefinesType t map
Acts w (commands.Pool client name mode) = MakesPool w client name mode
Acts w (commands.Chmod client name mode) = ChangesMode w name mode
Acts w (commands.Drop client name) = DropsPool w name
Acts w (commands.Get client name s f) = ChangesNothing
Acts w (commands.Dump client name) = ChangesNothing
Acts w commands.Pools = ChangesNothing
Acts w (commands.Arm step pick) = ChangesNothing
Acts w (commands.Export client name file) = WritesFile w name file
Acts w (commands.Import client name file mode) = ImportsFile w client name file mode
Acts w (commands.Rewrite name n) = RewritesPool w name n
Acts w (commands.New client name t) = ChangesPool w client name (changes.New t)
Acts w (commands.Set client name s f x) = ChangesPool w client name (changes.Update (updates.Set s f x))
Acts w (commands.Later client name s f x) = ChangesPool w client name (changes.Update (updates.Later s f x))
Acts w (commands.Root client name s) = ChangesPool w client name (changes.Update (updates.Root s))
Acts w (commands.Free client name s) = ChangesPool w client name (changes.Update (updates.Free s))
Acts w (commands.Begin client name) = BeginsOn w client name
Acts w (commands.Commit client name) = CommitsOn w client name
Acts w (commands.Abort client name) = AbortsOn w client name
Acts w (commands.Cut pick) = LosesPower

-- What a line does before a restart. A line that is no command does nothing.
abbrev pub ActsAs : World → Option Command → Result LineAnswer HostFault → State → State → Type 0
ActsAs w None done old new = new ≡ old
ActsAs w (Some command) done old new = ActsWith (Acts w command) w command done old new
