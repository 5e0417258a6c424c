-- Which frontiers a line moves, and how far.
use Rattle.std.specs.Prelude.{◌≡◌, ℕ, Option, Some, None}
use Rattle.pm_model.specs.Words.{reads}
use Rattle.pm_model.specs.Moments.{State}
use Rattle.pm_model.specs.Changes.{Leaves}
use Rattle.pud_defs.specs.declared.layout.TheConstants.{DAEMON_LOG}
use Rattle.pud_defs.specs.declared.machine.Command.{Command}
use Rattle.pud_defs.specs.declared.machine.Command.TheVariants as commands
use Rattle.pud_defs.specs.Formats.Image.{Image}
use Rattle.pud_defs.specs.RegistryTables.Puddles.{Member}
use Rattle.pud_defs.specs.Logging.Replay.{settled_by}
use Rattle.pud_defs.specs.StateMachine.Step.{refusal_of}
use Rattle.pud_defs.specs.RegistryTables.Tables.{tables_of}
use Rattle.pud_defs.specs.StateMachine.World.{World}
use Rattle.daemon_memory.specs.Arriving.{Arrives, UnlessFailed}
use Rattle.daemon_memory.specs.Moves.{MovesTo, still}
use Rattle.daemon_memory.specs.Leading.{FreesPool, IsStill, LeadsUnless}
use Rattle.pool_transaction.specs.declared.changing.Change.TheVariants as changes
use Rattle.pool_transaction.specs.declared.changing.Update.TheVariants as updates
use Rattle.pool_transaction.specs.Ending.{LeadsChange}
use Rattle.pool_lines.specs.Effects.{LeadsBySteps}

-- The goals of a command that moves frontiers, all of the pool that it names. A line does steps, or finishes the puddles
-- of which it writes objects. A line that drops the pool frees the records of its puddles. No other line moves a
-- frontier.
abbrev pub MovesFrontiers : (F : ℕ) → Command → (before : Image) → (Member → Option ℕ) → Type 0
MovesFrontiers F (commands.Rewrite name n) = LeadsBySteps F name n
MovesFrontiers F (commands.New client name t) = LeadsChange F name (changes.New t)
MovesFrontiers F (commands.Set client name s f x) = LeadsChange F name (changes.Update (updates.Set s f x))
MovesFrontiers F (commands.Later client name s f x) = LeadsChange F name (changes.Update (updates.Later s f x))
MovesFrontiers F (commands.Root client name s) = LeadsChange F name (changes.Update (updates.Root s))
MovesFrontiers F (commands.Free client name s) = LeadsChange F name (changes.Update (updates.Free s))
MovesFrontiers F (commands.Drop client name) = FreesPool F name
MovesFrontiers F command = IsStill

-- Where a line leads each frontier.
abbrev pub Leads : World → Option Command → (before : Image) → (Member → Option ℕ) → Type 0
Leads w None before goal = goal ≡ still
Leads w (Some command) before goal = LeadsUnless (refusal_of w command) (MovesFrontiers w.stored.frames command before) goal

-- After a line each frontier is on the way to where the line leads it. If the line is answered so, each frontier is
-- there, and so is that of a puddle that was added. This is stated about the records of puddles, as they were read
-- before the line and are read after it. A record that is to be freed is as it was, or free. If the line is answered
-- so, it is free.
pub record LeadFrontiers (w : World) (command : Option Command) (answered : Type 0) (before after : Image) : Type 0 where
  pub goal : Member → Option ℕ
  pub leads : Leads w command before goal
  pub each : (frame : ℕ) (m : Member) → (tables_of w.stored.frames before).puddles frame ≡ Some m → MovesTo goal m ((tables_of w.stored.frames after).puddles frame)
  pub arrives : answered → Arrives w.stored.frames goal before after

-- At every moment of a line, whether it is answered or not, each frontier is on the way to where the line leads it, in
-- each image that a power loss may leave, once the daemon log is replayed. A record that is to be freed is as it was,
-- or free. If the host itself failed before it was known where the frontiers are led, none has moved.
pub record MoveOnTheWay (w : World) (command : Option Command) (failed : Type 0) (old new : State) : Type 0 where
  pub goal : Member → Option ℕ
  pub leads : UnlessFailed failed (Leads w command (reads old.now.words) goal) (goal ≡ still)
  pub each : (frame : ℕ) (m : Member) → (tables_of w.stored.frames (reads old.now.words)).puddles frame ≡ Some m
      → Leaves (λ bytes image. MovesTo goal m ((tables_of w.stored.frames (settled_by DAEMON_LOG image)).puddles frame)) old new
