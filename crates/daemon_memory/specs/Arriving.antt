-- Frontiers that have arrived where a command leads them.
use Rattle.std.specs.Prelude.{◌≡◌, ◌⊎◌, ℕ, Option, Some, None}
use Rattle.pm_model.specs.declared.host.HostFault.{HostFault}
use Rattle.pm_model.specs.Words.{reads}
use Rattle.pm_model.specs.Moments.{State}
use Rattle.pud_defs.specs.Formats.Image.{Image}
use Rattle.pud_defs.specs.RegistryTables.Puddles.{Member, member_moved}
use Rattle.pud_defs.specs.RegistryTables.Tables.{tables_of}
use Rattle.pud_defs.specs.StateMachine.World.{World}
use Rattle.daemon_memory.specs.Memory.{Memory}
use Rattle.daemon_memory.specs.Moves.{MovesTo}
use Rattle.daemon_memory.specs.Ready.{AppliesBy}

-- The record is that of the same puddle, with this frontier. If there is no such goal, the record is free.
abbrev pub IsAt : Option ℕ → Member → Option Member → Type 0
IsAt None m now = now ≡ None
IsAt (Some goal) m now = now ≡ Some (member_moved goal m)

-- Each record that was used is at its goal, or it is free if it has no goal. Each record that is used afterwards is at
-- its goal too, also one that was free before. So each of these has a goal.
pub record Arrives (F : ℕ) (goal : Member → Option ℕ) (before after : Image) : Type 0 where
  pub each : (frame : ℕ) (m : Member) → (tables_of F before).puddles frame ≡ Some m → IsAt (goal m) m ((tables_of F after).puddles frame)
  pub come : (frame : ℕ) (m : Member) → (tables_of F after).puddles frame ≡ Some m → IsAt (goal m) m (Some m)

-- A command was carried out. At every moment each frontier is on the way to its goal, and without a fault each frontier
-- is at its goal.
pub record AppliesTo (goal : Member → Option ℕ) (size : ℕ) (w next : World) (memory : Memory) (fault : Option HostFault) (old new : State) : Type 0 where
  pub applies : AppliesBy (MovesTo goal) size w next memory fault old new
  pub arrives : fault ≡ None → Arrives w.stored.frames goal (reads old.now.words) (reads new.now.words)

-- The goals are known. Or the host itself failed before they were known, and no puddle is led anywhere.
abbrev pub UnlessFailed : (failed known unled : Type 0) → Type 0
UnlessFailed failed known unled = known ⊎ (failed × unled)
