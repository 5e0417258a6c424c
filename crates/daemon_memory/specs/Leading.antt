-- Where a line leads the frontiers of its pool.
use Rattle.std.specs.Prelude.{◌≡◌, ℕ, List, Option, None, Some}
use Rattle.pud_defs.specs.declared.records.Puddle.{Puddle}
use Rattle.pud_defs.specs.Formats.Image.{Image}
use Rattle.pud_defs.specs.RegistryTables.Puddles.{Member}
use Rattle.pud_defs.specs.RegistryTables.Tables.{tables_of, puddles_in_turn}
use Rattle.daemon_memory.specs.Moves.{freed_in, led_in, still}
use Rattle.daemon_memory.specs.Owning.{IsRecordSlot}
use Rattle.pm_model.specs.declared.host.HostFault.{HostFault}
use Rattle.pm_model.specs.declared.host.HostFault.TheVariants as hosts
use Rattle.pm_model.specs.Words.{reads}
use Rattle.pm_model.specs.Moments.{State}
use Rattle.pud_defs.specs.declared.machine.Command.{Command}
use Rattle.pud_defs.specs.declared.machine.Refusal.{Refusal}
use Rattle.pud_defs.specs.StateMachine.Step.{refusal_of}
use Rattle.pud_defs.specs.StateMachine.World.{World}
use Rattle.daemon_memory.specs.Arriving.{AppliesTo, UnlessFailed}
use Rattle.daemon_memory.specs.Memory.{Memory}

-- The pool of the name has a record, and these are goals of its frontiers, by its puddles and their ordinals.
pub record LeadsPool (F : ℕ) (name : List ℕ) (before : Image) (goals : List (ℕ × Puddle) → (ℕ → ℕ) → Type 0) (goal : Member → Option ℕ) : Type 0 where
  pub slot : ℕ
  pub is : IsRecordSlot F name before slot
  pub by : ℕ → ℕ
  pub goals_are : goals (puddles_in_turn (tables_of F before) slot) by
  pub goal_is : goal ≡ led_in slot by

-- The pool of the name has a record, and the records of its puddles are to be freed.
pub record FreesPool (F : ℕ) (name : List ℕ) (before : Image) (goal : Member → Option ℕ) : Type 0 where
  pub slot : ℕ
  pub is : IsRecordSlot F name before slot
  pub goal_is : goal ≡ freed_in slot

-- no frontier moves
abbrev pub IsStill : (before : Image) → (Member → Option ℕ) → Type 0
IsStill before goal = goal ≡ still

-- these are the goals, or no frontier moves if the line is refused
abbrev pub LeadsUnless : Option Refusal → (Leads : (Member → Option ℕ) → Type 0) → (Member → Option ℕ) → Type 0
LeadsUnless None Leads goal = Leads goal
LeadsUnless (Some why) Leads goal = goal ≡ still

-- A command was carried out, or refused. At every moment each frontier is on the way to its goal, and without a fault it is there. A record that is to be
-- freed is as it was until it is free, and without a fault it is free. If the host itself failed before the goals were known, no frontier has moved.
pub record AppliesLed (Leads : (Member → Option ℕ) → Type 0) (size : ℕ) (w next : World) (memory : Memory) (fault : Option HostFault) (old new : State) : Type 0 where
  pub goal : Member → Option ℕ
  pub leads : UnlessFailed (fault ≡ Some hosts.Failed) (Leads goal) (goal ≡ still)
  pub applies : AppliesTo goal size w next memory fault old new

-- The same of a command that has these goals, by what is read before it, whenever it is not refused.
abbrev pub AppliesWith : (Leads : Image → (Member → Option ℕ) → Type 0) → (size : ℕ) → (w next : World) → Command → Memory → Option HostFault → State → State → Type 0
AppliesWith Leads size w next command memory fault old new = AppliesLed (LeadsUnless (refusal_of w command) (Leads (reads old.now.words))) size w next memory fault old new
