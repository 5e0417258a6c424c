-- What becomes of the records of puddles while a command is carried out.
use Rattle.std.specs.Prelude.{◌≡◌, ◌⊎◌, ℕ, ◌+◌, ◌≤◌, ◌==◌, max, cond, Option, Some, None}
use Rattle.pm_model.specs.Words.{reads}
use Rattle.pm_model.specs.Moments.{State}
use Rattle.pm_model.specs.Changes.{Leaves, Silently}
use Rattle.pud_defs.specs.declared.layout.TheConstants.{DAEMON_LOG}
use Rattle.pud_defs.specs.RegistryTables.Puddles.{Member, member_moved}
use Rattle.pud_defs.specs.Logging.Replay.{settled_by}
use Rattle.pud_defs.specs.RegistryTables.Tables.{tables_of}

-- The record is as it was.
abbrev pub Stays : Member → Option Member → Type 0
Stays m now = now ≡ Some m

-- The record is the same puddle's, and its frontier lies between the one that it had and this goal.
pub record IsFrontierBetween (m : Member) (goal : ℕ) (now : Option Member) : Type 0 where
  pub frontier : ℕ
  pub least : m.puddle.frontier ≤ frontier
  pub most : frontier ≤ goal
  pub is : now ≡ Some (member_moved frontier m)

-- The same, if there is a goal. A record without a goal is to be freed, and it is as it was until it is free.
abbrev pub IsOnTheWay : Option ℕ → Member → Option Member → Type 0
IsOnTheWay None m now = Stays m now ⊎ (now ≡ None)
IsOnTheWay (Some goal) m now = IsFrontierBetween m goal now

-- The record is on its way to the goal that it has.
abbrev pub MovesTo : (Member → Option ℕ) → Member → Option Member → Type 0
MovesTo goal m now = IsOnTheWay (goal m) m now

-- At each moment each record that was used at the start has become what is stated, in each image that may be left, with
-- the daemon log replayed.
pub record LeavesPuddles (F : ℕ) (becomes : Member → Option Member → Type 0) (old new : State) : Type 0 where
  pub each : (frame : ℕ) (m : Member) → (tables_of F (reads old.now.words)).puddles frame ≡ Some m
      → Leaves (Silently (λ image. becomes m ((tables_of F (settled_by DAEMON_LOG image)).puddles frame))) old new

-- ---- goals

-- The goal of a record whose frontier does not move.
abbrev pub still : Member → Option ℕ
still m = Some m.puddle.frontier

-- The goals of a line that frees the records of the pool in a slot, and moves no frontier.
abbrev pub freed_in : (slot : ℕ) → Member → Option ℕ
freed_in slot m = cond (m.pool == slot + 1) None (still m)

-- The goal of a record under a line that leads the frontiers of the pool in a slot to these, by ordinals. A frontier
-- that is further already does not move, and the line moves no other frontier.
abbrev pub led_to : (slot : ℕ) → (ℕ → ℕ) → Member → ℕ
led_to slot goal m = cond (m.pool == slot + 1) (max m.puddle.frontier (goal m.ordinal)) m.puddle.frontier

abbrev pub led_in : (slot : ℕ) → (ℕ → ℕ) → Member → Option ℕ
led_in slot goal m = Some (led_to slot goal m)
