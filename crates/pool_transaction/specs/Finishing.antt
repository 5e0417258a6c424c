-- Which puddles of its pool a line finishes when it writes objects, and what holds when it has finished them.
use Rattle.std.specs.Prelude.{◌≡◌, ◌⊎◌, ◌+◌, ◌<◌, ℕ, ◌==◌, max, cond, List, length, Option, Some, None}
use Rattle.pm_model.specs.declared.host.HostFault.{HostFault}
use Rattle.pm_model.specs.declared.host.HostFault.TheVariants as hosts
use Rattle.pm_model.specs.Moments.{State}
use Rattle.pud_defs.specs.declared.machine.Refusal.{Refusal}
use Rattle.pud_defs.specs.declared.records.Puddle.{Puddle}
use Rattle.pud_defs.specs.Formats.Geometry.{class_steps, ordinal_of}
use Rattle.pud_defs.specs.Formats.Image.{Image}
use Rattle.pud_defs.specs.PoolGraphs.Stored.{stored_in, place_serial, IsFreePlace}
use Rattle.pud_defs.specs.RegistryTables.Tables.{tables_of, puddles_in_turn}
use Rattle.pud_defs.specs.RegistryTables.Types.{types_of}
use Rattle.pud_defs.specs.StateMachine.Step.{class_made}
use Rattle.pud_defs.specs.StateMachine.World.{World}
use Rattle.graph_laws.specs.Slots.{AreAllLive, IsLowestFreeSlot}
use Rattle.puddle_header.specs.Places.{places_in}
use Rattle.graph_read.specs.Reading.{class_in, place_in_pool}
use Rattle.pool_transaction.specs.declared.changing.Change.{Change}
use Rattle.pool_transaction.specs.declared.changing.Change.TheVariants as changes
use Rattle.pool_transaction.specs.declared.changing.Update.{Update}
use Rattle.pool_transaction.specs.declared.changing.Update.TheVariants.{Set, Later, Root, Free}
use Rattle.daemon_memory.specs.Memory.{Memory}
use Rattle.daemon_memory.specs.Moves.{led_in}
use Rattle.daemon_memory.specs.Arriving.{AppliesTo, UnlessFailed}

-- ---- goals by ordinals

-- These goals lead the puddle with this ordinal, which is of this class, to its end, and no other puddle anywhere.
abbrev pub end_of : (o class : ℕ) → ℕ → ℕ
end_of o class q = cond (q == o) (class_steps class) 0

-- The same for a puddle of this pool.
abbrev pub end_in : List (ℕ × Puddle) → (o : ℕ) → ℕ → ℕ
end_in at o = end_of o (class_in at o)

-- These goals lead the first puddle and this one to their ends.
abbrev pub end_of_both : List (ℕ × Puddle) → (o : ℕ) → ℕ → ℕ
end_of_both at o q = max (end_in at 0 q) (end_in at o q)

-- The same for a puddle of this class that comes after these.
abbrev pub end_of_more : (class : ℕ) → List (ℕ × Puddle) → ℕ → ℕ
end_of_more class at q = max (end_in at 0 q) (end_of (length at) class q)

-- These goals lead no puddle anywhere.
abbrev pub no_end : ℕ → ℕ
no_end q = 0

-- ---- the goals of a line, by what is read of its pool, which has these puddles

-- The goals finish the puddle in which the object with this serial lives.
pub record FinishesObject (F : ℕ) (at : List (ℕ × Puddle)) (image : Image) (s : ℕ) (goal : ℕ → ℕ) : Type 0 where
  pub place : ℕ
  pub is : place_in_pool F at image s ≡ Some place
  pub goal_is : goal ≡ end_in at (ordinal_of place)

-- The goals finish the first puddle and the puddle of the lowest free slot of this class.
pub record FinishesLowest (F class : ℕ) (at : List (ℕ × Puddle)) (image : Image) (goal : ℕ → ℕ) : Type 0 where
  pub place : ℕ
  pub lowest : IsLowestFreeSlot class (stored_in F at image) place
  pub goal_is : goal ≡ end_of_both at (ordinal_of place)

-- The goals finish the puddles that a new object in a puddle of this class writes: the first puddle and that of the
-- lowest free slot of the class. Or each slot of the class is live, and the object takes a slot of the puddle by which
-- the pool grows, which comes after these puddles.
abbrev pub FinishesTaken : (F class : ℕ) → List (ℕ × Puddle) → Image → (ℕ → ℕ) → Type 0
FinishesTaken F class at image goal = FinishesLowest F class at image goal ⊎ (AreAllLive class (stored_in F at image) × (goal ≡ end_of_more class at))

-- The goals finish the puddles that a new object of this type writes.
abbrev pub FinishesOfType : (F id : ℕ) → List (ℕ × Puddle) → Image → (ℕ → ℕ) → Type 0
FinishesOfType F id at image goal = FinishesTaken F (class_made (types_of image) id) at image goal

-- The goals finish the puddle of the object that is updated, or of the root, which is in the first puddle.
abbrev pub FinishesFor : (F : ℕ) → List (ℕ × Puddle) → Image → Update → (ℕ → ℕ) → Type 0
FinishesFor F at image (Set s f x) goal = FinishesObject F at image s goal
FinishesFor F at image (Later s f x) goal = FinishesObject F at image s goal
FinishesFor F at image (Root s) goal = goal ≡ end_in at 0
FinishesFor F at image (Free s) goal = FinishesObject F at image s goal

abbrev pub Finishes : (F : ℕ) → List (ℕ × Puddle) → Image → Change → (ℕ → ℕ) → Type 0
Finishes F at image (changes.New t) goal = FinishesOfType F t at image goal
Finishes F at image (changes.Update update) goal = FinishesFor F at image update goal

-- A line that is refused finishes no puddle.
abbrev pub FinishesUnless : Option Refusal → ((ℕ → ℕ) → Type 0) → (ℕ → ℕ) → Type 0
FinishesUnless None finishes goal = finishes goal
FinishesUnless (Some why) finishes goal = goal ≡ no_end

-- ---- a pool grows

-- The pool in the slot has one more puddle, which is of this class. Each other puddle has its class, each slot that
-- there was has the serial that it had, and the first slot after them is free.
pub record IsLonger (F slot class : ℕ) (at later : List (ℕ × Puddle)) (before after : Image) : Type 0 where
  pub count : length later ≡ length at + 1
  pub turn : later ≡ puddles_in_turn (tables_of F after) slot
  pub classes : (o : ℕ) → o < length at → class_in later o ≡ class_in at o
  pub of_class : class_in later (length at) ≡ class
  pub each : (p : ℕ) → p < places_in at → place_serial (stored_in F later after) p ≡ place_serial (stored_in F at before) p
  pub free : IsFreePlace (stored_in F later after) (places_in at)

-- ---- the goals are reached

-- A command was carried out, and frontiers move to the goals of a line on the pool in the slot. If the host itself
-- failed before the goals were known, no frontier moves.
pub record AppliesFinishing (slot : ℕ) (finishes : (ℕ → ℕ) → Type 0) (size : ℕ) (w next : World) (memory : Memory) (fault : Option HostFault) (old new : State) : Type 0 where
  pub goal : ℕ → ℕ
  pub finishing : UnlessFailed (fault ≡ Some hosts.Failed) (finishes goal) (goal ≡ no_end)
  pub applies : AppliesTo (led_in slot goal) size w next memory fault old new
