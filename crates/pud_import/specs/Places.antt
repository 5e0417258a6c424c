-- The puddles that are added for a file.
use Rattle.std.specs.Prelude.{◌≡◌, ℕ, ◌+◌, ◌<◌, Bool, cond, List, slice_get, Some}
use Rattle.pud_defs.specs.Formats.Geometry.{class_steps}
use Rattle.registry.specs.declared.adding.NewPuddle.{NewPuddle}

-- the puddle with all of its steps rewritten, or with none
abbrev pub with_steps : (all : Bool) → NewPuddle → NewPuddle
with_steps all a = record a { puddle = record a.puddle { frontier = cond all (class_steps a.puddle.class) 0 } }

-- the puddle of an ordinal in the pool of a slot that draws this UUID number
pub record IsPuddleAt (slot next ordinal : ℕ) (a : NewPuddle) : Type 0 where
  pub pool : a.puddle.pool ≡ slot
  pub is_ordinal : a.puddle.ordinal ≡ ordinal
  pub number : a.puddle.number ≡ next + 1 + ordinal

-- these are the puddles of that pool, by their ordinals
pub record AreMembers (slot next : ℕ) (puddles : List NewPuddle) : Type 0 where
  pub each : (o : ℕ) (a : NewPuddle) → slice_get puddles o ≡ Some a → IsPuddleAt slot next o a

-- each frame comes after those of the puddles before
pub record FramesRise (puddles : List NewPuddle) : Type 0 where
  pub each : (i j : ℕ) (a b : NewPuddle) → i < j → slice_get puddles i ≡ Some a → slice_get puddles j ≡ Some b → a.frame < b.frame
