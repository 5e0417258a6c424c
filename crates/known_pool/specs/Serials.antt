-- Which serials are at the places of a pool, and when they stay.
use Rattle.std.specs.Prelude.{◌≡◌, ℕ, ◌<◌, ◌≤◌, List, length}
use Rattle.pud_defs.specs.declared.records.Puddle.{Puddle}
use Rattle.pud_defs.specs.Formats.Image.{Image}
use Rattle.pud_defs.specs.PoolGraphs.Stored.{stored_in, class_at, place_serial}
use Rattle.puddle_header.specs.Places.{places_in}

-- The serial at a place.
abbrev pub serial_in : (F : ℕ) → List (ℕ × Puddle) → Image → ℕ → ℕ
serial_in F at image p = place_serial (stored_in F at image) p

-- There are as many puddles as before, of the same classes, and each of their places has the serial that it had.
pub record KeepsSerials (F : ℕ) (at later : List (ℕ × Puddle)) (before after : Image) : Type 0 where
  pub count : length later ≡ length at
  pub classes : (p : ℕ) → p < places_in at → class_at (stored_in F later after) p ≡ class_at (stored_in F at before) p
  pub each : (p : ℕ) → p < places_in at → serial_in F later after p ≡ serial_in F at before p

-- Each puddle that there was has the same class, each of its places has the serial that it had, and more puddles may
-- follow.
pub record KeepsPrefix (F : ℕ) (at later : List (ℕ × Puddle)) (before after : Image) : Type 0 where
  pub more : length at ≤ length later
  pub classes : (p : ℕ) → p < places_in at → class_at (stored_in F later after) p ≡ class_at (stored_in F at before) p
  pub each : (p : ℕ) → p < places_in at → serial_in F later after p ≡ serial_in F at before p

-- Each place but this one has the serial that it had.
pub record KeepsOtherSerials (F : ℕ) (at : List (ℕ × Puddle)) (place : ℕ) (before after : Image) : Type 0 where
  pub each : (p : ℕ) → (p ≡ place → ⊥) → serial_in F at after p ≡ serial_in F at before p
