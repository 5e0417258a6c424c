-- Places that a device has.
use Rattle.std.specs.Prelude.{ℕ, ◌<◌}
use Rattle.pud_defs.specs.declared.layout.TheConstants.{FRAME_WORDS}

-- The frame is below F, and the word is one of a frame.
pub record IsPlaceIn (F : ℕ) (place : ℕ × ℕ) : Type 0 where
  pub frame : place.0 < F
  pub word : place.1 < FRAME_WORDS
