-- The device with some words masked: as it would be if each of them had one value of its own at every moment.
use Rattle.std.specs.Prelude.{◌≡◌, ℕ, map, Option, Some, None, unwrap_or}
use Rattle.pm_model.specs.Words.{Cell, single, Words, Image}
use Rattle.pm_model.specs.Moments.{Moment, State}
use Rattle.pm_model.specs.Changes.{Footprint, Write}

-- The word with this value alone, if there is one. Otherwise the word itself.
abbrev pub masked_cell : Option ℕ → Cell → Cell
masked_cell None c = c
masked_cell (Some v) c = single v

abbrev pub masked : Write → Words → Words
masked mask words k = masked_cell (mask k) (words k)

abbrev pub masked_moment : Write → Moment → Moment
masked_moment mask m = record { said = m.said; words = masked mask m.words }

-- What a host tells, with these words masked at every moment.
abbrev pub masked_state : Write → State → State
masked_state mask s = record { now = masked_moment mask s.now; past = map (masked_moment mask) s.past; script = s.script; shelf = s.shelf }

-- The image with these words masked.
abbrev pub masked_image : Write → Image → Image
masked_image mask image k = unwrap_or (mask k) (image k)

-- No word is masked.
abbrev pub no_mask : Write
no_mask k = None

-- No value may be written to a masked word.
pub record IsOff (mask : Write) (may : Footprint) : Type 0 where
  pub apart : (k x v : ℕ) → mask k ≡ Some x → may k v → ⊥
