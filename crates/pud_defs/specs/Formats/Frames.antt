-- The frames of a device.
use Rattle.std.specs.Prelude.{◌≡◌, ℕ, ◌+◌, ◌-◌, ◌*◌, ◌<◌, ◌==◌, cond, List, [], ◌∷◌, ◌++◌, slice_index, replicate}
use Rattle.pud_defs.specs.declared.layout.TheConstants.{FRAME_WORDS}
use Rattle.pud_defs.specs.declared.space.TheConstants.{FRAME_MAGIC}
use Rattle.pud_defs.specs.Formats.Layout.{frames_at}
use Rattle.pud_defs.specs.Formats.Image.{Image}

-- the first word of a frame
abbrev pub frame_at : ℕ → ℕ → ℕ
frame_at F frame = frames_at F + FRAME_WORDS * frame

-- word k of a frame
abbrev pub frame_word : ℕ → ℕ → ℕ → Image → ℕ
frame_word F frame k image = image (frame_at F frame + k)

-- ---- the frame of a new puddle

-- the word of a new puddle's frame for the next serial: 1 in the frame of ordinal 0, and else 0
abbrev pub first_serial : ℕ → ℕ
first_serial ordinal = cond (ordinal == 0) 1 0

-- the header words of a new puddle: the frame magic, the UUID number, the ordinal, and the word for the next serial
abbrev pub fresh_header : (number ordinal : ℕ) → List ℕ
fresh_header number ordinal = FRAME_MAGIC ∷ number ∷ ordinal ∷ first_serial ordinal ∷ []

-- the words of its frame: these, and then 0 in all others
unfoldable pub fresh_frame : (number ordinal : ℕ) → List ℕ
fresh_frame number ordinal = fresh_header number ordinal ++ replicate (FRAME_WORDS - 4) 0

-- the frame has the words of a new puddle's frame
pub record IsFreshFrame (F frame number ordinal : ℕ) (image : Image) : Type 0 where
  pub each : (k : ℕ) → k < FRAME_WORDS → frame_word F frame k image ≡ slice_index (fresh_frame number ordinal) k
