-- The header of a frame, which names its puddle, and the words of the puddle's slots.
use Rattle.std.specs.Prelude.{ℕ, ◌+◌, Bool, false, ◌&&◌, ◌==◌, Option, Some, None}
use Rattle.pud_defs.specs.declared.space.TheConstants.{FRAME_MAGIC, FRAME_MAGIC_WORD, FRAME_NUMBER_WORD, FRAME_ORDINAL_WORD}
use Rattle.pud_defs.specs.Formats.Geometry.{class_slot_at}
use Rattle.pud_defs.specs.Formats.Image.{Image}
use Rattle.pud_defs.specs.Formats.Frames.{frame_word}
use Rattle.pud_defs.specs.RegistryTables.Puddles.{Member, puddle_at}

-- word k of a slot of the puddle in this frame, which is of this class
abbrev pub slot_word : (F frame class slot k : ℕ) → Image → ℕ
slot_word F frame class slot k image = frame_word F frame (class_slot_at class slot + k) image

-- these header words are those of a puddle: the frame magic, the puddle's UUID number and its place in its pool
abbrev pub is_header : (given place magic number ordinal : ℕ) → Bool
is_header given place magic number ordinal = magic == FRAME_MAGIC && number == given && ordinal == place

-- they are those of the record's puddle; a free record has no puddle
abbrev pub is_header_of : Option Member → (magic number ordinal : ℕ) → Bool
is_header_of None magic number ordinal = false
is_header_of (Some m) magic number ordinal = is_header m.puddle.number m.ordinal magic number ordinal

-- the header of a frame fits the puddle in the frame's record
abbrev pub header_fits : (F frame : ℕ) → Image → Bool
header_fits F frame image =
    is_header_of (puddle_at image frame) (frame_word F frame FRAME_MAGIC_WORD image) (frame_word F frame FRAME_NUMBER_WORD image)
    (frame_word F frame FRAME_ORDINAL_WORD image)
