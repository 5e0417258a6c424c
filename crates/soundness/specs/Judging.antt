-- The parts of a sound registry, in the order in which they are read.
use Rattle.std.specs.Prelude.{ℕ, ◌-◌, ◌≤◌, ◌==◌, nat_le, Bool, not, ◌&&◌, cond, Option, Some, None}
use Rattle.std.specs.Ordering.{nat_cmp}
use Rattle.pud_defs.specs.declared.layout.TheConstants.{DEVICE_MAGIC, MAGIC_WORD, VERSION_WORD, FRAMES_WORD, MIN_FRAMES, MAX_FRAMES, NEXT_NUMBER_WORD, TYPE_RECORDS}
use Rattle.pud_defs.specs.Formats.Image.{Image}
use Rattle.pud_defs.specs.Formats.TypeMap.{is_legal_map, is_legal_type_id}
use Rattle.pud_defs.specs.RegistryTables.Keyed.{are_distinct}
use Rattle.pud_defs.specs.RegistryTables.Types.{type_at, is_sound_type}
use Rattle.pud_defs.specs.Formats.Layout.{device_words, is_legal_frame_count}
use Rattle.pud_defs.specs.RegistryTables.Spaces.{all_below}
use Rattle.pud_defs.specs.RegistryTables.Tables.{tables_of}
use Rattle.pud_defs.specs.RegistryTables.SoundTables.{are_sound_tables}
use Rattle.pud_defs.specs.RegistryTables.Registry.{is_version, has_legal_number, has_legal_types}

-- the number of frames by the size of the device and the words 0, 1 and 3, if these are sound
abbrev pub frames_by : (size magic version frames : ℕ) → Option ℕ
frames_by size magic version frames =
    cond (magic == DEVICE_MAGIC && is_version version && (is_legal_frame_count frames && nat_le (device_words frames) size)) (Some frames) None

-- the same by the words of an image
abbrev pub frames_described : ℕ → Image → Option ℕ
frames_described size image = frames_by size (image MAGIC_WORD) (image VERSION_WORD) (image FRAMES_WORD)

-- a device of this many words has room for this many frames, and the number of frames is legal
pub record IsRoomFor (size frames : ℕ) : Type 0 where
  pub some : MIN_FRAMES ≤ frames
  pub no_more : frames ≤ MAX_FRAMES
  pub fits : device_words frames ≤ size

-- the last n records of the type table are free or legal, and no two of them have the same id
abbrev pub are_legal_last : Image → ℕ → Bool
are_legal_last image n = all_below n (λ k. is_sound_type (type_at image (TYPE_RECORDS - 1 - k))) && are_distinct nat_cmp (type_at image) (TYPE_RECORDS - n) n

-- whether records are legal with one more before them, by whether its id is one of theirs and whether they are legal
abbrev pub with_one_more : (id map : ℕ) (again legal : Bool) → Bool
with_one_more id map again legal = cond (id == 0) legal (is_legal_type_id id && is_legal_map map && not again && legal)

-- the next number, the types, and the pools with their puddles are sound on a device of F frames
abbrev pub has_sound_records : Image → ℕ → Bool
has_sound_records image F = has_legal_number image && has_legal_types image && are_sound_tables (image NEXT_NUMBER_WORD) (tables_of F image)
