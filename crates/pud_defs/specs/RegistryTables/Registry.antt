-- When an image is a sound registry.
use Rattle.std.specs.Prelude.{ℕ, ◌+◌, Bool, true, false, not, ◌&&◌, ◌||◌, nat_le, ◌==◌, List, length, Option, Some, None}
use Rattle.std.specs.List.{list_all}
use Rattle.pud_defs.specs.declared.layout.TheConstants.{DEVICE_MAGIC, VERSION, FIRST_VERSION, MAGIC_WORD, VERSION_WORD, FRAMES_WORD, NEXT_NUMBER_WORD, DAEMON_LOG, TYPE_TABLE}
use Rattle.pud_defs.specs.declared.space.TheConstants.{LARGE}
use Rattle.pud_defs.specs.Formats.Image.{Image}
use Rattle.pud_defs.specs.Formats.Identifiers.{is_number}
use Rattle.pud_defs.specs.Formats.Layout.{tables_end, frames_at, device_words, is_legal_frame_count}
use Rattle.pud_defs.specs.Logging.Entries.{Entry, Log, log_of}
use Rattle.pud_defs.specs.Logging.Replay.{is_in_range, settled_by}
use Rattle.pud_defs.specs.RegistryTables.Spaces.{all_below, are_legal_spaces, are_closed_logs}
use Rattle.pud_defs.specs.RegistryTables.Types.{type_at, are_legal_types}
use Rattle.pud_defs.specs.RegistryTables.Puddles.{Member}
use Rattle.pud_defs.specs.RegistryTables.Tables.{Tables, tables_of}
use Rattle.pud_defs.specs.RegistryTables.SoundTables.{are_sound_tables}

abbrev pub frames_of : Image → ℕ
frames_of image = image FRAMES_WORD

-- the device is formatted: word 0 is the device magic
abbrev pub has_magic : Image → Bool
has_magic image = image MAGIC_WORD == DEVICE_MAGIC

-- the version is the present one or the first
abbrev pub is_version : ℕ → Bool
is_version v = v == VERSION || v == FIRST_VERSION

abbrev pub has_version : Image → Bool
has_version image = is_version (image VERSION_WORD)

-- the version is the present one
abbrev pub is_current : Image → Bool
is_current image = image VERSION_WORD == VERSION

-- the record is free, or its puddle is large
abbrev pub is_large_member : Option Member → Bool
is_large_member None = true
is_large_member (Some m) = m.puddle.class == LARGE

-- each puddle is large
unfoldable pub are_all_large : Tables → Bool
are_all_large t = all_below t.frames (λ frame. is_large_member (t.puddles frame))

-- in the first version, which has no classes, each puddle is large
abbrev pub suits_version : (version : ℕ) → Tables → Bool
suits_version v t = v == VERSION || are_all_large t

abbrev pub has_suitable_puddles : Image → Bool
has_suitable_puddles image = suits_version (image VERSION_WORD) (tables_of (frames_of image) image)

-- the number of frames is legal, and the device has the words that this many frames need
abbrev pub has_room : ℕ → Image → Bool
has_room size image = is_legal_frame_count (frames_of image) && nat_le (device_words (frames_of image)) size

abbrev pub has_legal_number : Image → Bool
has_legal_number image = is_number (image NEXT_NUMBER_WORD)

abbrev pub has_legal_types : Image → Bool
has_legal_types image = are_legal_types (type_at image)

-- the pools and the puddles are sound, with the image's next UUID number
abbrev pub has_sound_tables : Image → Bool
has_sound_tables image = are_sound_tables (image NEXT_NUMBER_WORD) (tables_of (frames_of image) image)

abbrev pub has_legal_spaces : Image → Bool
has_legal_spaces image = are_legal_spaces image

-- each log of a registered log space is closed
abbrev pub has_all_logs_closed : Image → Bool
has_all_logs_closed image = are_closed_logs image (frames_of image)

-- An image with nothing to replay is a sound registry, on a device of `size` words. The clients' logs play no part.
unfoldable pub is_registry : ℕ → Image → Bool
is_registry size image =
    has_magic image && has_version image && has_room size image && has_legal_number image && has_legal_types image
    && has_sound_tables image && has_suitable_puddles image && has_legal_spaces image

-- the same, the version is the present one, and each registered log is closed
unfoldable pub is_idle_registry : ℕ → Image → Bool
is_idle_registry size image = is_registry size image && (is_current image && has_all_logs_closed image)

-- `n` words from a word on all lie where the daemon log may write: in the next UUID number, in the tables from the type
-- table on, or in the frames
abbrev pub may_be_logged : ℕ → ℕ → ℕ → Bool
may_be_logged F at n =
    (at == NEXT_NUMBER_WORD && n == 1) || (nat_le TYPE_TABLE at && nat_le (at + n) (tables_end F)) || (nat_le (frames_at F) at && nat_le (at + n) (device_words F))

-- the entry is out of range, or lies there
abbrev pub is_loggable : ℕ → Log → Entry → Bool
is_loggable F log e = not (is_in_range log e) || may_be_logged F e.address (length e.vals)

-- the log is well formed, and each of its entries is of this kind
abbrev pub are_loggable : ℕ → Log → Option (List Entry) → Bool
are_loggable F log None = false
are_loggable F log (Some es) = list_all (is_loggable F log) es

-- the daemon log is well formed, and its entries in range lie where they may
unfoldable pub has_legal_log : Image → Bool
has_legal_log image = are_loggable (frames_of image) (log_of image DAEMON_LOG) (log_of image DAEMON_LOG).entries

-- the daemon log is legal, and once it is replayed the image of a device of `size` words is a sound registry
unfoldable pub is_sound : ℕ → Image → Bool
is_sound size image = has_legal_log image && is_registry size (settled_by DAEMON_LOG image)
