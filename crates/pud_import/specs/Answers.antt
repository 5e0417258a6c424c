-- A file that answers like a device.
use Rattle.std.specs.Prelude.{ℕ, ◌+◌, ◌-◌, ◌&&◌, nat_le, nat_lt, cond, List, [], map, None}
use Rattle.std.specs.List.{range_with_len}
use Rattle.pm_model.specs.Words.{single}
use Rattle.pm_model.specs.Moments.{State}
use Rattle.pud_defs.specs.declared.layout.TheConstants.{TYPE_TABLE}
use Rattle.pud_defs.specs.declared.files.TheConstants.{FILE_HEADER_WORDS}
use Rattle.pud_defs.specs.declared.records.Puddle.{Puddle}
use Rattle.pud_defs.specs.Formats.Layout.{frames_at}
use Rattle.pud_defs.specs.Formats.Image.{Image}
use Rattle.pud_defs.specs.RegistryTables.Types.{type_record_at}
use Rattle.pud_defs.specs.PoolGraphs.ExportFile.{file_frames_at, file_puddle}

-- the words of a device that has T types in its table and K frames, as the file of version V has them; each other word
-- is 0
abbrev pub as_device : Image → (V T K : ℕ) → Image
as_device words V T K w =
    cond (nat_le (frames_at K) w)
    (words (file_frames_at V T K + (w - frames_at K)))
    (cond (nat_le TYPE_TABLE w && nat_lt w (type_record_at T)) (words (FILE_HEADER_WORDS + (w - TYPE_TABLE))) 0)

-- the puddle of an ordinal, in the frame of that number
abbrev pub frame_and_puddle : Image → (V T K ordinal : ℕ) → ℕ × Puddle
frame_and_puddle words V T K o = (o, file_puddle words V T K o)

-- all puddles of the file, with their frames
abbrev pub file_pool : Image → (V T K : ℕ) → List (ℕ × Puddle)
file_pool words V T K = map (frame_and_puddle words V T K) (range_with_len 0 K)

-- the state of a host that has these words, at rest, and nothing else
abbrev pub holding : Image → State
holding image = record { now = record { said = []; words = λ k. single (image k) }; past = []; script = []; shelf = λ name. None }
