-- The content of bytes whose counts are known, word by word.
use Rattle.std.specs.Prelude.{ℕ, List, slice_get, slice_index}
use Rattle.pud_defs.specs.Formats.Image.{Image}
use Rattle.pud_defs.specs.PoolGraphs.Stored.{Stored, class_of}
use Rattle.pud_defs.specs.PoolGraphs.ExportFile.{words_in, file_types, file_stored}
use Rattle.pud_import.specs.declared.sized_file.SizedFile.{SizedFile}

-- the words of the file
abbrev pub image_of_file : SizedFile → Image
image_of_file f = slice_index (words_in f.bytes.now)

-- the types that the file lists
abbrev pub types_in : SizedFile → List (ℕ × ℕ)
types_in f = file_types (image_of_file f) f.types

-- the records of the file's puddles, and their frames
abbrev pub stored_of : SizedFile → Stored
stored_of f = file_stored (image_of_file f) f.version f.types f.puddles

-- the class of the puddle of an ordinal
abbrev pub class_in : SizedFile → (ordinal : ℕ) → ℕ
class_in f o = class_of (slice_get (stored_of f).puddles o)
