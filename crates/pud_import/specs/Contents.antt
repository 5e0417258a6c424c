-- What a file contains, by its bytes alone.
use Rattle.std.specs.Prelude.{ℕ, ◌*◌, Bool, ◌&&◌, ◌==◌, List, map, length, slice_index, is_some}
use Rattle.std.specs.List.{list_all, list_any, range_with_len}
use Rattle.pud_defs.specs.declared.files.TheConstants.{FILE_VERSION_WORD, FILE_TYPES_WORD, FILE_PUDDLES_WORD}
use Rattle.pud_defs.specs.Formats.Image.{Image}
use Rattle.pud_defs.specs.PoolGraphs.Graph.{Graph, graph_of}
use Rattle.pud_defs.specs.PoolGraphs.Stored.{Stored, places_of}
use Rattle.pud_defs.specs.PoolGraphs.ExportFile.{FileContents, words_in, file_words, file_types, file_stored, has_file_header, are_file_types, are_file_bases, are_file_classes, is_plain}
use Rattle.graph_laws.specs.Slots.{is_of_type}

-- the words that the bytes spell
abbrev pub file_image : (bytes : List ℕ) → Image
file_image bytes = slice_index (words_in bytes)

-- the version that the header states
abbrev pub version_read : (bytes : List ℕ) → ℕ
version_read bytes = file_image bytes FILE_VERSION_WORD

-- how many types the header states, and how many puddles
abbrev pub type_count_read : (bytes : List ℕ) → ℕ
type_count_read bytes = file_image bytes FILE_TYPES_WORD

abbrev pub puddle_count_read : (bytes : List ℕ) → ℕ
puddle_count_read bytes = file_image bytes FILE_PUDDLES_WORD

-- the types that the file lists
abbrev pub types_held : (bytes : List ℕ) → List (ℕ × ℕ)
types_held bytes = file_types (file_image bytes) (type_count_read bytes)

-- the records of the puddles, and their frames
abbrev pub stored_held : (bytes : List ℕ) → Stored
stored_held bytes = file_stored (file_image bytes) (version_read bytes) (type_count_read bytes) (puddle_count_read bytes)

-- the bases of the puddles by their ordinals
abbrev pub bases_held : (bytes : List ℕ) → List ℕ
bases_held bytes = map (λ d. d.base) (stored_held bytes).puddles

-- their classes
abbrev pub classes_held : (bytes : List ℕ) → List ℕ
classes_held bytes = map (λ d. d.class) (stored_held bytes).puddles

-- what the bytes contain with this graph
abbrev pub contents_read : (bytes : List ℕ) → Graph → FileContents
contents_read bytes g = record { types = types_held bytes; classes = classes_held bytes; graph = g }

-- an object of the type lives in some slot
abbrev pub is_used_in : Stored → (id : ℕ) → Bool
is_used_in st id = list_any (is_of_type st id) (range_with_len 0 (places_of st))

-- ---- the tests of a file

-- the bytes have a header, there are as many as it states, and each class is legal
abbrev pub is_sized : (bytes : List ℕ) → Bool
is_sized bytes =
    length bytes == 8 * length (words_in bytes)
    && (has_file_header (file_image bytes) (version_read bytes) (type_count_read bytes) (puddle_count_read bytes) && length (words_in bytes) == file_words (version_read bytes) (type_count_read bytes) (puddle_count_read bytes)
    && are_file_classes (stored_held bytes).puddles)

-- What comes after the header of version V, T types and K puddles is that of a file: the types are legal, the bases are legal,
-- each word that is not read is 0, the frames store a graph, and of each type an object lives in some slot.
abbrev pub is_sound_file : Image → (V T K : ℕ) → Bool
is_sound_file words V T K =
    let types = file_types words T in
    let st = file_stored words V T K in
    are_file_types types && are_file_bases st.puddles && is_plain types st && is_some (graph_of types st) && list_all (λ t. is_used_in st t.0) types
