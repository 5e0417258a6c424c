-- An export file: the types, the classes of the puddles and the graph that its bytes stand for.
use Rattle.std.specs.Prelude.{ℕ, ◌+◌, ◌-◌, ◌*◌, Bool, not, ◌&&◌, ◌||◌, nat_le, ◌==◌, cond, List, [], ◌∷◌, map, length, slice_get, slice_index, Option, Some, None, option_map}
use Rattle.std.specs.Ordering.{nat_cmp}
use Rattle.std.specs.Int.{from_le_bytes, w64}
use Rattle.std.specs.List.{list_all, list_any, range_with_len}
use Rattle.std.specs.FinMap.Entries.{is_sorted, where_key}
use Rattle.pud_defs.specs.declared.layout.TheConstants.{TYPE_RECORDS, TYPE_RECORD_WORDS, FRAME_WORDS}
use Rattle.pud_defs.specs.declared.space.TheConstants.{FRAME_HEADER_WORDS, FRAME_NUMBER_WORD, FRAME_ORDINAL_WORD, ROOT_WORD, SLOT_SERIAL_WORD, SLOT_FIELDS_WORD, LARGE}
use Rattle.pud_defs.specs.Formats.Geometry.{class_steps, is_legal_class}
use Rattle.pud_defs.specs.declared.records.TheConstants.{MAX_PUDDLES}
use Rattle.pud_defs.specs.declared.records.Puddle.{Puddle}
use Rattle.pud_defs.specs.declared.files.TheConstants.{FILE_MAGIC, FILE_VERSION, FIRST_FILE_VERSION, FILE_MAGIC_WORD, FILE_VERSION_WORD, FILE_TYPES_WORD, FILE_PUDDLES_WORD, FILE_HEADER_WORDS}
use Rattle.pud_defs.specs.Formats.Bases.{is_legal_base}
use Rattle.pud_defs.specs.RegistryTables.Types.{is_sound_type}
use Rattle.pud_defs.specs.RegistryTables.Spaces.{all_below}
use Rattle.pud_defs.specs.RegistryTables.Keyed.{are_distinct}
use Rattle.pud_defs.specs.Formats.Image.{Image}
use Rattle.pud_defs.specs.PoolGraphs.Stored.{Stored, places_of, is_slot, place_words, place_word, place_serial, slot_state}
use Rattle.pud_defs.specs.PoolGraphs.Graph.{Graph, field_count, place_map, graph_of}

-- ---- words

-- the words that bytes spell: eight bytes a word, the lowest first; if fewer than eight are left, they spell none
unfoldable pub words_in : List ℕ → List ℕ
words_in (a ∷ b ∷ c ∷ d ∷ e ∷ f ∷ g ∷ h ∷ rest) = from_le_bytes w64 (a ∷ b ∷ c ∷ d ∷ e ∷ f ∷ g ∷ h ∷ []) ∷ words_in rest
words_in bytes = []

-- Sizes are added only in these definitions. V is the version of the file, T the number of types, and K the number of
-- puddles.

-- the first word of type i
abbrev pub file_type_at : (i : ℕ) → ℕ
file_type_at i = FILE_HEADER_WORDS + TYPE_RECORD_WORDS * i

-- the word of the base of ordinal 0
abbrev pub file_bases_at : (T : ℕ) → ℕ
file_bases_at T = file_type_at T

-- the word of the class of ordinal 0, in a file that has classes
abbrev pub file_classes_at : (T K : ℕ) → ℕ
file_classes_at T K = file_bases_at T + K

-- how many words the classes have; a file of the first version has none
abbrev pub file_class_words : (V K : ℕ) → ℕ
file_class_words V K = cond (V == FIRST_FILE_VERSION) 0 K

-- the first word of the frame of ordinal 0
abbrev pub file_frames_at : (V T K : ℕ) → ℕ
file_frames_at V T K = file_classes_at T K + file_class_words V K

-- the first word of the frame of an ordinal
abbrev pub file_frame_at : (V T K ordinal : ℕ) → ℕ
file_frame_at V T K ordinal = file_frames_at V T K + FRAME_WORDS * ordinal

-- how many words there are
abbrev pub file_words : (V T K : ℕ) → ℕ
file_words V T K = file_frame_at V T K K

-- ---- what is stored in a file

-- a type: its id, and its map
abbrev pub file_type : Image → ℕ → ℕ × ℕ
file_type words i = (words (file_type_at i), words (file_type_at i + 1))

abbrev pub file_types : Image → (T : ℕ) → List (ℕ × ℕ)
file_types words T = map (file_type words) (range_with_len 0 T)

-- the class of the puddle of an ordinal; in a file of the first version each puddle is large
abbrev pub file_class : Image → (V T K ordinal : ℕ) → ℕ
file_class words V T K o = cond (V == FIRST_FILE_VERSION) LARGE (words (file_classes_at T K + o))

-- The puddle of an ordinal. Its base is also its old base, so each pointer stands over the bases of the file. The UUID number in its frame may be any number.
abbrev pub file_puddle : Image → (V T K ordinal : ℕ) → Puddle
file_puddle words V T K o = record {
  number = words (file_frame_at V T K o + FRAME_NUMBER_WORD);
  base = words (file_bases_at T + o);
  old_base = words (file_bases_at T + o);
  frontier = class_steps (file_class words V T K o);
  class = file_class words V T K o;
}

abbrev pub file_stored : Image → (V T K : ℕ) → Stored
file_stored words V T K = record {
  puddles = map (file_puddle words V T K) (range_with_len 0 K);
  word = λ o k. words (file_frame_at V T K o + k);
}

-- ---- which words are a file's

-- the version is the present one, or the first
abbrev pub is_file_version : ℕ → Bool
is_file_version V = V == FILE_VERSION || V == FIRST_FILE_VERSION

abbrev pub has_file_header : Image → (V T K : ℕ) → Bool
has_file_header words V T K =
    words FILE_MAGIC_WORD == FILE_MAGIC && is_file_version V && nat_le T TYPE_RECORDS && nat_le 1 K && nat_le K MAX_PUDDLES
    && words 6 == 0 && words 7 == 0

-- each type is legal, and the ids ascend
abbrev pub are_file_types : List (ℕ × ℕ) → Bool
are_file_types types = list_all (λ t. is_sound_type (Some t)) types && is_sorted nat_cmp types

-- an ordinal under the base of its puddle
abbrev pub under_base : List Puddle → (ordinal : ℕ) → Option (ℕ × ℕ)
under_base puddles o = option_map (λ d. (d.base, o)) (slice_get puddles o)

-- each base is legal, and no two are the same
abbrev pub are_file_bases : List Puddle → Bool
are_file_bases puddles = list_all (λ d. is_legal_base d.base) puddles && are_distinct nat_cmp (under_base puddles) 0 (length puddles)

-- a device may have puddles of the class of each of these
abbrev pub are_file_classes : List Puddle → Bool
are_file_classes puddles = list_all is_legal_class puddles

-- the words at `from` and after it, before `end`, are 0
abbrev pub is_zero : (ℕ → ℕ) → (from end : ℕ) → Bool
is_zero word from end = all_below (end - from) (λ i. word (from + i) == 0)

-- how many words of its header are read, in the frame of an ordinal
abbrev pub header_words_read : (ordinal : ℕ) → ℕ
header_words_read o = cond (o == 0) (ROOT_WORD + 1) (FRAME_ORDINAL_WORD + 1)

-- how many words of a slot are read, given the map of its object's type
abbrev pub object_words_read : Option ℕ → ℕ
object_words_read None = SLOT_FIELDS_WORD
object_words_read (Some m) = SLOT_FIELDS_WORD + field_count m

-- the same for the slot at a place; of a free slot only the serial is read
abbrev pub slot_words_read : List (ℕ × ℕ) → Stored → (place : ℕ) → ℕ
slot_words_read types st p =
    cond (slot_state (place_serial st p)).is_free (SLOT_SERIAL_WORD + 1) (object_words_read (place_map types st p))

-- the words of the slot at a place that are not read are 0; a place that is no slot has none
abbrev pub is_plain_place : List (ℕ × ℕ) → Stored → (place : ℕ) → Bool
is_plain_place types st p = not (is_slot st p) || is_zero (place_word st p) (slot_words_read types st p) (place_words st p)

-- each word of a frame that is not read is 0
unfoldable pub is_plain : List (ℕ × ℕ) → Stored → Bool
is_plain types st =
    all_below (length st.puddles) (λ o. is_zero (st.word o) (header_words_read o) FRAME_HEADER_WORDS)
    && all_below (places_of st) (is_plain_place types st)

-- These are the words of a file, `count` in all. What its frames stand for is not tested here.
unfoldable pub is_file : Image → (count V T K : ℕ) → Bool
is_file words count V T K =
    has_file_header words V T K && count == file_words V T K && are_file_types (file_types words T) && are_file_bases (file_stored words V T K).puddles
    && are_file_classes (file_stored words V T K).puddles && is_plain (file_types words T) (file_stored words V T K)

-- ---- what a file stands for

-- an object of the graph has the type
unfoldable pub is_type_used : (id : ℕ) → Graph → Bool
is_type_used id g = list_any (λ e. e.1.type_id == id) g.objects

-- those of the defined types that the objects of a graph have
abbrev pub types_used : List (ℕ × ℕ) → Graph → List (ℕ × ℕ)
types_used types g = where_key nat_cmp (λ id. is_type_used id g) types

-- What a file stands for: its types, the classes of its puddles by their ordinals, and its graph.
pub record FileContents : Type 0 where
  pub types : List (ℕ × ℕ)
  pub classes : List ℕ
  pub graph : Graph

-- the contents with this graph, if it uses each of the types
abbrev pub contents_with : List (ℕ × ℕ) → (classes : List ℕ) → Option Graph → Option FileContents
contents_with types classes None = None
contents_with types classes (Some g) = cond (list_all (λ t. is_type_used t.0 g) types) (Some (record { types = types; classes = classes; graph = g })) None

-- the contents of these words, of which there are `count`, with the version and the two counts of the header
abbrev pub contents_by : Image → (count V T K : ℕ) → Option FileContents
contents_by words count V T K =
    cond (is_file words count V T K) (contents_with (file_types words T) (map (λ d. d.class) (file_stored words V T K).puddles) (graph_of (file_types words T) (file_stored words V T K))) None

-- what a list of words stands for, if they are those of a file
unfoldable pub contents_of : List ℕ → Option FileContents
contents_of words = contents_by (slice_index words) (length words) (slice_index words FILE_VERSION_WORD) (slice_index words FILE_TYPES_WORD) (slice_index words FILE_PUDDLES_WORD)

-- what bytes stand for, if they are a file: they are whole words, and these are those of a file
unfoldable pub file_graph : List ℕ → Option FileContents
file_graph bytes = cond (length bytes == 8 * length (words_in bytes)) (contents_of (words_in bytes)) None
