-- A small file, with what it stands for and what is written into it. Then words that are no file, each for one reason.
use Rattle.std.proofs.Common.{◌≡◌, ℕ, ◌+◌, List, [], ◌∷◌, ◌++◌, map, set, take, replicate, slice_index, true, false, Option, Some, None, refl}
use Rattle.std.specs.List.{flat_map}
use Rattle.std.specs.Int.{to_le_bytes, w64}
use Rattle.pud_defs.specs.declared.space.TheConstants.{FRAME_MAGIC, FRAME_MAGIC_WORD, FRAME_NUMBER_WORD, FRAME_ORDINAL_WORD, NEXT_SERIAL_WORD, ROOT_WORD, SLOT_SERIAL_WORD, SLOT_TYPE_WORD, SLOT_FIELDS_WORD}
use Rattle.pud_defs.specs.declared.files.TheConstants.{FILE_MAGIC, FILE_MAGIC_WORD, FILE_VERSION_WORD, FILE_TYPES_WORD, FILE_PUDDLES_WORD, FILE_MACHINE_WORD, FILE_NUMBER_WORD}
use Rattle.pud_defs.specs.declared.records.Puddle.{Puddle}
use Rattle.pud_defs.specs.Formats.Image.{Image}
use Rattle.pud_defs.specs.Formats.Bases.{base_at}
use Rattle.pud_defs.specs.Formats.Geometry.{class_slot_at, place_at}
use Rattle.pud_defs.specs.PoolGraphs.Stored.{Stored}
use Rattle.pud_defs.specs.PoolGraphs.Graph.{Graph, graph_of, empty_graph}
use Rattle.pud_defs.specs.PoolGraphs.ExportFile.{FileContents, file_type_at, file_bases_at, file_classes_at, file_frame_at, has_file_header, are_file_types, are_file_bases, is_zero, header_words_read, contents_of, file_graph}
use Rattle.pud_defs.specs.PoolGraphs.Exported.{exported_slot, exported_header, exported_words}
use Rattle.pud_defs.proofs.Examples.Opened.{opened}
use Rattle.pud_defs.proofs.Examples.Graph.{types, fresh, object, address_in_range, moved, of_both}

-- ---- the file

-- the address of a slot, over the base in the file
abbrev address : (slot : ℕ) → ℕ
address slot = address_in_range 0 slot

-- The file of one type and one puddle. It has two objects that name each other: object 1 in slot 0, which is the root,
-- and object 2 in slot 1.
abbrev words : List ℕ
words =
    FILE_MAGIC ∷ 2 ∷ 1 ∷ 1 ∷ 7 ∷ 4 ∷ 0 ∷ 0
    ∷ 1 ∷ 8589934594
    ∷ base_at 0
    ∷ 0
    ∷ FRAME_MAGIC ∷ 5 ∷ 0 ∷ 3 ∷ address 0 ∷ (replicate 59 0
    ++ (1 ∷ 1 ∷ 10 ∷ address 1 ∷ (replicate 28 0
    ++ (2 ∷ 1 ∷ 0 ∷ address 0 ∷ (replicate 28 0 ++ replicate 1920 0)))))

abbrev pub pair : Graph
pair = record { next_serial = 3; root = 1; objects = (1, object 10 2) ∷ (2, object 0 1) ∷ [] }

abbrev pub contents : FileContents
contents = record { types = types; classes = 0 ∷ []; graph = pair }

-- where word k of the frame is in the file, and where word k of a slot is
abbrev in_frame : (k : ℕ) → ℕ
in_frame k = file_frame_at 2 1 1 0 + k

abbrev in_slot : (slot k : ℕ) → ℕ
in_slot slot k = in_frame (class_slot_at 0 slot + k)

-- the bytes of the file
abbrev pub bytes : List ℕ
bytes = flat_map (to_le_bytes w64) words

pub of_its_bytes : file_graph bytes ≡ Some contents
unfolding opened
of_its_bytes = refl

-- the same words in a file of the first version, which has no classes
abbrev first_words : List ℕ
first_words =
    FILE_MAGIC ∷ 1 ∷ 1 ∷ 1 ∷ 7 ∷ 4 ∷ 0 ∷ 0
    ∷ 1 ∷ 8589934594
    ∷ base_at 0
    ∷ FRAME_MAGIC ∷ 5 ∷ 0 ∷ 3 ∷ address 0 ∷ (replicate 59 0
    ++ (1 ∷ 1 ∷ 10 ∷ address 1 ∷ (replicate 28 0
    ++ (2 ∷ 1 ∷ 0 ∷ address 0 ∷ (replicate 28 0 ++ replicate 1920 0)))))

of_the_first_version : file_graph (flat_map (to_le_bytes w64) first_words) ≡ Some contents
unfolding opened
of_the_first_version = refl

-- Object 2 is in slot 1 of a large puddle. If the puddle is small, the same words are in slot 4, with the same address.
of_a_small_puddle : contents_of (set words (file_classes_at 1 1) 1) ≡ Some (record { types = types; classes = 1 ∷ []; graph = record pair { objects = map (λ e. (e.0, record e.1 { class = 1 })) pair.objects } })
unfolding opened
of_a_small_puddle = refl

-- no puddle has a class that is not defined
of_another_class : contents_of (set words (file_classes_at 1 1) 2) ≡ None
unfolding opened
of_another_class = refl

-- the machine id, the pool's UUID number there and the number in the frame do not matter
any_writer : (contents_of (set words FILE_MACHINE_WORD 8) ≡ Some contents) × (contents_of (set words FILE_NUMBER_WORD 9) ≡ Some contents) × (contents_of (set words (in_frame FRAME_NUMBER_WORD) 10) ≡ Some contents)
unfolding opened
any_writer = (refl, refl, refl)

-- ---- what is written

-- The same pool, moved from range 2. The root and the pointer of object 1 stand over its base, and the pointer of
-- object 2 over its old base. Each word that is not read is 9.
abbrev pub partly : Stored
partly = record {
  puddles = record { number = 5; base = base_at 0; old_base = base_at 2; frontier = 2; class = 0 } ∷ [];
  word = λ o. slice_index
      (FRAME_MAGIC ∷ 5 ∷ 0 ∷ 3 ∷ address 0 ∷ (replicate 59 9
      ++ (1 ∷ 1 ∷ 10 ∷ address 1 ∷ (replicate 28 9
      ++ (2 ∷ 1 ∷ 0 ∷ address_in_range 2 0 ∷ (replicate 28 9 ++ flat_map (λ (free : ℕ). 0 ∷ replicate 31 9) (replicate 60 0)))))));
}

same_graph : graph_of types partly ≡ Some pair
unfolding opened
same_graph = refl

written : exported_words 7 4 types types partly ≡ words
unfolding opened
written = refl

-- ---- words that are no file, each for one reason

-- what the words stand for, with one word changed
abbrev with_word : (k v : ℕ) → Option FileContents
with_word k v = contents_of (set words k v)

a_byte_less : file_graph (take 16479 bytes) ≡ None
unfolding opened
a_byte_less = refl

a_byte_more : file_graph (bytes ++ 0 ∷ []) ≡ None
unfolding opened
a_byte_more = refl

a_word_more : contents_of (words ++ 0 ∷ []) ≡ None
unfolding opened
a_word_more = refl

no_words : contents_of [] ≡ None
unfolding opened
no_words = refl

headers_of_others : (with_word FILE_MAGIC_WORD FRAME_MAGIC ≡ None) × (with_word FILE_VERSION_WORD 3 ≡ None) × (with_word FILE_VERSION_WORD 1 ≡ None) × (with_word 6 1 ≡ None) × (with_word 7 1 ≡ None)
unfolding opened
headers_of_others = (refl, refl, refl, refl, refl)

other_counts : (with_word FILE_TYPES_WORD 0 ≡ None) × (with_word FILE_TYPES_WORD 2 ≡ None) × (with_word FILE_PUDDLES_WORD 0 ≡ None) × (with_word FILE_PUDDLES_WORD 2 ≡ None)
unfolding opened
other_counts = (refl, refl, refl, refl)

illegal_types : (with_word (file_type_at 0) 0 ≡ None) × (with_word (file_type_at 0 + 1) 0 ≡ None)
unfolding opened
illegal_types = (refl, refl)

illegal_bases : (with_word (file_bases_at 1) (base_at 0 + 8) ≡ None) × (with_word (file_bases_at 1) 0 ≡ None) × (with_word (file_bases_at 1) (base_at 67108864) ≡ None)
unfolding opened
illegal_bases = (refl, refl, refl)

-- a legal base, over which the pointers lead nowhere
another_base : with_word (file_bases_at 1) (base_at 1) ≡ None
unfolding opened
another_base = refl

frames_of_others : (with_word (in_frame FRAME_MAGIC_WORD) 0 ≡ None) × (with_word (in_frame FRAME_ORDINAL_WORD) 1 ≡ None)
unfolding opened
frames_of_others = (refl, refl)

next_serials : (with_word (in_frame NEXT_SERIAL_WORD) 0 ≡ None) × (with_word (in_frame NEXT_SERIAL_WORD) 2 ≡ None)
unfolding opened
next_serials = (refl, refl)

-- words without a meaning are 0: in the header, after the fields, and in a free slot
other_words : (with_word (in_frame (ROOT_WORD + 1)) 1 ≡ None) × (with_word (in_slot 0 (SLOT_FIELDS_WORD + 2)) 1 ≡ None) × (with_word (in_slot 61 SLOT_TYPE_WORD) 1 ≡ None) × (with_word (in_slot 2 31) 1 ≡ None)
unfolding opened
other_words = (refl, refl, refl, refl)

serial_twice : with_word (in_slot 1 SLOT_SERIAL_WORD) 1 ≡ None
unfolding opened
serial_twice = refl

type_not_listed : with_word (in_slot 1 SLOT_TYPE_WORD) 2 ≡ None
unfolding opened
type_not_listed = refl

-- a pointer outside the bases, one into the middle of a slot, and one to a free slot
wild_pointers : (with_word (in_slot 0 (SLOT_FIELDS_WORD + 1)) (address_in_range 1 0) ≡ None) × (with_word (in_slot 0 (SLOT_FIELDS_WORD + 1)) (address 1 + 8) ≡ None) × (with_word (in_frame ROOT_WORD) (address 2) ≡ None)
unfolding opened
wild_pointers = (refl, refl, refl)

-- the header alone: with the greatest counts, with greater ones, and without a puddle
greatest_counts : (has_file_header (slice_index words) 2 64 16 ≡ true) × (has_file_header (slice_index words) 2 65 16 ≡ false) × (has_file_header (slice_index words) 2 64 17 ≡ false) × (has_file_header (slice_index words) 2 64 0 ≡ false)
greatest_counts = (refl, refl, refl, refl)

-- ---- two puddles

-- a pool of two puddles; the root and one pointer stand over its bases, and the other pointers over the old bases
abbrev two : Stored
two = moved 2 (address_in_range 2 0) (address_in_range 2 0) of_both of_both

-- only the first puddle has a next serial and a root
headers_written : (exported_header two 0 ≡ FRAME_MAGIC ∷ 7 ∷ 0 ∷ 4 ∷ address_in_range 2 0 ∷ replicate 59 0) × (exported_header two 1 ≡ FRAME_MAGIC ∷ 8 ∷ 1 ∷ 0 ∷ 0 ∷ replicate 59 0)
unfolding opened
headers_written = (refl, refl)

-- a slot of the second puddle, over the pool's bases
slot_written : exported_slot types two (place_at 1 0) ≡ 3 ∷ 1 ∷ 30 ∷ address_in_range 2 0 ∷ replicate 28 0
unfolding opened
slot_written = refl

-- the header of the second puddle, with one word changed
abbrev header_with : (k v : ℕ) → Image
header_with k v = slice_index (set (exported_header two 1) k v)

second_header :
    (is_zero (header_with FRAME_NUMBER_WORD 5) (header_words_read 1) 64 ≡ true)
    × (is_zero (header_with NEXT_SERIAL_WORD 4) (header_words_read 1) 64 ≡ false)
    × (is_zero (header_with ROOT_WORD (address_in_range 2 0)) (header_words_read 1) 64 ≡ false)
unfolding opened
second_header = (refl, refl, refl)

-- a puddle in a range
abbrev puddle_in : (range : ℕ) → Puddle
puddle_in range = record { number = 5; base = base_at range; old_base = base_at 0; frontier = 63; class = 0 }

bases_apart : (are_file_bases (puddle_in 1 ∷ puddle_in 0 ∷ puddle_in 2 ∷ []) ≡ true) × (are_file_bases (puddle_in 1 ∷ puddle_in 0 ∷ puddle_in 1 ∷ []) ≡ false)
unfolding opened
bases_apart = (refl, refl)

-- ---- types

ascending_types : (are_file_types ((1, 8589934594) ∷ (3, 8589934594) ∷ []) ≡ true) × (are_file_types ((3, 8589934594) ∷ (1, 8589934594) ∷ []) ≡ false) × (are_file_types ((1, 8589934594) ∷ (1, 8589934594) ∷ []) ≡ false)
ascending_types = (refl, refl, refl)

-- the file of one puddle in which no object was made, with these types listed
abbrev empty_words : List (ℕ × ℕ) → List ℕ
empty_words listed = exported_words 7 4 types listed (record { puddles = record { number = 5; base = base_at 0; old_base = base_at 0; frontier = 63; class = 0 } ∷ []; word = λ o. fresh 5 0 })

no_types : contents_of (empty_words []) ≡ Some (record { types = []; classes = 0 ∷ []; graph = empty_graph })
unfolding opened
no_types = refl

-- a type may be listed only if an object has it
type_not_used : contents_of (empty_words types) ≡ None
unfolding opened
type_not_used = refl
