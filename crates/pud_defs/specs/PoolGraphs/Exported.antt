-- What an export writes of a pool into its file.
use Rattle.std.specs.Prelude.{◌≡◌, ℕ, ◌+◌, ◌-◌, ◌≤◌, true, ◌==◌, cond, List, [], ◌∷◌, ◌++◌, map, length, slice_get, flat_map, replicate, Option, Some, None}
use Rattle.std.specs.List.{range_with_len}
use Rattle.pud_defs.specs.declared.layout.TheConstants.{TYPE_RECORDS}
use Rattle.pud_defs.specs.declared.space.TheConstants.{FRAME_MAGIC, FRAME_HEADER_WORDS, SLOT_SERIAL_WORD, SLOT_TYPE_WORD, SLOT_FIELDS_WORD}
use Rattle.pud_defs.specs.declared.records.TheConstants.{MAX_PUDDLES}
use Rattle.pud_defs.specs.declared.records.Puddle.{Puddle}
use Rattle.pud_defs.specs.declared.files.TheConstants.{FILE_MAGIC, FILE_VERSION}
use Rattle.pud_defs.specs.Formats.TypeMap.{is_pointer}
use Rattle.pud_defs.specs.Formats.Geometry.{class_slots, ordinal_of, slot_of, place_at}
use Rattle.pud_defs.specs.PoolGraphs.Stored.{Stored, class_of, place_words, place_word, place_serial, slot_state}
use Rattle.pud_defs.specs.PoolGraphs.Graph.{Content, Number, Null, At, Nowhere, slot_address, pointee_at, field_count, place_map, next_serial_of, root_of}
use Rattle.pud_defs.specs.PoolGraphs.ExportFile.{are_file_types, are_file_bases, are_file_classes}

-- ---- pointers

-- the address of a slot of a puddle, if there is the puddle; else 0
abbrev pub address_in : Option Puddle → (slot : ℕ) → ℕ
address_in None slot = 0
address_in (Some d) slot = slot_address d slot

-- the word that stands for this content over the pool's bases
abbrev pub address_of : List Puddle → Content → ℕ
address_of puddles (Number v) = 0
address_of puddles Null = 0
address_of puddles (At q) = address_in (slice_get puddles (ordinal_of q)) (slot_of q)
address_of puddles Nowhere = 0

-- ---- slots

-- the word of a field: a pointer over the pool's bases, whatever bases it is stored over, and a number unchanged
abbrev pub exported_value : List Puddle → (map place field v : ℕ) → ℕ
exported_value puddles m p f v = cond (is_pointer m f) (address_of puddles (pointee_at puddles (ordinal_of p) (slot_of p + 1) v)) v

abbrev pub exported_field : Stored → (map place field : ℕ) → ℕ
exported_field st m p f = exported_value st.puddles m p f (place_word st p (SLOT_FIELDS_WORD + f))

-- an object, given the map of its type: its serial, its type and its fields, and then 0
abbrev pub exported_object : Stored → (place : ℕ) → Option ℕ → List ℕ
exported_object st p None = replicate (place_words st p) 0
exported_object st p (Some m) =
    place_word st p SLOT_SERIAL_WORD ∷ place_word st p SLOT_TYPE_WORD
    ∷ (map (exported_field st m p) (range_with_len 0 (field_count m)) ++ replicate (place_words st p - SLOT_FIELDS_WORD - field_count m) 0)

-- the slot at a place: all 0 if it is free
unfoldable pub exported_slot : List (ℕ × ℕ) → Stored → (place : ℕ) → List ℕ
exported_slot types st p =
    cond (slot_state (place_serial st p)).is_free (replicate (place_words st p) 0) (exported_object st p (place_map types st p))

-- ---- frames

abbrev pub uuid_number_of : Option Puddle → ℕ
uuid_number_of None = 0
uuid_number_of (Some d) = d.number

-- a word that only ordinal 0 has; in other ordinals it is 0
abbrev pub for_pool : (ordinal v : ℕ) → ℕ
for_pool o v = cond (o == 0) v 0

unfoldable pub exported_header : Stored → (ordinal : ℕ) → List ℕ
exported_header st o =
    FRAME_MAGIC ∷ uuid_number_of (slice_get st.puddles o) ∷ o ∷ for_pool o (next_serial_of st) ∷ for_pool o (address_of st.puddles (root_of st))
    ∷ replicate (FRAME_HEADER_WORDS - 5) 0

unfoldable pub exported_frame : List (ℕ × ℕ) → Stored → (ordinal : ℕ) → List ℕ
exported_frame types st o = exported_header st o ++ flat_map (λ s. exported_slot types st (place_at o s)) (range_with_len 0 (class_slots (class_of (slice_get st.puddles o))))

-- ---- the file

abbrev pub type_words : ℕ × ℕ → List ℕ
type_words t = t.0 ∷ t.1 ∷ []

-- The words of the file that the machine with this id writes for the pool with this UUID number. Slots are read by the
-- defined types, and the types that are used are listed.
unfoldable pub exported_words : (machine number : ℕ) → (types used : List (ℕ × ℕ)) → Stored → List ℕ
exported_words machine number types used st =
    FILE_MAGIC ∷ FILE_VERSION ∷ length used ∷ length st.puddles ∷ machine ∷ number ∷ 0 ∷ 0
    ∷ (flat_map type_words used ++ (map (λ d. d.base) st.puddles ++ map (λ d. d.class) st.puddles ++ flat_map (exported_frame types st) (range_with_len 0 (length st.puddles))))

-- ---- what can be written so

-- The types and the puddles fit into a file and are legal there. In sound tables they are.
pub record IsExportable (types : List (ℕ × ℕ)) (st : Stored) : Type 0 where
  pub few_types : length types ≤ TYPE_RECORDS
  pub legal_types : are_file_types types ≡ true
  pub some : 1 ≤ length st.puddles
  pub few : length st.puddles ≤ MAX_PUDDLES
  pub legal_bases : are_file_bases st.puddles ≡ true
  pub legal_classes : are_file_classes st.puddles ≡ true
