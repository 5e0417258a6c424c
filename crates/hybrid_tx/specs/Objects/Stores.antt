-- Which words are stored for what is set or made.
use Rattle.std.specs.Prelude.{◌≡◌, ◌⊎◌, ℕ, ◌+◌, ◌-◌, ◌==◌, cond, List, [], ◌∷◌, map, replicate, Option, Some, None, option_map}
use Rattle.pm_model.specs.Changes.{Footprint, Write, placed}
use Rattle.pud_defs.specs.declared.space.TheConstants.{SLOT_FIELDS_WORD, NEXT_SERIAL_WORD, ROOT_WORD}
use Rattle.pud_defs.specs.declared.records.Puddle.{Puddle}
use Rattle.pud_defs.specs.declared.records.Slot.{Slot}
use Rattle.pud_defs.specs.declared.objects.FieldValue.{FieldValue}
use Rattle.pud_defs.specs.declared.objects.FieldValue.TheVariants.{Num, Ref}
use Rattle.pud_defs.specs.Formats.Geometry.{class_slot_words, slot_begins}
use Rattle.pud_defs.specs.Formats.Image.{Image}
use Rattle.pud_defs.specs.Formats.Frames.{frame_at}
use Rattle.pud_defs.specs.Logging.Replay.{over, IsInLog}
use Rattle.pud_defs.specs.PoolGraphs.Graph.{At}
use Rattle.pud_defs.specs.PoolGraphs.Exported.{address_of}
use Rattle.puddle_header.specs.Places.{place_of_slot}
use Rattle.graph_read.specs.Reading.{place_in_pool}

-- the address of the slot at a place, over the pool's bases
abbrev pub address_at : List (ℕ × Puddle) → ℕ → ℕ
address_at at p = address_of (map (λ e. e.1) at) (At p)

-- the word that stands for a value: the number itself, 0 for null, or the address of the serial's object, if there is
-- one
abbrev pub word_for : (F : ℕ) → List (ℕ × Puddle) → Image → FieldValue → Option ℕ
word_for F at image (Num v) = Some v
word_for F at image (Ref r) = cond (r == 0) (Some 0) (option_map (address_at at) (place_in_pool F at image r))

-- by this image of the pool, the object of the serial is in the slot
abbrev pub IsInSlot : (F : ℕ) → List (ℕ × Puddle) → Image → (s : ℕ) → Slot → Type 0
IsInSlot F at image s slot = place_in_pool F at image s ≡ Some (place_of_slot slot)

-- by this image of the pool, the word stands for the value
abbrev pub IsWordFor : (F : ℕ) → List (ℕ × Puddle) → Image → FieldValue → (word : ℕ) → Type 0
IsWordFor F at image x word = word_for F at image x ≡ Some word

-- the slot is that of the object of a serial, and the word is the one that stands for a value
abbrev pub IsPlaceAndWord : (F : ℕ) → List (ℕ × Puddle) → Image → (s : ℕ) → FieldValue → Slot × ℕ → Type 0
IsPlaceAndWord F at image s x found = (place_in_pool F at image s ≡ Some (place_of_slot found.0)) × (word_for F at image x ≡ Some found.1)

-- there is no such object, or no word that stands for the value
abbrev pub LacksPlaceOrWord : (F : ℕ) → List (ℕ × Puddle) → Image → (s : ℕ) → FieldValue → Type 0
LacksPlaceOrWord F at image s x = (place_in_pool F at image s ≡ None) ⊎ (word_for F at image x ≡ None)

-- the word of a frame that stores field f of a slot
abbrev pub field_word : Slot → (f : ℕ) → ℕ
field_word slot f = slot_begins slot + SLOT_FIELDS_WORD + f

-- what is written to set field f of a slot
abbrev pub field_write : (F : ℕ) → Slot → (f word : ℕ) → Write
field_write F slot f word = placed (frame_at F slot.frame + field_word slot f) (word ∷ [])

-- what is written to set the root, in the frame of ordinal 0
abbrev pub root_write : (F first word : ℕ) → Write
root_write F first word = placed (frame_at F first + ROOT_WORD) (word ∷ [])

-- the words of a new object in a slot of this many words: its serial, its type, and 0 in each field
unfoldable pub new_object_words : (words serial type_id : ℕ) → List ℕ
new_object_words words serial type_id = serial ∷ type_id ∷ replicate (words - SLOT_FIELDS_WORD) 0

-- what is written to make an object in a slot: the words of the slot, and the next serial, which is in the frame of
-- ordinal 0
abbrev pub new_object_write : (F first : ℕ) → Slot → (serial type_id : ℕ) → Write
new_object_write F first slot serial type_id =
    over (placed (frame_at F slot.frame + slot_begins slot) (new_object_words (class_slot_words slot.class) serial type_id)) (placed (frame_at F first + NEXT_SERIAL_WORD) ((serial + 1) ∷ []))

-- any value may be written to the words of the log whose gate is this word, and these values to the words from
-- another word on
abbrev pub ByPut : (at first : ℕ) → List ℕ → Footprint
ByPut at first vals k v = IsInLog at k ⊎ (placed first vals k ≡ Some v)

-- the same, and this value may be written to one more word
abbrev pub ByPutBoth : (at first : ℕ) → List ℕ → (second value : ℕ) → Footprint
ByPutBoth at first vals second value k v = IsInLog at k ⊎ (placed first vals k ≡ Some v) ⊎ (placed second (value ∷ []) k ≡ Some v)

-- any value may be written to the words of the log whose gate is this word, the words of a new object to the slot,
-- and the serial after its own to the word of the next serial
abbrev pub ByNewObject : (F at first : ℕ) → Slot → (serial type_id : ℕ) → Footprint
ByNewObject F at first slot serial type_id =
    ByPutBoth at (frame_at F slot.frame + slot_begins slot) (new_object_words (class_slot_words slot.class) serial type_id) (frame_at F first + NEXT_SERIAL_WORD) (serial + 1)
