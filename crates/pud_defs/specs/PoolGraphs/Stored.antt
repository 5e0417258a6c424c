-- What is read of a pool: the records of its puddles, and the words of their frames.
use Rattle.std.specs.Prelude.{◌≡◌, ◌≢◌, Bool, not, ◌==◌, ℕ, ◌+◌, ◌<◌, ◌≤◌, nat_lt, cond, List, map, length, slice_get, Option, Some, None, All}
use Rattle.pud_defs.specs.declared.layout.TheConstants.{FRAME_WORDS}
use Rattle.pud_defs.specs.declared.space.TheConstants.{LARGE, SLOT_SERIAL_WORD}
use Rattle.pud_defs.specs.declared.records.TheConstants.{MAX_PUDDLES}
use Rattle.pud_defs.specs.declared.records.Puddle.{Puddle}
use Rattle.pud_defs.specs.Formats.Geometry.{class_slots, class_slot_words, class_slot_at, ordinal_of, slot_of, places_among}
use Rattle.pud_defs.specs.Formats.Image.{Image}
use Rattle.pud_defs.specs.Formats.Frames.{frame_word}

-- The records of the puddles by their ordinals, and word k of the frame of ordinal o. They are kept apart, so a store
-- changes only the words.
pub record Stored : Type 0 where
  pub puddles : List Puddle
  pub word : ℕ → ℕ → ℕ

-- word k of a puddle's frame; 0 if there is no puddle, or after the last word of the frame
abbrev pub word_in_frame : ℕ → Image → ℕ → Option (ℕ × Puddle) → ℕ
word_in_frame F image k None = 0
word_in_frame F image k (Some at) = cond (nat_lt k FRAME_WORDS) (frame_word F at.0 k image) 0

-- what an image of a device with F frames stores in these puddles, which are given by their ordinals, each with its
-- frame
abbrev pub stored_in : ℕ → List (ℕ × Puddle) → Image → Stored
stored_in F at image = record { puddles = map (λ e. e.1) at; word = λ o k. word_in_frame F image k (slice_get at o) }

-- ---- places

-- how many places there are
abbrev pub places_of : Stored → ℕ
places_of st = places_among (length st.puddles)

-- the class of a puddle; the large one if there is no puddle
abbrev pub class_of : Option Puddle → ℕ
class_of None = LARGE
class_of (Some d) = d.class

-- the class of the puddle that a place lies in
abbrev pub class_at : Stored → ℕ → ℕ
class_at st p = class_of (slice_get st.puddles (ordinal_of p))

-- the place is a slot: that puddle has so many
abbrev pub is_slot : Stored → ℕ → Bool
is_slot st p = nat_lt (slot_of p) (class_slots (class_at st p))

-- the word of its frame at which the slot at a place begins
abbrev pub place_begins : Stored → ℕ → ℕ
place_begins st p = class_slot_at (class_at st p) (slot_of p)

-- how many words that slot has
abbrev pub place_words : Stored → ℕ → ℕ
place_words st p = class_slot_words (class_at st p)

-- word k of it
abbrev pub place_word : Stored → ℕ → ℕ → ℕ
place_word st p k = st.word (ordinal_of p) (place_begins st p + k)

-- the serial at a place; it is 0 if nothing lives there, and so if the place is no slot
abbrev pub place_serial : Stored → ℕ → ℕ
place_serial st p = cond (is_slot st p) (place_word st p SLOT_SERIAL_WORD) 0

-- ---- what a slot is

-- A slot is free, or an object lives in it.
pub record SlotState : Type 0 where
  pub is_free : Bool
  pub is_live : Bool

-- the state of a slot, given the word of its serial, which is 0 if the slot is free
abbrev pub slot_state : (serial : ℕ) → SlotState
slot_state serial = record { is_free = serial == 0; is_live = not (serial == 0) }

-- nothing lives at a place
abbrev pub IsFreePlace : Stored → ℕ → Type 0
IsFreePlace st p = place_serial st p ≡ 0

-- an object lives there
abbrev pub IsLivePlace : Stored → ℕ → Type 0
IsLivePlace st p = place_serial st p ≢ 0

-- ---- on a device

-- Puddles by their ordinals, each with its frame, as they are read: at most as many as a pool may have, in frames of
-- the device.
pub record IsOnDevice (F : ℕ) (at : List (ℕ × Puddle)) : Type 0 where
  pub few : length at ≤ MAX_PUDDLES
  pub frames : All (λ e. e.0 < F) at
