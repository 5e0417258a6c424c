-- The geometry of a puddle, by its class: its slots, their words and its steps. Also the places of a pool, at which its
-- slots are.
use Rattle.std.specs.Prelude.{◌≡◌, ℕ, ◌+◌, ◌*◌, ◌/◌, ◌%◌, Bool, ◌==◌, nat_le, nat_lt, cond, List, count_by}
use Rattle.pud_defs.specs.declared.layout.TheConstants.{ENTRY_HEADER_WORDS, SET_UNITS}
use Rattle.pud_defs.specs.declared.space.TheConstants.{FRAME_HEADER_WORDS, LARGE, SMALL, MAX_SMALL_FIELDS, CLASSES, LARGE_SLOTS, LARGE_SLOT_WORDS, SMALL_SLOTS, SMALL_SLOT_WORDS, MAX_SLOTS}
use Rattle.pud_defs.specs.declared.records.Puddle.{Puddle}
use Rattle.pud_defs.specs.declared.records.Slot.{Slot}

-- ---- a class

-- How many slots a puddle of a class has. A number that is no class counts as the large one.
unfoldable pub class_slots : (class : ℕ) → ℕ
class_slots class = cond (class == SMALL) SMALL_SLOTS LARGE_SLOTS

-- how many words each of its slots has
unfoldable pub class_slot_words : (class : ℕ) → ℕ
class_slot_words class = cond (class == SMALL) SMALL_SLOT_WORDS LARGE_SLOT_WORDS

-- the word of its frame at which a slot begins
unfoldable pub class_slot_at : (class slot : ℕ) → ℕ
class_slot_at class slot = FRAME_HEADER_WORDS + class_slot_words class * slot

-- how many steps it has: its header, and each of its slots
abbrev pub class_steps : (class : ℕ) → ℕ
class_steps class = class_slots class + 1

-- the class of the puddles in which objects with this many fields are made
unfoldable pub class_for : (fields : ℕ) → ℕ
class_for fields = cond (nat_le fields MAX_SMALL_FIELDS) SMALL LARGE

-- how many units it takes to make an object in a puddle of a class: an entry of a slot's words, and one of the next serial
abbrev pub new_units : (class : ℕ) → ℕ
new_units class = ENTRY_HEADER_WORDS + class_slot_words class + SET_UNITS

-- ---- one puddle

-- how many slots a puddle has
abbrev pub slots_of : Puddle → ℕ
slots_of puddle = class_slots puddle.class

-- how many words each of its slots has
abbrev pub slot_words_of : Puddle → ℕ
slot_words_of puddle = class_slot_words puddle.class

-- how many steps a puddle has
abbrev pub steps_of : Puddle → ℕ
steps_of puddle = class_steps puddle.class

-- a device may have puddles of its class
abbrev pub is_legal_class : Puddle → Bool
is_legal_class puddle = nat_lt puddle.class CLASSES

-- at most all of its steps are rewritten
abbrev pub is_legal_frontier : Puddle → Bool
is_legal_frontier puddle = nat_le puddle.frontier (steps_of puddle)

-- all its steps are rewritten, so each of its pointers stands over the pool's bases
abbrev pub is_finished : Puddle → Bool
is_finished puddle = puddle.frontier == steps_of puddle

-- the same as a fact
abbrev pub IsFinished : Puddle → Type 0
IsFinished puddle = puddle.frontier ≡ steps_of puddle

-- the word of its frame at which a slot begins
abbrev pub slot_at : Puddle → (slot : ℕ) → ℕ
slot_at puddle slot = class_slot_at puddle.class slot

-- the same, given the slot as a `Slot`
abbrev pub slot_begins : Slot → ℕ
slot_begins s = class_slot_at s.class s.slot

-- ---- the places of a pool

-- Places are counted over the pool's puddles by their ordinals. Each puddle has as many places as the puddle with the
-- most slots, whatever its class. So a place gives the ordinal and the slot. A place after the last slot of its puddle
-- is no slot.

-- the ordinal of the puddle that a place lies in
abbrev pub ordinal_of : ℕ → ℕ
ordinal_of place = place / MAX_SLOTS

-- the slot of that puddle at which the place lies
abbrev pub slot_of : ℕ → ℕ
slot_of place = place % MAX_SLOTS

-- the place of a slot in the puddle of an ordinal
abbrev pub place_at : (ordinal slot : ℕ) → ℕ
place_at ordinal slot = MAX_SLOTS * ordinal + slot

-- how many places a pool of this many puddles has
abbrev pub places_among : ℕ → ℕ
places_among puddles = MAX_SLOTS * puddles

-- how many slots of a class a pool has whose puddles are of these classes
abbrev pub slots_among : (class : ℕ) → (classes : List ℕ) → ℕ
slots_among class classes = class_slots class * count_by (λ c. c == class) classes
