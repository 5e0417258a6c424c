-- What replaying a log makes of an image.
use Rattle.std.specs.Prelude.{ℕ, ◌+◌, ◌-◌, ◌<◌, ◌≤◌, Bool, ◌&&◌, nat_le, nat_lt, ◌==◌, cond, List, [], ◌∷◌, slice_get, Option, Some, None, unwrap_or}
use Rattle.std.specs.Option.{option_or}
use Rattle.pud_defs.specs.declared.layout.TheConstants.{LOG_WORDS}
use Rattle.pud_defs.specs.declared.log_words.TheConstants.{UNDO_ORDER, REDO_ORDER}
use Rattle.pud_defs.specs.Formats.Image.{Image}
use Rattle.pud_defs.specs.Logging.Entries.{Entry, Log, log_of}

-- the device word that an address names, if it names one
abbrev pub AddressMap : Type 0
AddressMap = ℕ → Option ℕ

-- in the daemon log an address is the number of a device word
abbrev pub device_word : AddressMap
device_word address = Some address

-- the entry counts: its sequence number lies between the ends of the log's range
abbrev pub is_in_range : Log → Entry → Bool
is_in_range log e = nat_lt log.lo e.seq && nat_lt e.seq log.hi

-- the value that these values give to word w, if they are placed from a word on
abbrev pub value_at : ℕ → List ℕ → ℕ → Option ℕ
value_at at vals w = cond (nat_le at w) (slice_get vals (w - at)) None

-- the same, if there is such a word
abbrev pub value_from : Option ℕ → List ℕ → ℕ → Option ℕ
value_from None vals w = None
value_from (Some at) vals w = value_at at vals w

-- the value that an entry gives to a word, if it names it
abbrev pub value_in : AddressMap → Entry → ℕ → Option ℕ
value_in place e w = value_from (place e.address) e.vals w

-- the same, if the entry counts and has this order
abbrev pub given_by : AddressMap → Log → ℕ → Entry → ℕ → Option ℕ
given_by place log order e w = cond (is_in_range log e && e.order == order) (value_in place e w) None

-- what the undo entries give: the first that names the word decides
unfoldable pub undo_value : AddressMap → Log → List Entry → ℕ → Option ℕ
undo_value place log [] w = None
undo_value place log (e ∷ es) w = option_or (given_by place log UNDO_ORDER e w) (undo_value place log es w)

-- what the redo entries give: the last that names the word decides
unfoldable pub redo_value : AddressMap → Log → List Entry → ℕ → Option ℕ
redo_value place log [] w = None
redo_value place log (e ∷ es) w = option_or (redo_value place log es w) (given_by place log REDO_ORDER e w)

-- what entries give to a word: a redo entry's value, else an undo entry's
abbrev pub given : AddressMap → Log → List Entry → ℕ → Option ℕ
given place log es w = option_or (redo_value place log es w) (undo_value place log es w)

-- a log that is not well formed has no entry to apply
abbrev pub entries_or_none : Option (List Entry) → List Entry
entries_or_none None = []
entries_or_none (Some es) = es

-- the value that a log gives to a word, if it names it
unfoldable pub new_value : AddressMap → Log → ℕ → Option ℕ
new_value place log w = given place log (entries_or_none log.entries) w

-- what two writes give to words, one after the other: if both give a value, the later one counts
abbrev pub over : (ℕ → Option ℕ) → (ℕ → Option ℕ) → ℕ → Option ℕ
over first later w = option_or (later w) (first w)

-- the image with these values written over it
abbrev pub overwritten : (ℕ → Option ℕ) → Image → Image
overwritten write image w = unwrap_or (write w) (image w)

-- the image with a log replayed
abbrev pub replayed : AddressMap → Log → Image → Image
replayed place log image = overwritten (new_value place log) image

-- the word belongs to the log whose gate is word `at`
pub record IsInLog (at k : ℕ) : Type 0 where
  pub low : at ≤ k
  pub high : k < at + LOG_WORDS

-- the same as a test
abbrev pub is_in_log : ℕ → ℕ → Bool
is_in_log at w = nat_le at w && nat_lt w (at + LOG_WORDS)

-- The image with the log at this word replayed, whose addresses are numbers of device words. The words of that log
-- become 0, because they are for replay alone.
unfoldable pub settled_by : ℕ → Image → Image
settled_by at image w = cond (is_in_log at w) 0 (replayed device_word (log_of image at) image w)

-- the image with 0 in the words of that log
abbrev pub beside_log : ℕ → Image → Image
beside_log at image w = cond (is_in_log at w) 0 (image w)
