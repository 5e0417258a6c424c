-- The undo scope of a transaction on words: what its entries may name, and which words are its own.
use Rattle.std.specs.Prelude.{◌≡◌, ◌⊎◌, ℕ, ◌+◌, ◌*◌, ◌^◌, ◌<◌, ◌≤◌, Bool, true, false, List, [], ◌∷◌, length, Option, Some, None}
use Rattle.std.specs.List.{filter}
use Rattle.pm_model.specs.Words.{Words, HasOnly}
use Rattle.pud_defs.specs.declared.log_words.TheConstants.{UNDO_SEQ, UNDO_ORDER, REDO_SEQ, REDO_ORDER, RUNNING_LO, RUNNING_HI, COMMITTING_LO, COMMITTING_HI}
use Rattle.pud_defs.specs.declared.space.TheConstants.{WORD_BYTES}
use Rattle.pud_defs.specs.Formats.Image.{Image}
use Rattle.pud_defs.specs.Logging.Entries.{Entry, Log, entries_of}
use Rattle.pud_defs.specs.Logging.Replay.{AddressMap, value_in, undo_value, redo_value, entries_or_none, overwritten, is_in_log}
use Rattle.log_store.specs.Store.{is_redo}

-- Which word an address names. Which words an entry may name, by its address and its number of values. Which words are
-- the transaction's own.
pub record Scope : Type 0 where
  pub place : AddressMap
  pub may_name : (address count : ℕ) → Bool
  pub has_word : ℕ → Bool

-- The `count` words from that of an address on, at least one, lie within the device and are the transaction's own. As
-- their addresses follow each other, so do the words.
pub record Spans (size : ℕ) (g : Scope) (address count : ℕ) : Type 0 where
  pub some : 1 ≤ count
  pub first : ℕ
  pub placed : g.place address ≡ Some first
  pub fits : address + WORD_BYTES * count ≤ 2 ^ 64
  pub each : (i : ℕ) → i < count → g.place (address + WORD_BYTES * i) ≡ Some (first + i)
  pub within : first + count ≤ size
  pub own : (k : ℕ) → first ≤ k → k < first + count → g.has_word k ≡ true

-- Entries may name only words of the scope. None of these is a word of the log, whose gate is word `at`.
pub record IsScope (size at : ℕ) (g : Scope) : Type 0 where
  pub named : (address count : ℕ) → g.may_name address count ≡ true → Spans size g address count
  pub apart : (k : ℕ) → g.has_word k ≡ true → is_in_log at k ≡ false

-- ---- a scope that gets more words

-- in the wide scope entries may name all that they may name in the other
abbrev pub MayNameAll : (g wide : Scope) → Type 0
MayNameAll g wide = (address count : ℕ) → g.may_name address count ≡ true → wide.may_name address count ≡ true

-- it is at the same places
abbrev pub HasSamePlaces : (g wide : Scope) → Type 0
HasSamePlaces g wide = (address count : ℕ) → g.may_name address count ≡ true → wide.place address ≡ g.place address

-- the wide scope has all words of the other
abbrev pub HasAllWords : (g wide : Scope) → Type 0
HasAllWords g wide = (k : ℕ) → g.has_word k ≡ true → wide.has_word k ≡ true

-- each new word has only one value, the one from the beginning
abbrev pub AreNewWordsFresh : (g wide : Scope) → (before : Image) → Words → Type 0
AreNewWordsFresh g wide before words = (k : ℕ) → wide.has_word k ≡ true → g.has_word k ≡ false → HasOnly (words k) (before k)

-- ---- entries

-- the entry of these parts
abbrev pub entry_of : (address seq order : ℕ) → List ℕ → Entry
entry_of address seq order vals = record { address = address; seq = seq; order = order; vals = vals }

-- the redo entry of the values that the words from that of an address on are to get
abbrev pub redo_entry : (address : ℕ) → List ℕ → Entry
redo_entry address vals = record { address = address; seq = REDO_SEQ; order = REDO_ORDER; vals = vals }

pub record IsUndo (e : Entry) : Type 0 where
  pub seq : e.seq ≡ UNDO_SEQ
  pub order : e.order ≡ UNDO_ORDER

pub record IsRedo (e : Entry) : Type 0 where
  pub seq : e.seq ≡ REDO_SEQ
  pub order : e.order ≡ REDO_ORDER

-- an entry in the scope: it has values that words of the scope had, or values that they are to get
pub record IsInScope (g : Scope) (e : Entry) : Type 0 where
  pub may : g.may_name e.address (length e.vals) ≡ true
  pub kind : IsUndo e ⊎ IsRedo e

-- ---- deferred values

-- those of the entries that have deferred values, the oldest first
abbrev pub deferred_entries : List Entry → List Entry
deferred_entries es = filter is_redo es

-- an image over which the values of entries are written one after the other, the oldest first
abbrev pub written_in_turn : AddressMap → List Entry → Image → Image
written_in_turn place [] image = image
written_in_turn place (e ∷ es) image = written_in_turn place es (overwritten (value_in place e) image)

-- ---- what entries give

-- the range of a running log, and that of a committing log
abbrev pub running_range : Log
running_range = record { lo = RUNNING_LO; hi = RUNNING_HI; entries = None }

abbrev pub committing_range : Log
committing_range = record { lo = COMMITTING_LO; hi = COMMITTING_HI; entries = None }

-- the value of a word that the undo entries save
abbrev pub saved : AddressMap → List Entry → ℕ → Option ℕ
saved place es k = undo_value place running_range es k

-- the value that the redo entries give to a word
abbrev pub pending : AddressMap → List Entry → ℕ → Option ℕ
pending place es k = redo_value place committing_range es k

-- the same for the log whose gate is word `at`, as an image spells it
abbrev pub saved_in : AddressMap → (at : ℕ) → Image → ℕ → Option ℕ
saved_in place at image k = saved place (entries_or_none (entries_of image at)) k

abbrev pub pending_in : AddressMap → (at : ℕ) → Image → ℕ → Option ℕ
pending_in place at image k = pending place (entries_or_none (entries_of image at)) k
