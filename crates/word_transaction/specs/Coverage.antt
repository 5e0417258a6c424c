-- Which words the undo entries of a log already cover, told by addresses alone.
use Rattle.std.specs.Prelude.{◌≡◌, ℕ, ◌+◌, ◌-◌, ◌*◌, ◌/◌, ◌%◌, ◌<◌, Bool, false, ◌&&◌, ◌||◌, nat_le, nat_lt, ◌==◌, cond, List, length, slice_index_or}
use Rattle.std.specs.List.{list_any}
use Rattle.pud_defs.specs.declared.layout.TheConstants.{ENTRY_HEADER_WORDS}
use Rattle.pud_defs.specs.declared.log_words.TheConstants.{UNDO_ORDER}
use Rattle.pud_defs.specs.declared.space.TheConstants.{WORD_BYTES}
use Rattle.pud_defs.specs.Logging.Entries.{Entry}
use Rattle.pud_defs.specs.RegistryTables.Spaces.{all_below}

-- the entry is an undo entry, and one of its values is that of the word of this address
abbrev pub covers : (address : ℕ) → Entry → Bool
covers address e =
    e.order == UNDO_ORDER && nat_le e.address address && ((address - e.address) % WORD_BYTES) == 0 && nat_lt ((address - e.address) / WORD_BYTES) (length e.vals)

-- one of the entries covers the word of this address
abbrev pub is_covered : List Entry → (address : ℕ) → Bool
is_covered es address = list_any (covers address) es

-- each of the `count` words from that of an address on is covered
abbrev pub are_covered : List Entry → (address count : ℕ) → Bool
are_covered es address count = all_below count (λ i. is_covered es (address + WORD_BYTES * i))

-- how many entry words it takes to save the `count` words from that of an address on: those of one entry, or none if
-- each word is covered
abbrev pub words_to_keep : List Entry → (address count : ℕ) → ℕ
words_to_keep es address count = cond (are_covered es address count) 0 (count + ENTRY_HEADER_WORDS)

-- how many it takes to save so many words from that of an address on, and the word of another address
abbrev pub words_to_keep_both : List Entry → (address count other : ℕ) → ℕ
words_to_keep_both es address count other = words_to_keep es address count + words_to_keep es other 1

-- ---- found by one pass over the entries

-- whether the word with this number is marked, in a row of words
abbrev pub is_marked : List Bool → (i : ℕ) → Bool
is_marked marks i = slice_index_or marks i false

-- Of the `count` words from that of an address on, those are marked that were marked before and those that the entry
-- covers.
pub record MarksCovered (address count : ℕ) (e : Entry) (old new : List Bool) : Type 0 where
  pub each : (i : ℕ) → i < count → is_marked new i ≡ (is_marked old i || covers (address + WORD_BYTES * i) e)
