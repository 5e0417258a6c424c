-- A log in which device words replace the addresses.
use Rattle.std.specs.Prelude.{ℕ, ◌+◌, ◌≤◌, cond, List, All, map, IsTrue, length, Option, option_map, unwrap_or}
use Rattle.pud_defs.specs.Logging.Entries.{Entry, Log}
use Rattle.pud_defs.specs.Formats.Frames.{frame_at}
use Rattle.pud_defs.specs.Logging.Replay.{AddressMap, is_in_range}
use Rattle.log_entry.specs.Copying.{with_address}
use Rattle.log_replay.specs.declared.TheConstants.{NO_WORD}

-- the number of the device word that is this word of a frame
abbrev pub word_at : (F : ℕ) → ℕ × ℕ → ℕ
word_at F at = frame_at F at.0 + at.1

-- the number of a word, or `NO_WORD` if there is none
abbrev pub word_or_none : Option ℕ → ℕ
word_or_none o = unwrap_or o NO_WORD

-- the entry; if it counts, its address is the first device word that it names
unfoldable pub placed_entry : AddressMap → Log → Entry → Entry
placed_entry place log e = cond (is_in_range log e) (with_address (word_or_none (place e.address)) e) e

-- the log with each of its entries changed like this
abbrev pub placed_log : AddressMap → Log → Log
placed_log place log = record log { entries = option_map (map (placed_entry place log)) log.entries }

-- the words from the address of an entry on, as many as it has values, are words of a device of this size
abbrev pub IsWithinDevice : (size : ℕ) → Entry → Type 0
IsWithinDevice size e = e.address + length e.vals ≤ size

-- this holds for each entry that counts
abbrev pub AreWithinDevice : (size : ℕ) → Log → List Entry → Type 0
AreWithinDevice size log es = All (λ e. IsTrue (is_in_range log e) → IsWithinDevice size e) es
