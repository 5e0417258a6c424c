-- A log that was copied from a device, read as an image of its own.
use Rattle.std.specs.Prelude.{ℕ, ◌+◌, ◌-◌, ◌≤◌, ◌==◌, nat_lt, cond, List, length, slice_index}
use Rattle.pud_defs.specs.declared.layout.TheConstants.{LOG_HEADER_WORDS, ENTRY_HEADER_WORDS}
use Rattle.pud_defs.specs.Formats.Image.{Image}
use Rattle.pud_defs.specs.Logging.Entries.{Entry, Log, log_of}
use Rattle.log_entry.specs.declared.Entry.{Entry as Found}

-- the gate of a log, and its entry words from the first on
pub record Copied : Type 0 where
  pub gate : ℕ
  pub words : List ℕ

-- The copy as an image. Its log begins at word 0, which is the gate. So what is stated about the log of an image also
-- holds for a copy.
abbrev pub image_of_copy : Copied → Image
image_of_copy c k = cond (k == 0) c.gate (cond (nat_lt k LOG_HEADER_WORDS) 0 (slice_index c.words (k - LOG_HEADER_WORDS)))

-- the log that a copy spells
abbrev pub log_copied : Copied → Log
log_copied c = log_of (image_of_copy c) 0

-- the entry and its values lie within the words of the copy
pub record IsOfCopy (c : Copied) (e : Found) : Type 0 where
  pub after_header : LOG_HEADER_WORDS + ENTRY_HEADER_WORDS ≤ e.at
  pub within : e.at + e.n ≤ LOG_HEADER_WORDS + length c.words

-- the entry with another address
abbrev pub with_address : ℕ → Entry → Entry
with_address address e = record { address = address; seq = e.seq; order = e.order; vals = e.vals }
