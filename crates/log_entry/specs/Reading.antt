-- How far a log has been read, which entry comes next, and which entries are left.
use Rattle.std.specs.Prelude.{◌≡◌, ℕ, ◌+◌, ◌-◌, ◌≤◌, ◌&&◌, nat_le, cond, List, [], ◌∷◌, length, Option, Some, None, option_map}
use Rattle.pud_defs.specs.declared.layout.TheConstants.{LOG_HEADER_WORDS, LOG_ENTRY_WORDS, ENTRY_HEADER_WORDS, MAX_ENTRY_VALUES}
use Rattle.pud_defs.specs.Formats.Image.{Image}
use Rattle.pud_defs.specs.Logging.Entries.{Entry, gate_used, is_legal_gate, spelled, words_from, first_entry, entries_in}
use Rattle.log_entry.specs.declared.Entry.{Entry as Found}

-- the number of the word that is the log's gate, and how many entry words have been read
pub record Reading : Type 0 where
  pub log_at : ℕ
  pub passed : ℕ

-- the entry words that the gate counts and that have not been read
abbrev pub words_left : Image → Reading → List ℕ
words_left image r = words_from image (r.log_at + LOG_HEADER_WORDS + r.passed) (gate_used (image r.log_at) - r.passed)

-- the entry that comes next; none if the gate counts more words than a log has
abbrev pub entry_next : Image → Reading → Option Entry
entry_next image r = cond (nat_le (gate_used (image r.log_at)) LOG_ENTRY_WORDS) (first_entry (words_left image r)) None

-- The words that spell the entry follow those that have been read. The gate counts them, and it counts no more words
-- than a log has.
pub record StandsNext (image : Image) (r : Reading) (e : Entry) : Type 0 where
  pub words : words_from image (r.log_at + LOG_HEADER_WORDS + r.passed) (length e.vals + ENTRY_HEADER_WORDS) ≡ spelled e
  pub counted : r.passed + (length e.vals + ENTRY_HEADER_WORDS) ≤ gate_used (image r.log_at)
  pub within : gate_used (image r.log_at) ≤ LOG_ENTRY_WORDS

-- the entries that are left to read, if the gate is legal and the words left spell whole entries and nothing else
unfoldable pub entries_left : Image → Reading → Option (List Entry)
entries_left image r = cond (is_legal_gate (image r.log_at)) (entries_in 0 (words_left image r)) None

-- an entry that was found in an image, with its values
abbrev pub entry_from : Image → Found → Entry
entry_from image e = record { address = e.addr; seq = e.seq; order = e.order; vals = words_from image e.at e.n }

-- The entry found follows the words that had been read, lies within the log, and has been read now.
pub record PassesOne (e : Found) (old new : Reading) : Type 0 where
  pub same_log : new.log_at ≡ old.log_at
  pub at : e.at ≡ old.log_at + LOG_HEADER_WORDS + old.passed + ENTRY_HEADER_WORDS
  pub some : 1 ≤ e.n
  pub no_more : e.n ≤ MAX_ENTRY_VALUES
  pub passed : new.passed ≡ old.passed + (ENTRY_HEADER_WORDS + e.n)
  pub within : new.passed ≤ LOG_ENTRY_WORDS

-- The reader has passed the entry that was found. If none was found, the reader stays where it was.
abbrev pub Passes : Option Found → Reading → Reading → Type 0
Passes None old new = new ≡ old
Passes (Some e) old new = PassesOne e old new

-- The entries that were left before a reader found this entry and came to where it is now: the entry found, and then
-- those left now. If it found none, the gate is legal, and all words that count have been read, no entry was left. If
-- it found none otherwise, the words left spell no whole entries.
abbrev pub left_before : Image → Option Found → Reading → Option (List Entry)
left_before image None now = cond (is_legal_gate (image now.log_at) && nat_le (gate_used (image now.log_at)) now.passed) (Some []) None
left_before image (Some e) now = option_map (λ es. entry_from image e ∷ es) (entries_left image now)
