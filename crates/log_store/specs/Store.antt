-- What the words of a device store of an open log, and how entries are appended to it.
use Rattle.std.specs.Prelude.{◌≡◌, ◌⊎◌, ℕ, ◌+◌, ◌≤◌, ◌<◌, Bool, true, ◌||◌, ◌==◌, cond, List, [], ◌∷◌, ◌++◌, length, Option, Some, None, option_map, Result, Ok, Err, IfOk}
use Rattle.std.specs.List.{list_any}
use Rattle.pm_model.specs.declared.host.HostFault.{HostFault}
use Rattle.pm_model.specs.Words.{Words, reads, Picks, HasOnly}
use Rattle.pm_model.specs.Moments.{State}
use Rattle.pm_model.specs.Changes.{Footprint, Changes, Leaves, Silently, Write, placed, written}
use Rattle.pud_defs.specs.declared.layout.TheConstants.{LOG_HEADER_WORDS, ENTRY_HEADER_WORDS}
use Rattle.pud_defs.specs.declared.log_words.TheConstants.{UNDO_SEQ, UNDO_ORDER, COMMITTING_LO, COMMITTING_HI, REDO_ORDER}
use Rattle.pud_defs.specs.Formats.Image.{Image}
use Rattle.pud_defs.specs.Logging.Entries.{Entry, Log, log_of, gate_word, spelled}
use Rattle.pud_defs.specs.Logging.Replay.{IsInLog}
use Rattle.log_store.specs.declared.AppendFault.{AppendFault}
use Rattle.log_store.specs.declared.AppendFault.TheVariants as faults

-- the number of the word that is the gate, the range, how many entry words count, and whether an entry with deferred
-- values was ever appended
pub record OpenLog : Type 0 where
  pub gate_at : ℕ
  pub lo : ℕ
  pub hi : ℕ
  pub used : ℕ
  pub defers : Bool

-- the entry has deferred values
abbrev pub is_redo : Entry → Bool
is_redo e = e.order == REDO_ORDER

-- one of the entries has deferred values
abbrev pub defers : List Entry → Bool
defers es = list_any is_redo es

-- one of the entries has deferred values, or `was` holds already
abbrev pub defers_with : List Entry → Bool → Bool
defers_with [] was = was
defers_with (e ∷ es) was = is_redo e || defers_with es was

-- the undo entry of the values that the words from that of an address on had
abbrev pub undo_entry : (address : ℕ) → List ℕ → Entry
undo_entry address vals = record { address = address; seq = UNDO_SEQ; order = UNDO_ORDER; vals = vals }

-- the log with this many more words that count, of entries without deferred values
abbrev pub with_words : ℕ → OpenLog → OpenLog
with_words words log = record log { used = log.used + words }

-- the log with this many more words that count, of an entry with deferred values
abbrev pub with_deferred_words : ℕ → OpenLog → OpenLog
with_deferred_words words log = record log { used = log.used + words; defers = true }

-- the log with this many more words that count, of these entries
abbrev pub with_entries : (words : ℕ) → List Entry → OpenLog → OpenLog
with_entries words es log = record log { used = log.used + words; defers = defers_with es log.defers }

-- the log with this one more entry
abbrev pub with_entry : Entry → OpenLog → OpenLog
with_entry e log = with_entries (length e.vals + ENTRY_HEADER_WORDS) (e ∷ []) log

abbrev pub committing : OpenLog → OpenLog
committing log = record log { lo = COMMITTING_LO; hi = COMMITTING_HI }

-- the log that the words spell: this range, with these entries
abbrev pub saying : OpenLog → List Entry → Log
saying log es = record { lo = log.lo; hi = log.hi; entries = Some es }

-- the host's fault that an append returned, if any
abbrev pub append_fault : {T : Type 0} → Result T AppendFault → Option HostFault
append_fault (Ok x) = None
append_fault (Err faults.TooBig) = None
append_fault (Err (faults.Host fault)) = Some fault

-- any value may be written to the words of the log
abbrev pub InLog : ℕ → Footprint
InLog at k v = IsInLog at k

-- The words store this log with these entries. Its gate and each entry word that counts have only one value, and they
-- spell this log. If one of these entries has deferred values, the log tells so. The words after those that count may
-- be anything.
pub record IsOpen (log : OpenLog) (es : List Entry) (words : Words) : Type 0 where
  pub gate : HasOnly (words log.gate_at) (gate_word log.lo log.hi log.used)
  pub counted : (k : ℕ) → log.gate_at + LOG_HEADER_WORDS ≤ k → k < log.gate_at + LOG_HEADER_WORDS + log.used → HasOnly (words k) (words k).newest
  pub says : log_of (reads words) log.gate_at ≡ saying log es
  pub defers_known : defers es ≡ true → log.defers ≡ true

-- the words that spell entries, one after the other
abbrev pub spelled_all : List Entry → List ℕ
spelled_all [] = []
spelled_all (e ∷ []) = spelled e
spelled_all (e ∷ f ∷ es) = spelled e ++ spelled_all (f ∷ es)

-- the write of words after those that count, and of the gate that counts this many more words
abbrev pub words_write : OpenLog → (count : ℕ) → List ℕ → Write
words_write log count words k =
    cond (k == log.gate_at) (Some (gate_word log.lo log.hi (log.used + count))) (placed (log.gate_at + LOG_HEADER_WORDS + log.used) words k)

-- the log with more entries at its end
abbrev pub with_last : List Entry → Log → Log
with_last more log = record log { entries = option_map (λ es. es ++ more) log.entries }

-- Any value may be written to any word but the gate of the log. To the gate only the value that counts this many more
-- words may be written.
abbrev pub ByOneGate : OpenLog → (count : ℕ) → Footprint
ByOneGate log count k v = k ≡ log.gate_at → v ≡ gate_word log.lo log.hi (log.used + count)

-- The store of one word makes all new words of the log count. At most one value is written to the gate, the one that
-- counts this many more words. Without a fault the log after the calls has this many more words.
pub record CountsAtOnce (log later : OpenLog) (fault : Option HostFault) (old new : State) : Type 0 where
  pub count : ℕ
  pub changes : Changes (ByOneGate log count) fault old new
  pub counted : fault ≡ None → later.used ≡ log.used + count

-- An image of these words that differs at most within the log whose gate is word `at`. The log is as it was, or it has
-- all of these entries at its end.
pub record HasGrown (words : Words) (at : ℕ) (more : List Entry) (image : Image) : Type 0 where
  pub before : Image
  pub picked : Picks words before
  pub outside : (k : ℕ) → (IsInLog at k → ⊥) → image k ≡ before k
  pub log : (log_of image at ≡ log_of before at) ⊎ (log_of image at ≡ with_last more (log_of before at))

-- Entries of `count` words are appended. Only their words and the gate that counts them are written. At each moment
-- each image has the log as it was or with all of these entries. On Ok each image has them.
pub record Appends (log : OpenLog) (es : List Entry) (count : ℕ) (more : List Entry) (result : Result (Unit {0}) AppendFault) (old new : State) : Type 0 where
  pub writes : Changes (written (words_write log count (spelled_all more))) (append_fault result) old new
  pub moments : Leaves (Silently (HasGrown old.now.words log.gate_at more)) old new
  pub done : IfOk result (λ _. IsOpen (with_entries count more log) (es ++ more) new.now.words)

-- ---- a log is cut back

-- the log of which so many words count
abbrev pub cut_to : (used : ℕ) → OpenLog → OpenLog
cut_to used log = record log { used = used }

-- the log with these entries in place of its own
abbrev pub with_those : List Entry → Log → Log
with_those es log = record log { entries = Some es }

-- An image of these words that differs at most within the log whose gate is word `at`. The log is as it was, or it has
-- only these entries.
pub record HasShrunk (words : Words) (at : ℕ) (front : List Entry) (image : Image) : Type 0 where
  pub before : Image
  pub picked : Picks words before
  pub outside : (k : ℕ) → (IsInLog at k → ⊥) → image k ≡ before k
  pub log : (log_of image at ≡ log_of before at) ⊎ (log_of image at ≡ with_those front (log_of before at))

-- The log is cut back to its first entries, which take so many words. At each moment each image has the log as it was
-- or with these entries alone. Without a fault each image has these entries alone.
pub record Cuts (log : OpenLog) (used : ℕ) (front : List Entry) (fault : Option HostFault) (old new : State) : Type 0 where
  pub moments : Leaves (Silently (HasShrunk old.now.words log.gate_at front)) old new
  pub done : fault ≡ None → IsOpen (cut_to used log) front new.now.words
