-- What a batch of words is, and what writing it does at every moment.
use Rattle.std.specs.Prelude.{◌≡◌, ◌⊎◌, ℕ, ◌+◌, ◌≤◌, true, false, List, [], ◌∷◌, All, IsTrue, length, take, sum_by, Option, Some, None}
use Rattle.std.specs.Option.{option_or}
use Rattle.pm_model.specs.declared.host.HostFault.{HostFault}
use Rattle.pm_model.specs.Words.{Has, values, Words, reads, Picks, HasOnly}
use Rattle.pm_model.specs.Moments.{State}
use Rattle.pm_model.specs.Changes.{Footprint, Write, Changes, Leaves, Silently}
use Rattle.pud_defs.specs.declared.layout.TheConstants.{LOG_ENTRY_WORDS, ENTRY_HEADER_WORDS}
use Rattle.pud_defs.specs.declared.log_words.TheConstants.{REDO_SEQ, REDO_ORDER, COMMITTING_LO, COMMITTING_HI, CLOSED_GATE}
use Rattle.pud_defs.specs.Formats.Image.{Image}
use Rattle.pud_defs.specs.Logging.Entries.{Entry, Log, log_of, is_idle_gate, entries_in}
use Rattle.pud_defs.specs.Logging.Replay.{device_word, value_at, entries_or_none, overwritten, IsInLog, is_in_log, settled_by}
use Rattle.log_replay.specs.declared.Target.TheVariants as targets
use Rattle.log_replay.specs.Replaying.{NamesApart, IsNamed, IsReplayable, HasDurableLog}

-- the entry of these values, for the words from word `w` on
abbrev pub batch_entry : ℕ → List ℕ → Entry
batch_entry w vals = record { address = w; seq = REDO_SEQ; order = REDO_ORDER; vals = vals }

-- how many entry words the entries take
abbrev pub word_count_of : List Entry → ℕ
word_count_of es = sum_by (λ e. length e.vals + ENTRY_HEADER_WORDS) es

-- what the entries of a batch write; if two of them name a word, the later one counts
unfoldable pub batch_write : List Entry → Write
batch_write [] k = None
batch_write (e ∷ es) k = option_or (batch_write es k) (value_at e.address e.vals k)

-- the entry is one of a batch
pub record IsBatchEntry (e : Entry) : Type 0 where
  pub seq : e.seq ≡ REDO_SEQ
  pub order : e.order ≡ REDO_ORDER

abbrev pub AreBatched : List Entry → Type 0
AreBatched es = All IsBatchEntry es

-- the entries that the first `used` words spell
abbrev pub entries_spelled : ℕ → List ℕ → List Entry
entries_spelled used words = entries_or_none (entries_in 0 (take used words))

-- the first `used` words spell the entries of a batch
pub record IsBuffer (used : ℕ) (words : List ℕ) : Type 0 where
  pub within : used ≤ LOG_ENTRY_WORDS
  pub spells : entries_in 0 (take used words) ≡ Some (entries_spelled used words)
  pub count : used ≡ word_count_of (entries_spelled used words)
  pub batched : AreBatched (entries_spelled used words)

-- the log whose gate is word `at` counts nothing in each image
pub record HasIdleGate (at : ℕ) (words : Words) : Type 0 where
  pub each : (v : ℕ) → Has (values (words at)) v → IsTrue (is_idle_gate v)

-- The log whose gate is word `at` counts nothing in each image. The words of the batch lie within the device, apart
-- from the log.
pub record IsFree (size at : ℕ) (es : List Entry) (words : Words) : Type 0 where
  pub idle : (v : ℕ) → Has (values (words at)) v → IsTrue (is_idle_gate v)
  pub apart : All (NamesApart device_word size at) es

-- the log that was made durable, and whose range counts these entries
abbrev pub committed : List Entry → Log
committed es = record { lo = COMMITTING_LO; hi = COMMITTING_HI; entries = Some es }

-- any value may be written to the words of the log and to those of the batch
abbrev pub ByBatch : ℕ → List Entry → Footprint
ByBatch at es k v = IsInLog at k ⊎ IsNamed (batch_write es) k

-- An image of these words that is changed only in the log and in words of the batch. With the log replayed it is as it
-- was, or it has all of the batch's words. The log counts nothing, or its range counts the entries of the batch.
pub record IsBatched (words : Words) (at : ℕ) (es : List Entry) (image : Image) : Type 0 where
  pub before : Image
  pub picked : Picks words before
  pub outside : (k : ℕ) → is_in_log at k ≡ false → batch_write es k ≡ None → image k ≡ before k
  pub settled : (settled_by at image ≡ settled_by at before) ⊎ (settled_by at image ≡ overwritten (batch_write es) (settled_by at before))
  pub log : (is_idle_gate (image at) ≡ true) ⊎ (log_of image at ≡ committed es)

-- An image of these words that is changed only in the log, which counts nothing. With the log replayed it is the same
-- image.
pub record IsUntouched (words : Words) (at : ℕ) (image : Image) : Type 0 where
  pub before : Image
  pub picked : Picks words before
  pub outside : (k : ℕ) → is_in_log at k ≡ false → image k ≡ before k
  pub same : settled_by at image ≡ settled_by at before
  pub idle : is_idle_gate (image at) ≡ true

-- Each word that is read of the log has only one value. The log can be replayed, and its range counts the entries of
-- the batch.
pub record IsPrepared (size at : ℕ) (es : List Entry) (words : Words) : Type 0 where
  pub replayable : IsReplayable device_word size at es (reads words)
  pub durable_log : HasDurableLog targets.Words at words
  pub log : log_of (reads words) at ≡ committed es

-- An image of these words that is changed only in the log and in words of the batch. With the log replayed it has all
-- of the batch's words. The log's range counts the entries of the batch.
pub record IsBatchedWholly (words : Words) (at : ℕ) (es : List Entry) (image : Image) : Type 0 where
  pub before : Image
  pub picked : Picks words before
  pub outside : (k : ℕ) → is_in_log at k ≡ false → batch_write es k ≡ None → image k ≡ before k
  pub settled : settled_by at image ≡ overwritten (batch_write es) (settled_by at before)
  pub log : log_of image at ≡ committed es

-- The entries are made durable in the log, and then its range counts them. Only words of the log and of the batch may
-- change. Without a fault the log can be replayed, and with it replayed each image has all of the batch's words.
pub record Prepares (size at : ℕ) (es : List Entry) (fault : Option HostFault) (old new : State) : Type 0 where
  pub changes : Changes (ByBatch at es) fault old new
  pub moments : Leaves (Silently (IsBatched old.now.words at es)) old new
  pub prepared : fault ≡ None → IsPrepared size at es new.now.words
  pub done : fault ≡ None → (image : Image) → Picks new.now.words image → IsBatchedWholly old.now.words at es image

-- The batch is written, all or none at each moment. Without a fault each word has its new value and no other, and the
-- log is closed.
pub record Commits (at : ℕ) (es : List Entry) (fault : Option HostFault) (old new : State) : Type 0 where
  pub changes : Changes (ByBatch at es) fault old new
  pub moments : Leaves (Silently (IsBatched old.now.words at es)) old new
  pub durable : fault ≡ None → (k v : ℕ) → batch_write es k ≡ Some v → HasOnly (new.now.words k) v
  pub closed : fault ≡ None → HasOnly (new.now.words at) CLOSED_GATE
