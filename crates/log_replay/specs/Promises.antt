-- The premises under which a replay makes its promises, and what it promises of each image.
use Rattle.std.specs.Prelude.{◌≡◌, ℕ, IsTrue, List, ◌++◌, Some}
use Rattle.pm_model.specs.Words.{Words, reads}
use Rattle.pm_model.specs.Moments.{State}
use Rattle.pm_model.specs.Changes.{Leaves, Silently}
use Rattle.pud_defs.specs.Logging.Entries.{Entry, Log, log_of, entry_words}
use Rattle.pud_defs.specs.Logging.Replay.{is_in_range}
use Rattle.log_entry.specs.declared.Entry.{Entry as Found}
use Rattle.log_entry.specs.Reading.{Reading, entry_from, entries_left}
use Rattle.log_entry.specs.Copying.{Copied, image_of_copy, log_copied}
use Rattle.log_replay.specs.Placing.{IsWithinDevice, AreWithinDevice}
use Rattle.log_replay.specs.Replaying.{address_map_of, IsReplayable, IsPlacedCopy, HasDurableLog, IsSettling, SettlesSame}
use Rattle.log_replay.specs.declared.Target.{Target}
use Rattle.log_replay.specs.declared.Target.TheVariants as targets

-- ---- the entries of a copy

-- This is promised of an entry that was read from a copy. If it is in range, it must name words of a device of this size.
abbrev pub OfEntryRead : (size : ℕ) → Copied → Found → (Log → Entry → Type 0) → Type 0
OfEntryRead size copy found Promise =
    (log : Log) → log_copied copy ≡ log → (e : Entry) → entry_from (image_of_copy copy) found ≡ e → (IsTrue (is_in_range log e) → IsWithinDevice size e) → Promise log e

-- This is promised of the entries that are left to read from a copy. Those in range must name words of a device of this
-- size.
abbrev pub OfEntriesLeft : (size : ℕ) → Copied → Reading → (Log → List Entry → Type 0) → Type 0
OfEntriesLeft size copy r Promise =
    (log : Log) → log_copied copy ≡ log → (es : List Entry) → entries_left (image_of_copy copy) r ≡ Some es → AreWithinDevice size log es → Promise log es

-- ---- a log that can be replayed

-- This is promised if the log whose gate is word `at` can be replayed to the target, as these words read.
abbrev pub IfReplayable : Target → (size at : ℕ) → Words → (List Entry → Type 0) → Type 0
IfReplayable to size at words Promise = (es : List Entry) → IsReplayable (address_map_of to (reads words)) size at es (reads words) → Promise es

-- This is promised of the entries that come after the first `passed` words of such a log, if an entry ends there.
abbrev pub IfReplayablePast : Target → (size at passed : ℕ) → Words → (List Entry → Type 0) → Type 0
IfReplayablePast to size at passed words Promise =
    (front back : List Entry) → IsReplayable (address_map_of to (reads words)) size at (front ++ back) (reads words) → entry_words front ≡ passed → Promise back

-- This is promised if also the copy has that log, with device words for the addresses of entries in range.
abbrev pub IfCopied : Target → (size at : ℕ) → Copied → Words → (List Entry → Type 0) → Type 0
IfCopied to size at copy words Promise =
    (es : List Entry) → IsReplayable (address_map_of to (reads words)) size at es (reads words) → IsPlacedCopy to at (reads words) copy → Promise es

-- ---- each image, while a log is replayed and closed

-- If each word that is read of the log has only one value, each image left lies between one of the words before and that
-- one with the log replayed and closed.
abbrev pub SettlesByMoments : Target → (at : ℕ) → (old new : State) → Type 0
SettlesByMoments to at old new = HasDurableLog to at old.now.words → Leaves (Silently (IsSettling to at old.now.words)) old new

-- If each word that is read of a log of device words has only one value, each image left is, with the log replayed, as
-- it was.
abbrev pub StaysSettledSame : (at : ℕ) → (old new : State) → Type 0
StaysSettledSame at old new =
    HasDurableLog targets.Words at old.now.words → Leaves (Silently (SettlesSame old.now.words at (log_of (reads old.now.words) at))) old new
