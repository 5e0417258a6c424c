-- What a replay needs of the words of a device, and what it does to them.
use Rattle.std.specs.Prelude.{◌≡◌, ◌⊎◌, ℕ, ◌+◌, ◌<◌, ◌≤◌, false, true, IsTrue, List, [], All, length, Option, Some, None, ⊤}
use Rattle.pm_model.specs.declared.host.HostFault.{HostFault}
use Rattle.pm_model.specs.Words.{Words, reads, Picks, HasOnly}
use Rattle.pm_model.specs.Moments.{State}
use Rattle.pm_model.specs.Changes.{Footprint, Write, Changes, Leaves, Silently}
use Rattle.pud_defs.specs.declared.layout.TheConstants.{LOG_WORDS, LOG_HEADER_WORDS, MAX_FRAMES, PUDDLE_TABLE}
use Rattle.pud_defs.specs.declared.log_words.TheConstants.{CLOSED_GATE}
use Rattle.pud_defs.specs.Formats.Image.{Image}
use Rattle.pud_defs.specs.Formats.Layout.{tables_end, IsWithin}
use Rattle.pud_defs.specs.Logging.Entries.{Entry, Log, log_of, gate_used, is_idle_gate, entries_of}
use Rattle.pud_defs.specs.Logging.Replay.{AddressMap, device_word, is_in_range, undo_value, new_value, overwritten, is_in_log, settled_by}
use Rattle.pud_defs.specs.RegistryTables.Tables.{tables_of}
use Rattle.pud_defs.specs.Logging.Allowed.{puddle_word}
use Rattle.log_entry.specs.Copying.{Copied, log_copied}
use Rattle.log_replay.specs.Placing.{placed_log}
use Rattle.log_replay.specs.declared.Target.{Target}
use Rattle.log_replay.specs.declared.Target.TheVariants as targets

-- ---- the address map

-- which device word an address of the target names, as this image tells
abbrev pub address_map_of : Target → Image → AddressMap
address_map_of targets.Words image = device_word
address_map_of (targets.Puddles F) image = puddle_word (tables_of F image)

-- The log with device words for the addresses of entries in range. For the target `Words` they are device words
-- already.
abbrev pub log_to : Target → Image → Log → Log
log_to targets.Words image log = log
log_to (targets.Puddles F) image log = placed_log (puddle_word (tables_of F image)) log

-- the address map of the target is read from this word
abbrev pub IsPlacing : Target → ℕ → Type 0
IsPlacing targets.Words k = ⊥
IsPlacing (targets.Puddles F) k = IsWithin PUDDLE_TABLE (tables_end F) k

-- there are no more frames than a device can have, and a device of this size has their puddle table
pub record HasPuddleTable (F size : ℕ) : Type 0 where
  pub few : F ≤ MAX_FRAMES
  pub table : tables_end F ≤ size

-- a device of this size has the words from which the address map of the target is read
abbrev pub HasTables : Target → ℕ → Type 0
HasTables targets.Words size = ⊤
HasTables (targets.Puddles F) size = HasPuddleTable F size

-- ---- what a replay needs

-- the entry names words of the device, and no word of the log whose gate is word `at`
pub record NamesApart (place : AddressMap) (size at : ℕ) (e : Entry) : Type 0 where
  pub first : ℕ
  pub placed : place e.address ≡ Some first
  pub within : first + length e.vals ≤ size
  pub apart : (first + length e.vals ≤ at) ⊎ (at + LOG_WORDS ≤ first)

-- each of the entries in range does
abbrev pub AreApart : AddressMap → ℕ → ℕ → Log → List Entry → Type 0
AreApart place size at log es = All (λ e. IsTrue (is_in_range log e) → NamesApart place size at e) es

-- In this image the log whose gate is word `at` is well formed and has these entries. Those in range name words of the
-- device apart from the log.
pub record IsReplayable (place : AddressMap) (size at : ℕ) (es : List Entry) (image : Image) : Type 0 where
  pub spells : entries_of image at ≡ Some es
  pub apart : AreApart place size at (log_of image at) es

-- Each word that is read of the log whose gate is word `at` has only one value. So has each word from which the address
-- map is read.
pub record HasDurableLog (to : Target) (at : ℕ) (words : Words) : Type 0 where
  pub gate : HasOnly (words at) (reads words at)
  pub counted : (k : ℕ) → at + LOG_HEADER_WORDS ≤ k → k < at + LOG_HEADER_WORDS + gate_used (reads words at) → HasOnly (words k) (reads words k)
  pub table : (k : ℕ) → IsPlacing to k → HasOnly (words k) (reads words k)

-- the copy has the log whose gate is word `at`, with device words for the addresses of entries in range
pub record IsPlacedCopy (to : Target) (at : ℕ) (image : Image) (copy : Copied) : Type 0 where
  pub log : log_copied copy ≡ log_to to image (log_of image at)

-- ---- what a replay does

-- the values that the log whose gate is word `at` gives to words
abbrev pub new_values : Target → ℕ → Image → Write
new_values to at image = new_value (address_map_of to image) (log_of image at)

-- the values that words had before these entries of the log saved them: of several entries that name a word, the first
-- tells its value
abbrev pub old_values : Target → ℕ → List Entry → Image → Write
old_values to at es image = undo_value (address_map_of to image) (log_of image at) es

-- the image with that log replayed
abbrev pub replayed_to : Target → ℕ → Image → Image
replayed_to to at image = overwritten (new_values to at image) image

-- any value may be written to any word
abbrev pub Anything : Footprint
Anything k v = ⊤

-- the word is one of those written
pub record IsNamed (write : Write) (k : ℕ) : Type 0 where
  pub value : ℕ
  pub is : write k ≡ Some value

-- any value may be written to the words that the write names
abbrev pub Named : Write → Footprint
Named write k v = IsNamed write k

-- The words that the write names are overwritten, and no others. Without a fault each has its value as the newest one,
-- and is marked.
pub record AppliesEntries (write : Write) (fault : Option HostFault) (old new : State) : Type 0 where
  pub changes : Changes (Named write) fault old new
  pub newest : fault ≡ None → (k v : ℕ) → write k ≡ Some v → (new.now.words k).newest ≡ v
  pub marked : fault ≡ None → (k v : ℕ) → write k ≡ Some v → (new.now.words k).kept ≡ []

-- An image of these words that is changed only in words that the log names. It has the same address map and the same
-- log, and it replays to the same image.
pub record ReplaysSame (to : Target) (at : ℕ) (words : Words) (image : Image) : Type 0 where
  pub before : Image
  pub picked : Picks words before
  pub stays : (k : ℕ) → new_values to at before k ≡ None → image k ≡ before k
  pub places : address_map_of to image ≡ address_map_of to before
  pub log : log_of image at ≡ log_of before at
  pub same : replayed_to to at image ≡ replayed_to to at before

-- The log is replayed. Words that its entries in range name are overwritten, and no others. Without a fault each of
-- them has its new value and no other, and the device reads as the replayed image.
pub record Replays (to : Target) (at : ℕ) (fault : Option HostFault) (old new : State) : Type 0 where
  pub changes : Changes (Named (new_values to at (reads old.now.words))) fault old new
  pub durable : fault ≡ None → (k v : ℕ) → new_values to at (reads old.now.words) k ≡ Some v → HasOnly (new.now.words k) v
  pub reads_so : fault ≡ None → reads new.now.words ≡ replayed_to to at (reads old.now.words)

-- At each moment each image replays to the same image. At the end, even after a fault, the log can be replayed again.
pub record ReplaysAgain (to : Target) (size at : ℕ) (es : List Entry) (old new : State) : Type 0 where
  pub moments : Leaves (Silently (ReplaysSame to at old.now.words)) old new
  pub replayable : IsReplayable (address_map_of to (reads new.now.words)) size at es (reads new.now.words)
  pub durable_log : HasDurableLog to at new.now.words

-- ---- what it does to undo a part of a log

-- The words that the write names are overwritten, and no others. Without a fault each of them has its new value and no
-- other, and is read so, and every other word reads as before.
pub record Undoes (write : Write) (fault : Option HostFault) (old new : State) : Type 0 where
  pub changes : Changes (Named write) fault old new
  pub durable : fault ≡ None → (k v : ℕ) → write k ≡ Some v → HasOnly (new.now.words k) v
  pub reads_so : fault ≡ None → (k : ℕ) → reads new.now.words k ≡ overwritten write (reads old.now.words) k

-- ---- what a replay and the closing of its log do

-- any value may be written to the gate, which is word `at`, and to the words that the write names
abbrev pub ByLog : ℕ → Write → Footprint
ByLog at write k v = (k ≡ at) ⊎ IsNamed write k

-- An image between the image `before` and that image with the log replayed and closed. It differs from `before` at most
-- in the gate and in the words to which the log gives values. Its gate is as it was, or its gate is that of a closed
-- log and each of these words has the value that the log gives it.
pub record IsClosing (to : Target) (at : ℕ) (before image : Image) : Type 0 where
  pub stays : (k : ℕ) → (k ≡ at → ⊥) → new_values to at before k ≡ None → image k ≡ before k
  pub gate : (image at ≡ before at) ⊎ ((image at ≡ CLOSED_GATE) × ((k v : ℕ) → new_values to at before k ≡ Some v → image k ≡ v))

-- an image between one of these words and that one with the log replayed and closed
pub record IsSettling (to : Target) (at : ℕ) (words : Words) (image : Image) : Type 0 where
  pub before : Image
  pub picked : Picks words before
  pub closing : IsClosing to at before image

-- An image of these words that is changed only in the log's own words and in those that the log names. With the log
-- replayed it is the same image. The log is as it was, or its gate is one with nothing to replay.
pub record SettlesSame (words : Words) (at : ℕ) (log : Log) (image : Image) : Type 0 where
  pub before : Image
  pub picked : Picks words before
  pub outside : (k : ℕ) → is_in_log at k ≡ false → new_value device_word log k ≡ None → image k ≡ before k
  pub same : settled_by at image ≡ settled_by at before
  pub gate : (log_of image at ≡ log) ⊎ (is_idle_gate (image at) ≡ true)

-- The log is replayed and then closed. Its gate and words that its entries in range name are overwritten, and no
-- others. Without a fault each word named has its new value and no other, the log is closed, and except for its gate
-- the device reads as the replayed image.
pub record SettlesLog (to : Target) (at : ℕ) (fault : Option HostFault) (old new : State) : Type 0 where
  pub changes : Changes (ByLog at (new_values to at (reads old.now.words))) fault old new
  pub durable : fault ≡ None → (k v : ℕ) → new_values to at (reads old.now.words) k ≡ Some v → HasOnly (new.now.words k) v
  pub closed : fault ≡ None → HasOnly (new.now.words at) CLOSED_GATE
  pub reads_so : fault ≡ None → (k : ℕ) → (k ≡ at → ⊥) → reads new.now.words k ≡ replayed_to to at (reads old.now.words) k
