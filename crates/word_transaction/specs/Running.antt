-- When a transaction on words is open, what each of its calls does at every moment, and how it ends.
use Rattle.std.specs.Prelude.{◌≡◌, ◌⊎◌, ℕ, ◌+◌, ◌<◌, ◌≤◌, true, false, List, [], ◌∷◌, ◌++◌, All, Option, Some, None}
use Rattle.pm_model.specs.declared.host.HostFault.{HostFault}
use Rattle.pm_model.specs.Words.{Has, Words, reads, Picks, HasOnly}
use Rattle.pm_model.specs.Moments.{Moment, State}
use Rattle.pm_model.specs.Changes.{Footprint, Write, Changes, Leaves, Silently}
use Rattle.pud_defs.specs.declared.layout.TheConstants.{PUDDLE_TABLE}
use Rattle.pud_defs.specs.declared.log_words.TheConstants.{RUNNING_LO, RUNNING_HI, COMMITTING_LO, COMMITTING_HI, CLOSED_GATE}
use Rattle.pud_defs.specs.Formats.Image.{Image}
use Rattle.pud_defs.specs.Formats.Layout.{tables_end, IsWithin}
use Rattle.pud_defs.specs.Logging.Entries.{Entry, entries_of, log_of, gate_lo, gate_hi, gate_word}
use Rattle.pud_defs.specs.Logging.Replay.{AddressMap, is_in_range, overwritten, replayed, IsInLog, is_in_log}
use Rattle.pud_defs.specs.RegistryTables.Spaces.{is_closed_log}
use Rattle.pud_defs.specs.RegistryTables.Tables.{tables_of}
use Rattle.pud_defs.specs.Logging.Allowed.{puddle_word}
use Rattle.log_store.specs.Store.{OpenLog, IsOpen}
use Rattle.log_replay.specs.Replaying.{IsNamed}
use Rattle.word_transaction.specs.Scope.{Scope, IsInScope, saved, deferred_entries}

-- ---- what is known between calls

-- The transaction is open. Its log is running and has these entries, each of which is in scope. A word that is saved is
-- saved with its value from the beginning. One of the own words that is not saved has only that value. A fence makes
-- each of the own words durable.
pub record IsRunning (g : Scope) (log : OpenLog) (es : List Entry) (before : Image) (words : Words) : Type 0 where
  pub opened : IsOpen log es words
  pub lo : log.lo ≡ RUNNING_LO
  pub hi : log.hi ≡ RUNNING_HI
  pub own : All (IsInScope g) es
  pub saves : (k v : ℕ) → saved g.place es k ≡ Some v → v ≡ before k
  pub single : (k : ℕ) → g.has_word k ≡ true → saved g.place es k ≡ None → HasOnly (words k) (before k)
  pub marked : (k : ℕ) → g.has_word k ≡ true → ((words k).kept ≡ []) ⊎ HasOnly (words k) (words k).newest

-- No transaction is open: the log whose gate is word `at` is closed in each image, and each own word has only one
-- value.
pub record IsIdle (g : Scope) (at : ℕ) (before : Image) (words : Words) : Type 0 where
  pub closed : (image : Image) → Picks words image → is_closed_log image at ≡ true
  pub single : (k : ℕ) → g.has_word k ≡ true → HasOnly (words k) (before k)

-- The entries may be appended. They are in scope, and with them a word that is saved is still saved with its value from
-- the beginning.
pub record MayAppend (g : Scope) (es : List Entry) (before : Image) (more : List Entry) : Type 0 where
  pub own : All (IsInScope g) more
  pub saves : (k v : ℕ) → saved g.place (es ++ more) k ≡ Some v → v ≡ before k

-- each word that is written is one of the transaction's own words and is saved
pub record IsCovered (g : Scope) (es : List Entry) (write : Write) : Type 0 where
  pub has_word : (k v : ℕ) → write k ≡ Some v → g.has_word k ≡ true
  pub kept : (k v : ℕ) → write k ≡ Some v → saved g.place es k ≡ None → ⊥

-- word `k` is one of the `count` words from word `first` on
abbrev pub IsOneOf : (first count k : ℕ) → Type 0
IsOneOf first count k = (first ≤ k) × (k < first + count)

-- word `k` is one of these, or the other word
abbrev pub IsOneOfBoth : (first count other k : ℕ) → Type 0
IsOneOfBoth first count other k = IsOneOf first count k ⊎ (k ≡ other)

-- nothing is written
abbrev pub no_write : Write
no_write k = None

-- the log of a transaction that has just begun
abbrev pub begun_log : (at : ℕ) → OpenLog
begun_log at = record { gate_at = at; lo = RUNNING_LO; hi = RUNNING_HI; used = 0; defers = false }

-- ---- what an image has

-- With the log replayed whose gate is word `at`, the transaction's own words have these values. The log is well formed,
-- and its entries in range are in the transaction's scope.
pub record RecoversTo (g : Scope) (at : ℕ) (values image : Image) : Type 0 where
  pub es : List Entry
  pub spells : entries_of image at ≡ Some es
  pub own : All (λ e. is_in_range (log_of image at) e ≡ true → IsInScope g e) es
  pub settled : (k : ℕ) → g.has_word k ≡ true → replayed g.place (log_of image at) image k ≡ values k

-- the log whose gate is word `at` has this range
pub record HasGateRange (lo hi at : ℕ) (image : Image) : Type 0 where
  pub lo_is : gate_lo (image at) ≡ lo
  pub hi_is : gate_hi (image at) ≡ hi

-- The range of the log is still that of a running log, and the transaction's own words recover to these values.
pub record IsUnmoved (g : Scope) (at : ℕ) (values image : Image) : Type 0 where
  pub range : HasGateRange RUNNING_LO RUNNING_HI at image
  pub recovers : RecoversTo g at values image

-- The range of the log has moved to that of a committing log, or the log is closed. The transaction's own words recover
-- to these values.
pub record IsMoved (g : Scope) (at : ℕ) (values image : Image) : Type 0 where
  pub range : HasGateRange COMMITTING_LO COMMITTING_HI at image ⊎ (image at ≡ CLOSED_GATE)
  pub recovers : RecoversTo g at values image

-- Until the range moves, an image recovers to the values from the beginning. From then on it recovers to the new ones.
-- The gate of the image tells which of the two.
abbrev pub RecoversByRange : Scope → (at : ℕ) → (before after image : Image) → Type 0
RecoversByRange g at before after image = IsUnmoved g at before image ⊎ IsMoved g at after image

-- ---- what calls do

-- any value may be written to the words of the log and to the transaction's own words
abbrev pub ByTransaction : Scope → (at : ℕ) → Footprint
ByTransaction g at k v = IsInLog at k ⊎ (g.has_word k ≡ true)

-- any value may be written to any other word
abbrev pub BesideTransaction : Scope → (at : ℕ) → Footprint
BesideTransaction g at k v = (is_in_log at k ≡ false) × (g.has_word k ≡ false)

-- only the gate of the log may be written: with the range of a committing log, or as that of a closed log
pub record ByCommit (log : OpenLog) (k v : ℕ) : Type 0 where
  pub gate : k ≡ log.gate_at
  pub value : (v ≡ gate_word COMMITTING_LO COMMITTING_HI log.used) ⊎ (v ≡ CLOSED_GATE)

-- the same, and any value may be written to the words that the write names
abbrev pub ByCommitOf : OpenLog → Write → Footprint
ByCommitOf log write k v = ByCommit log k v ⊎ IsNamed write k

-- A call within the transaction. Each image left meanwhile recovers to the values from the beginning. Without a fault
-- the transaction is open, with this log and these entries. Outside the log each word then reads as before, except for
-- those that are written.
pub record KeepsRunning (g : Scope) (log : OpenLog) (es : List Entry) (before : Image) (write : Write) (fault : Option HostFault) (old new : State) : Type 0 where
  pub changes : Changes (ByTransaction g log.gate_at) fault old new
  pub moments : Leaves (Silently (RecoversTo g log.gate_at before)) old new
  pub running : fault ≡ None → IsRunning g log es before new.now.words
  pub now : fault ≡ None → (k : ℕ) → is_in_log log.gate_at k ≡ false → reads new.now.words k ≡ overwritten write (reads old.now.words) k

-- A call that saves words and writes none. It appends entries with values that are read, and defers nothing. Without a
-- fault these words are saved by the entries `back`, which come after `es`, or by the new ones.
pub record SavesWords (g : Scope) (log : OpenLog) (es back : List Entry) (before : Image) (which : ℕ → Type 0) (fault : Option HostFault) (old new : State) : Type 0 where
  pub more : List Entry
  pub runs : KeepsRunning g log ((es ++ back) ++ more) before no_write fault old new
  pub defers : deferred_entries more ≡ []
  pub values : (k v : ℕ) → saved g.place more k ≡ Some v → v ≡ reads old.now.words k
  pub kept : fault ≡ None → (k : ℕ) → which k → saved g.place (back ++ more) k ≡ None → ⊥

-- A call that saves words so, and then writes these values to them.
pub record SavesAndWrites (g : Scope) (log : OpenLog) (es back : List Entry) (before : Image) (write : Write) (fault : Option HostFault) (old new : State) : Type 0 where
  pub more : List Entry
  pub runs : KeepsRunning g log ((es ++ back) ++ more) before write fault old new
  pub defers : deferred_entries more ≡ []
  pub values : (k v : ℕ) → saved g.place more k ≡ Some v → v ≡ reads old.now.words k
  pub kept : fault ≡ None → (k v : ℕ) → write k ≡ Some v → saved g.place (back ++ more) k ≡ None → ⊥

-- The transaction is undone and its log closed. Each image left meanwhile recovers to these values. Without a fault
-- each own word has its value and no other, and the log is closed.
pub record AbortsTransaction (g : Scope) (at : ℕ) (values : Image) (fault : Option HostFault) (old new : State) : Type 0 where
  pub changes : Changes (ByTransaction g at) fault old new
  pub moments : Leaves (Silently (RecoversTo g at values)) old new
  pub durable : fault ≡ None → (k : ℕ) → g.has_word k ≡ true → HasOnly (new.now.words k) (values k)
  pub closed : fault ≡ None → HasOnly (new.now.words at) CLOSED_GATE

-- At some moment from `old` on the log has the range of a committing log in each image. At that moment each own word
-- has the value that was read from it at `old`, and no other.
pub record MovesRange (g : Scope) (at : ℕ) (old new : State) : Type 0 where
  pub added : List Moment
  pub history : new.now ∷ new.past ≡ added ++ old.now ∷ old.past
  pub moment : Moment
  pub among : (moment ≡ old.now) ⊎ Has added moment
  pub range : (image : Image) → Picks moment.words image → HasGateRange COMMITTING_LO COMMITTING_HI at image
  pub durable : (k : ℕ) → g.has_word k ≡ true → HasOnly (moment.words k) (reads old.now.words k)

-- The transaction is committed. Each image left meanwhile recovers to the values from the beginning until its range has
-- moved, and to the new ones from then on. Without a fault the range moved when all that was written was durable, each
-- own word has its new value and no other, the log is closed, and every other word reads as before.
pub record CommitsTransaction (g : Scope) (at : ℕ) (before after : Image) (fault : Option HostFault) (old new : State) : Type 0 where
  pub changes : Changes (ByTransaction g at) fault old new
  pub moments : Leaves (Silently (RecoversByRange g at before after)) old new
  pub moves : fault ≡ None → MovesRange g at old new
  pub durable : fault ≡ None → (k : ℕ) → g.has_word k ≡ true → HasOnly (new.now.words k) (after k)
  pub closed : fault ≡ None → HasOnly (new.now.words at) CLOSED_GATE
  pub stays : fault ≡ None → (k : ℕ) → is_in_log at k ≡ false → g.has_word k ≡ false → reads new.now.words k ≡ reads old.now.words k

-- The address map agrees with that of the scope on all addresses that entries may name.
pub record HasPlaces (g : Scope) (place : AddressMap) : Type 0 where
  pub each : (address count : ℕ) → g.may_name address count ≡ true → place address ≡ g.place address

-- each word of the puddle table of a device of `frames` frames has only one value
pub record HasOneTable (frames : ℕ) (words : Words) : Type 0 where
  pub each : (k : ℕ) → IsWithin PUDDLE_TABLE (tables_end frames) k → HasOnly (words k) (reads words k)

-- Deferred values can be written. The puddle table of `frames` frames lies before the log whose gate is word `at`. Each
-- word of it has only one value. By this table addresses name the words that they name in the scope.
pub record CanRedo (g : Scope) (frames at : ℕ) (words : Words) : Type 0 where
  pub before : tables_end frames ≤ at
  pub table : HasOneTable frames words
  pub places : HasPlaces g (puddle_word (tables_of frames (reads words)))
