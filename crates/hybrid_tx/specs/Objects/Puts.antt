-- How words are saved and then written, and how a value is deferred: in any scope, and on the pool of puddles.
use Rattle.std.specs.Prelude.{◌≡◌, ℕ, ◌+◌, ◌≤◌, ◌++◌, true, List, [], ◌∷◌, slice_get, Option, Some}
use Rattle.pm_model.specs.declared.host.HostFault.{HostFault}
use Rattle.pm_model.specs.Moments.{State}
use Rattle.pm_model.specs.Changes.{Write, placed}
use Rattle.pud_defs.specs.declared.layout.TheConstants.{LOG_WORDS}
use Rattle.pud_defs.specs.declared.space.TheConstants.{NEXT_SERIAL_WORD}
use Rattle.pud_defs.specs.declared.records.Puddle.{Puddle}
use Rattle.pud_defs.specs.declared.records.Slot.{Slot}
use Rattle.pud_defs.specs.Formats.Geometry.{IsFinished, slot_begins}
use Rattle.pud_defs.specs.Formats.Image.{Image}
use Rattle.pud_defs.specs.Formats.Layout.{device_words, frames_at}
use Rattle.pud_defs.specs.Formats.Frames.{frame_at}
use Rattle.pud_defs.specs.Logging.Entries.{Entry}
use Rattle.pud_defs.specs.Logging.Replay.{over}
use Rattle.log_store.specs.Store.{OpenLog}
use Rattle.word_transaction.specs.Scope.{Scope, IsScope, redo_entry}
use Rattle.word_transaction.specs.Running.{IsRunning, no_write, SavesAndWrites}
use Rattle.hybrid_tx.specs.PoolScopes.{finished_of, ArePlacedPuddles, IsRewrittenAt}
use Rattle.hybrid_tx.specs.Objects.Transactions.{IsSaving, KeepsSaving}

-- ---- in any scope

-- the promise, if an entry may name this many words from the address on, and the first of them is this one
abbrev pub IfNamed : Scope → (address count first : ℕ) → (promise : Type 0) → Type 0
IfNamed g address count first promise = g.may_name address count ≡ true → g.place address ≡ Some first → promise

-- For each transaction that runs on a device of so many words: if its scope names the words, a call saves them, and then writes these.
abbrev pub PutsInScope : (size_now : ℕ) → (named : Scope → Type 0 → Type 0) → Write → (log later : OpenLog) → Option HostFault → (old new : State) → Type 0
PutsInScope size_now named write log later fault old new =
    (size : ℕ) → size ≡ size_now → (g : Scope) (es : List Entry) (before : Image) → IsScope size log.gate_at g
    → named g (IsRunning g log es before old.now.words → SavesAndWrites g later [] es before write fault old new)

-- ---- on the pool of puddles

-- what is promised for the puddle of this ordinal, if it is finished
abbrev pub IfFinished : List (ℕ × Puddle) → (ordinal : ℕ) → (promise : ℕ × Puddle → Type 0) → Type 0
IfFinished at ordinal promise = (e : ℕ × Puddle) → slice_get at ordinal ≡ Some e → IsFinished e.1 → promise e

-- what is promised for each number of frames with which these puddles lie on a device of so many words, after the log whose gate is this word
abbrev pub WithFrames : List (ℕ × Puddle) → (size log_at : ℕ) → (promise : ℕ → Type 0) → Type 0
WithFrames at size log_at promise = (frames : ℕ) → ArePlacedPuddles frames at → device_words frames ≤ size → log_at + LOG_WORDS ≤ frames_at frames → promise frames

-- While a transaction saves the words of the finished puddles, a call saves words, and then writes these.
abbrev pub PutsOnPool : (F : ℕ) → List (ℕ × Puddle) → Write → (log later : OpenLog) → Option HostFault → (old new : State) → Type 0
PutsOnPool F at write log later fault old new =
    (before : Image) (redo : List Entry) → IsSaving F (finished_of at) log before redo old.now.words → KeepsSaving F (finished_of at) later before redo write fault old new

-- While a transaction saves these words, a call defers a value for the word of an address, as the last of the deferred values.
abbrev pub DefersOnPool : (F : ℕ) → List (ℕ × Puddle) → (address value : ℕ) → (log later : OpenLog) → Option HostFault → (old new : State) → Type 0
DefersOnPool F at address value log later fault old new =
    (before : Image) (redo : List Entry) → IsSaving F (finished_of at) log before redo old.now.words
    → KeepsSaving F (finished_of at) later before (redo ++ redo_entry address (value ∷ []) ∷ []) no_write fault old new

-- Words are put in a slot, and a value in the next serial, if the slot's puddle and the first one are finished.
abbrev pub PutsObject : (F : ℕ) → List (ℕ × Puddle) → Slot → List ℕ → (next : ℕ) → (log later : OpenLog) → Option HostFault → (old new : State) → Type 0
PutsObject F at slot words next log later fault old new =
    ArePlacedPuddles F at → (first : ℕ × Puddle) → slice_get at 0 ≡ Some first → IsRewrittenAt at 0 → IsRewrittenAt at slot.ordinal
    → PutsOnPool F at (over (placed (frame_at F slot.frame + slot_begins slot) words) (placed (frame_at F first.0 + NEXT_SERIAL_WORD) (next ∷ []))) log later fault old new
