-- The premises under which the calls of a transaction make their promises.
use Rattle.std.specs.Prelude.{◌≡◌, ℕ, ◌+◌, true, List, [], ◌∷◌, ◌++◌, length, Option, Some}
use Rattle.pm_model.specs.declared.host.HostFault.{HostFault}
use Rattle.pm_model.specs.Words.{reads}
use Rattle.pm_model.specs.Moments.{State}
use Rattle.pud_defs.specs.declared.layout.TheConstants.{ENTRY_HEADER_WORDS}
use Rattle.pud_defs.specs.Formats.Image.{Image}
use Rattle.pud_defs.specs.Logging.Entries.{Entry, entries_of, entry_words}
use Rattle.pud_defs.specs.Logging.Replay.{overwritten}
use Rattle.pud_defs.specs.RegistryTables.Tables.{tables_of}
use Rattle.pud_defs.specs.Logging.Allowed.{puddle_word}
use Rattle.log_store.specs.Store.{OpenLog, with_deferred_words}
use Rattle.word_transaction.specs.Scope.{Scope, IsScope, redo_entry, saved, pending}
use Rattle.word_transaction.specs.Marks.{BeginsUndone}
use Rattle.word_transaction.specs.Running.{IsRunning, MayAppend, no_write, KeepsRunning, SavesWords, HasPlaces, HasOneTable, CanRedo}

-- ---- an open transaction

-- This is promised of each scope beside the log whose gate is word `at`, on a device of so many words, and of all
-- entries and values from the beginning.
abbrev pub InScope : (words at : ℕ) → (Scope → List Entry → Image → Type 0) → Type 0
InScope words at Promise = (size : ℕ) → size ≡ words → (g : Scope) → (es : List Entry) → (before : Image) → IsScope size at g → Promise g es before

-- This is promised of a transaction that is open, with this log.
abbrev pub WhileOpen : (words : ℕ) → OpenLog → State → (Scope → List Entry → Image → Type 0) → Type 0
WhileOpen words log s Promise = InScope words log.gate_at (λ g es before. IsRunning g log es before s.now.words → Promise g es before)

-- This is promised if entries may name so many words from that of an address on, and the first is this device word.
abbrev pub IfNamed : Scope → (address count first : ℕ) → Type 0 → Type 0
IfNamed g address count first Promise = g.may_name address count ≡ true → g.place address ≡ Some first → Promise

-- The same of the entries with these first words. They take so many words of the log.
abbrev pub InScopeAfter : (used words at : ℕ) → (Scope → List Entry → Image → Type 0) → Type 0
InScopeAfter used words at Promise = InScope words at (λ g es before. entry_words es ≡ used → Promise g es before)

-- This is promised of the entries that come after so many entry words of the log whose gate is word `at`, in this image.
abbrev pub OfEntriesAfter : (used at : ℕ) → Image → (List Entry → Type 0) → Type 0
OfEntriesAfter used at image Promise = (es back : List Entry) → entries_of image at ≡ Some (es ++ back) → entry_words es ≡ used → Promise back

-- ---- calls of an open transaction

-- If these entries may be appended, they come last in the longer log, and the transaction stays open.
abbrev pub AppendsEntries : Scope → (longer : OpenLog) → List Entry → (before : Image) → (more : List Entry) → Option HostFault → (old new : State) → Type 0
AppendsEntries g longer es before more fault old new = MayAppend g es before more → KeepsRunning g longer (es ++ more) before no_write fault old new

-- If the transaction is open, values are deferred in it for the words from that of an address on, and it stays open.
abbrev pub DefersWords : Scope → OpenLog → List Entry → (before : Image) → (address : ℕ) → List ℕ → Option HostFault → (old new : State) → Type 0
DefersWords g log es before address vals fault old new =
    IsRunning g log es before old.now.words
    → KeepsRunning g (with_deferred_words (length vals + ENTRY_HEADER_WORDS) log) (es ++ redo_entry address vals ∷ []) before no_write fault old new

-- If the transaction is open with these entries and others after them, these words are saved by those others or by new
-- ones, and the log is then this one.
abbrev pub SavesInOpen : Scope → (log now : OpenLog) → List Entry → (before : Image) → (which : ℕ → Type 0) → Option HostFault → (old new : State) → Type 0
SavesInOpen g log now es before which fault old new = (back : List Entry) → IsRunning g log (es ++ back) before old.now.words → SavesWords g now es back before which fault old new

-- ---- the end of a transaction

-- if the log tells that values were deferred, they can be written
abbrev pub CanCommit : Scope → (frames : ℕ) → OpenLog → State → Type 0
CanCommit g frames log s = log.defers ≡ true → CanRedo g frames log.gate_at s.now.words

-- what is read, with the deferred values written over it
abbrev pub after_commit : Scope → List Entry → State → Image
after_commit g es s = overwritten (pending g.place es) (reads s.now.words)

-- This is promised if by the puddle table of so many frames addresses name the words that they name in the scope, and
-- each word of that table has only one value.
abbrev pub IfPlaced : Scope → (frames : ℕ) → State → Type 0 → Type 0
IfPlaced g frames s Promise = HasPlaces g (puddle_word (tables_of frames (reads s.now.words))) → HasOneTable frames s.now.words → Promise

-- ---- undone to a mark

-- If the transaction is open with these entries and others after them, and each own word that these do not save had its
-- value from the beginning when they ended, the others are undone and the log has only these entries.
abbrev pub UndoesTo : Scope → (frames : ℕ) → (log now : OpenLog) → (front : List Entry) → (before : Image) → Option HostFault → (old new : State) → Type 0
UndoesTo g frames log now front before fault old new =
    (back : List Entry) → IsRunning g log (front ++ back) before old.now.words → BeginsUndone g front back before old.now.words
    → IfPlaced g frames old (KeepsRunning g now front before (saved g.place back) fault old new)
