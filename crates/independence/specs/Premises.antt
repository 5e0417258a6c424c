-- What the lines of other pools must not do to a set: define a type, or replace a file that the set imports.
use Rattle.std.specs.Prelude.{◌≡◌, ℕ, Bool, true, false, ◌&&◌, cond, List, [], ◌∷◌, bytes_eq, Option, Some, None, option_and_then, ⊤}
use Rattle.std.specs.List.{list_any}
use Rattle.pud_defs.specs.declared.machine.Command.{Command}
use Rattle.pud_defs.specs.declared.machine.Command.TheVariants.{Import}
use Rattle.pud_defs.specs.RegistryTables.Types.{map_of}
use Rattle.pud_defs.specs.StateMachine.World.{World}
use Rattle.pud_defs.specs.Output.Listing.{name_text}
use Rattle.pud_defs.specs.StateMachine.Grammar.{command_of}
use Rattle.pud_defs.specs.StateMachine.Changing.{file_in}
use Rattle.pud_defs.specs.StateMachine.Run.{Turn}
use Rattle.pud_defs.specs.Output.Texts.{begins_with_ok}
use Rattle.independence.specs.Own.{Names, is_line_of_set, is_of}

-- ---- types

-- Each type that is defined after the turn was defined before it.
pub record DefinesNone (w : World) (t : Turn) : Type 0 where
  pub none : (id : ℕ) → map_of id w.stored.types ≡ None → map_of id t.next.stored.types ≡ None

-- this holds for each turn whose line names a pool outside the set
abbrev pub OthersDefineNone : Names → World → List Turn → Type 0
OthersDefineNone S w [] = ⊤
OthersDefineNone S w (t ∷ turns) = (is_line_of_set S t.line ≡ false → DefinesNone w t) × OthersDefineNone S t.next turns

-- ---- files

-- the file from which a command makes a pool
abbrev pub file_read : Command → Option (List ℕ)
file_read (Import client name file mode) = Some (name_text file)
file_read c = None

abbrev pub is_file_named : List ℕ → Option (List ℕ) → Bool
is_file_named file None = false
is_file_named file (Some other) = bytes_eq file other

-- one of the lines makes a pool of the set from this file
abbrev pub is_imported : Names → List (List ℕ) → List ℕ → Bool
is_imported S lines file = list_any (λ line. is_of S line && is_file_named file (option_and_then file_read (command_of line))) lines

-- The turn changes none of these files.
pub record LeavesFiles (F : List ℕ → Bool) (w : World) (t : Turn) : Type 0 where
  pub leaves : (file : List ℕ) → F file ≡ true → t.next.shelf file ≡ w.shelf file

-- this holds for each turn whose line names a pool outside the set
abbrev pub OthersLeaveFiles : Names → (List ℕ → Bool) → World → List Turn → Type 0
OthersLeaveFiles S F w [] = ⊤
OthersLeaveFiles S F w (t ∷ turns) = (is_line_of_set S t.line ≡ false → LeavesFiles F w t) × OthersLeaveFiles S F t.next turns

-- The file that the turn wrote: the line may write a file, and its answer begins with `ok`.
abbrev pub file_written : Turn → Option (List ℕ)
file_written t = cond (begins_with_ok t.answer) (file_in (command_of t.line)) None

-- no line that names a pool outside the set writes one of these files
abbrev pub OthersWriteNone : Names → (List ℕ → Bool) → List Turn → Type 0
OthersWriteNone S F [] = ⊤
OthersWriteNone S F (t ∷ turns) = (is_line_of_set S t.line ≡ false → (file : List ℕ) → file_written t ≡ Some file → F file ≡ false) × OthersWriteNone S F turns
