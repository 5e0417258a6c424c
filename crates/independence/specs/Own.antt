-- Sets of pools, and the lines of a script that belong to a set.
use Rattle.std.specs.Prelude.{ℕ, Bool, true, false, List, map, filter, bytes_eq, Option, Some, None}
use Rattle.pud_defs.specs.declared.machine.Command.{Command}
use Rattle.pud_defs.specs.StateMachine.Grammar.{command_of}
use Rattle.pud_defs.specs.StateMachine.Step.{Answer, name_in}
use Rattle.pud_defs.specs.StateMachine.Run.{Turn}

-- a set of pools, given by their names
abbrev pub Names : Type 0
Names = List ℕ → Bool

-- the set of the one pool with this name
abbrev pub only_pool : List ℕ → Names
only_pool name other = bytes_eq other name

-- a name is given, and it is in the set
abbrev pub is_within : Names → Option (List ℕ) → Bool
is_within S None = false
is_within S (Some name) = S name

-- no name is given, or the name is in the set
abbrev pub is_none_or_within : Names → Option (List ℕ) → Bool
is_none_or_within S None = true
is_none_or_within S (Some name) = S name

-- The name of the pool that a line's command names. A line that is no command names no pool.
abbrev pub name_of_command : Option Command → Option (List ℕ)
name_of_command None = None
name_of_command (Some c) = name_in c

-- the line names a pool of the set
abbrev pub is_of : Names → List ℕ → Bool
is_of S line = is_within S (name_of_command (command_of line))

-- the line names a pool of the set, or no pool
abbrev pub is_line_of_set : Names → List ℕ → Bool
is_line_of_set S line = is_none_or_within S (name_of_command (command_of line))

-- a set's own lines: those that name a pool of the set, and those that name no pool
abbrev pub lines_of_set : Names → List (List ℕ) → List (List ℕ)
lines_of_set S lines = filter (is_line_of_set S) lines

-- the answers to the lines that name a pool of the set
abbrev pub answers_to : Names → List Turn → List Answer
answers_to S turns = map (λ t. t.answer) (filter (λ t. is_of S t.line) turns)
