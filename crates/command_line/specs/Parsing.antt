-- The program's command as the parser of command lines sees it, and the mode that a parse gives.
use Rattle.std.specs.Prelude.{true, false, cond, List, [], ◌∷◌, codes, bytes_eq, Option, None, option_and_then}
use Rattle.clap.specs.Words.{App, Row, Rule, Shape, Text, fault_of, first_of, new_rule, subcommand_of}
use Rattle.clap.specs.Simple.{new_shape}
use Rattle.clap.specs.Kinds.{Kinds}
use Rattle.command_line.specs.declared.modes.Mode.{Mode}
use Rattle.command_line.specs.CommandLine.{format_of, gen_of, mode_alone}

-- an argument that has to be there
abbrev pub number_rule : Text → Rule
number_rule id = record (new_rule id) { required = true }

-- the subcommand of a mode with two numbers, from its word and the names of the numbers
abbrev pub numbers_shape : (word first second : Text) → Shape
numbers_shape word first second = record (new_shape word) { rules = number_rule first ∷ number_rule second ∷ [] }

-- `format F ID`
abbrev pub format_shape : Shape
format_shape = numbers_shape (codes "format") (codes "frames") (codes "id")

-- `gen S N`
abbrev pub gen_shape : Shape
gen_shape = numbers_shape (codes "gen") (codes "seed") (codes "count")

-- the program's command: it has the modes, and neither help nor a version
abbrev pub the_command : App
the_command = record {
  top = record (new_shape (codes "puddle")) {
    is_leaf = false;
    disable_help_flag = true;
    disable_help_subcommand = true;
    disable_version_flag = true;
    subcommand_required = true;
  };
  subs = format_shape ∷ new_shape (codes "run") ∷ new_shape (codes "layout") ∷ new_shape (codes "check") ∷ gen_shape ∷ [];
}

-- a mode with two numbers, from what the parse found for its arguments
abbrev pub numbers_found : (Text → Text → Option Mode) → (first second : Text) → List Row → Option Mode
numbers_found mode first second rows = option_and_then (λ text. option_and_then (mode text) (first_of second rows)) (first_of first rows)

-- the mode of a subcommand, from its name and what the parse found for its arguments
abbrev pub mode_named : Text → List Row → Option Mode
mode_named name rows =
    cond (bytes_eq name (codes "format")) (numbers_found format_of (codes "frames") (codes "id") rows)
    (cond (bytes_eq name (codes "gen")) (numbers_found gen_of (codes "seed") (codes "count") rows) (mode_alone name))

abbrev pub mode_found : Option (Text × List Row) → Option Mode
mode_found = option_and_then (λ found. mode_named found.0 found.1)

-- the mode that was found, if no step of the parse failed
abbrev pub where_faultless : Kinds → Option Mode → Option Mode
where_faultless [] mode = mode
where_faultless (kind ∷ kinds) mode = None

-- the mode that a parse of the words gives. The first word is the program's name
abbrev pub mode_of_words : List Text → Option Mode
mode_of_words words = where_faultless (fault_of the_command words) (mode_found (subcommand_of the_command words))
