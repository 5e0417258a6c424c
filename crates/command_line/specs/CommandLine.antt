-- What each command line asks for.
use Rattle.std.specs.Prelude.{ℕ, ◌+◌, ◌^◌, ◌<◌, ◌≤◌, cond, List, [], ◌∷◌, codes, bytes_eq, Option, Some, None, option_map, option_and_then}
use Rattle.pud_defs.specs.declared.layout.TheConstants.{MIN_FRAMES, MAX_FRAMES}
use Rattle.pud_defs.specs.StateMachine.Grammar.{number_within}
use Rattle.command_line.specs.declared.modes.Mode.{Mode}
use Rattle.command_line.specs.declared.modes.Mode.TheVariants.{Format, Run, Layout, Check, Gen}
use Rattle.command_line.specs.declared.modes.TheConstants.{MAX_SEED, MAX_OBJECTS}

-- `format F ID`, from its two arguments
abbrev pub format_of : List ℕ → List ℕ → Option Mode
format_of frames id = option_and_then (λ F. option_map (λ machine. Format F machine) (number_within 0 (2 ^ 64) id)) (number_within MIN_FRAMES (MAX_FRAMES + 1) frames)

-- `gen S N`, from its two arguments
abbrev pub gen_of : List ℕ → List ℕ → Option Mode
gen_of seed count = option_and_then (λ S. option_map (λ N. Gen S N) (number_within 1 (MAX_OBJECTS + 1) count)) (number_within 0 (MAX_SEED + 1) seed)

-- the words without the first `--`
abbrev pub without_dashes : List (List ℕ) → List (List ℕ)
without_dashes [] = []
without_dashes (word ∷ words) = cond (bytes_eq word (codes "--")) words (word ∷ without_dashes words)

-- the mode of a word with no words after it
abbrev pub mode_alone : List ℕ → Option Mode
mode_alone word =
    cond (bytes_eq word (codes "run")) (Some Run) (cond (bytes_eq word (codes "layout")) (Some Layout) (cond (bytes_eq word (codes "check")) (Some Check) None))

-- the mode of a word with two words after it
abbrev pub mode_with : (word first second : List ℕ) → Option Mode
mode_with word first second = cond (bytes_eq word (codes "format")) (format_of first second) (cond (bytes_eq word (codes "gen")) (gen_of first second) None)

-- the mode, from the mode's word and the words after it
abbrev pub mode_by : List ℕ → List (List ℕ) → Option Mode
mode_by word [] = mode_alone word
mode_by word (first ∷ second ∷ []) = mode_with word first second
mode_by _ _ = None

-- What the words ask for. The first word is the program's name. None if the words are no mode. One `--` may stand
-- anywhere after the mode's word.
abbrev pub mode_of : List (List ℕ) → Option Mode
mode_of (name ∷ word ∷ rest) = mode_by word (without_dashes rest)
mode_of _ = None

-- each number of the mode is in its range
abbrev pub IsLegalMode : Mode → Type 0
IsLegalMode (Format frames id) = (MIN_FRAMES ≤ frames) × (frames ≤ MAX_FRAMES) × (id < 2 ^ 64)
IsLegalMode Run = Unit {0}
IsLegalMode Layout = Unit {0}
IsLegalMode Check = Unit {0}
IsLegalMode (Gen seed count) = (seed ≤ MAX_SEED) × (1 ≤ count) × (count ≤ MAX_OBJECTS)
