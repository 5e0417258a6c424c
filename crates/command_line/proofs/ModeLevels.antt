-- What the parse makes of the words after each mode's word.
use Rattle.std.proofs.Common.{◌≡◌, ◌∙◌, ◌^◌, ◌+◌, ℕ, Bool, cond, ◌||◌, codes, true, false, refl, sym, ap, List, [], ◌∷◌, Option, Some, None}
use Rattle.std.specs.Prelude.{bytes_eq, option_and_then, option_map}
use Rattle.pud_defs.specs.declared.layout.TheConstants.{MIN_FRAMES, MAX_FRAMES}
use Rattle.pud_defs.specs.StateMachine.Grammar.{number_within}
use Rattle.clap.specs.Walk.{Row, Rule, Text, Walk, after_step, used, value}
use Rattle.clap.specs.Simple.{Shape, filled, new_shape, with_index}
use Rattle.clap.specs.Faults.{defaults_fault, step_fault}
use Rattle.clap.specs.declared.error.kind.ErrorKind.TheVariants.{UnknownArgument}
use Rattle.command_line.specs.declared.modes.Mode.{Mode}
use Rattle.command_line.specs.declared.modes.Mode.TheVariants.{Format, Gen}
use Rattle.command_line.specs.declared.modes.TheConstants.{MAX_SEED, MAX_OBJECTS}
use Rattle.command_line.specs.CommandLine.{format_of, gen_of, without_dashes}
use Rattle.command_line.specs.Parsing.{number_rule, numbers_found}
use Rattle.command_line.proofs.WordKinds.{HasNoOptions, WordKind, dashes, holding, positional, refused, word_kind}
use Rattle.command_line.proofs.Turns.{GoesOn, after_dashes, standing, value_goes_on}
use Rattle.command_line.proofs.Levels.{at_refused, ending, ends, outcome, past_dashes, stray, taken}

-- the subcommand of a mode, after the parser has built it
abbrev pub built_level : Text → List Rule → Shape
built_level name rules = record (new_shape name) {
  rules = rules;
  disable_help_flag = true;
  disable_help_subcommand = true;
  disable_version_flag = true;
  is_built = true;
}

-- how `without_dashes` treats the first word
front : {X : Type 0} (result : List Text → X) (word : Text) (words : List Text) (is : Bool) → bytes_eq word (codes "--") ≡ is
    → result (without_dashes (word ∷ words)) ≡ result (cond is words (word ∷ without_dashes words))
front result word words is test = ap (λ b. result (cond b words (word ∷ without_dashes words))) test

-- ---- a mode without arguments

-- the mode, only if no word is left
abbrev pub if_alone : Option Mode → List Text → Option Mode
if_alone mode [] = mode
if_alone mode (word ∷ words) = None

module _ (name : Text) (mode : List Row → Option Mode) where
  abbrev at_once : Bool → List Text → Option Mode
  at_once following words = outcome (built_level name []) mode (standing [] None 1 following) words

  alone_after : (words : List Text) → at_once true words ≡ if_alone (mode []) words
  unfolding defaults_fault
  alone_after [] = ends (built_level name []) mode (standing [] None 1 true)
  alone_after (word ∷ words) = stray (built_level name []) mode [] None 1 word words true (after_dashes (built_level name []) [] [] None 1 word) UnknownArgument [] refl

  pub alone : (words : List Text) → at_once false words ≡ if_alone (mode []) (without_dashes words)
  unfolding defaults_fault
  alone [] = ends (built_level name []) mode (standing [] None 1 false)
  alone (word ∷ words) = by_kind (word_kind [] (record { long = λ _. refl; short = λ _. refl }) word)
    where
      by_kind : WordKind [] word → at_once false (word ∷ words) ≡ if_alone (mode []) (without_dashes (word ∷ words))
      by_kind (dashes test) =
          past_dashes (built_level name []) mode [] None 1 word words test ∙ alone_after words ∙ sym (front (if_alone (mode [])) word words true test)
      by_kind (refused test is) =
          at_refused (built_level name []) mode [] None 1 word words test is ∙ sym (front (if_alone (mode [])) word words false test)
      by_kind (positional test is) =
          stray (built_level name []) mode [] None 1 word words false (value_goes_on (built_level name []) [] [] None 1 word refl test is) UnknownArgument [] refl
          ∙ sym (front (if_alone (mode [])) word words false test)

-- ---- a mode of two numbers

abbrev ready : ℕ → Text → Rule
ready place id = with_index place (filled (number_rule id))

-- an argument and its word
abbrev pending : Text → Text → Option (Text × List Text)
pending id word = Some (id, word ∷ [])

-- a mode with two numbers, from the words after its word
abbrev pub of_two : (Text → Text → Option Mode) → List Text → Option Mode
of_two mode (first ∷ second ∷ []) = mode first second
of_two mode words = None

-- A word that is no number is neither of the mode's two numbers.
pub record ReadsNumbers (mode : Text → Text → Option Mode) : Type 0 where
  pub first : (word second : Text) → ((least end : ℕ) → number_within least end word ≡ None) → mode word second ≡ None
  pub second : (first word : Text) → ((least end : ℕ) → number_within least end word ≡ None) → mode first word ≡ None

-- the subcommand of a mode with two numbers
abbrev pub level_of_two : (word first second : Text) → Shape
level_of_two word first second = built_level word (ready 1 first ∷ ready 2 second ∷ [])

-- the walk before the first number, before the second, and after both
abbrev at_first : Bool → Walk
at_first = standing [] None 1

abbrev at_second : (first a : Text) → Bool → Walk
at_second first a = standing [] (pending first a) 2

-- the row of the first number after it is read
abbrev row_of_first : (first a : Text) → List Row
row_of_first first a = used (ready 1 first) (a ∷ []) []

abbrev at_end : (first second a b : Text) → Bool → Walk
at_end first second a b = standing (row_of_first first a) (pending second b) 3

module _ (word first second : Text) (mode : Text → Text → Option Mode) where
  abbrev two_level : Shape
  two_level = level_of_two word first second

  abbrev found : List Row → Option Mode
  found = numbers_found mode first second

  -- Each of the two places takes a word, and there is no third place. At the end both numbers have to be there.
  pub record TakesTwo : Type 0 where
    pub first_fault : step_fault two_level 1 (holding [] None) value ≡ []
    pub first_taken : (a : Text) (following : Bool) → after_step two_level.rules a (at_first following) (holding [] None) value ≡ at_second first a following
    pub second_fault : (a : Text) → step_fault two_level 2 (holding [] (pending first a)) value ≡ []
    pub second_taken : (a b : Text) (following : Bool) → after_step two_level.rules b (at_second first a following) (holding [] (pending first a)) value ≡ at_end first second a b following
    pub third_fault : (a b : Text) → step_fault two_level 3 (holding (row_of_first first a) (pending second b)) value ≡ UnknownArgument ∷ []
    pub none_there : (following : Bool) → ending two_level found [] (at_first following).held ≡ None
    pub one_there : (a : Text) (following : Bool) → ending two_level found [] (at_second first a following).held ≡ None
    pub both_there : (a b : Text) (following : Bool) → ending two_level found [] (at_end first second a b following).held ≡ mode a b

  module _ (reads : ReadsNumbers mode) (takes : TakesTwo) where
    abbrev comes : Walk → List Text → Option Mode
    comes = outcome two_level found

    no_options : HasNoOptions two_level.rules
    no_options = record { long = λ _. refl; short = λ _. refl }

    no_first : (w : Text) (words : List Text) → ((least end : ℕ) → number_within least end w ≡ None) → of_two mode (w ∷ words) ≡ None
    no_first w [] none = refl
    no_first w (b ∷ []) none = reads.first w b none
    no_first w (b ∷ third ∷ words) none = refl

    no_second : (a w : Text) (words : List Text) → ((least end : ℕ) → number_within least end w ≡ None) → of_two mode (a ∷ w ∷ words) ≡ None
    no_second a w [] none = reads.second a w none
    no_second a w (third ∷ words) none = refl

    -- after both numbers
    module _ (a b : Text) where
      -- a third word is too many
      third_at : (w : Text) (words : List Text) (following : Bool) → GoesOn two_level [] (row_of_first first a) (pending second b) 3 w following
          → comes (at_end first second a b following) (w ∷ words) ≡ None
      third_at w words following on = stray two_level found (row_of_first first a) (pending second b) 3 w words following on UnknownArgument [] (takes.third_fault a b)

      end_after : (words : List Text) → comes (at_end first second a b true) words ≡ of_two mode (a ∷ b ∷ words)
      end_after [] = ends two_level found (at_end first second a b true) ∙ takes.both_there a b true
      end_after (w ∷ words) = third_at w words true (after_dashes two_level [] (row_of_first first a) (pending second b) 3 w)

      end_front : (words : List Text) → comes (at_end first second a b false) words ≡ of_two mode (a ∷ b ∷ without_dashes words)
      end_front [] = ends two_level found (at_end first second a b false) ∙ takes.both_there a b false
      end_front (w ∷ words) = by_kind (word_kind two_level.rules no_options w)
        where
          by_kind : WordKind two_level.rules w → comes (at_end first second a b false) (w ∷ words) ≡ of_two mode (a ∷ b ∷ without_dashes (w ∷ words))
          by_kind (dashes test) =
              past_dashes two_level found (row_of_first first a) (pending second b) 3 w words test ∙ end_after words
              ∙ sym (front (λ args. of_two mode (a ∷ b ∷ args)) w words true test)
          by_kind (refused test is) =
              at_refused two_level found (row_of_first first a) (pending second b) 3 w words test is
              ∙ sym (front (λ args. of_two mode (a ∷ b ∷ args)) w words false test)
          by_kind (positional test is) =
              third_at w words false (value_goes_on two_level [] (row_of_first first a) (pending second b) 3 w refl test is)
              ∙ sym (front (λ args. of_two mode (a ∷ b ∷ args)) w words false test)

    -- before the second number
    module _ (a : Text) where
      second_after : (words : List Text) → comes (at_second first a true) words ≡ of_two mode (a ∷ words)
      second_after [] = ends two_level found (at_second first a true) ∙ takes.one_there a true
      second_after (w ∷ words) =
          taken two_level found [] (pending first a) 2 w words true
          (after_dashes two_level [] [] (pending first a) 2 w) (at_end first second a w true) (takes.second_fault a) (takes.second_taken a w true)
          ∙ end_after a w words

      second_front : (words : List Text) → comes (at_second first a false) words ≡ of_two mode (a ∷ without_dashes words)
      second_front [] = ends two_level found (at_second first a false) ∙ takes.one_there a false
      second_front (w ∷ words) = by_kind (word_kind two_level.rules no_options w)
        where
          by_kind : WordKind two_level.rules w → comes (at_second first a false) (w ∷ words) ≡ of_two mode (a ∷ without_dashes (w ∷ words))
          by_kind (dashes test) =
              past_dashes two_level found [] (pending first a) 2 w words test ∙ second_after words
              ∙ sym (front (λ args. of_two mode (a ∷ args)) w words true test)
          by_kind (refused test is) =
              at_refused two_level found [] (pending first a) 2 w words test is
              ∙ sym (front (λ args. of_two mode (a ∷ args)) w words false test ∙ no_second a w (without_dashes words) is.number)
          by_kind (positional test is) =
              taken two_level found [] (pending first a) 2 w words false
              (value_goes_on two_level [] [] (pending first a) 2 w refl test is) (at_end first second a w false) (takes.second_fault a) (takes.second_taken a w false)
              ∙ end_front a w words ∙ sym (front (λ args. of_two mode (a ∷ args)) w words false test)

    -- before the first number
    first_after : (words : List Text) → comes (at_first true) words ≡ of_two mode words
    first_after [] = ends two_level found (at_first true) ∙ takes.none_there true
    first_after (w ∷ words) =
        taken two_level found [] None 1 w words true (after_dashes two_level [] [] None 1 w) (at_second first w true) takes.first_fault (takes.first_taken w true)
        ∙ second_after w words

    pub first_front : (words : List Text) → comes (at_first false) words ≡ of_two mode (without_dashes words)
    first_front [] = ends two_level found (at_first false) ∙ takes.none_there false
    first_front (w ∷ words) = by_kind (word_kind two_level.rules no_options w)
      where
        by_kind : WordKind two_level.rules w → comes (at_first false) (w ∷ words) ≡ of_two mode (without_dashes (w ∷ words))
        by_kind (dashes test) = past_dashes two_level found [] None 1 w words test ∙ first_after words ∙ sym (front (of_two mode) w words true test)
        by_kind (refused test is) =
            at_refused two_level found [] None 1 w words test is
            ∙ sym (front (of_two mode) w words false test ∙ no_first w (without_dashes words) is.number)
        by_kind (positional test is) =
            taken two_level found [] None 1 w words false (value_goes_on two_level [] [] None 1 w refl test is) (at_second first w false) takes.first_fault (takes.first_taken w false)
            ∙ second_front w words ∙ sym (front (of_two mode) w words false test)

-- ---- `format F ID` and `gen S N`

or_false : (b : Bool) → b || false ≡ b
or_false true = refl
or_false false = refl

-- two numbers, each in its range
module _ (made : ℕ → ℕ → Mode) (least end other_least other_end : ℕ) where
  abbrev by_numbers : Text → Text → Option Mode
  by_numbers a b = option_and_then (λ m. option_map (made m) (number_within other_least other_end b)) (number_within least end a)

  never : (o : Option ℕ) → ◌≡◌ {A = Option Mode} (option_and_then (λ (m : ℕ). None) o) None
  never None = refl
  never (Some n) = refl

  reads_numbers : ReadsNumbers by_numbers
  reads_numbers = record {
    first = λ word b none. ap (option_and_then (λ m. option_map (made m) (number_within other_least other_end b))) (none least end);
    second = λ a word none. ap (λ o. option_and_then (λ m. option_map (made m) o) (number_within least end a)) (none other_least other_end)
        ∙ never (number_within least end a);
  }

format_takes : TakesTwo (codes "format") (codes "frames") (codes "id") format_of
unfolding defaults_fault
format_takes = record {
  first_fault = refl;
  first_taken = λ a following. ap (at_second (codes "frames") a) (or_false following);
  second_fault = λ a. refl;
  second_taken = λ a b following. ap (at_end (codes "frames") (codes "id") a b) (or_false following);
  third_fault = λ a b. refl;
  none_there = λ following. refl;
  one_there = λ a following. refl;
  both_there = λ a b following. refl;
}

pub format_front : (words : List Text) → outcome (level_of_two (codes "format") (codes "frames") (codes "id")) (numbers_found format_of (codes "frames") (codes "id")) (standing [] None 1 false) words ≡ of_two format_of (without_dashes words)
format_front = first_front (codes "format") (codes "frames") (codes "id") format_of (reads_numbers Format MIN_FRAMES (MAX_FRAMES + 1) 0 (2 ^ 64)) format_takes

gen_takes : TakesTwo (codes "gen") (codes "seed") (codes "count") gen_of
unfolding defaults_fault
gen_takes = record {
  first_fault = refl;
  first_taken = λ a following. ap (at_second (codes "seed") a) (or_false following);
  second_fault = λ a. refl;
  second_taken = λ a b following. ap (at_end (codes "seed") (codes "count") a b) (or_false following);
  third_fault = λ a b. refl;
  none_there = λ following. refl;
  one_there = λ a following. refl;
  both_there = λ a b following. refl;
}

pub gen_front : (words : List Text) → outcome (level_of_two (codes "gen") (codes "seed") (codes "count")) (numbers_found gen_of (codes "seed") (codes "count")) (standing [] None 1 false) words ≡ of_two gen_of (without_dashes words)
gen_front = first_front (codes "gen") (codes "seed") (codes "count") gen_of (reads_numbers Gen 0 (MAX_SEED + 1) 1 (MAX_OBJECTS + 1)) gen_takes
