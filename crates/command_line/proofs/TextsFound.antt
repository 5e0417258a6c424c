-- A mode with two numbers, from what the parse found for them.
use Rattle.std.proofs.Common.{◌≡◌, ◌∙◌, Option, ap₂}
use Rattle.std.specs.Prelude.{option_and_then}
use Rattle.clap.specs.Words.{Text, first_value, rows_of}
use Rattle.clap.specs.declared.parser.matches.Found.{Found}
use Rattle.clap.proofs.WalkLemmas.{first_value-rows}
use Rattle.command_line.specs.declared.modes.Mode.{Mode}
use Rattle.command_line.specs.Parsing.{numbers_found}

module _ (mode : Text → Text → Option Mode) (first second : Text) (f : Found) where
  -- the mode from the text of each number, if both were found
  abbrev by_texts : Option Text → Option Text → Option Mode
  by_texts a b = option_and_then (λ text. option_and_then (mode text) b) a

  pub texts_found : (a b : Option Text) → a ≡ first_value f first → b ≡ first_value f second → by_texts a b ≡ numbers_found mode first second (rows_of f)
  texts_found a b is_first is_second = ap₂ by_texts (is_first ∙ first_value-rows f first) (is_second ∙ first_value-rows f second)
