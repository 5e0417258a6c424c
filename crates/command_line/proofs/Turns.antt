-- How the parser's walk takes one word, for a command without options.
use Rattle.std.proofs.Common.{◌≡◌, ◌∙◌, ℕ, Bool, cond, codes, true, false, refl, ap, ap₂, List, [], ◌∷◌, Option, None}
use Rattle.std.specs.Prelude.{bytes_eq}
use Rattle.clap.specs.Lexer.{long_of}
use Rattle.clap.specs.Walk.{Held, Names, Row, Step, Text, Walk, after_step, idle, long_or_other, subcommand_met, subcommand_or_other, trailing, value, walked}
use Rattle.clap.specs.Simple.{Shape}
use Rattle.clap.specs.Kinds.{Kinds, or_else}
use Rattle.clap.specs.Faults.{flag_word_fault, other_fault, step_fault, turn_fault}
use Rattle.clap.specs.declared.error.kind.ErrorKind.TheVariants.{UnknownArgument}
use Rattle.command_line.proofs.WordKinds.{IsRefused, IsValue, holding}

-- The walk between two words. The next positional argument is the one of this place. `following` tells whether `--` came
-- before.
abbrev pub standing : List Row → Option (Text × List Text) → ℕ → Bool → Walk
standing rows pending place following = record {
  held = holding rows pending;
  waiting = idle;
  position = place;
  is_trailing = following;
  stopped = None;
}

module _ (s : Shape) (names : Names) (rows : List Row) (pending : Option (Text × List Text)) (place : ℕ) (word : Text) where
  abbrev turn : Bool → Kinds
  turn following = turn_fault s names (standing rows pending place following) word

  abbrev next : Bool → Walk
  next following = walked s.rules names (standing rows pending place following) word

  -- the word goes to a positional argument
  pub record GoesOn (following : Bool) : Type 0 where
    pub kinds : turn following ≡ step_fault s place (holding rows pending) value
    pub walk : next following ≡ after_step s.rules word (standing rows pending place following) (holding rows pending) value

  -- each word after `--` goes to a positional argument
  pub after_dashes : GoesOn true
  unfolding walked
  after_dashes = record { kinds = refl; walk = refl }

  -- before `--`, a word that names no subcommand
  module _ (plain : subcommand_met names idle word ≡ None) where
    abbrev met : Option Text → Held × Step
    met name = subcommand_or_other s.rules name idle place word (holding rows pending)

    abbrev kinds_by : Option Text → Kinds
    kinds_by name = or_else (other_fault s name word (holding rows pending)) (step_fault s place (met name).0 (met name).1)

    abbrev walk_by : Option Text → Walk
    walk_by name = after_step s.rules word (standing rows pending place false) (met name).0 (met name).1

    -- the same, by whether the word is `--`, and otherwise by what it is
    abbrev met_at : Bool → Held × Step → Held × Step
    met_at is other = cond is (holding rows pending, trailing place) other

    abbrev kinds_at : Bool → Kinds → Held × Step → Kinds
    kinds_at is kinds other = or_else (cond is [] kinds) (step_fault s place (met_at is other).0 (met_at is other).1)

    abbrev walk_at : Bool → Held × Step → Walk
    walk_at is other = after_step s.rules word (standing rows pending place false) (met_at is other).0 (met_at is other).1

    abbrev flag_kinds : Kinds
    flag_kinds = flag_word_fault s.rules s.args_override_self (long_of word) word (holding rows pending)

    abbrev other_met : Held × Step
    other_met = long_or_other s.rules idle word (long_of word) (holding rows pending)

    kinds_are : (is : Bool) → bytes_eq word (codes "--") ≡ is → turn false ≡ kinds_at is flag_kinds other_met
    kinds_are is test = ap kinds_by plain ∙ ap (λ b. kinds_at b flag_kinds other_met) test

    walk_is : (is : Bool) → bytes_eq word (codes "--") ≡ is → next false ≡ walk_at is other_met
    unfolding walked
    walk_is is test = ap walk_by plain ∙ ap (λ b. walk_at b other_met) test

    pub dashes_pass : bytes_eq word (codes "--") ≡ true → turn false ≡ []
    dashes_pass test = kinds_are true test

    pub dashes_lead : bytes_eq word (codes "--") ≡ true → next false ≡ standing rows pending place true
    dashes_lead test = walk_is true test

    pub refused_fails : bytes_eq word (codes "--") ≡ false → IsRefused s.rules word → turn false ≡ UnknownArgument ∷ []
    refused_fails test is =
        kinds_are false test ∙ ap (λ kinds. kinds_at false kinds other_met) (is.kinds s.args_override_self rows pending)

    pub value_goes_on : bytes_eq word (codes "--") ≡ false → IsValue s.rules word → GoesOn false
    value_goes_on test is = record {
      kinds = kinds_are false test ∙ ap₂ (kinds_at false) (is.kinds s.args_override_self rows pending) (is.step rows pending);
      walk = walk_is false test ∙ ap (walk_at false) (is.step rows pending);
    }
