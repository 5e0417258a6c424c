-- What the parse makes of the words at one level of a command without options.
use Rattle.std.proofs.Common.{◌≡◌, ◌∙◌, ℕ, Bool, codes, true, false, refl, ap, List, [], ◌∷◌, Option, None}
use Rattle.std.specs.Prelude.{bytes_eq, fold}
use Rattle.clap.specs.Walk.{Held, Row, Text, Walk, after_step, finished, settled, value, walked}
use Rattle.clap.specs.Simple.{Shape}
use Rattle.clap.specs.Kinds.{Kinds, or_else}
use Rattle.clap.specs.Faults.{check_fault, defaults_fault, settle_fault, step_fault, turn_fault, walk_fault}
use Rattle.clap.specs.declared.error.kind.ErrorKind.{ErrorKind}
use Rattle.clap.specs.declared.error.kind.ErrorKind.TheVariants.{UnknownArgument}
use Rattle.command_line.specs.declared.modes.Mode.{Mode}
use Rattle.command_line.specs.Parsing.{where_faultless}
use Rattle.command_line.proofs.WordKinds.{IsRefused, holding}
use Rattle.command_line.proofs.Turns.{GoesOn, dashes_lead, dashes_pass, refused_fails, standing}

-- the error kinds of the checks after the last word
abbrev pub end_kinds : Shape → Held → Kinds
end_kinds s h = or_else (settle_fault s.rules s.args_override_self h) (or_else (defaults_fault (settled s.rules h).rows s.rules) (check_fault s (finished s.rules h) false))

-- the mode at the end of a level, from the error kinds of its words and what the walk keeps
abbrev pub ending : Shape → (List Row → Option Mode) → Kinds → Held → Option Mode
ending s mode kinds h = where_faultless (or_else kinds (end_kinds s h)) (mode (finished s.rules h))

-- the mode of a level, when the walk is at this point and these words are left
unfoldable pub outcome : Shape → (List Row → Option Mode) → Walk → List Text → Option Mode
outcome s mode w words = ending s mode (walk_fault s [] w words) (fold (walked s.rules []) w words).held

module _ (s : Shape) (mode : List Row → Option Mode) where
  pub ends : (w : Walk) → outcome s mode w [] ≡ ending s mode [] w.held
  unfolding outcome walk_fault
  ends w = refl

  passes : (w next : Walk) (word : Text) (words : List Text) → turn_fault s [] w word ≡ [] → walked s.rules [] w word ≡ next
      → outcome s mode w (word ∷ words) ≡ outcome s mode next words
  unfolding outcome walk_fault
  passes w next word words kinds walk =
      ap (λ ks. ending s mode (or_else ks (walk_fault s [] (walked s.rules [] w word) words)) (fold (walked s.rules []) (walked s.rules [] w word) words).held) kinds
      ∙ ap (λ v. outcome s mode v words) walk

  fails : (w : Walk) (word : Text) (words : List Text) (kind : ErrorKind) (kinds : Kinds) → turn_fault s [] w word ≡ kind ∷ kinds → outcome s mode w (word ∷ words) ≡ None
  unfolding outcome walk_fault
  fails w word words kind kinds fault =
      ap (λ ks. ending s mode (or_else ks (walk_fault s [] (walked s.rules [] w word) words)) (fold (walked s.rules []) (walked s.rules [] w word) words).held) fault

  module _ (rows : List Row) (pending : Option (Text × List Text)) (place : ℕ) (word : Text) (words : List Text) where
    abbrev here : Bool → Option Mode
    here following = outcome s mode (standing rows pending place following) (word ∷ words)

    pub past_dashes : bytes_eq word (codes "--") ≡ true → here false ≡ outcome s mode (standing rows pending place true) words
    past_dashes test = passes _ _ word words (dashes_pass s [] rows pending place word refl test) (dashes_lead s [] rows pending place word refl test)

    pub at_refused : bytes_eq word (codes "--") ≡ false → IsRefused s.rules word → here false ≡ None
    at_refused test is = fails _ word words UnknownArgument [] (refused_fails s [] rows pending place word refl test is)

    -- a word that no place takes gives no mode
    pub stray : (following : Bool) → GoesOn s [] rows pending place word following → (kind : ErrorKind) (kinds : Kinds)
        → step_fault s place (holding rows pending) value ≡ kind ∷ kinds → here following ≡ None
    stray following on kind kinds fault = fails _ word words kind kinds (on.kinds ∙ fault)

    -- after a word that a positional argument takes, the walk goes on with the other words
    pub taken : (following : Bool) → GoesOn s [] rows pending place word following → (next : Walk) → step_fault s place (holding rows pending) value ≡ []
        → after_step s.rules word (standing rows pending place following) (holding rows pending) value ≡ next → here following ≡ outcome s mode next words
    taken following on next fault walk = passes _ next word words (on.kinds ∙ fault) (on.walk ∙ walk)
