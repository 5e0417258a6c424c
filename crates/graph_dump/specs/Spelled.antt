-- JSON values and their compact texts.
use Rattle.std.specs.Prelude.{◌≡◌, ℕ, Bool, true, false, List, [], ◌∷◌, codes}
use Rattle.serde_json.specs.View.{view}
use Rattle.serde_json.specs.Written.{has_float, compact_text}
use Rattle.serde_json.specs.declared.value.Value.{Value}

-- The value has no float, and its compact text is this one.
pub record Spells (text : List ℕ) (v : Value) : Type 0 where
  pub floatless : has_float (view v) ≡ false
  pub text_is : compact_text (view v) ≡ text

-- There are as many values as texts, and each value spells the text at its position.
abbrev pub SpellsEach : List (List ℕ) → List Value → Type 0
SpellsEach [] [] = Unit {0}
SpellsEach [] (v ∷ vs) = ⊥
SpellsEach (text ∷ texts) [] = ⊥
SpellsEach (text ∷ texts) (v ∷ vs) = Spells text v × SpellsEach texts vs

-- What comes before a text in a list: nothing before the first one, a comma before each later one.
abbrev pub separator : (is_first : Bool) → List ℕ
separator true = []
separator false = codes ","
