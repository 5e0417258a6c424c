-- What it means to take an argument from the front.
use Rattle.std.specs.Prelude.{◌≡◌, ℕ, List, Option, option_and_then}
use Rattle.pud_defs.specs.StateMachine.Grammar.{Parser, taking}

-- The first of the arguments is of this kind and has this value, and the others are left. If the first is not of this
-- kind, there is no value. So each parser that takes such an argument first goes on with the value and with what is
-- left.
abbrev pub IsTaken : {A : Type 0} → (List ℕ → Option A) → List (List ℕ) → Option A → List (List ℕ) → Type 0
IsTaken {A} kind arguments value left = (next : A → Parser) → taking kind next arguments ≡ option_and_then (λ v. next v left) value
