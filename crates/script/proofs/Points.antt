-- Too many pieces for the place of a field.
use Rattle.std.proofs.Common.{◌≡◌, ℕ, ◌<◌, List, [], ◌∷◌, length, None, refl, arith}
use Rattle.pud_defs.specs.StateMachine.Grammar.{split_at, field_by}
use Rattle.script.proofs.Taken.{has_piece}

third_piece : (object field : List ℕ) (pieces : List (List ℕ)) → 0 < length pieces → field_by (object ∷ field ∷ pieces) ≡ None
third_piece object field [] h = absurd (omega arith)
third_piece object field (piece ∷ pieces) h = refl

-- after a second point there is a third piece, so there is no field
pub second_point : (separator : ℕ) (object field bytes : List ℕ) → field_by (object ∷ field ∷ split_at separator bytes) ≡ None
second_point separator object field bytes = third_piece object field (split_at separator bytes) (has_piece separator bytes)
