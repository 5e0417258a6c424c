-- The pieces of a line that are still to be read.
use Rattle.std.specs.Prelude.{ℕ, List, [], ◌∷◌, Option, Some, None}
use denote.Ref.{Bor}
use Rattle.pud_defs.specs.StateMachine.Grammar.{split_at}

-- The pieces of the bytes that are left. If nothing is left there is no piece, not even an empty one.
abbrev pub pieces_of : ℕ → Option (Bor (List ℕ)) → List (List ℕ)
pieces_of separator None = []
pieces_of separator (Some bytes) = split_at separator bytes.now

-- the first piece and the pieces after it, if a piece is left
abbrev pub with_front : Option (Bor (List ℕ)) → List (List ℕ) → List (List ℕ)
with_front None following = []
with_front (Some front) following = front.now ∷ following
