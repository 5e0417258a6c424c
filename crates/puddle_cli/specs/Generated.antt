-- The bytes of generated lines.
use Rattle.std.specs.Prelude.{◌≡◌, ℕ, List, [], ◌∷◌, ◌++◌, flat_map, Option, Some, None}

-- The bytes of these lines, each closed by a newline.
abbrev pub bytes_of : List (List ℕ) → List ℕ
bytes_of lines = flat_map (λ line. line ++ 10 ∷ []) lines

-- The first byte was taken, or there was none.
abbrev pub TakesFirst : Option ℕ → (bytes left : List ℕ) → Type 0
TakesFirst None bytes left = (bytes ≡ []) × (left ≡ bytes)
TakesFirst (Some byte) bytes left = bytes ≡ byte ∷ left
