-- The serials of the live places of a pool.
use Rattle.std.specs.Prelude.{ℕ, zero, suc, ◌+◌, ◌==◌, cond, List, [], ◌∷◌}

-- The serials of the live places among `count` places from a given one on, in the order of the places.
unfoldable pub live_serials : (ℕ → ℕ) → (from count : ℕ) → List ℕ
live_serials serial from zero = []
live_serials serial from (suc count) = let later = live_serials serial (from + 1) count in cond (serial from == 0) later (serial from ∷ later)
