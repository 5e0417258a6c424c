-- How far a pool's frontiers move.
use Rattle.std.specs.Prelude.{ℕ, ◌+◌, ◌-◌, ◌==◌, cond, min, List, [], ◌∷◌, slice_get, Option, Some, None}
use Rattle.pud_defs.specs.declared.records.Puddle.{Puddle}
use Rattle.pud_defs.specs.Formats.Geometry.{steps_of}
use Rattle.pud_defs.specs.RegistryTables.Puddles.{moved_to}
use Rattle.graph_laws.specs.Steps.{with_steps}

-- how many steps of a puddle are left
abbrev pub steps_left : Puddle → ℕ
steps_left d = steps_of d - d.frontier

-- The frontier of a puddle after n more steps, or at the puddle's end.
abbrev pub frontier_after : (n : ℕ) → Puddle → ℕ
frontier_after n d = d.frontier + min n (steps_left d)

-- how many steps of a pool are left
unfoldable pub left_among : List (ℕ × Puddle) → ℕ
left_among [] = 0
left_among (e ∷ at) = steps_left e.1 + left_among at

-- A pool after n more steps, in the order of ordinals and then of steps.
unfoldable pub steps_from : (n : ℕ) → List (ℕ × Puddle) → List (ℕ × Puddle)
steps_from n [] = []
steps_from n (e ∷ at) = (e.0, moved_to (frontier_after n e.1) e.1) ∷ steps_from (n - min n (steps_left e.1)) at

-- The pool with this frontier of the ordinal's puddle, if there is one.
abbrev pub moved_at : (o : ℕ) → (Puddle → ℕ) → Option (ℕ × Puddle) → List (ℕ × Puddle) → List (ℕ × Puddle)
moved_at o to None at = at
moved_at o to (Some e) at = with_steps o (to e.1) e at

-- The pool after n more steps of the ordinal's puddle.
abbrev pub stepped_at : (o n : ℕ) → List (ℕ × Puddle) → List (ℕ × Puddle)
stepped_at o n at = moved_at o (frontier_after n) (slice_get at o) at

-- The pool with the ordinal's puddle rewritten to its end.
abbrev pub finished_at : (o : ℕ) → List (ℕ × Puddle) → List (ℕ × Puddle)
finished_at o at = moved_at o (λ d. d.frontier + steps_left d) (slice_get at o) at

-- The frontier of a puddle, or 0 if there is none.
abbrev pub frontier_in : Option (ℕ × Puddle) → ℕ
frontier_in None = 0
frontier_in (Some e) = e.1.frontier

-- the frontiers of a pool by their ordinals
abbrev pub frontiers_of : List (ℕ × Puddle) → ℕ → ℕ
frontiers_of at o = frontier_in (slice_get at o)

-- The same for one ordinal alone, and 0 for each other ordinal.
abbrev pub frontier_at : (o : ℕ) → List (ℕ × Puddle) → ℕ → ℕ
frontier_at o at i = cond (i == o) (frontiers_of at i) 0
