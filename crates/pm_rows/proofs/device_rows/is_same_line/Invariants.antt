use Rattle.std.proofs.Common.{◌≡◌, ◌+◌, ◌*◌, ◌<◌, ℕ, get_or}
use Rattle.pm_rows.proofs.device_rows.is_same_line.Given as goal

abbrev pub invariant-loop-place : goal.invariant-loop-place
invariant-loop-place l =
    (place : ℕ) → place < l.place → get_or l.a.items (8 * l.line + place) 0 ≡ get_or l.b.items (8 * l.line + place) 0
