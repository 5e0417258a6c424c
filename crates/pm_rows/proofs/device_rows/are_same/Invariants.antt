use Rattle.std.proofs.Common.{◌≡◌, ◌/◌, ℕ, true, take, get_or}
use Rattle.pm_rows.specs.Rows.{is_listed}
use Rattle.pm_rows.proofs.device_rows.are_same.Given as goal

abbrev pub invariant-loop-line : goal.invariant-loop-line
invariant-loop-line l =
    (word : ℕ) → is_listed (word / 8) (take l.line-index l.lines) ≡ true → get_or l.a.items word 0 ≡ get_or l.b.items word 0
