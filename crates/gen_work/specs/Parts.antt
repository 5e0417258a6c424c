-- The parts of a generated script, and the lines that are still to come.
use Rattle.std.specs.Prelude.{ℕ, zero, suc, ◌+◌, ◌-◌, ◌*◌, ◌==◌, nat_le, cond, List, [], ◌++◌, drop}
use Rattle.gen_work.specs.GenLines.{next_number, opening_lines, object_lines, closing_lines}

-- The lines of part i in the script for n objects. Part 0 comes before the objects. Part i is object i, whose number is
-- x. Part n + 1 comes after the objects.
abbrev pub part_lines : (n i x : ℕ) → List (List ℕ)
part_lines n i x = cond (i == 0) opening_lines (cond (nat_le i n) (object_lines i x) closing_lines)

-- the lines of the next `parts` parts after part i, whose number is x
unfoldable pub parts_after : (parts n i x : ℕ) → List (List ℕ)
parts_after zero n i x = []
parts_after (suc parts) n i x = part_lines n (i + 1) (next_number x) ++ parts_after parts n (i + 1) (next_number x)

-- the lines that are to come when the first `step` lines of part i are done, and none after them
abbrev pub to_come : (n i x step : ℕ) → List (List ℕ)
to_come n i x step = drop step (part_lines n i x) ++ parts_after (n + 1 - i) n i x

-- how many lines come before part i
abbrev pub lines_before : ℕ → ℕ
lines_before i = cond (i == 0) 0 (5 * (i - 1) + 3)
