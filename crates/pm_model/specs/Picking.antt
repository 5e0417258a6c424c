-- Which of its values a word keeps at a power loss, as the hosts here read a pick.
use Rattle.std.specs.Prelude.{ℕ, ◌/◌, ◌%◌, ◌^◌, Bool, ◌||◌, ◌==◌}

-- The word keeps its newest value and not its durable one. With pick 1 each word does, and with pick 0 none. With any
-- other pick those words do for which bit `k % 64` of the pick is set.
abbrev pub keeps_newest : ℕ → ℕ → Bool
keeps_newest pick k = (pick == 1) || (pick / 2 ^ (k % 64) % 2 == 1)
