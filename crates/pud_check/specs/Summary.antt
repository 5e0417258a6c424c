-- What is printed after a generated run: how many lines it had, and how many objects its two pools have, with the sum
-- of the numbers in these objects.
use Rattle.std.specs.Prelude.{ℕ, List, ◌++◌, length, replicate, codes, decimal, Option, Some, None, option_map}
use Rattle.pud_defs.specs.PoolGraphs.Holdings.{Holding}
use Rattle.pud_defs.specs.PoolGraphs.Holdings.Holding.{Sound, Wild}
use Rattle.pud_defs.specs.StateMachine.World.{StoredWorld}
use Rattle.pud_defs.specs.StateMachine.PoolChanges.{pool_named}
use Rattle.pud_defs.specs.Output.Texts.{line_of}
use Rattle.pud_defs.specs.Output.Listing.{name_text}
use Rattle.graph_read.specs.Numbers.{number_sum}
use Rattle.pud_check.specs.declared.sums.Summed.{Summed}
use Rattle.pud_check.specs.declared.sums.Summed.TheVariants as sums

-- ---- the line of a pool

-- What a pool holds, summed up, if there is one.
abbrev pub summed : Option Holding → Summed
summed None = sums.Absent
summed (Some (Wild st)) = sums.Wild
summed (Some (Sound g)) = sums.Objects (length g.objects) (number_sum g)

-- `objects O sum V`, `wild` or `absent`
abbrev pub summed_text : Summed → List ℕ
summed_text sums.Absent = codes " absent"
summed_text sums.Wild = codes " wild"
summed_text (sums.Objects count sum) = codes " objects " ++ decimal count ++ codes " sum " ++ decimal sum

-- The same, after the pool's name.
abbrev pub summed_line : (name : List ℕ) → Summed → List ℕ
summed_line name what = line_of (name_text name ++ summed_text what)

-- The line of the pool with this name.
unfoldable pub sum_line : (name : List ℕ) → StoredWorld → List ℕ
sum_line name s = summed_line name (summed (option_map (λ p. p.holding) (pool_named name s)))

-- ---- all of it

-- The pool that a generated run makes.
abbrev pub gen_pool : List ℕ
gen_pool = codes "gen" ++ replicate 13 0

-- The pool that a generated run imports.
abbrev pub copy_pool : List ℕ
copy_pool = codes "copy" ++ replicate 12 0

-- `lines L refused R`
abbrev pub refusals_line : (lines refused : ℕ) → List ℕ
refusals_line lines refused = line_of (codes "lines " ++ decimal lines ++ codes " refused " ++ decimal refused)

-- What is printed after a run of `lines` lines, of which `refused` were refused.
unfoldable pub summary_text : (lines refused : ℕ) → StoredWorld → List ℕ
summary_text lines refused s = refusals_line lines refused ++ sum_line gen_pool s ++ sum_line copy_pool s
