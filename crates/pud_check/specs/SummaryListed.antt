-- The summary of a generated run, as the tables of a device list its pools, whether they are sound or not.
use Rattle.std.specs.Prelude.{ℕ, List, ◌++◌, option_map}
use Rattle.pud_defs.specs.declared.records.PoolRecord.{PoolRecord}
use Rattle.pud_defs.specs.Formats.Image.{Image}
use Rattle.pud_defs.specs.RegistryTables.Types.{types_of}
use Rattle.pud_defs.specs.PoolGraphs.Holdings.{Holding, holding_in}
use Rattle.pud_defs.specs.RegistryTables.Tables.{tables_of, puddles_in_turn, pool_in}
use Rattle.pud_check.specs.declared.sums.Summed.{Summed}
use Rattle.pud_check.specs.Summary.{summed, summed_line, gen_pool, copy_pool, refusals_line}

-- What the puddles of the pool with this slot and record hold.
abbrev pub holding_listed : ℕ → Image → ℕ × PoolRecord → Holding
holding_listed F image found = holding_in (types_of image) F image (puddles_in_turn (tables_of F image) found.0)

-- The pool of a name, summed up.
abbrev pub listed_summed : ℕ → Image → (name : List ℕ) → Summed
listed_summed F image name = summed (option_map (holding_listed F image) (pool_in (tables_of F image) name))

-- The line of the pool of a name.
unfoldable pub listed_sum : ℕ → Image → (name : List ℕ) → List ℕ
listed_sum F image name = summed_line name (listed_summed F image name)

-- What is printed after a run of `lines` lines, of which `refused` were refused.
unfoldable pub listed_summary : ℕ → Image → (lines refused : ℕ) → List ℕ
listed_summary F image lines refused = refusals_line lines refused ++ listed_sum F image gen_pool ++ listed_sum F image copy_pool
