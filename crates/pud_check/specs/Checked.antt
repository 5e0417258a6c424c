-- The text that states which pools of a device are sound, whatever its tables store.
use Rattle.std.specs.Prelude.{ℕ, List, ◌++◌, length, codes, decimal, flat_map, Option, Some, None, option_map}
use Rattle.pud_defs.specs.declared.records.PoolRecord.{PoolRecord}
use Rattle.pud_defs.specs.declared.records.Puddle.{Puddle}
use Rattle.pud_defs.specs.Formats.Image.{Image}
use Rattle.pud_defs.specs.RegistryTables.Types.{types_of}
use Rattle.pud_defs.specs.PoolGraphs.Stored.{stored_in}
use Rattle.pud_defs.specs.PoolGraphs.Graph.{graph_of}
use Rattle.pud_defs.specs.RegistryTables.Tables.{tables_of, puddles_in_turn}
use Rattle.pud_defs.specs.Output.Texts.{line_of}
use Rattle.pud_defs.specs.Output.Listing.{name_text}
use Rattle.pud_defs.specs.Output.CheckText.{count_line}
use Rattle.pool_table.specs.InOrder.{in_order}

-- The text about a pool: how many objects its graph has, if it has one, and how many puddles the pool has.
abbrev pub objects_text : (objects : Option ℕ) (puddles : ℕ) → List ℕ
objects_text None puddles = codes " wild"
objects_text (Some objects) puddles = codes " sound objects " ++ decimal objects ++ codes " puddles " ++ decimal puddles

-- The same, after the pool's name.
abbrev pub objects_line : (name : List ℕ) (objects : Option ℕ) (puddles : ℕ) → List ℕ
objects_line name objects puddles = line_of (name_text name ++ objects_text objects puddles)

-- The number of objects in the graph that these puddles store, if they store one. Each puddle comes with its frame.
abbrev pub objects_in : ℕ → Image → List (ℕ × Puddle) → Option ℕ
objects_in F image at = option_map (λ g. length g.objects) (graph_of (types_of image) (stored_in F at image))

-- The line of a pool with this record and these puddles.
abbrev pub puddles_checked : ℕ → Image → PoolRecord → List (ℕ × Puddle) → List ℕ
puddles_checked F image r at = objects_line r.name (objects_in F image at) (length at)

-- The line of a pool, by its slot and its record.
abbrev pub pool_checked : ℕ → Image → ℕ × PoolRecord → List ℕ
pool_checked F image e = puddles_checked F image e.1 (puddles_in_turn (tables_of F image) e.0)

-- The lines of these records, each with its slot, and how many there are.
abbrev pub records_checked : ℕ → Image → List (ℕ × PoolRecord) → List ℕ
records_checked F image records = flat_map (pool_checked F image) records ++ count_line (length records)

-- The lines of the used pool records by ascending names, and how many there are.
unfoldable pub listed_check : ℕ → Image → List ℕ
listed_check F image = records_checked F image (in_order (tables_of F image))
