-- The text that states where everything is, as the tables of a device list it, whether they are sound or not.
use Rattle.std.specs.Prelude.{ℕ, List, [], ◌∷◌, ◌++◌, flat_map, decimal, Option, Some, None}
use Rattle.std.specs.List.{range_with_len}
use Rattle.pud_defs.specs.declared.records.TheConstants.{MAX_PUDDLES}
use Rattle.pud_defs.specs.declared.records.PoolRecord.{PoolRecord}
use Rattle.pud_defs.specs.declared.records.Puddle.{Puddle}
use Rattle.pud_defs.specs.declared.records.PuddleRecord.{PuddleRecord}
use Rattle.pud_defs.specs.RegistryTables.Keyed.{count_used}
use Rattle.pud_defs.specs.RegistryTables.Tables.{Tables, puddle_in}
use Rattle.pud_defs.specs.Output.Listing.{space}
use Rattle.pud_defs.specs.Output.LayoutText.{frames_line, pool_line, puddle_line}
use Rattle.pool_table.specs.InOrder.{in_order}

-- ---- the parts of a line

-- A space and a number.
abbrev pub field_text : ℕ → List ℕ
field_text n = space ∷ decimal n

-- ---- what is listed

-- What a record states about its puddle.
abbrev pub puddle_of_record : PuddleRecord → Puddle
puddle_of_record r = record { number = r.number; base = r.base; old_base = r.old_base; frontier = r.frontier; class = r.class }

-- The line of a record with its frame, on a machine with this id.
abbrev pub record_line : ℕ → ℕ × PuddleRecord → List ℕ
record_line id (frame, r) = puddle_line id (r.ordinal, (frame, puddle_of_record r))

-- The line of a record with its frame, if there is one.
abbrev pub line_found : ℕ → Option (ℕ × PuddleRecord) → List ℕ
line_found id None = []
line_found id (Some found) = record_line id found

-- The line of the puddle of this ordinal of the pool in this slot, if the pool has it.
abbrev pub puddle_listed : ℕ → Tables → (slot ordinal : ℕ) → List ℕ
puddle_listed id t slot ordinal = line_found id (puddle_in t slot ordinal)

-- The lines of the puddles of the pool in this slot, by their ordinals from 0 on.
unfoldable pub puddles_listed : ℕ → Tables → ℕ → List ℕ
puddles_listed id t slot = flat_map (puddle_listed id t slot) (range_with_len 0 MAX_PUDDLES)

-- The lines of a pool, by its slot and its record.
abbrev pub pool_listed : ℕ → Tables → ℕ × PoolRecord → List ℕ
pool_listed id t (slot, r) = pool_line id r ++ puddles_listed id t slot

-- The line of the frames, and the lines of the used pool records by ascending names. The next UUID number is `next`.
unfoldable pub listed_layout : (id next : ℕ) → Tables → List ℕ
listed_layout id next t = frames_line t.frames (count_used t.puddles 0 t.frames) next ++ flat_map (pool_listed id t) (in_order t)
