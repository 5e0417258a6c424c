-- The text of the pools that the tables of a device list, whether the tables are sound or not.
use Rattle.std.specs.Prelude.{ℕ, List, ◌∷◌, ◌++◌, flat_map, decimal}
use Rattle.pud_defs.specs.declared.records.PoolRecord.{PoolRecord}
use Rattle.pud_defs.specs.Formats.Identifiers.{puddle_uuid, uuid_text}
use Rattle.pud_defs.specs.RegistryTables.Keyed.{count_used}
use Rattle.pud_defs.specs.RegistryTables.Spaces.{owner}
use Rattle.pud_defs.specs.Output.Listing.{mode_text, colon, described}
use Rattle.pud_defs.specs.RegistryTables.Tables.{Tables, members}
use Rattle.pool_table.specs.InOrder.{in_order}

-- ---- the parts of a pool's text

-- A colon and a number.
abbrev pub field_text : ℕ → List ℕ
field_text n = colon ∷ decimal n

-- Owner, group and mode, with a colon before each.
abbrev pub rights_text : (uid gid mode : ℕ) → List ℕ
rights_text uid gid mode = field_text uid ++ field_text gid ++ colon ∷ mode_text mode

-- The number of puddles and the identifier of a UUID number, with a colon before each.
abbrev pub puddles_text : (id number puddles : ℕ) → List ℕ
puddles_text id number puddles = field_text puddles ++ colon ∷ uuid_text (puddle_uuid id number)

-- ---- the list

-- The text of a record with so many puddles, on a machine with this id.
abbrev pub record_text : ℕ → PoolRecord → ℕ → List ℕ
record_text id r puddles = described id r.name (owner r.uid r.gid) r.mode r.number puddles

-- The texts of records with their slots. The function tells how many puddles each slot has.
abbrev pub records_text : ℕ → (ℕ → ℕ) → List (ℕ × PoolRecord) → List ℕ
records_text id puddles records = flat_map (λ e. record_text id e.1 (puddles e.0)) records

-- How many used puddle records name the pool in a slot.
abbrev pub puddles_counted : Tables → ℕ → ℕ
puddles_counted t slot = count_used (members t slot) 0 t.frames

-- The texts of the used pool records by ascending names.
unfoldable pub listed_text : ℕ → Tables → List ℕ
listed_text id t = records_text id (puddles_counted t) (in_order t)
