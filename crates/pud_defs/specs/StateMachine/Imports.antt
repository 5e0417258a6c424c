-- What an export file adds to a stored world: a pool with its graph, and those of its types that were not defined.
use Rattle.std.specs.Prelude.{ℕ, ◌+◌, Bool, ◌||◌, nat_le, nat_lt, List, [], ◌∷◌, length, Option, Some, None, is_none}
use Rattle.std.specs.Ordering.{nat_cmp}
use Rattle.std.specs.FinMap.Entries.{put, where_key}
use Rattle.pud_defs.specs.declared.layout.TheConstants.{TYPE_RECORDS, NUMBER_LIMIT}
use Rattle.pud_defs.specs.declared.records.TheConstants.{POOL_RECORDS}
use Rattle.pud_defs.specs.RegistryTables.Spaces.{Owner}
use Rattle.pud_defs.specs.Formats.Names.{name_cmp}
use Rattle.pud_defs.specs.declared.records.Put.{Put}
use Rattle.pud_defs.specs.RegistryTables.Types.{type_record_at, map_of}
use Rattle.pud_defs.specs.RegistryTables.Puts.{put_of}
use Rattle.pud_defs.specs.PoolGraphs.Holdings.Holding.{Sound}
use Rattle.pud_defs.specs.PoolGraphs.ExportFile.{FileContents}
use Rattle.pud_defs.specs.RegistryTables.Tables.{Pool}
use Rattle.pud_defs.specs.StateMachine.World.{StoredWorld}
use Rattle.pud_defs.specs.StateMachine.PoolChanges.{with_type_defined, lacks_frames}

-- ---- types

-- the types of a file that are not defined, by ascending ids
abbrev pub types_missing : (types file : List (ℕ × ℕ)) → List (ℕ × ℕ)
types_missing types file = where_key nat_cmp (λ id. is_none (map_of id types)) file

-- the words that put a type into a record of the table
abbrev pub type_put : (record_number id map : ℕ) → Put
type_put n id map = put_of (type_record_at n) (id ∷ map ∷ [])

-- the world with these types defined, one after the other
unfoldable pub with_types_defined : List (ℕ × ℕ) → StoredWorld → StoredWorld
with_types_defined [] s = s
with_types_defined (t ∷ types) s = with_types_defined types (with_type_defined t.0 t.1 s)

-- ---- the pool

-- how many UUID numbers an import draws: one for the pool, and then one for each puddle
abbrev pub numbers_drawn : (puddles : ℕ) → ℕ
numbers_drawn puddles = 1 + puddles

-- The pool table is full; or the defined types and the missing ones are more than the type table has records; or too
-- few UUID numbers are left.
abbrev pub is_full_for_file : StoredWorld → FileContents → Bool
is_full_for_file s file =
    nat_le POOL_RECORDS (length s.pools) || nat_lt TYPE_RECORDS (length s.types + length (types_missing s.types file.types))
    || nat_lt NUMBER_LIMIT (s.next_number + numbers_drawn (length file.classes))

-- too few frames are free for its puddles
abbrev pub lacks_frames_for_file : StoredWorld → FileContents → Bool
lacks_frames_for_file s file = lacks_frames s (length file.classes)

-- the pool that stores what the file stores
abbrev pub imported_pool : Owner → (mode number : ℕ) → FileContents → Pool
imported_pool owner mode number file = record { owner = owner; mode = mode; number = number; classes = file.classes; holding = Sound file.graph }

-- the world with that pool under this name, and with the types that were missing
unfoldable pub with_imported_pool : List ℕ → Owner → ℕ → FileContents → StoredWorld → StoredWorld
with_imported_pool name owner mode file s =
    let typed = with_types_defined (types_missing s.types file.types) s in
    record typed { next_number = s.next_number + numbers_drawn (length file.classes); pools = put name_cmp name (imported_pool owner mode s.next_number file) typed.pools }

-- the world with the pool of these contents, if there are any
abbrev pub with_pool_of : Option FileContents → List ℕ → Owner → ℕ → StoredWorld → StoredWorld
with_pool_of None name owner mode s = s
with_pool_of (Some file) name owner mode s = with_imported_pool name owner mode file s
