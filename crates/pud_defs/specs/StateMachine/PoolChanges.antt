-- How a pool of a stored world is made, grown, changed and dropped, and what a new type does to pools.
use Rattle.std.specs.Prelude.{ℕ, ◌+◌, Bool, ◌||◌, nat_le, nat_lt, List, [], ◌∷◌, ◌++◌, length, map, sum_by, Option, option_map, unwrap_or}
use Rattle.std.specs.FinMap.Entries.{put, find}
use Rattle.pud_defs.specs.declared.layout.TheConstants.{NUMBER_LIMIT}
use Rattle.pud_defs.specs.declared.records.TheConstants.{POOL_RECORDS}
use Rattle.pud_defs.specs.declared.space.TheConstants.{FIRST_CLASS}
use Rattle.pud_defs.specs.RegistryTables.Spaces.{Owner}
use Rattle.pud_defs.specs.Formats.Names.{name_cmp}
use Rattle.pud_defs.specs.RegistryTables.Keyed.{without}
use Rattle.pud_defs.specs.PoolGraphs.Graph.{empty_graph}
use Rattle.pud_defs.specs.PoolGraphs.Holdings.{read_again}
use Rattle.pud_defs.specs.PoolGraphs.Holdings.Holding.{Sound}
use Rattle.pud_defs.specs.RegistryTables.Types.{with_type}
use Rattle.pud_defs.specs.RegistryTables.Tables.{Pool}
use Rattle.pud_defs.specs.StateMachine.World.{StoredWorld}

-- the pool of a name, if there is one
abbrev pub pool_named : List ℕ → StoredWorld → Option Pool
pool_named name s = find name_cmp name s.pools

-- ---- a pool is made

-- how many UUID numbers a new pool draws: one for the pool, and then one for its puddle
abbrev pub NUMBERS_DRAWN : ℕ
NUMBERS_DRAWN = 2

-- too few UUID numbers are left for a new pool
abbrev pub lacks_numbers : ℕ → Bool
lacks_numbers next = nat_lt NUMBER_LIMIT (next + NUMBERS_DRAWN)

-- the pool table is full, or too few UUID numbers are left
abbrev pub is_full_of_pools : StoredWorld → Bool
is_full_of_pools s = nat_le POOL_RECORDS (length s.pools) || lacks_numbers s.next_number

-- how many frames have a puddle
abbrev pub used_frames : StoredWorld → ℕ
used_frames s = sum_by (λ e. length e.1.classes) s.pools

-- there are too few frames for `more` more puddles
abbrev pub lacks_frames : StoredWorld → ℕ → Bool
lacks_frames s more = nat_lt s.frames (used_frames s + more)

-- a pool of one puddle, in which nothing has been made yet
abbrev pub new_pool : Owner → (mode number : ℕ) → Pool
new_pool owner mode number = record { owner = owner; mode = mode; number = number; classes = FIRST_CLASS ∷ []; holding = Sound empty_graph }

-- the world with a new pool of this name
unfoldable pub with_new_pool : List ℕ → Owner → ℕ → StoredWorld → StoredWorld
with_new_pool name owner mode s = record s { next_number = s.next_number + NUMBERS_DRAWN; pools = put name_cmp name (new_pool owner mode s.next_number) s.pools }

-- ---- a pool grows

-- too few UUID numbers are left for one more puddle
abbrev pub lacks_a_number : ℕ → Bool
lacks_a_number next = nat_lt NUMBER_LIMIT (next + 1)

-- the pool with one more puddle, of a class; what it stores does not change
abbrev pub with_puddle_more : (class : ℕ) → Pool → Pool
with_puddle_more class p = record p { classes = p.classes ++ class ∷ [] }

-- ---- a pool is changed, or dropped

-- the pools, with the one of this name changed if there is one
abbrev pub changed_pool : List ℕ → (Pool → Pool) → List (List ℕ × Pool) → List (List ℕ × Pool)
changed_pool name change pools = unwrap_or (option_map (λ p. put name_cmp name (change p) pools) (find name_cmp name pools)) pools

-- the world with one more puddle, of a class, in the pool of this name; it took the next UUID number
unfoldable pub with_grown_pool : List ℕ → (class : ℕ) → StoredWorld → StoredWorld
with_grown_pool name class s = record s { next_number = s.next_number + 1; pools = changed_pool name (with_puddle_more class) s.pools }

-- the world with this mode in the pool of this name
unfoldable pub with_pool_mode : List ℕ → ℕ → StoredWorld → StoredWorld
with_pool_mode name mode s = record s { pools = changed_pool name (λ p. record p { mode = mode }) s.pools }

-- the world without the pool of this name
unfoldable pub without_pool : List ℕ → StoredWorld → StoredWorld
without_pool name s = record s { pools = without name_cmp name s.pools }

-- ---- a type is defined

-- the pool, read by these types
abbrev pub reread_pool : List (ℕ × ℕ) → Pool → Pool
reread_pool types p = record p { holding = read_again types p.holding }

-- the pools, read by these types
abbrev pub reread_pools : List (ℕ × ℕ) → List (List ℕ × Pool) → List (List ℕ × Pool)
reread_pools types pools = map (λ e. (e.0, reread_pool types e.1)) pools

-- the world with a type defined; by this type, what a wild pool stores may be a graph
unfoldable pub with_type_defined : (id map : ℕ) → StoredWorld → StoredWorld
with_type_defined id map s = let types = with_type id map s.types in record s { types = types; pools = reread_pools types s.pools }
