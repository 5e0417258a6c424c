-- Lines that make a pool from an export file: their answers, the order of their refusals, and the world after them.
use Rattle.std.proofs.Common.{◌≡◌, ℕ, true, false, cond, List, [], ◌∷◌, map, codes, bytes_eq, Some, None, refl}
use Rattle.std.specs.List.{range_with_len}
use Rattle.pud_defs.specs.declared.machine.Command.{Command}
use Rattle.pud_defs.specs.declared.machine.Command.TheVariants.{Import}
use Rattle.pud_defs.specs.declared.machine.Refusal.TheVariants as refusals
use Rattle.pud_defs.specs.RegistryTables.Spaces.{owner}
use Rattle.pud_defs.specs.PoolGraphs.Holdings.{Holding}
use Rattle.pud_defs.specs.PoolGraphs.Holdings.Holding.{Sound, Wild}
use Rattle.pud_defs.specs.RegistryTables.Tables.{Pool}
use Rattle.pud_defs.specs.StateMachine.World.{StoredWorld, World, no_clients, nothing_open, blank_world}
use Rattle.pud_defs.specs.StateMachine.PoolChanges.{pool_named}
use Rattle.pud_defs.specs.StateMachine.Imports.{is_full_for_file, lacks_frames_for_file}
use Rattle.pud_defs.specs.StateMachine.Step.{clashes_with, refusal_of}
use Rattle.pud_defs.specs.StateMachine.Gives.{Shelf, may_lack_memory}
use Rattle.pud_defs.proofs.Examples.Opened.{opened}
use Rattle.pud_defs.proofs.StateMachine.PoolRefusals.{importing_refusal, refusal_of-import}
use Rattle.pud_defs.proofs.Examples.Pools.{said, after_lines, lines_said, many_pools}
use Rattle.pud_defs.proofs.Examples.Transactions.{name_of, holding, nodes, stored_with}
use Rattle.pud_defs.proofs.Examples.Files.{pair, contents, bytes, of_its_bytes, partly}

-- the file `x` is an export file with type 1 and one puddle, whose two objects name each other; the file `y` is no
-- export file
abbrev files : Shelf
files name = cond (bytes_eq name (codes "x")) (Some bytes) (cond (bytes_eq name (codes "y")) (Some (codes "y")) None)

-- this is stored, and these files exist; each client is present and acts as 5:5
abbrev beside : StoredWorld → World
beside stored = record { stored = stored; clients = λ _. Some (owner 5 5); shelf = files; transactions = nothing_open }

-- a pool of owner 5:5 with one puddle
abbrev pool_of : (mode number : ℕ) → Holding → Pool
pool_of mode number holding = record { owner = owner 5 5; mode = mode; number = number; classes = 0 ∷ []; holding = holding }

-- ---- what is made

-- nothing is stored yet: the pool takes two UUID numbers, and the type of the file is defined
into_nothing : after_lines (beside (blank_world 4 7)) (codes "import 0 b x 600" ∷ [])
    ≡ beside (record (blank_world 4 7) { next_number = 3; types = (1, 8589934594) ∷ []; pools = (name_of 98, pool_of 384 1 (Sound pair)) ∷ [] })
unfolding opened after_lines
into_nothing = refl

-- a pool and the type are there already: neither changes, and each new pool gets its own numbers
twice : after_lines (beside (stored_with (nodes 1 10 1))) (codes "import 0 c x 640" ∷ codes "import 7 b x 600" ∷ [])
    ≡ beside (record (stored_with (nodes 1 10 1)) { next_number = 7; pools = (name_of 97, holding (nodes 1 10 1)) ∷ (name_of 98, pool_of 384 5 (Sound pair)) ∷ (name_of 99, pool_of 416 3 (Sound pair)) ∷ [] })
unfolding opened after_lines
twice = refl

-- the type of the file makes a graph of what a wild pool stores
a_wild_pool_beside : after_lines (beside (record (blank_world 4 7) { next_number = 3; pools = (name_of 97, pool_of 384 1 (Wild partly)) ∷ [] })) (codes "import 0 b x 600" ∷ [])
    ≡ beside (record (blank_world 4 7) { next_number = 5; types = (1, 8589934594) ∷ []; pools = (name_of 97, pool_of 384 1 (Sound pair)) ∷ (name_of 98, pool_of 384 3 (Sound pair)) ∷ [] })
unfolding opened after_lines
a_wild_pool_beside = refl

-- the objects are read like any others
read : said (beside (blank_world 4 7)) (codes "import 0 b x 600" ∷ codes "get 0 b 1.0" ∷ codes "get 0 b 2.1" ∷ codes "import 0 b x 600" ∷ [])
    ≡ lines_said (codes "ok" ∷ codes "ok 10" ∷ codes "ok @1" ∷ codes "no exists" ∷ [])
unfolding opened said
read = refl

-- ---- refusals, each on a line to which later causes apply too

bad_and_client : said (record (beside (blank_world 4 7)) { clients = no_clients }) (codes "import 8 b z 600" ∷ codes "import 0 b x" ∷ codes "import 0 b z 600" ∷ []) ≡ lines_said (codes "no bad" ∷ codes "no bad" ∷ codes "no client" ∷ [])
unfolding opened said
bad_and_client = refl

-- the pool `a` exists, the file `z` does not, and `y` is no export file
exists_and_file : said (beside (stored_with (nodes 1 10 1))) (codes "import 0 a z 600" ∷ codes "import 0 b z 600" ∷ codes "import 0 b y 600" ∷ []) ≡ lines_said (codes "no exists" ∷ codes "no file" ∷ codes "no badfile" ∷ [])
unfolding opened said
exists_and_file = refl

-- an import into a new pool may be refused with `memory` if the file exists, whatever it stores
wanting_memory :
    (may_lack_memory (beside (stored_with (nodes 1 10 1))) (Import 0 (name_of 97) (name_of 120) 384) ≡ false)
    × (may_lack_memory (beside (stored_with (nodes 1 10 1))) (Import 0 (name_of 98) (name_of 122) 384) ≡ false)
    × (may_lack_memory (beside (stored_with (nodes 1 10 1))) (Import 0 (name_of 98) (name_of 121) 384) ≡ true)
unfolding opened
wanting_memory = (refl, refl, refl)

-- the import of file `x` as pool `z`
abbrev asked : Command
asked = Import 0 (name_of 122) (name_of 120) 384

by_contents : (s : StoredWorld) → refusal_of (beside s) asked
    ≡ importing_refusal (Some (owner 5 5)) (pool_named (name_of 122) s) (Some bytes) (Some contents) (clashes_with s.types contents.types) (is_full_for_file s contents) (lacks_frames_for_file s contents)
by_contents s = refusal_of-import (beside s) 0 384 (name_of 122) (name_of 120) (Some bytes) (Some contents) refl of_its_bytes

-- a stored world with these types, and with this many pools of one puddle, on as many frames
abbrev crowded : (pools : ℕ) → List (ℕ × ℕ) → StoredWorld
crowded pools types = record (many_pools pools).stored { frames = pools; types = types }

-- this many types with ids from this one on, each with one number field
abbrev types_from : (id count : ℕ) → List (ℕ × ℕ)
types_from id count = map (λ t. (t, 4294967296)) (range_with_len id count)

clash : refusal_of (beside (crowded 32 (types_from 1 1))) asked ≡ Some refusals.Clash
clash = by_contents (crowded 32 (types_from 1 1))

full_of_pools : refusal_of (beside (crowded 32 [])) asked ≡ Some refusals.Full
full_of_pools = by_contents (crowded 32 [])

-- 64 other types are defined
full_of_types : refusal_of (beside (crowded 4 (types_from 2 64))) asked ≡ Some refusals.Full
full_of_types = by_contents (crowded 4 (types_from 2 64))

last_type : refusal_of (beside (record (crowded 4 (types_from 2 63)) { frames = 5 })) asked ≡ None
last_type = by_contents (record (crowded 4 (types_from 2 63)) { frames = 5 })

-- one number is left below 2^63, and in the next law two are
full_of_numbers : refusal_of (beside (record (crowded 4 []) { next_number = 9223372036854775807 })) asked ≡ Some refusals.Full
full_of_numbers = by_contents (record (crowded 4 []) { next_number = 9223372036854775807 })

last_numbers : refusal_of (beside (record (crowded 4 []) { frames = 5; next_number = 9223372036854775806 })) asked ≡ None
last_numbers = by_contents (record (crowded 4 []) { frames = 5; next_number = 9223372036854775806 })

no_frame : refusal_of (beside (crowded 4 [])) asked ≡ Some refusals.Space
no_frame = by_contents (crowded 4 [])
