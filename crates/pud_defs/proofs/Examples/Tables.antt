-- Pool tables and puddle tables: what they stand for, and which are sound.
use Rattle.std.proofs.Common.{ℕ, ◌≡◌, ◌+◌, ◌-◌, ◌^◌, true, false, List, [], ◌∷◌, Some, None, replicate, refl}
use Rattle.pud_defs.specs.Formats.Image.{Image, image_with}
use Rattle.pud_defs.specs.Formats.Geometry.{class_slots}
use Rattle.pud_defs.specs.RegistryTables.Spaces.{owner, all_below}
use Rattle.pud_defs.specs.PoolGraphs.Graph.{empty_graph}
use Rattle.pud_defs.specs.PoolGraphs.Holdings.Holding.{Sound}
use Rattle.pud_defs.specs.RegistryTables.Keyed.{first_free, count_used, keyed, first_from, are_distinct}
use Rattle.pud_defs.specs.Formats.Bases.{base_at, is_legal_base}
use Rattle.pud_defs.specs.Formats.Modes.{is_legal_mode}
use Rattle.pud_defs.specs.Formats.Names.{name_by, is_filled, is_legal_name}
use Rattle.pud_defs.specs.RegistryTables.Pools.{pool_by, pool_at}
use Rattle.pud_defs.specs.RegistryTables.Puddles.{puddle_record_at, puddle_by, puddle_at, member_word}
use Rattle.pud_defs.specs.RegistryTables.Tables.{Pool, Reader, tables_of, puddles_of, puddle_in, records_of, pool_of, pools_of}
use Rattle.pud_defs.specs.RegistryTables.SoundTables.{has_legal_pools, has_distinct_names, has_legal_puddles, has_distinct_bases, has_distinct_old_bases, has_distinct_ordinals, count_up, has_counted_puddles, are_sound_tables}
use Rattle.pud_defs.specs.RegistryTables.Puts.{with_put, pool_put, mode_put, free_pool_put, puddle_put}

unfoldable pub opened_tables : Unit {0}
unfolding class_slots all_below first_free count_used keyed first_from are_distinct name_by is_filled is_legal_name pool_by pool_at puddle_by puddle_at tables_of puddles_of records_of pool_of pools_of has_legal_pools has_distinct_names has_legal_puddles has_distinct_bases has_distinct_old_bases has_distinct_ordinals count_up has_counted_puddles are_sound_tables
opened_tables = tt

-- ---- parts of records

-- a name of one byte
abbrev pub short : ℕ → List ℕ
short b = b ∷ replicate 15 0

name_of_one_byte : name_by 97 0 ≡ short 97
unfolding opened_tables
name_of_one_byte = refl

names : (is_legal_name (short 97) ≡ true) × (is_legal_name (replicate 16 95) ≡ true) × (is_legal_name (short 65) ≡ false) × (is_legal_name (replicate 16 0) ≡ false) × (is_legal_name (97 ∷ 0 ∷ 98 ∷ replicate 13 0) ≡ false)
unfolding opened_tables
names = (refl, refl, refl, refl, refl)

modes : (is_legal_mode 384 ≡ true) × (is_legal_mode 438 ≡ true) × (is_legal_mode 385 ≡ false) × (is_legal_mode 448 ≡ false) × (is_legal_mode (2 ^ 32 + 384) ≡ false)
modes = (refl, refl, refl, refl, refl)

bases : (is_legal_base (2 ^ 44) ≡ true) × (is_legal_base (base_at (2 ^ 26 - 1)) ≡ true) × (is_legal_base (base_at (2 ^ 26)) ≡ false) × (is_legal_base (2 ^ 44 + 8192) ≡ false) × (is_legal_base 0 ≡ false)
bases = (refl, refl, refl, refl, refl)

-- ---- tables

-- the image with a pool in this slot; its name has one byte, and its owner is 5 and 5
abbrev pub pool_there : (slot name mode number : ℕ) → Image → Image
pool_there slot name mode number image = with_put (pool_put slot (record { name = short name; uid = 5; gid = 5; mode = mode; number = number })) image

-- the image with a puddle in this frame
abbrev pub puddle_there : (frame slot ordinal number base old_base frontier : ℕ) → Image → Image
puddle_there frame slot ordinal number base old_base frontier image =
    with_put (puddle_put frame (record { pool = slot; ordinal = ordinal; number = number; base = base; old_base = old_base; frontier = frontier; class = 0 })) image

abbrev pub pool_with : (mode number puddles : ℕ) → Pool
pool_with mode number puddles = record { owner = owner 5 5; mode = mode; number = number; classes = replicate puddles 0; holding = Sound empty_graph }

-- all puddles have the empty graph, whatever they store
abbrev pub nothing_made : Reader
nothing_made at = Sound empty_graph

-- a pool of one puddle
abbrev pub one_pool : Image
one_pool = puddle_there 0 0 0 4 (2 ^ 44) (2 ^ 44) 63 (pool_there 0 98 416 3 (λ _. 0))

one_pool_is_read : pools_of nothing_made (tables_of 4 one_pool) ≡ (short 98, pool_with 416 3 1) ∷ []
unfolding opened_tables
one_pool_is_read = refl

one_pool_is_sound : (are_sound_tables 5 (tables_of 4 one_pool) ≡ true) × (are_sound_tables 4 (tables_of 4 one_pool) ≡ false)
unfolding opened_tables
one_pool_is_sound = (refl, refl)

-- two pools; one has two puddles, which were imported and moved; the pool in the later slot has the lesser name
abbrev pub moved : Image
moved =
    puddle_there 2 1 1 8 (base_at 2) (base_at 1) 63 (puddle_there 1 1 0 7 (base_at 1) (base_at 0) 63 (puddle_there 0 0 0 5 (base_at 0) (base_at 0) 63
    (pool_there 1 97 384 6 (pool_there 0 113 384 4 (λ _. 0)))))

moved_is_read : pools_of nothing_made (tables_of 4 moved) ≡ (short 97, pool_with 384 6 2) ∷ (short 113, pool_with 384 4 1) ∷ []
unfolding opened_tables
moved_is_read = refl

moved_is_sound : are_sound_tables 9 (tables_of 4 moved) ≡ true
unfolding opened_tables
moved_is_sound = refl

second_puddle : puddle_in (tables_of 4 moved) 1 1 ≡ Some (2, record { pool = 1; ordinal = 1; number = 8; base = base_at 2; old_base = base_at 1; frontier = 63; class = 0 })
unfolding opened_tables
second_puddle = refl

no_third_puddle : puddle_in (tables_of 4 moved) 1 2 ≡ None
unfolding opened_tables
no_third_puddle = refl

-- a record beyond the frames is not read
beyond_the_frames : pools_of nothing_made (tables_of 2 moved) ≡ (short 97, pool_with 384 6 1) ∷ (short 113, pool_with 384 4 1) ∷ []
unfolding opened_tables
beyond_the_frames = refl

-- ---- changes

mode_changed : pools_of nothing_made (tables_of 4 (with_put (mode_put 0 438) one_pool)) ≡ (short 98, pool_with 438 3 1) ∷ []
unfolding opened_tables
mode_changed = refl

pool_freed : pools_of nothing_made (tables_of 4 (with_put (free_pool_put 1) moved)) ≡ (short 113, pool_with 384 4 1) ∷ []
unfolding opened_tables
pool_freed = refl

lowest_free_places : (first_free (tables_of 4 moved).pools 0 32 ≡ Some 2) × (first_free (tables_of 4 moved).puddles 0 4 ≡ Some 3) × (first_free (tables_of 3 moved).puddles 0 3 ≡ None)
unfolding opened_tables
lowest_free_places = (refl, refl, refl)

-- ---- tables that are not sound, each for one reason

-- a pool without a puddle
pool_without_puddles : has_counted_puddles (tables_of 4 (pool_there 0 98 416 3 (λ _. 0))) ≡ false
unfolding opened_tables
pool_without_puddles = refl

name_twice : has_distinct_names (tables_of 4 (pool_there 1 98 416 3 one_pool)) ≡ false
unfolding opened_tables
name_twice = refl

letter_too_large : has_legal_pools 5 (tables_of 4 (pool_there 0 65 416 3 one_pool)) ≡ false
unfolding opened_tables
letter_too_large = refl

-- a mode word whose lower half alone would be a legal mode
mode_beyond_32_bits : has_legal_pools 5 (tables_of 4 (pool_there 0 98 (2 ^ 32 + 416) 3 one_pool)) ≡ false
unfolding opened_tables
mode_beyond_32_bits = refl

pool_not_there : has_legal_puddles 9 (tables_of 4 (puddle_there 3 2 0 8 (base_at 3) (base_at 3) 63 moved)) ≡ false
unfolding opened_tables
pool_not_there = refl

-- a record with an ordinal, but without a pool
no_slot : has_legal_puddles 9 (tables_of 4 (image_with (puddle_record_at 0) (2 ^ 32) moved)) ≡ false
unfolding opened_tables
no_slot = refl

base_twice : has_distinct_bases (tables_of 4 (image_with (puddle_record_at 2 + 2) (base_at 1) moved)) ≡ false
unfolding opened_tables
base_twice = refl

-- two puddles may not have the same old base in one pool, but they may in two pools
old_base_twice : (has_distinct_old_bases (tables_of 4 (image_with (puddle_record_at 2 + 3) (base_at 0) moved)) ≡ false) × (has_distinct_old_bases (tables_of 4 moved) ≡ true)
unfolding opened_tables
old_base_twice = (refl, refl)

ordinal_twice : has_distinct_ordinals (tables_of 4 (image_with (puddle_record_at 2) (member_word 2 0) moved)) ≡ false
unfolding opened_tables
ordinal_twice = refl

ordinal_left_out : has_counted_puddles (tables_of 4 (image_with (puddle_record_at 2) (member_word 2 2) moved)) ≡ false
unfolding opened_tables
ordinal_left_out = refl

-- a puddle with no step rewritten, with all but one, and with more than all, and one of a class that is not defined
other_frontiers : (has_legal_puddles 9 (tables_of 4 (image_with (puddle_record_at 2 + 4) 0 moved)) ≡ true) × (has_legal_puddles 9 (tables_of 4 (image_with (puddle_record_at 2 + 4) 62 moved)) ≡ true)
    × (has_legal_puddles 9 (tables_of 4 (image_with (puddle_record_at 2 + 4) 64 moved)) ≡ false) × (has_legal_puddles 9 (tables_of 4 (image_with (puddle_record_at 2 + 4) (2 ^ 33) moved)) ≡ false)
unfolding opened_tables
other_frontiers = (refl, refl, refl, refl)
