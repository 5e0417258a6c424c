-- When the pool table and the puddle table are sound, with a given next UUID number.
use Rattle.std.specs.Prelude.{◌≡◌, ℕ, ◌+◌, ◌-◌, Bool, true, not, ◌&&◌, ◌||◌, nat_le, nat_lt, ◌==◌, List, [], ◌∷◌, map, length, Option, Some, None, option_map, is_none, is_some}
use Rattle.std.specs.Ordering.{nat_cmp}
use Rattle.pud_defs.specs.declared.records.TheConstants.{POOL_RECORDS, MAX_PUDDLES}
use Rattle.pud_defs.specs.declared.records.PoolRecord.{PoolRecord}
use Rattle.pud_defs.specs.declared.records.Puddle.{Puddle}
use Rattle.pud_defs.specs.RegistryTables.Spaces.{all_below}
use Rattle.pud_defs.specs.Formats.Names.{name_cmp}
use Rattle.pud_defs.specs.RegistryTables.Keyed.{are_distinct}
use Rattle.pud_defs.specs.RegistryTables.Pools.{is_legal_pool}
use Rattle.pud_defs.specs.RegistryTables.Puddles.{Member, is_legal_puddle}
use Rattle.pud_defs.specs.RegistryTables.Tables.{Tables, members, puddles_of, named}

-- ---- the pool records

-- the record is free, or it is legal
abbrev pub is_sound_pool : ℕ → Option PoolRecord → Bool
is_sound_pool next None = true
is_sound_pool next (Some r) = is_legal_pool next r

-- each used pool record has a legal name, owner, group and mode, and a UUID number that was given out
unfoldable pub has_legal_pools : ℕ → Tables → Bool
has_legal_pools next t = all_below POOL_RECORDS (λ slot. is_sound_pool next (t.pools slot))

-- no two pools have the same name
unfoldable pub has_distinct_names : Tables → Bool
has_distinct_names t = are_distinct name_cmp (named t) 0 POOL_RECORDS

-- ---- the puddle records

-- the number is a slot plus 1, and the record of that slot is used
abbrev pub is_pool : Tables → ℕ → Bool
is_pool t pool = not (pool == 0) && is_some (t.pools (pool - 1))

-- the puddle is one of a used pool, its ordinal is legal, and all else is legal
abbrev pub is_legal_member : ℕ → Tables → Member → Bool
is_legal_member next t m = is_pool t m.pool && nat_lt m.ordinal MAX_PUDDLES && is_legal_puddle next m.puddle

-- the record is free, or it is legal
abbrev pub is_sound_puddle : ℕ → Tables → Option Member → Bool
is_sound_puddle next t None = true
is_sound_puddle next t (Some m) = is_legal_member next t m

-- each used puddle record names a used pool, and has a legal ordinal, UUID number, base, old base and frontier
unfoldable pub has_legal_puddles : ℕ → Tables → Bool
has_legal_puddles next t = all_below t.frames (λ frame. is_sound_puddle next t (t.puddles frame))

-- the frame of a used puddle record, under the puddle's base
abbrev pub bases : Tables → ℕ → Option (ℕ × ℕ)
bases t frame = option_map (λ m. (m.puddle.base, frame)) (t.puddles frame)

-- no two puddles have the same base
unfoldable pub has_distinct_bases : Tables → Bool
has_distinct_bases t = are_distinct nat_cmp (bases t) 0 t.frames

-- the frame of a pool's puddle, under the puddle's old base
abbrev pub old_bases : Tables → ℕ → ℕ → Option (ℕ × ℕ)
old_bases t slot frame = option_map (λ p. (p.1.1.old_base, frame)) (members t slot frame)

-- no two puddles of one pool have the same old base
unfoldable pub has_distinct_old_bases : Tables → Bool
has_distinct_old_bases t = all_below POOL_RECORDS (λ slot. are_distinct nat_cmp (old_bases t slot) 0 t.frames)

-- ---- the ordinals

-- the numbers go up by one, from `from` on
unfoldable pub count_up : ℕ → List ℕ → Bool
count_up from [] = true
count_up from (n ∷ ns) = n == from && count_up (from + 1) ns

-- no two puddles of one pool have the same ordinal
unfoldable pub has_distinct_ordinals : Tables → Bool
has_distinct_ordinals t = all_below POOL_RECORDS (λ slot. are_distinct nat_cmp (members t slot) 0 t.frames)

-- there are 1 to 16 puddles, and their ordinals are 0 and those that follow it
abbrev pub are_counted : List (ℕ × (ℕ × Puddle)) → Bool
are_counted puddles = nat_le 1 (length puddles) && nat_le (length puddles) MAX_PUDDLES && count_up 0 (map (λ p. p.0) puddles)

-- each pool has 1 to 16 puddles, with the ordinals from 0 on
unfoldable pub has_counted_puddles : Tables → Bool
has_counted_puddles t = all_below POOL_RECORDS (λ slot. is_none (t.pools slot) || are_counted (puddles_of t slot))

-- ---- all of it

unfoldable pub are_sound_tables : ℕ → Tables → Bool
are_sound_tables next t =
    has_legal_pools next t && has_distinct_names t && has_legal_puddles next t && has_distinct_bases t && has_distinct_old_bases t && has_distinct_ordinals t && has_counted_puddles t

-- the same as facts, one for each test
pub record HasSoundTables (next : ℕ) (t : Tables) : Type 0 where
  pub pools : has_legal_pools next t ≡ true
  pub names : has_distinct_names t ≡ true
  pub puddles : has_legal_puddles next t ≡ true
  pub bases : has_distinct_bases t ≡ true
  pub old_bases : has_distinct_old_bases t ≡ true
  pub ordinals : has_distinct_ordinals t ≡ true
  pub counted : has_counted_puddles t ≡ true
