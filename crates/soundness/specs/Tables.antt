-- The records of the pool table and the puddle table, judged one by one.
use Rattle.std.specs.Prelude.{ℕ, ◌+◌, Bool, ◌&&◌, nat_lt, List, [], ◌∷◌, slice_index, Option}
use Rattle.pud_defs.specs.declared.records.TheConstants.{MAX_PUDDLES, POOL_OWNER_WORD, POOL_MODE_WORD, POOL_NUMBER_WORD, PUDDLE_NUMBER_WORD, PUDDLE_BASE_WORD, PUDDLE_OLD_BASE_WORD, PUDDLE_FRONTIER_WORD}
use Rattle.pud_defs.specs.declared.records.PoolRecord.{PoolRecord}
use Rattle.pud_defs.specs.Formats.Image.{Image}
use Rattle.pud_defs.specs.RegistryTables.Pools.{pool_by}
use Rattle.pud_defs.specs.RegistryTables.Puddles.{Member, member_pool, member_ordinal, frontier_part, class_part, puddle_by, is_legal_puddle}

-- the words that are read of the record at a word
abbrev pub record_words : Image → ℕ → List ℕ
record_words image at = image at ∷ image (at + 1) ∷ image (at + 2) ∷ image (at + 3) ∷ image (at + 4) ∷ []

-- the pool record of these words
abbrev pub pool_by_words : List ℕ → Option PoolRecord
pool_by_words ws = pool_by (slice_index ws 0) (slice_index ws 1) (slice_index ws POOL_OWNER_WORD) (slice_index ws POOL_MODE_WORD) (slice_index ws POOL_NUMBER_WORD)

-- the puddle record of these words, and the puddle that a used one describes
abbrev pub puddle_by_words : List ℕ → Option Member
puddle_by_words ws = puddle_by (slice_index ws 0) (slice_index ws PUDDLE_NUMBER_WORD) (slice_index ws PUDDLE_BASE_WORD) (slice_index ws PUDDLE_OLD_BASE_WORD) (slice_index ws PUDDLE_FRONTIER_WORD)

abbrev pub member_of_words : List ℕ → Member
member_of_words ws = record {
  pool = member_pool (slice_index ws 0);
  ordinal = member_ordinal (slice_index ws 0);
  puddle = record { number = slice_index ws PUDDLE_NUMBER_WORD; base = slice_index ws PUDDLE_BASE_WORD; old_base = slice_index ws PUDDLE_OLD_BASE_WORD; frontier = frontier_part (slice_index ws PUDDLE_FRONTIER_WORD); class = class_part (slice_index ws PUDDLE_FRONTIER_WORD) };
}

-- a legal puddle under a legal ordinal, whatever pool it names
abbrev pub is_legal_but_pool : ℕ → Member → Bool
is_legal_but_pool next m = nat_lt m.ordinal MAX_PUDDLES && is_legal_puddle next m.puddle
