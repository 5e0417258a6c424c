-- The names of the pool records, told apart by their two words.
use Rattle.std.specs.Prelude.{◌≡◌, ℕ, ◌+◌, ◌^◌, ◌<◌, Bool, true, not, ◌&&◌, ◌||◌, ◌==◌, List, [], ◌∷◌, length, slice_index_or}
use Rattle.std.specs.List.{list_any}
use Rattle.pud_defs.specs.declared.records.TheConstants.{POOL_RECORDS}
use Rattle.pud_defs.specs.Formats.Image.{Image}
use Rattle.pud_defs.specs.RegistryTables.Pools.{pool_record_at}
use Rattle.soundness.specs.declared.names.NameWords.{NameWords}

-- the other one is the same name
abbrev pub is_same_name : NameWords → NameWords → Bool
is_same_name n other = other.low == n.low && other.high == n.high

-- no name comes twice; words whose first is 0 are no name
abbrev pub are_apart : List NameWords → Bool
are_apart [] = true
are_apart (n ∷ ns) = (n.low == 0 || not (list_any (is_same_name n) ns)) && are_apart ns

-- the words are those of the record of a slot
pub record IsNameOf (image : Image) (slot : ℕ) (n : NameWords) : Type 0 where
  pub low : n.low ≡ image (pool_record_at slot)
  pub high : n.high ≡ image (pool_record_at slot + 1)
  pub low_fits : n.low < 2 ^ 64
  pub high_fits : n.high < 2 ^ 64

abbrev pub no_name : NameWords
no_name = record { low = 0; high = 0 }

-- the words of each record's name, by the slots
pub record HoldsNames (image : Image) (names : List NameWords) : Type 0 where
  pub all : length names ≡ POOL_RECORDS
  pub each : (slot : ℕ) → slot < POOL_RECORDS → IsNameOf image slot (slice_index_or names slot no_name)
