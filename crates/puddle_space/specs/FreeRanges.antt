-- Which of the tried ranges are free, as a list with one truth value for each.
use Rattle.std.specs.Prelude.{◌≡◌, ℕ, ◌<◌, Bool, false, ◌&&◌, List, slice_index_or}
use Rattle.std.specs.List.{count_by}
use Rattle.pud_defs.specs.Formats.Bases.{base_at}
use Rattle.puddle_space.specs.declared.bases.TheConstants.{TRIED}

-- How many ranges are free.
abbrev pub free_count : List Bool → ℕ
free_count free = count_by (λ b. b) free

-- Whether range k is free. A range that is not tried does not count as free.
abbrev pub is_free : List Bool → ℕ → Bool
is_free free k = slice_index_or free k false

-- Range k is tried, and it begins at this base.
pub record IsRange (base k : ℕ) : Type 0 where
  pub tried : k < TRIED
  pub is : base ≡ base_at k

-- A tried range is free afterwards exactly if it was free before and its base passes the test.
pub record LeavesFree (test : ℕ → Bool) (old new : List Bool) : Type 0 where
  pub each : (k : ℕ) → k < TRIED → is_free new k ≡ (is_free old k && test (base_at k))
