-- Where the puddles of all pools are: which frame has which puddle of which pool.
use Rattle.std.specs.Prelude.{◌≡◌, ℕ, ◌+◌, ◌*◌, ◌<◌, ◌==◌, cond, List, All, slice_index_or, Option, Some, None, IfSome, option_map}
use Rattle.std.specs.Ordering.{nat_cmp}
use Rattle.std.specs.FinMap.Entries.{find}
use Rattle.pud_defs.specs.declared.records.TheConstants.{POOL_RECORDS, MAX_PUDDLES}
use Rattle.pud_defs.specs.RegistryTables.Keyed.{count_used}
use Rattle.pud_defs.specs.RegistryTables.Tables.{Tables, puddles_of}
use Rattle.puddle_table.specs.Records.{is_member}

-- How many frames there are, how many of them have a puddle, and the frames of the puddles. Each slot of the pool table
-- has 16 places, one for each ordinal.
pub record Placed : Type 0 where
  pub count : ℕ
  pub used : ℕ
  pub frames : List (Option ℕ)

-- The frame at the place of this ordinal of the pool in this slot.
abbrev pub frame_of_puddle : List (Option ℕ) → (slot ordinal : ℕ) → Option ℕ
frame_of_puddle frames slot ordinal = slice_index_or frames (MAX_PUDDLES * slot + ordinal) None

-- Each frame at a place is below this count.
abbrev pub AreFramesBelow : ℕ → List (Option ℕ) → Type 0
AreFramesBelow count frames = All (λ found. IfSome found (λ frame. frame < count)) frames

-- The frame is put at the place that the member word names, if it names one. No other place changes.
pub record PutsFrame (frame member : ℕ) (old new : List (Option ℕ)) : Type 0 where
  pub each : (slot ordinal : ℕ) → slot < POOL_RECORDS → ordinal < MAX_PUDDLES → frame_of_puddle new slot ordinal ≡ cond (is_member member slot ordinal) (Some frame) (frame_of_puddle old slot ordinal)

-- The same, and the frame is counted if its record is used, whatever the record names.
pub record PutsMember (frame member : ℕ) (old new : Placed) : Type 0 where
  pub count : new.count ≡ old.count
  pub used : new.used ≡ cond (member == 0) old.used (old.used + 1)
  pub puts : PutsFrame frame member old.frames new.frames

-- These are the places of these tables: as many records are used, and each puddle of a pool is in the frame at its
-- place.
pub record HoldsPlaces (t : Tables) (p : Placed) : Type 0 where
  pub used : p.used ≡ count_used t.puddles 0 t.frames
  pub each : (slot ordinal : ℕ) → slot < POOL_RECORDS → ordinal < MAX_PUDDLES → frame_of_puddle p.frames slot ordinal ≡ option_map (λ e. e.0) (find nat_cmp ordinal (puddles_of t slot))
