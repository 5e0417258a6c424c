-- Which frame a new puddle takes, what adding one returns, what is read from a record, and how many records each pool
-- has.
use Rattle.std.specs.Prelude.{◌≡◌, ℕ, ◌+◌, ◌-◌, ◌<◌, Bool, ◌&&◌, ◌==◌, cond, List, slice_index, Option, Some, None, Result, Ok, Err}
use Rattle.pm_model.specs.declared.host.HostFault.{HostFault}
use Rattle.pud_defs.specs.declared.records.TheConstants.{POOL_RECORDS, PUDDLE_NUMBER_WORD, PUDDLE_BASE_WORD, PUDDLE_OLD_BASE_WORD, PUDDLE_FRONTIER_WORD}
use Rattle.pud_defs.specs.declared.records.Puddle.{Puddle}
use Rattle.pud_defs.specs.declared.records.PuddleRecord.{PuddleRecord}
use Rattle.pud_defs.specs.declared.records.Put.{Put}
use Rattle.pud_defs.specs.Formats.Image.{Image}
use Rattle.pud_defs.specs.RegistryTables.Keyed.{first_free, count_used}
use Rattle.pud_defs.specs.RegistryTables.Puddles.{member_pool, member_ordinal, puddle_record_at, frontier_part, class_part}
use Rattle.pud_defs.specs.RegistryTables.Tables.{Tables, members}
use Rattle.pud_defs.specs.RegistryTables.Puts.{puddle_put, with_puddle_at, member_by}
use Rattle.puddle_table.specs.declared.PuddleFault.{PuddleFault}
use Rattle.puddle_table.specs.declared.PuddleFault.TheVariants as faults

-- The host's fault that a call returned, if there was one.
abbrev pub fault_in : {A : Type 0} → Result A PuddleFault → Option HostFault
fault_in (Ok value) = None
fault_in (Err (faults.Host fault)) = Some fault
fault_in (Err faults.NoSpace) = None

-- The frame that a new puddle takes, by the lowest free one.
abbrev pub frame_by : Option ℕ → Result ℕ PuddleFault
frame_by (Some frame) = Ok frame
frame_by None = Err faults.NoSpace

-- What adding a record returns, by the lowest free frame.
abbrev pub puddle_added_at : Option ℕ → PuddleRecord → Result Put PuddleFault
puddle_added_at (Some frame) r = Ok (puddle_put frame r)
puddle_added_at None r = Err faults.NoSpace

-- What adding a record from a frame on returns: the words for the lowest free frame there, or `NoSpace` if none is
-- free.
abbrev pub puddle_added : Tables → ℕ → PuddleRecord → Result Put PuddleFault
puddle_added t from r = puddle_added_at (first_free t.puddles from (t.frames - from)) r

-- A record is added in the lowest free frame from `from` on.
pub record AddsPuddle (r : PuddleRecord) (from : ℕ) (t u : Tables) : Type 0 where
  pub frame : ℕ
  pub lowest : first_free t.puddles from (t.frames - from) ≡ Some frame
  pub is : u ≡ with_puddle_at frame (Some (member_by r)) t

-- Whether the member word names this ordinal of the pool in this slot.
abbrev pub is_member : (member slot ordinal : ℕ) → Bool
is_member member slot ordinal = member_pool member == slot + 1 && member_ordinal member == ordinal

-- What the words of a record state about a puddle, whether the record is used or not.
abbrev pub puddle_words_at : Image → ℕ → Puddle
puddle_words_at image frame = record {
  number = image (puddle_record_at frame + PUDDLE_NUMBER_WORD);
  base = image (puddle_record_at frame + PUDDLE_BASE_WORD);
  old_base = image (puddle_record_at frame + PUDDLE_OLD_BASE_WORD);
  frontier = frontier_part (image (puddle_record_at frame + PUDDLE_FRONTIER_WORD));
  class = class_part (image (puddle_record_at frame + PUDDLE_FRONTIER_WORD));
}

-- The frontier in a record.
abbrev pub frontier_of : Image → ℕ → ℕ
frontier_of image frame = frontier_part (image (puddle_record_at frame + PUDDLE_FRONTIER_WORD))

-- What was found is in a frame below F.
abbrev pub IsFrame : ℕ → ℕ × PuddleRecord → Type 0
IsFrame F found = found.0 < F

-- Counts by slots of the pool table: how many used records of the first F frames name the slot's pool.
pub record CountsPools (F : ℕ) (t : Tables) (counts : List ℕ) : Type 0 where
  pub each : (slot : ℕ) → slot < POOL_RECORDS → slice_index counts slot ≡ count_used (members t slot) 0 F

-- The counts, with one more for the pool that the member word names, if it names a slot of the table.
pub record CountsMember (member : ℕ) (old new : List ℕ) : Type 0 where
  pub each : (slot : ℕ) → slot < POOL_RECORDS → slice_index new slot ≡ cond (member_pool member == slot + 1) (slice_index old slot + 1) (slice_index old slot)
