-- Definitions for the search of a free slot and for freeing a slot.
use Rattle.std.specs.Prelude.{ℕ, ◌+◌, ◌<◌, Bool, ◌&&◌, ◌==◌, List, map, slice_get, Option, Some, None, Result, Ok, Err}
use Rattle.pm_model.specs.declared.host.HostFault.{HostFault}
use Rattle.pud_defs.specs.declared.space.TheConstants.{SLOT_SERIAL_WORD}
use Rattle.pud_defs.specs.declared.records.Puddle.{Puddle}
use Rattle.pud_defs.specs.declared.records.Slot.{Slot}
use Rattle.pud_defs.specs.Formats.Geometry.{slot_begins, ordinal_of}
use Rattle.pud_defs.specs.Formats.Frames.{frame_at}
use Rattle.pud_defs.specs.PoolGraphs.Stored.{Stored, class_of, class_at, is_slot, place_serial, IsLivePlace}
use Rattle.graph_laws.specs.Slots.{IsSlotOfClass}
use Rattle.object_alloc.specs.declared.AllocFault.{AllocFault}
use Rattle.object_alloc.specs.declared.AllocFault.TheVariants as faults

-- The class of the puddle in which the place lies.
abbrev pub class_of_place : List (ℕ × Puddle) → ℕ → ℕ
class_of_place at p = class_of (slice_get (map (λ e. e.1) at) (ordinal_of p))

-- The place is a free slot of a puddle of the class.
abbrev pub is_free_of : (class : ℕ) → Stored → ℕ → Bool
is_free_of class st p = class_at st p == class && (is_slot st p && place_serial st p == 0)

-- Each slot of the class before the place `end` is live.
pub record AreLiveBefore (class : ℕ) (st : Stored) (end : ℕ) : Type 0 where
  pub each : (q : ℕ) → q < end → IsSlotOfClass class st q → IsLivePlace st q

-- The host's fault that the search for a free slot returned, if there was one.
abbrev pub alloc_fault : {T : Type 0} → Result T AllocFault → Option HostFault
alloc_fault (Ok x) = None
alloc_fault (Err faults.Full) = None
alloc_fault (Err (faults.Host fault)) = Some fault

-- The number of the device word that stores the serial of a slot.
abbrev pub serial_word_at : (F : ℕ) → Slot → ℕ
serial_word_at F s = frame_at F s.frame + (slot_begins s + SLOT_SERIAL_WORD)
