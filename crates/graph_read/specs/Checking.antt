-- The checks of the slots of a pool, with serials that were read before.
use Rattle.std.specs.Prelude.{◌≡◌, ℕ, Bool, true, false, not, ◌&&◌, ◌||◌, nat_lt, List, Option, Some, None}
use Rattle.std.specs.List.{list_all}
use Rattle.pud_defs.specs.declared.records.Puddle.{Puddle}
use Rattle.pud_defs.specs.declared.objects.Pointee.{Pointee}
use Rattle.pud_defs.specs.declared.objects.Pointee.TheVariants as pointees
use Rattle.pud_defs.specs.Formats.Geometry.{place_at}
use Rattle.pud_defs.specs.PoolGraphs.Graph.{Content, Null, At, Nowhere, Table, value_of, stands, names_serial}
use Rattle.pud_defs.specs.PoolGraphs.Stored.{Stored, place_serial, slot_state}
use Rattle.puddle_header.specs.Places.{is_slot_in}
use Rattle.graph_read.specs.declared.checking.SlotCheck.{SlotCheck}
use Rattle.graph_read.specs.declared.checking.SlotCheck.TheVariants.{IsSound, LacksPointerTo}

-- the serial at each place
abbrev pub serials_in : Stored → ℕ → ℕ
serials_in st p = place_serial st p

-- Each place of these puddles that is no slot has serial 0.
pub record HasSerialsInSlots (at : List (ℕ × Puddle)) (serial : ℕ → ℕ) : Type 0 where
  pub none : (p : ℕ) → is_slot_in at p ≡ false → serial p ≡ 0

-- the table with these serials
abbrev pub with_serials : (ℕ → ℕ) → Table → Table
with_serials known t = record t { serial = known }

-- What a pointer stands for, by where it was read to lead.
abbrev pub content_of : Option Pointee → Content
content_of None = Nowhere
content_of (Some pointees.Null) = Null
content_of (Some (pointees.At ordinal slot)) = At (place_at ordinal slot)

-- What a field stands for passes the check.
abbrev pub passes : SlotCheck → (ℕ → ℕ) → Content → Bool
passes (IsSound next) serial c = stands serial c
passes (LacksPointerTo s) serial c = not (names_serial s (value_of serial c))

-- the serial of a live slot passes
abbrev pub serial_passes : SlotCheck → ℕ → Bool
serial_passes (IsSound next) v = nat_lt v next
serial_passes (LacksPointerTo s) v = true

-- A slot passes if its type is not defined, or if an object of the type has no room in it.
abbrev pub unknown_passes : SlotCheck → Bool
unknown_passes (IsSound next) = false
unknown_passes (LacksPointerTo s) = true

-- all fields of a slot pass
abbrev pub contents_pass : SlotCheck → (ℕ → ℕ) → Option (List Content) → Bool
contents_pass check serial None = unknown_passes check
contents_pass check serial (Some contents) = list_all (passes check serial) contents

-- the place is free, or its slot passes
abbrev pub place_passes : SlotCheck → Table → ℕ → Bool
place_passes check t p = (slot_state (t.serial p)).is_free || (serial_passes check (t.serial p) && contents_pass check t.serial (t.contents p))
