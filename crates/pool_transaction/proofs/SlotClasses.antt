-- Slots of a class: a puddle of any class has one, a slot of the class of a type has room for each object of the type,
-- and a slot's class is that of its puddle.
use Rattle.std.proofs.Common.{◌≡◌, ℕ, ◌≤◌, Bool, true, false, cond, List, Option, Some, refl, sym, ap, ◌∙◌, arith}
use Rattle.pud_defs.specs.declared.records.Puddle.{Puddle}
use Rattle.pud_defs.specs.declared.records.Slot.{Slot}
use Rattle.pud_defs.specs.Formats.Geometry.{class_slots}
use Rattle.pud_defs.specs.PoolGraphs.Graph.{fits_class}
use Rattle.pud_defs.specs.RegistryTables.Types.{map_of}
use Rattle.pud_defs.specs.StateMachine.Step.{class_made}
use Rattle.pud_defs.proofs.Formats.Geometry.{by_class}
use Rattle.pud_defs.proofs.PoolGraphs.RoomForFields.{class_for_has_room}
use Rattle.puddle_header.specs.Places.{IsSlotOf}
use Rattle.puddle_header.proofs.Placed.{class_there}
use Rattle.graph_read.specs.Reading.{class_in}
use Rattle.pool_transaction.specs.Changing.{class_by_map}

pub some_slots : (class : ℕ) → 1 ≤ class_slots class
some_slots class = by_class (λ (c : ℕ). 1 ≤ class_slots c) class (λ g. let n = g.count in omega arith) (λ g. let n = g.count in omega arith)

-- A slot of the class of a type has room for an object of the type.
pub room_made : (types : List (ℕ × ℕ)) (id m : ℕ) → map_of id types ≡ Some m → fits_class (class_made types id) m ≡ true
room_made types id m defined = ap (λ (map : Option ℕ). fits_class (class_by_map map) m) defined ∙ class_for_has_room m

-- ---- the class of a slot

-- The class of a slot is that of the puddle of its ordinal.
pub ordinal_class : (at : List (ℕ × Puddle)) (slot : Slot) (of : IsSlotOf at slot) → class_in at slot.ordinal ≡ slot.class
ordinal_class at slot of = class_there at slot.ordinal (slot.frame, of.puddle) of.there ∙ sym of.alike

-- ---- free slots

-- A serial that is read as 0 is 0 whether the place is a slot or not.
pub zero_either : (b : Bool) → cond {A = ℕ} b 0 0 ≡ 0
zero_either true = refl
zero_either false = refl
