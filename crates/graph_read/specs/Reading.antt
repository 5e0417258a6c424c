-- What is read of a pool: slots, pointers and fields, as its table and its graph have them.
use Rattle.std.specs.Prelude.{ℕ, ◌+◌, ◌<◌, List, map, length, slice_get, Option, Some, None, option_map}
use Rattle.pud_defs.specs.declared.space.TheConstants.{SLOT_FIELDS_WORD}
use Rattle.pud_defs.specs.declared.records.Puddle.{Puddle}
use Rattle.pud_defs.specs.declared.objects.FieldValue.{FieldValue}
use Rattle.pud_defs.specs.declared.objects.Pointee.{Pointee}
use Rattle.pud_defs.specs.declared.objects.Pointee.TheVariants as pointees
use Rattle.pud_defs.specs.Formats.Geometry.{class_slots, ordinal_of, slot_of}
use Rattle.pud_defs.specs.Formats.Image.{Image}
use Rattle.pud_defs.specs.RegistryTables.Types.{types_of}
use Rattle.pud_defs.specs.PoolGraphs.Stored.{stored_in, class_of, place_word}
use Rattle.pud_defs.specs.PoolGraphs.Graph.{Table, table_of, place_of_serial, Content, content, value_of, Object, object_at}
use Rattle.pud_defs.specs.PoolGraphs.Graph.Content.{Number, Null, At, Nowhere}
use Rattle.puddle_header.specs.Places.{places_in}
use Rattle.graph_read.specs.declared.fields.FieldRead.{FieldRead}
use Rattle.graph_read.specs.declared.fields.FieldRead.TheVariants.{NoObject, NoField, Value}

-- The slots of the puddles in an image as a table, by the types that the image defines.
abbrev pub table_in : (F : ℕ) → List (ℕ × Puddle) → Image → Table
table_in F at image = table_of (types_of image) (stored_in F at image)

-- The class of the puddle of an ordinal.
abbrev pub class_in : List (ℕ × Puddle) → ℕ → ℕ
class_in at o = class_of (slice_get (map (λ e. e.1) at) o)

-- the lowest place whose slot has this serial
abbrev pub place_in_pool : (F : ℕ) → List (ℕ × Puddle) → Image → ℕ → Option ℕ
place_in_pool F at image s = place_of_serial s (table_in F at image) (places_in at)

-- ---- pointers

-- What a pointer stands for, in the form of an answer. It is None if the pointer leads nowhere. A number is no pointer.
abbrev pub pointee_of : Content → Option Pointee
pointee_of (Number v) = None
pointee_of Null = Some pointees.Null
pointee_of (At p) = Some (pointees.At (ordinal_of p) (slot_of p))
pointee_of Nowhere = None

-- There is a puddle of this ordinal, and it has this slot.
pub record IsSlotWithin (at : List (ℕ × Puddle)) (ordinal slot : ℕ) : Type 0 where
  pub ordinal_below : ordinal < length at
  pub slot_below : slot < class_slots (class_in at ordinal)

-- The pointer leads to nothing, or to a slot of one of these puddles.
abbrev pub LeadsWithin : List (ℕ × Puddle) → Pointee → Type 0
LeadsWithin at pointees.Null = Unit {0}
LeadsWithin at (pointees.At ordinal slot) = IsSlotWithin at ordinal slot

-- ---- fields

-- The value of field f of the slot at a place, by the map of the slot's type.
abbrev pub value_in : (F : ℕ) → List (ℕ × Puddle) → Image → (place type_map f : ℕ) → FieldValue
value_in F at image p m f = value_of (table_in F at image).serial (content (map (λ e. e.1) at) m p f (place_word (stored_in F at image) p (SLOT_FIELDS_WORD + f)))

-- What a read answers for the field of an object, if the object has the field.
abbrev pub read_value : Option FieldValue → FieldRead
read_value None = NoField
read_value (Some v) = Value v

-- What a read answers for field f of an object, if there is an object.
abbrev pub read_by : Option Object → ℕ → FieldRead
read_by None f = NoObject
read_by (Some o) f = read_value (slice_get o.fields f)

-- What a read answers for field f of the object at the lowest place that has this serial.
abbrev pub field_in : (F : ℕ) → List (ℕ × Puddle) → Image → (s f : ℕ) → FieldRead
field_in F at image s f = read_by (option_map (object_at (table_in F at image)) (place_in_pool F at image s)) f
