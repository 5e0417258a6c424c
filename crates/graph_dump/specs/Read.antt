-- What a dump reads at a place.
use Rattle.std.specs.Prelude.{◌≡◌, ℕ, ◌+◌, ◌<◌, true, List, map, Option}
use Rattle.std.specs.List.{range_with_len}
use Rattle.pud_defs.specs.declared.space.TheConstants.{SLOT_FIELDS_WORD}
use Rattle.pud_defs.specs.declared.records.Puddle.{Puddle}
use Rattle.pud_defs.specs.declared.objects.FieldValue.{FieldValue}
use Rattle.pud_defs.specs.Formats.Image.{Image}
use Rattle.pud_defs.specs.PoolGraphs.Stored.{stored_in, place_word}
use Rattle.pud_defs.specs.PoolGraphs.Graph.{value_of, content, field_count, under_serial, object_at}
use Rattle.pud_defs.specs.Output.DumpText.{object_text}
use Rattle.puddle_header.specs.Places.{places_in, is_slot_in}
use Rattle.graph_read.specs.Reading.{table_in}

-- The value of field f at a place, by the map word of a type.
abbrev pub field_value : (F : ℕ) → List (ℕ × Puddle) → Image → (place map field : ℕ) → FieldValue
field_value F at image p m f = value_of (table_in F at image).serial (content (map (λ e. e.1) at) m p f (place_word (stored_in F at image) p (SLOT_FIELDS_WORD + f)))

-- The values of all fields at a place, by the map word of a type.
abbrev pub field_values : (F : ℕ) → List (ℕ × Puddle) → Image → (place map : ℕ) → List FieldValue
field_values F at image p m = map (field_value F at image p m) (range_with_len 0 (field_count m))

-- The place lies in one of these puddles, and it is a slot of that puddle.
pub record IsSlotPlace (at : List (ℕ × Puddle)) (p : ℕ) : Type 0 where
  pub within : p < places_in at
  pub slot : is_slot_in at p ≡ true

-- A place with its serial as the key, if the place is live.
abbrev pub placed_under : (serial place : ℕ) → Option (ℕ × ℕ)
placed_under s p = under_serial (λ _. s) (λ q. q) p

-- The text of the object at a place, with its serial.
abbrev pub entry_text : (F : ℕ) → List (ℕ × Puddle) → Image → ℕ × ℕ → List ℕ
entry_text F at image e = object_text (e.0, object_at (table_in F at image) e.1)
