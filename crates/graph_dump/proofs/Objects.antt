-- What was read at a place is the object there.
use Rattle.std.proofs.Common.{◌≡◌, ℕ, ◌+◌, ◌<◌, List, [], ◌∷◌, ◌++◌, map, length, take, set, Some, None, sym, ap, ap₂, ◌∙◌, arith}
use Rattle.std.specs.List.{range_with_len}
use Rattle.std.proofs.lemmas.Simd.{map-map}
use Rattle.std.proofs.lemmas.List.{take_more_set}
use Rattle.std.proofs.lemmas.List.FromFn.{map-range_with_len_more}
use Rattle.pud_defs.specs.declared.space.TheConstants.{SLOT_TYPE_WORD, SLOT_FIELDS_WORD}
use Rattle.pud_defs.specs.declared.records.Puddle.{Puddle}
use Rattle.pud_defs.specs.declared.objects.FieldValue.{FieldValue}
use Rattle.pud_defs.specs.Formats.Image.{Image}
use Rattle.pud_defs.specs.RegistryTables.Types.{types_of}
use Rattle.pud_defs.specs.PoolGraphs.Stored.{stored_in, class_at, place_word}
use Rattle.pud_defs.specs.PoolGraphs.Graph.{Object, object_at, place_map, value_of, contents_or_none, slot_contents, content, field_count}
use Rattle.graph_read.specs.Reading.{table_in}
use Rattle.graph_dump.specs.Read.{field_values}

-- An object with this type, in a puddle of this class, with these fields.
abbrev pub object : (type_id class : ℕ) → List FieldValue → Object
object id class values = record { type_id = id; class = class; fields = values }

pub object_at-read : (F : ℕ) (at : List (ℕ × Puddle)) (image : Image) (place id class m : ℕ) (values : List FieldValue) → id ≡ place_word (stored_in F at image) place SLOT_TYPE_WORD
    → class ≡ class_at (stored_in F at image) place → place_map (types_of image) (stored_in F at image) place ≡ Some m → values ≡ field_values F at image place m
    → object id class values ≡ object_at (table_in F at image) place
object_at-read F at image place id class m values is_id is_class defined are =
    let st = stored_in F at image in
    let serial = (table_in F at image).serial in
    let contents = λ (f : ℕ). content st.puddles m place f (place_word st place (SLOT_FIELDS_WORD + f)) in
    ap₂ (λ (i : ℕ) (vs : List FieldValue). object i class vs) is_id are
    ∙ ap (λ (c : ℕ). object (place_word st place SLOT_TYPE_WORD) c (field_values F at image place m)) is_class
    ∙ ap (object (place_word st place SLOT_TYPE_WORD) (class_at st place))
    (sym (ap (λ o. map (value_of serial) (contents_or_none (slot_contents st place o))) defined ∙ map-map (value_of serial) contents (range_with_len 0 (field_count m))))

-- An object has no fields if its type is not defined, or if it has no room in its slot.
pub object_at-unknown : (F : ℕ) (at : List (ℕ × Puddle)) (image : Image) (place id class : ℕ) → id ≡ place_word (stored_in F at image) place SLOT_TYPE_WORD → class ≡ class_at (stored_in F at image) place
    → place_map (types_of image) (stored_in F at image) place ≡ None → object id class [] ≡ object_at (table_in F at image) place
object_at-unknown F at image place id class is_id is_class undefined =
    let st = stored_in F at image in
    ap₂ (λ (i c : ℕ). object i c []) is_id is_class
    ∙ ap (object (place_word st place SLOT_TYPE_WORD) (class_at st place)) (sym (ap (λ o. map (value_of (table_in F at image).serial) (contents_or_none (slot_contents st place o))) undefined))

-- One more field is read. The fields up to it are then the right ones.
pub fields_more : (what : ℕ → FieldValue) (values : List FieldValue) (f : ℕ) (v : FieldValue) → f < length values → take f values ≡ map what (range_with_len 0 f) → v ≡ what f
    → take (f + 1) (set values f v) ≡ map what (range_with_len 0 (f + 1))
fields_more what values f v below so_far is =
    take_more_set values f v below ∙ ap₂ (λ (vs : List FieldValue) (x : FieldValue). vs ++ x ∷ []) so_far is ∙ sym (map-range_with_len_more what 0 f f (omega arith))
