-- The fields of a slot, word by word.
use Rattle.std.proofs.Common.{◌≡◌, ℕ, ◌+◌, ◌<◌, ◌≤◌, Bool, true, false, eqb, leb, cond, List, [], map, zero-le, Option, Some, None, option_map, refl, ap, ap₂, ◌∙◌, arith}
use Rattle.std.specs.Prelude.{slice_get}
use Rattle.std.specs.List.{range_with_len}
use Rattle.std.proofs.lemmas.Bool.{cond-true, le-leb, leb-true}
use Rattle.std.proofs.lemmas.Option.{slice_get-map, slice_get-get_or, slice_get_past, none-some}
use Rattle.std.proofs.lemmas.List.FromFn.{get_or-range_with_len, length-range_with_len}
use Rattle.std.proofs.lemmas.List.{length-map}
use Rattle.pud_defs.specs.declared.layout.TheConstants.{MAX_FIELDS}
use Rattle.pud_defs.specs.declared.space.TheConstants.{SLOT_FIELDS_WORD}
use Rattle.pud_defs.specs.declared.objects.FieldValue.TheVariants.{Num, Ref}
use Rattle.pud_defs.specs.declared.objects.Pointee.TheVariants as pointees
use Rattle.pud_defs.specs.declared.records.Puddle.{Puddle}
use Rattle.pud_defs.specs.declared.records.Slot.{Slot}
use Rattle.pud_defs.specs.Formats.Geometry.{class_slot_words, slots_of, ordinal_of, slot_of, place_at}
use Rattle.pud_defs.specs.Formats.Image.{Image}
use Rattle.pud_defs.specs.Formats.TypeMap.{map_fields, is_pointer}
use Rattle.pud_defs.specs.RegistryTables.Types.{types_of}
use Rattle.pud_defs.specs.PoolGraphs.Stored.{Stored, stored_in, place_word}
use Rattle.pud_defs.specs.PoolGraphs.Graph.{Content, target, at_place, pointee_at, content, field_count, fits_class, place_map, slot_contents, contents_or_none, named_by, value_of, object_at}
use Rattle.pud_defs.specs.PoolGraphs.Graph.Content.{Number, Null, At, Nowhere}
use Rattle.graph_read.specs.declared.fields.FieldRead.{FieldRead}
use Rattle.graph_read.specs.declared.fields.FieldRead.TheVariants.{NoField, Value}
use Rattle.puddle_header.specs.Places.{place_of_slot}
use Rattle.graph_read.specs.Reading.{table_in, pointee_of, read_value, read_by}
use Rattle.puddle_header.proofs.Placed.{place_ordinal, place_slot}

-- ---- values

place_named : (serial : ℕ → ℕ) (b : Bool) (o : Option ℕ) → value_of serial (cond b Null (at_place o)) ≡ Ref (named_by serial (cond b Null (at_place o)))
place_named serial true o = refl
place_named serial false None = refl
place_named serial false (Some p) = refl

-- The value of a pointer is the serial that it names.
pointer_value : (serial : ℕ → ℕ) (puddles : List Puddle) (ordinal step v : ℕ) → value_of serial (pointee_at puddles ordinal step v) ≡ Ref (named_by serial (pointee_at puddles ordinal step v))
unfolding target
pointer_value serial puddles ordinal step v = place_named serial (eqb v 0) _

-- A pointer names the serial of the slot to which it leads.
pub named-at : (serial : ℕ → ℕ) (c : Content) (o s : ℕ) → pointee_of c ≡ Some (pointees.At o s) → named_by serial c ≡ serial (place_at o s)
named-at serial (Number v) o s is = absurd (none-some (pointees.At o s) is)
named-at serial Null o s is = absurd (let no : Some pointees.Null ≡ Some (pointees.At o s) = is in cc)
named-at serial (At p) o s is =
    let same : Some (pointees.At (ordinal_of p) (slot_of p)) ≡ Some (pointees.At o s) = is in
    let ordinal : ordinal_of p ≡ o = cc in
    let slot : slot_of p ≡ s = cc in
    let place : p ≡ place_at o s = omega arith in
    ap serial place
named-at serial Nowhere o s is = absurd (none-some (pointees.At o s) is)

-- The value of a field by its slot: a pointer gives the serial that it names, and a number gives itself.
pub value_at-slot : (serial : ℕ → ℕ) (puddles : List Puddle) (m f v : ℕ) (s : Slot) (d : Puddle) → s.slot < slots_of d
    → value_of serial (content puddles m (place_of_slot s) f v) ≡ cond (is_pointer m f) (Ref (named_by serial (pointee_at puddles s.ordinal (s.slot + 1) v))) (Num v)
value_at-slot serial puddles m f v s d below =
    ap₂ (λ (o i : ℕ). value_of serial (cond (is_pointer m f) (pointee_at puddles o (i + 1) v) (Number v))) (place_ordinal s.ordinal s.slot d below) (place_slot s.ordinal s.slot d below)
    ∙ elim (is_pointer m f) as (λ b. value_of serial (cond b (pointee_at puddles s.ordinal (s.slot + 1) v) (Number v)) ≡ cond b (Ref (named_by serial (pointee_at puddles s.ordinal (s.slot + 1) v))) (Num v)) [
      | true ↦ pointer_value serial puddles s.ordinal (s.slot + 1) v
      | false ↦ refl
    ]

-- ---- fields of a slot

no_more : (m f : ℕ) → f < MAX_FIELDS → map_fields m ≤ f → field_count m ≤ f
no_more m f below past = rw (cond-true (leb (map_fields m) MAX_FIELDS) (map_fields m) MAX_FIELDS (le-leb (map_fields m) MAX_FIELDS (omega arith))) past

one_of : (m f : ℕ) → f < MAX_FIELDS → f < map_fields m → f < field_count m
one_of m f below within = elim (leb (map_fields m) MAX_FIELDS) as (λ b. f < cond b (map_fields m) MAX_FIELDS) [ true ↦ within | false ↦ below ]

-- A slot in which an object of a type has room has room for each field of the type.
pub room_for_field : (class m f : ℕ) → fits_class class m ≡ true → f < field_count m → SLOT_FIELDS_WORD + f < class_slot_words class
room_for_field class m f fits below = let room = leb-true (SLOT_FIELDS_WORD + field_count m) (class_slot_words class) fits in omega (arith, room, below)

pub room_for_one : (class m f : ℕ) → fits_class class m ≡ true → f < MAX_FIELDS → f < map_fields m → SLOT_FIELDS_WORD + f < class_slot_words class
room_for_one class m f fits below within = room_for_field class m f fits (one_of m f below within)

listed : {X Y : Type 0} (g : X → Y) (h : ℕ → X) (n f : ℕ) → f < n → slice_get (map g (map h (range_with_len 0 n))) f ≡ Some (g (h f))
listed g h n f below =
    let there : slice_get (range_with_len 0 n) f ≡ Some f =
    slice_get-get_or (range_with_len 0 n) f 0 (omega (arith, below, length-range_with_len 0 n)) ∙ ap (λ k. Some k) (get_or-range_with_len 0 n f 0 below ∙ (let e : 0 + f ≡ f = omega arith in e)) in
    slice_get-map g (map h (range_with_len 0 n)) f ∙ ap (option_map g) (slice_get-map h (range_with_len 0 n) f ∙ ap (option_map h) there)

not_listed : {X Y : Type 0} (g : X → Y) (h : ℕ → X) (n f : ℕ) → n ≤ f → slice_get (map g (map h (range_with_len 0 n))) f ≡ None
not_listed g h n f past =
    slice_get_past (map g (map h (range_with_len 0 n))) f (omega (arith, past, length-map (map h (range_with_len 0 n)) g, length-map (range_with_len 0 n) h, length-range_with_len 0 n))

module _ (F : ℕ) (at : List (ℕ × Puddle)) (image : Image) (p f : ℕ) where
  abbrev stored : Stored
  stored = stored_in F at image

  abbrev type_map : Option ℕ
  type_map = place_map (types_of image) stored p

  abbrev read_at : FieldRead
  read_at = read_by (Some (object_at (table_in F at image) p)) f

  abbrev read_with : Option ℕ → FieldRead
  read_with m = read_value (slice_get (map (value_of (table_in F at image).serial) (contents_or_none (slot_contents stored p m))) f)

  -- If the type is not defined, or an object of it has no room in the slot, the answer is `NoField`.
  pub field-no_type : type_map ≡ None → read_at ≡ NoField
  field-no_type none = ap read_with none ∙ ap read_value (slice_get_past [] f zero-le)

  -- If the type has no such field, the answer is `NoField`.
  pub field-past : (m : ℕ) → type_map ≡ Some m → f < MAX_FIELDS → map_fields m ≤ f → read_at ≡ NoField
  field-past m is below past = ap read_with is ∙ ap read_value (not_listed _ _ (field_count m) f (no_more m f below past))

  pub field-there : (m : ℕ) → type_map ≡ Some m → f < MAX_FIELDS → f < map_fields m
      → read_at ≡ Value (value_of (table_in F at image).serial (content (map (λ e. e.1) at) m p f (place_word stored p (SLOT_FIELDS_WORD + f))))
  field-there m is below within = ap read_with is ∙ ap read_value (listed _ _ (field_count m) f (one_of m f below within))
