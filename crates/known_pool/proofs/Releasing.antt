-- The slot of an object, the map of its type, and an index that releases what its fields name, one after the other.
use Rattle.std.proofs.Common.{◌≡◌, ℕ, suc, ◌+◌, ◌-◌, ◌<◌, ◌≤◌, List, ◌∷◌, map, slice_get, Option, Some, None, option_map, refl, sym, ap, subst, ◌∙◌, arith}
use Rattle.std.specs.List.{range_with_len}
use Rattle.std.proofs.lemmas.Option.{same_Some, slice_get_within}
use Rattle.pud_defs.specs.declared.space.TheConstants.{SLOT_TYPE_WORD}
use Rattle.pud_defs.specs.declared.records.Puddle.{Puddle}
use Rattle.pud_defs.specs.declared.records.Slot.{Slot}
use Rattle.pud_defs.specs.declared.objects.FieldValue.{FieldValue}
use Rattle.pud_defs.specs.declared.objects.FieldValue.TheVariants.{Num}
use Rattle.pud_defs.specs.Formats.Image.{Image}
use Rattle.pud_defs.specs.PoolGraphs.Stored.{stored_in, class_of, class_at}
use Rattle.pud_defs.specs.RegistryTables.Types.{types_of, map_of}
use Rattle.pud_defs.specs.PoolGraphs.Graph.{Graph, graph_of, fitting, place_map, value_of, slot_contents, contents_or_none, field_count, object_at}
use Rattle.pud_defs.specs.Formats.Headers.{slot_word}
use Rattle.pud_defs.proofs.Formats.Geometry.{few_slots, some_words}
use Rattle.puddle_header.specs.Places.{places_in, place_of_slot, IsSlotOf}
use Rattle.puddle_header.proofs.Placed.{place_ordinal, class_there, slot_at_place}
use Rattle.graph_read.specs.declared.index.Index.{Index}
use Rattle.graph_read.specs.declared.index.Kept.{Kept}
use Rattle.graph_read.specs.Indexed.{IsIndexBy, IsIndexOf, references_left}
use Rattle.graph_read.specs.Reading.{table_in, place_in_pool}
use Rattle.graph_read.proofs.Found.{object_in-place}
use Rattle.graph_read.proofs.IndexKept.{index_begins_to_free, index_releases}
use Rattle.graph_read.proofs.Numbers.{field_content}
use Rattle.known_pool.specs.Known.{index_entries}
use Rattle.known_pool.proofs.KnownKept.{IsIndexOf-entries}
use Rattle.known_pool.specs.Indexes.{Follows, after_move, HasReleased}

-- ---- its slot

-- A slot of the pool is at one of its places.
pub place_below : (at : List (ℕ × Puddle)) (s : Slot) → IsSlotOf at s → place_of_slot s < places_in at
place_below at s of =
    let few = few_slots of.puddle.class in
    let low = slice_get_within at s.ordinal (s.frame, of.puddle) of.there in
    let below = of.below in
    omega (arith, few, low, below)

module _ (F : ℕ) (at : List (ℕ × Puddle)) (image : Image) (s : Slot) (of : IsSlotOf at s) where
  class_of_slot : class_at (stored_in F at image) (place_of_slot s) ≡ s.class
  class_of_slot =
      ap (λ (o : ℕ). class_of (slice_get (map (λ (e : ℕ × Puddle). e.1) at) o)) (place_ordinal s.ordinal s.slot of.puddle of.below)
      ∙ class_there at s.ordinal (s.frame, of.puddle) of.there ∙ sym of.alike

  -- What is found by the type and the class of the slot is the map at its place.
  pub map_found : (id : ℕ) (found : Option ℕ) → id ≡ slot_word F s.frame s.class s.slot SLOT_TYPE_WORD image → found ≡ fitting s.class (map_of id (types_of image)) → place_map (types_of image) (stored_in F at image) (place_of_slot s) ≡ found
  map_found id found is_id is =
      let some = some_words of.puddle.class in
      let type = sym (is_id ∙ slot_at_place F at image SLOT_TYPE_WORD s of (omega (arith, some))) in
      (λ i. fitting (class_of_slot i) (map_of (type i) (types_of image))) ∙ sym is

-- ---- its fields

module _ (F : ℕ) (at : List (ℕ × Puddle)) (image : Image) (p : ℕ) where
  abbrev serial : ℕ → ℕ
  serial = (table_in F at image).serial

  abbrev place : ℕ → Option ℕ
  place = place_in_pool F at image

  -- This many fields of the slot at the place, from one field on, by the map of its type.
  abbrev fields_from : (m f count : ℕ) → List FieldValue
  fields_from m f count = map (value_of serial) (map (field_content (stored_in F at image) p m) (range_with_len f count))

  -- What is left to be released, from one field on.
  abbrev left_from : (m f : ℕ) → List FieldValue
  left_from m f = fields_from m f (field_count m - f)

  -- Each index that is kept has released what the fields before this one name, whatever object is there.
  pub record ReleasesFirst (m f : ℕ) (index : Option (List (ℕ × Kept))) : Type 0 where
    pub each : (g : Graph) (s : ℕ) → graph_of (types_of image) (stored_in F at image) ≡ Some g → place s ≡ Some p → (x : Index) → index ≡ Some (index_entries x) → IsIndexBy place (references_left g s (left_from m f)) x

  -- Before the first field.
  module _ (index : Option Index) (is : (x : Index) → index ≡ Some x → IsIndexOf F at (types_of image) image x) where
    -- An index that has the entries of this one is the pool's too.
    same_index : (o : Option Index) (x : Index) → index ≡ o → option_map index_entries o ≡ Some (index_entries x) → IsIndexOf F at (types_of image) image x
    same_index None x kept same = absurd (let no : None ≡ Some (index_entries x) = same in cc)
    same_index (Some y) x kept same = IsIndexOf-entries F at (types_of image) image y x (sym (same_Some (index_entries y) (index_entries x) same)) (is y kept)

    begins : (g : Graph) (s : ℕ) → graph_of (types_of image) (stored_in F at image) ≡ Some g → place s ≡ Some p → (x : Index) → option_map index_entries index ≡ Some (index_entries x)
        → IsIndexBy place (references_left g s (object_at (table_in F at image) p).fields) x
    begins g s stored there x kept =
        index_begins_to_free F at (types_of image) image g stored x (same_index index x refl kept) s (object_at (table_in F at image) p)
        (object_in-place F at image g s stored ∙ ap (option_map (object_at (table_in F at image))) there)

    fields_by : (type : Option ℕ) → place_map (types_of image) (stored_in F at image) p ≡ type
        → (object_at (table_in F at image) p).fields ≡ map (value_of serial) (contents_or_none (slot_contents (stored_in F at image) p type))
    fields_by type is_type = ap (λ (t : Option ℕ). map (value_of serial) (contents_or_none (slot_contents (stored_in F at image) p t))) is_type

    pub LetsFirst-start : (m : ℕ) → place_map (types_of image) (stored_in F at image) p ≡ Some m → ReleasesFirst m 0 (option_map index_entries index)
    LetsFirst-start m is_type = record {
      each = λ g s stored there x kept.
          let all : field_count m ≡ field_count m - 0 = omega arith in
          subst (λ (vals : List FieldValue). IsIndexBy place (references_left g s vals) x) (fields_by (Some m) is_type ∙ ap (λ (n : ℕ). fields_from m 0 n) all) (begins g s stored there x kept);
    }

    -- If the type is not defined, or an object of it has no room there, there is no field.
    pub lets_none : place_map (types_of image) (stored_in F at image) p ≡ None → (g : Graph) (s : ℕ) → graph_of (types_of image) (stored_in F at image) ≡ Some g → place s ≡ Some p
        → HasReleased place g s (option_map index_entries index)
    lets_none none g s stored there = record { each = λ x kept. subst (λ (vals : List FieldValue). IsIndexBy place (references_left g s vals) x) (fields_by None none) (begins g s stored there x kept) }

  -- One more field is released.
  pub LetsFirst-more : (m f : ℕ) (was : FieldValue) (old new : Option (List (ℕ × Kept))) → f < field_count m → was ≡ value_of serial (field_content (stored_in F at image) p m f) → Follows (after_move was (Num 0)) old new → ReleasesFirst m f old
      → ReleasesFirst m (f + 1) new
  LetsFirst-more m f was old new below is follows lets = record {
    each = λ g s stored there y kept.
        let from = follows.each y kept in
        let one : field_count m - f ≡ suc (field_count m - (f + 1)) = omega (arith, below) in
        index_releases F at image g s was (left_from m (f + 1)) from.before y from.each
        (subst (λ (vals : List FieldValue). IsIndexBy place (references_left g s vals) from.before) (ap (fields_from m f) one ∙ ap (λ (v : FieldValue). v ∷ left_from m (f + 1)) (sym is)) (lets.each g s stored there from.before from.was));
  }

  -- All fields are released.
  pub LetsFirst-end : (m f : ℕ) (index : Option (List (ℕ × Kept))) → field_count m ≤ f → ReleasesFirst m f index → (g : Graph) (s : ℕ) → graph_of (types_of image) (stored_in F at image) ≡ Some g → place s ≡ Some p → HasReleased place g s index
  LetsFirst-end m f index past lets g s stored there =
      let none : field_count m - f ≡ 0 = omega (arith, past) in
      record { each = λ x kept. subst (λ (vals : List FieldValue). IsIndexBy place (references_left g s vals) x) (ap (fields_from m f) none) (lets.each g s stored there x kept) }
