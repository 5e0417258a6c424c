-- A field's word is stored in an image of a pool: the pool's graph then has the value in the field.
use Rattle.std.proofs.Common.{◌≡◌, ◌⊎◌, inl, inr, ℕ, ◌+◌, ◌<◌, ◌≤◌, true, cond, List, [], ◌∷◌, Option, Some, None, get_or, option_map, refl, sym, ap, ap₂, subst, ◌∙◌, arith, eqb, eq-eqb, ne_eqb}
use Rattle.std.specs.Prelude.{slice_get}
use Rattle.std.proofs.lemmas.Bool.{cases_eq, cases_lt, cond-true, cond-false, ltb-true}
use Rattle.std.proofs.lemmas.Option.{none-some, same_Some, cond_some, slice_get-map, slice_get-get_or}
use Rattle.std.proofs.lemmas.List.{length-map}
use Rattle.pm_model.specs.Changes.{placed as put_from}
use Rattle.pud_defs.specs.declared.layout.TheConstants.{FRAME_WORDS}
use Rattle.pud_defs.specs.declared.space.TheConstants.{SLOT_TYPE_WORD, SLOT_FIELDS_WORD}
use Rattle.pud_defs.specs.declared.records.Puddle.{Puddle}
use Rattle.pud_defs.specs.declared.records.Slot.{Slot}
use Rattle.pud_defs.specs.declared.objects.FieldValue.{FieldValue}
use Rattle.pud_defs.specs.declared.objects.FieldValue.TheVariants.{Num, Ref}
use Rattle.pud_defs.specs.Formats.Geometry.{class_slots, class_slot_words, steps_of, ordinal_of, slot_of, places_among, IsFinished}
use Rattle.pud_defs.proofs.Formats.Geometry.{few_slots}
use Rattle.pud_defs.specs.RegistryTables.Types.{map_of}
use Rattle.pud_defs.specs.Formats.Image.{Image, image_with}
use Rattle.pud_defs.specs.Formats.Frames.{frame_at}
use Rattle.pud_defs.specs.Logging.Replay.{overwritten}
use Rattle.pud_defs.specs.PoolGraphs.Stored.{Stored, stored_in, places_of, class_of, class_at, is_slot, place_word}
use Rattle.pud_defs.specs.PoolGraphs.Graph.{table_of, place_of_serial, object_at, Object, field_count, fits_class, fitting, place_map, Graph, object_in, graph_of}
use Rattle.pud_defs.proofs.Logging.Replay.{overwritten-there, overwritten-stays, value_at-there, value_at-apart}
use Rattle.pud_defs.specs.PoolGraphs.GraphChanges.{with_field}
use Rattle.graph_laws.specs.Changes.{with_word, with_words, with_field_word, IsAddress, IsField}
use Rattle.graph_laws.specs.Reads.{HasDistinctFrames}
use Rattle.pud_defs.specs.PoolGraphs.Exported.{address_in}
use Rattle.graph_laws.proofs.ObjectChanges.Fields.{graph_of-number, graph_of-null, graph_of-reference}
use Rattle.graph_laws.proofs.SameReads.Places.{object_in-place}
use Rattle.graph_laws.proofs.SameReads.StoredImages.{stored_in-written}
use Rattle.graph_laws.proofs.SameReads.Words.{place_of_serial-some, room_of_map, live_in_slot}
use Rattle.pud_defs.proofs.PoolGraphs.TypeMore.{defined_there}
use Rattle.pud_defs.proofs.PoolGraphs.Graphs.{graph_of-each}
use Rattle.puddle_header.specs.Places.{place_of_slot, IsSlotOf}
use Rattle.graph_read.specs.Reading.{place_in_pool}
use Rattle.puddle_header.proofs.Placed.{place_ordinal}
use Rattle.hybrid_tx.specs.PoolScopes.{ArePlacedPuddles, IsRewrittenAt}
use Rattle.hybrid_tx.specs.Objects.Stores.{address_at, word_for, field_word}
use Rattle.hybrid_tx.specs.Objects.Transactions.{MayName, MayHold, MaySet}
use Rattle.hybrid_tx.proofs.Objects.DeferredKept.{some_object}
use Rattle.hybrid_tx.proofs.Objects.SlotPlaces.{words_of_slot, begins_of_slot, slot_in_frame}

-- one word is written over an image
pub overwritten-one : (w v : ℕ) (image : Image) → overwritten (put_from w (v ∷ [])) image ≡ image_with w v image
overwritten-one w v image =
    let each : (k : ℕ) → overwritten (put_from w (v ∷ [])) image k ≡ image_with w v image k =
    λ k. elim (cases_eq k w) [
      | inl here ↦ overwritten-there (put_from w (v ∷ [])) image k v (value_at-there w 0 k (v ∷ []) (omega arith)) ∙ sym (cond-true _ _ _ (eq-eqb k w here))
      | inr other ↦
          overwritten-stays (put_from w (v ∷ [])) image k
          (value_at-apart w k (v ∷ []) (elim (cases_lt k w) [ inl below ↦ inl below | inr above ↦ inr (omega arith) ]))
          ∙ sym (cond-false _ _ _ (ne_eqb k w other))
    ] in
    λ i k. each k i

-- what is stored of the pool then, if the word is one of a frame
pub stored_in-one : (F : ℕ) (at : List (ℕ × Puddle)) (image : Image) (o k v : ℕ) (e : ℕ × Puddle) → HasDistinctFrames at → slice_get at o ≡ Some e → k < FRAME_WORDS
    → stored_in F at (overwritten (put_from (frame_at F e.0 + k) (v ∷ [])) image) ≡ with_words (with_word o k v (stored_in F at image).word) (stored_in F at image)
stored_in-one F at image o k v e distinct there below = ap (stored_in F at) (overwritten-one (frame_at F e.0 + k) v image) ∙ stored_in-written F at image o k v e distinct there below

-- ---- what a word stands for

-- the serial has a place, and the value is its address
pub record IsAddressOf (F : ℕ) (at : List (ℕ × Puddle)) (image : Image) (r v : ℕ) : Type 0 where
  pub place : ℕ
  pub found : place_in_pool F at image r ≡ Some place
  pub is : address_at at place ≡ v

address_found : (F : ℕ) (at : List (ℕ × Puddle)) (image : Image) (r v : ℕ) (o : Option ℕ) → place_in_pool F at image r ≡ o → option_map (address_at at) o ≡ Some v → IsAddressOf F at image r v
address_found F at image r v None found word = absurd (none-some v word)
address_found F at image r v (Some q) found word = record { place = q; found = found; is = same_Some (address_at at q) v word }

-- the word of a reference is 0 for null, else the address of the serial's place
pub word_of_reference : (F : ℕ) (at : List (ℕ × Puddle)) (image : Image) (r v : ℕ) → word_for F at image (Ref r) ≡ Some v → ((r ≡ 0) × (v ≡ 0)) ⊎ IsAddressOf F at image r v
word_of_reference F at image r v word = elim (cases_eq r 0) [
  | inl null ↦ inl (null, sym (same_Some 0 v (sym (cond-true _ _ _ (eq-eqb r 0 null)) ∙ word)))
  | inr other ↦ inr (address_found F at image r v (place_in_pool F at image r) refl (sym (cond-false _ _ _ (ne_eqb r 0 other)) ∙ word))
]

-- ---- what a graph states about places

module _ (types : List (ℕ × ℕ)) (F : ℕ) (at : List (ℕ × Puddle)) (image : Image) (g : Graph) (is : graph_of types (stored_in F at image) ≡ Some g) where
  abbrev st : Stored
  st = stored_in F at image

  -- the place of a serial in the table of what is stored is its place in the pool
  pub place_is : (s : ℕ) → place_of_serial s (table_of types st) (places_of st) ≡ place_in_pool F at image s
  place_is s = ap (λ n. place_of_serial s (table_of types st) (places_among n)) (length-map at (λ (e : ℕ × Puddle). e.1))

  -- the object of a serial is the one at its place
  pub object_by_place : (s : ℕ) → object_in s g ≡ option_map (object_at (table_of types st)) (place_in_pool F at image s)
  object_by_place s = object_in-place types st g s is ∙ ap (option_map (object_at (table_of types st))) (place_is s)

  pub object_at_place : (s p : ℕ) → place_in_pool F at image s ≡ Some p → object_in s g ≡ Some (object_at (table_of types st) p)
  object_at_place s p found = object_by_place s ∙ ap (option_map (object_at (table_of types st))) found

  -- if the type of a live object has this map, the object has room in its slot
  pub map_at_place : (s p m : ℕ) (o : Object) → place_in_pool F at image s ≡ Some p → object_in s g ≡ Some o → map_of o.type_id types ≡ Some m → place_map types st p ≡ Some m
  map_at_place s p m o found live defined =
      let there = place_of_serial-some (table_of types st) (places_of st) s p (place_is s ∙ found) in
      let sound = (graph_of-each types st g is).graph.sound p there.within there.used in
      let some = defined_there (table_of types st).serial st p (place_map types st p) sound.stand in
      let same : object_at (table_of types st) p ≡ o = same_Some _ _ (sym (object_at_place s p found) ∙ live) in
      let type : map_of (place_word st p SLOT_TYPE_WORD) types ≡ Some m = ap (λ (k : Object). map_of k.type_id types) same ∙ defined in
      let fits = cond_some (fits_class (class_at st p) m) m some.0 (sym (ap (fitting (class_at st p)) type) ∙ some.1) in
      some.1 ∙ ap (λ (k : ℕ). Some k) (sym fits.1)

  -- so its slot has a word for each of its fields
  pub room_in_slot : (s m : ℕ) (o : Object) (slot : Slot) → IsSlotOf at slot → place_in_pool F at image s ≡ Some (place_of_slot slot) → object_in s g ≡ Some o → map_of o.type_id types ≡ Some m
      → SLOT_FIELDS_WORD + field_count m ≤ class_slot_words slot.class
  room_in_slot s m o slot of found live defined =
      subst (λ (n : ℕ). SLOT_FIELDS_WORD + field_count m ≤ n) (words_of_slot F at image slot of) (room_of_map types st (place_of_slot slot) m (map_at_place s (place_of_slot slot) m o found live defined))

  -- the slot has a word for a field that may be set
  pub room_for_field : (s f : ℕ) (x : FieldValue) (slot : Slot) → IsSlotOf at slot → place_in_pool F at image s ≡ Some (place_of_slot slot) → MaySet types g s f x → SLOT_FIELDS_WORD + f < class_slot_words slot.class
  room_for_field s f x slot of found may =
      let room = room_in_slot s may.map may.object slot of found may.live may.defined in
      let below = may.below in
      omega arith

  -- a live object has a place
  pub placed_if_live : (s : ℕ) (o : Object) → object_in s g ≡ Some o → place_in_pool F at image s ≡ None → ⊥
  placed_if_live s o live none = none-some o (sym (object_by_place s ∙ ap (option_map (object_at (table_of types st))) none) ∙ live)

  no_word : (r : ℕ) (o : Option ℕ) → (r ≡ 0 → ⊥) → cond (eqb r 0) (Some 0) (option_map (address_at at) o) ≡ None → o ≡ None
  no_word r None other none = refl
  no_word r (Some q) other none = absurd (none-some (address_at at q) (sym none ∙ cond-false _ _ _ (ne_eqb r 0 other)))

  -- a serial that a pointer may name has a word
  pub word_if_named : (r : ℕ) → MayName g r → word_for F at image (Ref r) ≡ None → ⊥
  word_if_named r named none = elim (cases_eq r 0) [
    | inl null ↦ none-some 0 (sym none ∙ cond-true _ _ _ (eq-eqb r 0 null))
    | inr other ↦ elim named [
      | inl null ↦ other null
      | inr live ↦ let object = some_object (object_in r g) live in placed_if_live r object.0 object.1 (no_word r (place_in_pool F at image r) other none)
    ]
  ]

  -- a value that a field may hold has a word
  pub word_if_held : (m f : ℕ) (x : FieldValue) → MayHold m f g x → word_for F at image x ≡ None → ⊥
  word_if_held m f (Num v) holds none = none-some v (sym none)
  word_if_held m f (Ref r) holds none = word_if_named r holds.1 none

  -- ---- addresses

  -- the address of a place is one for a pointer, at any step of a finished puddle
  pub address_of_place : ArePlacedPuddles F at → (o step : ℕ) (e : ℕ × Puddle) → IsRewrittenAt at o → slice_get at o ≡ Some e → step < steps_of e.1 → (q v : ℕ) → q < places_of st → is_slot st q ≡ true → address_at at q ≡ v
      → IsAddress st.puddles o step q v
  address_of_place placed o step e rewritten here below q v within slot is =
      let last : IsFinished e.1 = rewritten.each e here in
      let there = slice_get-get_or st.puddles (ordinal_of q) e.1 (omega arith) in
      record {
        bases = placed.bases;
        home = e.1;
        here = slice_get-map (λ (d : ℕ × Puddle). d.1) at o ∙ ap (option_map (λ (d : ℕ × Puddle). d.1)) here;
        rewritten = omega arith;
        away = get_or st.puddles (ordinal_of q) e.1;
        there = there;
        slot = subst (λ (c : ℕ). slot_of q < class_slots c) (ap class_of there) (ltb-true (slot_of q) (class_slots (class_at st q)) slot);
        address = sym is ∙ ap (λ (d : Option Puddle). address_in d (slot_of q)) there;
      }

  -- ---- the field

  module _ (placed : ArePlacedPuddles F at) (s f : ℕ) (slot : Slot) (rewritten : IsRewrittenAt at slot.ordinal) (of : IsSlotOf at slot) (found : place_in_pool F at image s ≡ Some (place_of_slot slot)) where
    abbrev p : ℕ
    p = place_of_slot slot

    module _ (m : ℕ) (object : Object) (live : object_in s g ≡ Some object) (defined : map_of object.type_id types ≡ Some m) (below : f < field_count m) where
      field : IsField types st s p m f
      field =
          record { place = place_is s ∙ found; defined = map_at_place s p m object found live defined; below = below }

      address : (r v : ℕ) (named : IsAddressOf F at image r v) → IsAddress st.puddles (ordinal_of p) (slot_of p + 1) named.place v
      address r v named =
          let there = place_of_serial-some (table_of types st) (places_of st) r named.place (place_is r ∙ named.found) in
          let ordinal = place_ordinal slot.ordinal slot.slot of.puddle of.below in
          let few = few_slots of.puddle.class in
          let slots = of.below in
          address_of_place placed (ordinal_of p) (slot_of p + 1) (slot.frame, of.puddle) (subst (λ (o : ℕ). IsRewrittenAt at o) (sym ordinal) rewritten) (ap (slice_get at) ordinal ∙ of.there) (omega arith)
          named.place v there.within (live_in_slot st named.place there.used) named.is

      of_value : (x : FieldValue) (v : ℕ) → MayHold m f g x → word_for F at image x ≡ Some v → graph_of types (with_field_word p f v st) ≡ Some (with_field s f x g)
      of_value (Num n) v number word =
          let same : n ≡ v = same_Some n v word in
          graph_of-number types st g s p m f v is field number ∙ ap (λ k. Some (with_field s f (Num k) g)) (sym same)
      of_value (Ref r) v holds word = elim (word_of_reference F at image r v word) [
        | inl null ↦
            ap (λ k. graph_of types (with_field_word p f k st)) null.1 ∙ graph_of-null types st g s p m f is field holds.0 ∙ ap (λ k. Some (with_field s f (Ref k) g)) (sym null.0)
        | inr named ↦ graph_of-reference types st g s p m f v r named.place is field holds.0 (place_is r ∙ named.found) (address r v named)
      ]

      field_set : (x : FieldValue) (v : ℕ) → MayHold m f g x → word_for F at image x ≡ Some v
          → graph_of types (stored_in F at (overwritten (put_from (frame_at F slot.frame + field_word slot f) (v ∷ [])) image)) ≡ Some (with_field s f x g)
      field_set x v holds word =
          let room = room_in_slot s m object slot of found live defined in
          let end = slot_in_frame at slot of in
          let few : field_word slot f < FRAME_WORDS = omega arith in
          ap (graph_of types) (stored_in-one F at image slot.ordinal (field_word slot f) v (slot.frame, of.puddle) placed.frames of.there few)
          ∙ ap₂ (λ (i j : ℕ). graph_of types (with_words (with_word i (j + SLOT_FIELDS_WORD + f) v st.word) st))
          (sym (place_ordinal slot.ordinal slot.slot of.puddle of.below)) (sym (begins_of_slot F at image slot of))
          ∙ of_value x v holds word

    pub set_value : (x : FieldValue) (v : ℕ) → MaySet types g s f x → word_for F at image x ≡ Some v
        → graph_of types (stored_in F at (overwritten (put_from (frame_at F slot.frame + field_word slot f) (v ∷ [])) image)) ≡ Some (with_field s f x g)
    set_value x v may word = field_set may.map may.object may.live may.defined may.below x v may.holds word
