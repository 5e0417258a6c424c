-- The redo entries stay those of the deferred values when a field or the root is set, and when an object is made.
use Rattle.std.proofs.Common.{◌≡◌, inl, inr, ℕ, ◌+◌, ◌-◌, ◌<◌, ◌≤◌, true, cond, eqb, List, [], ◌∷◌, map, Option, Some, None, option_map, nat_cmp, refl, sym, ap, subst, ◌∙◌, arith, eq-eqb, ne_eqb}
use Rattle.std.specs.Prelude.{slice_get}
use Rattle.std.specs.FinMap.Entries.{find, put, find-put}
use Rattle.std.proofs.lemmas.Bool.{cases_eq, cond-true, cond-false, ltb-true}
use Rattle.std.proofs.lemmas.Cmp.{nat_cmp_total}
use Rattle.std.proofs.lemmas.Option.{none-some, same_Some}
use Rattle.pm_model.specs.Changes.{placed}
use Rattle.pud_defs.specs.declared.layout.TheConstants.{FRAME_WORDS}
use Rattle.pud_defs.specs.declared.space.TheConstants.{FRAME_HEADER_WORDS, SLOT_SERIAL_WORD, SLOT_FIELDS_WORD, ROOT_WORD}
use Rattle.pud_defs.specs.declared.records.Puddle.{Puddle}
use Rattle.pud_defs.specs.declared.records.Slot.{Slot}
use Rattle.pud_defs.specs.declared.objects.FieldValue.{FieldValue}
use Rattle.pud_defs.specs.Formats.Geometry.{class_slots, class_slot_words, class_slot_at, ordinal_of, slot_of}
use Rattle.pud_defs.proofs.Formats.Geometry.{some_words, slot_low, same_slot}
use Rattle.pud_defs.specs.Formats.Image.{Image}
use Rattle.pud_defs.specs.RegistryTables.Keyed.{under, first_from}
use Rattle.pud_defs.specs.RegistryTables.Types.{map_of}
use Rattle.pud_defs.specs.Formats.Frames.{frame_at}
use Rattle.pud_defs.specs.Logging.Replay.{overwritten}
use Rattle.pud_defs.specs.PoolGraphs.Stored.{Stored, stored_in, places_of, class_of, class_at, is_slot, place_serial, place_begins, place_words, slot_state, IsFreePlace}
use Rattle.pud_defs.specs.PoolGraphs.Graph.{fits_class, under_serial, table_of, place_of_serial, object_at, Object, Graph, object_in, next_serial_of, graph_of}
use Rattle.pud_defs.specs.PoolGraphs.GraphChanges.{object_with, with_some_object, with_field, with_new, with_root}
use Rattle.pud_defs.proofs.RegistryTables.TypeLists.{same_test}
use Rattle.pud_defs.proofs.KeyedTables.Keyed.{first_from_same}
use Rattle.pud_defs.proofs.PoolGraphs.Graphs.{graph_of-each}
use Rattle.graph_laws.specs.Changes.{with_word, with_words}
use Rattle.graph_laws.specs.Reads.{HasDistinctFrames}
use Rattle.graph_laws.proofs.SameReads.Places.{object_in-place}
use Rattle.graph_laws.proofs.ObjectChanges.TableChanges.{under_other}
use Rattle.graph_laws.proofs.SameReads.Words.{with_word-other, serial-same, place_of_serial-some}
use Rattle.puddle_header.specs.Places.{places_in, place_of_slot, IsSlotOf}
use Rattle.graph_read.specs.Reading.{place_in_pool}
use Rattle.hybrid_tx.specs.PoolScopes.{ArePlacedPuddles}
use Rattle.hybrid_tx.specs.Objects.Stores.{field_word, new_object_write}
use Rattle.hybrid_tx.proofs.Objects.FieldsSet.{stored_in-one}
use Rattle.puddle_header.proofs.Placed.{class_there}
use Rattle.hybrid_tx.proofs.Objects.SlotPlaces.{slot_in_frame}
use Rattle.hybrid_tx.proofs.Objects.ObjectsMade.{made, serial_made}
use Rattle.hybrid_tx.proofs.Objects.DeferredKept.{IsOfType, KeepsObjects, KeepsPlaces}

-- ---- objects

-- after one object is put, each other object is the one that it was
found_put : (r s : ℕ) (d : Object) (g : Graph) → find nat_cmp r (put nat_cmp s d g.objects) ≡ cond (eqb r s) (Some d) (object_in r g)
found_put r s d g = find-put nat_cmp nat_cmp_total r s d g.objects ∙ ap (λ b. cond b (Some d) (object_in r g)) (same_test r s)

-- a field is set: each object is still there, of the same type
module _ (s f : ℕ) (x : FieldValue) (g : Graph) where
  field_by : (there : Option Object) → object_in s g ≡ there → (r : ℕ) (o : Object) → object_in r g ≡ Some o → IsOfType (with_some_object s (option_map (object_with f x) there) g) r o.type_id
  field_by None none r o live = record { object = o; live = live; same_type = refl }
  field_by (Some d) there r o live = elim (cases_eq r s) [
    | inl here ↦ record {
      object = object_with f x d;
      live = found_put r s (object_with f x d) g ∙ cond-true _ _ _ (eq-eqb r s here);
      same_type = ap (λ (k : Object). k.type_id) (same_Some d o (sym there ∙ ap (λ (n : ℕ). object_in n g) (sym here) ∙ live));
    }
    | inr other ↦ record { object = o; live = found_put r s (object_with f x d) g ∙ cond-false _ _ _ (ne_eqb r s other) ∙ live; same_type = refl }
  ]

  pub KeepsObjects-field : KeepsObjects g (with_field s f x g)
  KeepsObjects-field = record { each = field_by (object_in s g) refl }

-- an object is made under a serial that no object has: the others are still there
pub KeepsObjects-new : (d : Object) (g : Graph) → ((s : ℕ) (o : Object) → object_in s g ≡ Some o → s ≡ g.next_serial → ⊥) → KeepsObjects g (with_new d g)
KeepsObjects-new d g fresh =
    record {
      each = λ s o live. record {
        object = o;
        live = found_put s g.next_serial d g ∙ cond-false _ _ _ (ne_eqb s g.next_serial (fresh s o live)) ∙ live;
        same_type = refl;
      };
    }

-- the root is set: the objects stay
pub KeepsObjects-root : (s : ℕ) (g : Graph) → KeepsObjects g (with_root s g)
KeepsObjects-root s g = record { each = λ r o live. record { object = o; live = live; same_type = refl } }

-- ---- serials

-- the serial of an object is not 0, and below the next one
pub record IsSerial (g : Graph) (s : ℕ) : Type 0 where
  pub used : s ≡ 0 → ⊥
  pub below : s < g.next_serial

module _ (types : List (ℕ × ℕ)) (st : Stored) (g : Graph) (is : graph_of types st ≡ Some g) where
  serial_at : (s : ℕ) (o : Object) (p : Option ℕ) → place_of_serial s (table_of types st) (places_of st) ≡ p → option_map (object_at (table_of types st)) p ≡ Some o → IsSerial g s
  serial_at s o None none there = absurd (none-some o there)
  serial_at s o (Some p) place there =
      let h = graph_of-each types st g is in
      let live = place_of_serial-some (table_of types st) (places_of st) s p place in
      let sound = h.graph.sound p live.within live.used in
      let next : next_serial_of st ≡ g.next_serial = ap (λ (k : Graph). k.next_serial) h.is in
      record {
        used = λ none. live.used (live.is ∙ none);
        below = let low = sound.below in let same = live.is in omega arith;
      }

  pub serial_of_live : (s : ℕ) (o : Object) → object_in s g ≡ Some o → IsSerial g s
  serial_of_live s o live = serial_at s o (place_of_serial s (table_of types st) (places_of st)) refl (sym (object_in-place types st g s is) ∙ live)

-- ---- places, when a word is written that is no serial

-- the serial of the slot at a place
abbrev pub serial_at_place : (F : ℕ) → List (ℕ × Puddle) → Image → ℕ → ℕ
serial_at_place F at image p = place_serial (stored_in F at image) p

-- the word of the frame of a puddle of this class is not the serial of any slot
abbrev IsNoSerial : (class k : ℕ) → Type 0
IsNoSerial class k = (n : ℕ) → n < class_slots class → class_slot_at class n + SLOT_SERIAL_WORD ≡ k → ⊥

-- the word of a field is no serial
no_serial_of_field : (at : List (ℕ × Puddle)) (slot : Slot) (of : IsSlotOf at slot) (f : ℕ) → SLOT_FIELDS_WORD + f < class_slot_words slot.class → IsNoSerial of.puddle.class (field_word slot f)
no_serial_of_field at slot of f room n within here =
    let some = some_words slot.class in
    let is : class_slot_at slot.class n + SLOT_SERIAL_WORD ≡ class_slot_at slot.class slot.slot + (SLOT_FIELDS_WORD + f) =
    ap (λ (c : ℕ). class_slot_at c n + SLOT_SERIAL_WORD) of.alike ∙ here ∙ omega arith in
    let number = same_slot slot.class n slot.slot SLOT_SERIAL_WORD (SLOT_FIELDS_WORD + f) (omega arith) room is in
    let begins = ap (class_slot_at slot.class) number in
    absurd (omega arith)

-- no word of the header is a serial
no_serial_of_header : (class k : ℕ) → k < FRAME_HEADER_WORDS → IsNoSerial class k
no_serial_of_header class k low n within here = let begins = slot_low class n in absurd (omega arith)

module _ (F : ℕ) (at : List (ℕ × Puddle)) (image : Image) (distinct : HasDistinctFrames at) (o k v : ℕ) (e : ℕ × Puddle) (there : slice_get at o ≡ Some e) (below : k < FRAME_WORDS) (other : IsNoSerial e.1.class k) where
  abbrev stored_after : Stored
  stored_after = with_words (with_word o k v (stored_in F at image).word) (stored_in F at image)

  -- a slot of the frame of the ordinal is one of the puddle's class
  not_here : (p : ℕ) → is_slot (stored_in F at image) p ≡ true → ordinal_of p ≡ o → place_begins (stored_in F at image) p + SLOT_SERIAL_WORD ≡ k → ⊥
  not_here p slot same here =
      let class : class_at (stored_in F at image) p ≡ e.1.class = ap (λ (n : ℕ). class_of (slice_get (map (λ (d : ℕ × Puddle). d.1) at) n)) same ∙ class_there at o e there in
      other (slot_of p) (subst (λ (c : ℕ). slot_of p < class_slots c) class (ltb-true (slot_of p) (class_slots (class_at (stored_in F at image) p)) slot))
      (sym (ap (λ (c : ℕ). class_slot_at c (slot_of p) + SLOT_SERIAL_WORD) class) ∙ here)

  serial_stays : (p : ℕ) → place_serial stored_after p ≡ place_serial (stored_in F at image) p
  serial_stays p =
      let st = stored_in F at image in
      serial-same st (with_word o k v st.word) p (λ slot. with_word-other o k v st.word (ordinal_of p) (place_begins st p + SLOT_SERIAL_WORD) (not_here p slot))

  serials-word : (p : ℕ) → serial_at_place F at (overwritten (placed (frame_at F e.0 + k) (v ∷ [])) image) p ≡ serial_at_place F at image p
  serials-word p = ap (λ (st : Stored). place_serial st p) (stored_in-one F at image o k v e distinct there below) ∙ serial_stays p

  KeepsPlaces-word : (now : Graph) → KeepsPlaces F at at image (overwritten (placed (frame_at F e.0 + k) (v ∷ [])) image) now
  KeepsPlaces-word now =
      let same : (λ (p : ℕ). place_serial stored_after p) ≡ (λ (p : ℕ). place_serial (stored_in F at image) p) = λ i p. serial_stays p i in
      record {
        each = λ s object live.
            ap (λ (st : Stored). first_from nat_cmp s (under_serial (λ (p : ℕ). place_serial st p) (λ (p : ℕ). p)) 0 (places_in at)) (stored_in-one F at image o k v e distinct there below)
            ∙ ap (λ (serial : ℕ → ℕ). first_from nat_cmp s (under_serial serial (λ (p : ℕ). p)) 0 (places_in at)) same;
      }

-- the word of a field is written: each object stays in its place
pub KeepsPlaces-field : (F : ℕ) (at : List (ℕ × Puddle)) (image : Image) → HasDistinctFrames at → (slot : Slot) (of : IsSlotOf at slot) (f v : ℕ) → SLOT_FIELDS_WORD + f < class_slot_words slot.class → (now : Graph)
    → KeepsPlaces F at at image (overwritten (placed (frame_at F slot.frame + field_word slot f) (v ∷ [])) image) now
KeepsPlaces-field F at image distinct slot of f v below now =
    let end = slot_in_frame at slot of in
    KeepsPlaces-word F at image distinct slot.ordinal (field_word slot f) v (slot.frame, of.puddle) of.there (omega arith) (no_serial_of_field at slot of f below) now

-- the word of a field is written: each slot keeps its serial
pub serials-field : (F : ℕ) (at : List (ℕ × Puddle)) (image : Image) → HasDistinctFrames at → (slot : Slot) (of : IsSlotOf at slot) (f v : ℕ) → SLOT_FIELDS_WORD + f < class_slot_words slot.class → (p : ℕ)
    → serial_at_place F at (overwritten (placed (frame_at F slot.frame + field_word slot f) (v ∷ [])) image) p ≡ serial_at_place F at image p
serials-field F at image distinct slot of f v below p =
    let end = slot_in_frame at slot of in
    serials-word F at image distinct slot.ordinal (field_word slot f) v (slot.frame, of.puddle) of.there (omega arith) (no_serial_of_field at slot of f below) p

-- the word of the root is written: each object stays in its place
pub KeepsPlaces-root : (F : ℕ) (at : List (ℕ × Puddle)) (image : Image) → HasDistinctFrames at → (first : ℕ × Puddle) → slice_get at 0 ≡ Some first → (v : ℕ) (now : Graph)
    → KeepsPlaces F at at image (overwritten (placed (frame_at F first.0 + ROOT_WORD) (v ∷ [])) image) now
KeepsPlaces-root F at image distinct first head v now = KeepsPlaces-word F at image distinct 0 ROOT_WORD v first head (omega arith) (no_serial_of_header first.1.class ROOT_WORD (omega arith)) now

-- ---- places, when one slot has another serial

module _ (F : ℕ) (at : List (ℕ × Puddle)) (image later : Image) (p : ℕ) (others : (q : ℕ) → (q ≡ p → ⊥) → serial_at_place F at later q ≡ serial_at_place F at image q) where
  abbrev before : ℕ → ℕ
  before q = serial_at_place F at image q

  abbrev following : ℕ → ℕ
  following q = serial_at_place F at later q

  under_same : (s : ℕ) → (before p ≡ s → ⊥) → (following p ≡ s → ⊥) → (q : ℕ) → under nat_cmp s (under_serial following (λ (r : ℕ). r) q) ≡ under nat_cmp s (under_serial before (λ (r : ℕ). r) q)
  under_same s was is q = elim (cases_eq q p) [
    | inr apart ↦ ap (λ (k : ℕ). under nat_cmp s (cond (slot_state k).is_live (Some (k, q)) None)) (others q apart)
    | inl here ↦
        under_other following (λ (r : ℕ). r) s q (λ same. is (sym (ap following here) ∙ same))
        ∙ sym (under_other before (λ (r : ℕ). r) s q (λ same. was (sym (ap before here) ∙ same)))
  ]

  -- an object of a serial other than these two stands where it stood
  pub place_beside : (s : ℕ) → (before p ≡ s → ⊥) → (following p ≡ s → ⊥) → place_in_pool F at later s ≡ place_in_pool F at image s
  place_beside s was is = first_from_same nat_cmp s (under_serial following (λ (r : ℕ). r)) (under_serial before (λ (r : ℕ). r)) 0 (places_in at) (λ q low high. under_same s was is q)

-- ---- places, when a free slot is filled

module _ (types : List (ℕ × ℕ)) (F : ℕ) (at : List (ℕ × Puddle)) (image : Image) (is_placed : ArePlacedPuddles F at) (first : ℕ × Puddle) (head : slice_get at 0 ≡ Some first) (slot : Slot) (of : IsSlotOf at slot)
    (serial type_id m : ℕ) (free : IsFreePlace (stored_in F at image) (place_of_slot slot)) (next : serial ≡ next_serial_of (stored_in F at image)) (defined : map_of type_id types ≡ Some m) (fits : fits_class slot.class m ≡ true) where
  abbrev filled : Image
  filled = overwritten (new_object_write F first.0 slot serial type_id) image

  -- a slot whose serial is one of the words of this slot is this one
  same_place : (q : ℕ) → ordinal_of q ≡ ordinal_of (place_of_slot slot) → place_begins (stored_in F at image) (place_of_slot slot) ≤ place_begins (stored_in F at image) q + SLOT_SERIAL_WORD
      → place_begins (stored_in F at image) q + SLOT_SERIAL_WORD < place_begins (stored_in F at image) (place_of_slot slot) + place_words (stored_in F at image) (place_of_slot slot) → q ≡ place_of_slot slot
  same_place q same above below =
      let st = stored_in F at image in
      let p = place_of_slot slot in
      let class : class_at st q ≡ class_at st p = ap (λ (o : ℕ). class_of (slice_get st.puddles o)) same in
      let some = some_words (class_at st p) in
      let begins : place_begins st q ≡ class_slot_at (class_at st p) (slot_of q) = ap (λ (c : ℕ). class_slot_at c (slot_of q)) class in
      let number : slot_of q ≡ slot_of p = same_slot (class_at st p) (slot_of q) (slot_of p) SLOT_SERIAL_WORD (place_begins st q - place_begins st p) (omega arith) (omega arith) (omega arith) in
      omega arith

  -- the other slots keep their serials
  other_serial : (q : ℕ) → (q ≡ place_of_slot slot → ⊥) → serial_at_place F at filled q ≡ serial_at_place F at image q
  other_serial q other =
      let st = stored_in F at image in
      serial-same st (stored_in F at filled).word q
      (λ is.
      (made types F at image is_placed first head slot of serial type_id m free next defined fits).others (ordinal_of q) (place_begins st q + SLOT_SERIAL_WORD)
      (λ same above below. other (same_place q same above below)) (λ front word. let low = slot_low (class_at st q) (slot_of q) in absurd (omega arith)))

  pub KeepsPlaces-new : (now : Graph) → graph_of types (stored_in F at image) ≡ Some now → KeepsPlaces F at at image filled now
  KeepsPlaces-new now is =
      record {
        each = λ s o live.
            let known = serial_of_live types (stored_in F at image) now is s o live in
            let last : next_serial_of (stored_in F at image) ≡ now.next_serial = ap (λ (k : Graph). k.next_serial) (graph_of-each types (stored_in F at image) now is).is in
            let its : serial_at_place F at filled (place_of_slot slot) ≡ next_serial_of (stored_in F at image) = serial_made types F at image is_placed first head slot of serial type_id m free next defined fits in
            place_beside F at image filled (place_of_slot slot) other_serial s
            (λ same. known.used (sym same ∙ free))
            (λ same. let below = known.below in absurd (omega arith));
      }
