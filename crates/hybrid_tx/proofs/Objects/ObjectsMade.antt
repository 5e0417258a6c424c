-- A free slot of a pool is filled in an image, and the next serial is one more: the pool's graph then has one more
-- object.
use Rattle.std.proofs.Common.{◌≡◌, ◌⊎◌, inl, inr, ℕ, ◌+◌, ◌-◌, ◌<◌, ◌≤◌, cond, ltb, suc, true, List, [], ◌∷◌, length, take, Option, Some, None, refl, sym, ap, ap₂, subst, ◌∙◌, arith}
use Rattle.std.specs.Prelude.{slice_get, replicate}
use Rattle.std.specs.Option.{option_or}
use Rattle.std.proofs.lemmas.Bool.{cases_eq, cases_lt, cond-false, le-ltb, leb-true}
use Rattle.std.proofs.lemmas.Option.{slice_get_within, slice_get-get_or}
use Rattle.std.proofs.lemmas.List.{length-map, length-replicate, get_or-replicate}
use Rattle.pm_model.specs.Changes.{placed}
use Rattle.pud_defs.specs.declared.layout.TheConstants.{FRAME_WORDS, NUMBER_LIMIT}
use Rattle.pud_defs.specs.declared.space.TheConstants.{MAX_SLOT_WORDS, SLOT_SERIAL_WORD, SLOT_TYPE_WORD, SLOT_FIELDS_WORD, NEXT_SERIAL_WORD}
use Rattle.pud_defs.specs.declared.records.Puddle.{Puddle}
use Rattle.pud_defs.specs.declared.records.Slot.{Slot}
use Rattle.pud_defs.specs.Formats.Geometry.{class_slot_words, slot_begins, ordinal_of}
use Rattle.pud_defs.proofs.Formats.Geometry.{by_class, some_words, slot_low}
use Rattle.pud_defs.specs.RegistryTables.Types.{map_of}
use Rattle.pud_defs.specs.Formats.Image.{Image}
use Rattle.pud_defs.specs.Formats.Frames.{frame_at}
use Rattle.pud_defs.specs.Logging.Replay.{overwritten}
use Rattle.pud_defs.specs.PoolGraphs.Stored.{Stored, stored_in, word_in_frame, place_word, place_begins, place_words, place_serial, IsFreePlace}
use Rattle.pud_defs.specs.PoolGraphs.Graph.{Graph, field_count, fits_class, next_serial_of, graph_of}
use Rattle.pud_defs.proofs.PoolGraphs.Graphs.{graph_of-each}
use Rattle.pud_defs.proofs.Logging.Replay.{overwritten-there, overwritten-stays, value_at-there, value_at-apart}
use Rattle.pud_defs.specs.PoolGraphs.GraphChanges.{blank_object, with_new}
use Rattle.graph_laws.specs.Changes.{IsMade}
use Rattle.graph_laws.proofs.ObjectChanges.NewObjects.{graph_of-new}
use Rattle.puddle_header.specs.Places.{place_of_slot, IsSlotOf}
use Rattle.puddle_header.proofs.Placed.{place_ordinal, stored_word, slot_at_place}
use Rattle.hybrid_tx.specs.PoolScopes.{ArePlacedPuddles}
use Rattle.hybrid_tx.specs.Objects.Stores.{new_object_words, new_object_write}
use Rattle.hybrid_tx.proofs.Objects.SlotPlaces.{slot_in_frame, class_of_slot, begins_of_slot, words_of_slot, is_slot_of_slot, serial_of_slot}

-- ---- the words of a new object

-- in a slot of so many words
pub new_object_words-length : (words serial type_id : ℕ) → SLOT_FIELDS_WORD ≤ words → length (new_object_words words serial type_id) ≡ words
unfolding new_object_words
new_object_words-length words serial type_id some = ap (λ (n : ℕ). suc (suc n)) (length-replicate {A = ℕ} (words - SLOT_FIELDS_WORD) 0) ∙ omega arith

new_object_words-serial : (words serial type_id : ℕ) → slice_get (new_object_words words serial type_id) SLOT_SERIAL_WORD ≡ Some serial
unfolding new_object_words
new_object_words-serial words serial type_id = refl

new_object_words-type : (words serial type_id : ℕ) → slice_get (new_object_words words serial type_id) SLOT_TYPE_WORD ≡ Some type_id
unfolding new_object_words
new_object_words-type words serial type_id = refl

new_object_words-field : (words serial type_id f : ℕ) → f < words - SLOT_FIELDS_WORD → slice_get (new_object_words words serial type_id) (SLOT_FIELDS_WORD + f) ≡ Some 0
unfolding new_object_words
new_object_words-field words serial type_id f below =
    ap (slice_get (serial ∷ type_id ∷ replicate (words - SLOT_FIELDS_WORD) 0)) (let e : SLOT_FIELDS_WORD + f ≡ suc (suc f) = omega arith in e)
    ∙ slice_get-get_or (replicate (words - SLOT_FIELDS_WORD) 0) f 0 (subst (λ (n : ℕ). f < n) (sym (length-replicate {A = ℕ} (words - SLOT_FIELDS_WORD) 0)) below)
    ∙ ap (λ k. Some k) (get_or-replicate (words - SLOT_FIELDS_WORD) f 0 0 below)

-- the words in a slot with the most words begin with those in any slot
module _ (class serial type_id : ℕ) where
  abbrev AreFirst : (count : ℕ) → Type 0
  AreFirst count = take count (new_object_words MAX_SLOT_WORDS serial type_id) ≡ new_object_words count serial type_id

  first_words : AreFirst (class_slot_words class)
  unfolding new_object_words
  first_words = by_class (λ c. AreFirst (class_slot_words c)) class (λ g. subst AreFirst (sym g.width) refl) (λ g. subst AreFirst (sym g.width) refl)

  pub words_taken : (count : ℕ) (words : List ℕ) → count ≡ class_slot_words class → words ≡ new_object_words MAX_SLOT_WORDS serial type_id → take count words ≡ new_object_words (class_slot_words class) serial type_id
  words_taken count words is_count are = ap₂ take is_count are ∙ first_words

  pub words_taken-length : (count : ℕ) (words : List ℕ) → count ≡ class_slot_words class → words ≡ new_object_words MAX_SLOT_WORDS serial type_id → length (take count words) ≡ class_slot_words class
  words_taken-length count words is_count are =
      let some = some_words class in
      ap length (words_taken count words is_count are) ∙ new_object_words-length (class_slot_words class) serial type_id (omega arith)

-- ---- what is written

module _ (F first serial type_id : ℕ) (slot : Slot) where
  abbrev its_slot : ℕ
  its_slot = frame_at F slot.frame + slot_begins slot

  abbrev next_word : ℕ
  next_word = frame_at F first + NEXT_SERIAL_WORD

  abbrev size : ℕ
  size = class_slot_words slot.class

  -- it has all words of the slot
  whole : length (new_object_words size serial type_id) ≡ size
  whole = let some = some_words slot.class in new_object_words-length size serial type_id (omega arith)

  making-other : (k : ℕ) → (k < its_slot) ⊎ (its_slot + size ≤ k) → (k ≡ next_word → ⊥) → new_object_write F first slot serial type_id k ≡ None
  making-other k apart other =
      ap₂ option_or
      (value_at-apart next_word k ((serial + 1) ∷ []) (elim (cases_lt k next_word) [ inl below ↦ inl below | inr above ↦ inr (omega arith) ]))
      (value_at-apart its_slot k (new_object_words size serial type_id) (elim apart [ inl below ↦ inl below | inr above ↦ inr (let all = whole in omega arith) ]))

  making-slot : (j : ℕ) → j < size → (its_slot + j ≡ next_word → ⊥) → new_object_write F first slot serial type_id (its_slot + j) ≡ slice_get (new_object_words size serial type_id) j
  making-slot j few other =
      ap₂ option_or
      (value_at-apart next_word (its_slot + j) ((serial + 1) ∷ []) (elim (cases_lt (its_slot + j) next_word) [ inl below ↦ inl below | inr above ↦ inr (omega arith) ]))
      (value_at-there its_slot j (its_slot + j) (new_object_words size serial type_id) refl)

  making-next : new_object_write F first slot serial type_id next_word ≡ Some (serial + 1)
  making-next = ap (λ (o : Option ℕ). option_or o (placed its_slot (new_object_words size serial type_id) next_word)) (value_at-there next_word 0 next_word ((serial + 1) ∷ []) (omega arith))

-- ---- the graph

module _ (types : List (ℕ × ℕ)) (F : ℕ) (at : List (ℕ × Puddle)) (image : Image) (is_placed : ArePlacedPuddles F at) (first : ℕ × Puddle) (head : slice_get at 0 ≡ Some first) (slot : Slot) (of : IsSlotOf at slot)
    (serial type_id m : ℕ) where
  abbrev st : Stored
  st = stored_in F at image

  abbrev after : Image
  after = overwritten (new_object_write F first.0 slot serial type_id) image

  abbrev later : ℕ → ℕ → ℕ
  later = (stored_in F at after).word

  abbrev p : ℕ
  p = place_of_slot slot

  abbrev words : ℕ
  words = class_slot_words slot.class

  -- no word of the slot is the word of the next serial
  apart_from_next : (j : ℕ) → j < words → (frame_at F slot.frame + slot_begins slot + j ≡ frame_at F first.0 + NEXT_SERIAL_WORD → ⊥)
  apart_from_next j few same =
      let low = slot_low slot.class slot.slot in
      let end = slot_in_frame at slot of in
      absurd (omega arith)

  slot_after : (j v : ℕ) → j < words → slice_get (new_object_words words serial type_id) j ≡ Some v → place_word (stored_in F at after) p j ≡ v
  slot_after j v few is =
      sym (slot_at_place F at after j slot of (subst (λ (c : ℕ). j < class_slot_words c) of.alike few))
      ∙ ap after (let e : frame_at F slot.frame + (slot_begins slot + j) ≡ frame_at F slot.frame + slot_begins slot + j = omega arith in e)
      ∙ overwritten-there (new_object_write F first.0 slot serial type_id) image (frame_at F slot.frame + slot_begins slot + j) v (making-slot F first.0 serial type_id slot j few (apart_from_next j few) ∙ is)

  next_after : later 0 NEXT_SERIAL_WORD ≡ serial + 1
  next_after =
      stored_word F at after 0 NEXT_SERIAL_WORD first head (omega arith)
      ∙ overwritten-there (new_object_write F first.0 slot serial type_id) image (frame_at F first.0 + NEXT_SERIAL_WORD) (serial + 1) (making-next F first.0 serial type_id slot)

  frame_after : (o k : ℕ) (e : ℕ × Puddle) → slice_get at o ≡ Some e → k < FRAME_WORDS
      → (o ≡ ordinal_of p → place_begins (stored_in F at image) p ≤ k → k < place_begins (stored_in F at image) p + place_words (stored_in F at image) p → ⊥) → (o ≡ 0 → k ≡ NEXT_SERIAL_WORD → ⊥)
      → after (frame_at F e.0 + k) ≡ image (frame_at F e.0 + k)
  frame_after o k e there below other_slot other_next =
      let ordinal = place_ordinal slot.ordinal slot.slot of.puddle of.below in
      let begins = begins_of_slot F at image slot of in
      let size = words_of_slot F at image slot of in
      let end = slot_in_frame at slot of in
      let apart : (frame_at F e.0 + k < frame_at F slot.frame + slot_begins slot) ⊎ (frame_at F slot.frame + slot_begins slot + words ≤ frame_at F e.0 + k) =
      elim (cases_eq e.0 slot.frame) [
        | inr differs ↦ elim (cases_lt e.0 slot.frame) [ inl low ↦ inl (omega arith) | inr high ↦ inr (omega arith) ]
        | inl same ↦
            let here : o ≡ ordinal_of p = is_placed.frames.each o slot.ordinal e (slot.frame, of.puddle) there of.there same ∙ sym ordinal in
            elim (cases_lt k (slot_begins slot)) [
              | inl low ↦ inl (omega arith)
              | inr from ↦ elim (cases_lt k (slot_begins slot + words)) [
                | inl within ↦ absurd (other_slot here (omega arith) (omega arith))
                | inr high ↦ inr (omega arith)
              ]
            ]
      ] in
      overwritten-stays (new_object_write F first.0 slot serial type_id) image (frame_at F e.0 + k)
      (making-other F first.0 serial type_id slot (frame_at F e.0 + k) apart
      (λ same.
      let frame : e.0 ≡ first.0 = omega arith in
      let word : k ≡ NEXT_SERIAL_WORD = omega arith in
      other_next (is_placed.frames.each o 0 e first there head frame) word))

  others_by : (o k : ℕ) (x : Option (ℕ × Puddle)) → slice_get at o ≡ x
      → (o ≡ ordinal_of p → place_begins (stored_in F at image) p ≤ k → k < place_begins (stored_in F at image) p + place_words (stored_in F at image) p → ⊥) → (o ≡ 0 → k ≡ NEXT_SERIAL_WORD → ⊥)
      → word_in_frame F after k x ≡ word_in_frame F image k x
  others_by o k None there other_slot other_next = refl
  others_by o k (Some e) there other_slot other_next = elim (cases_lt k FRAME_WORDS) [
    | inl below ↦ ap (λ v. cond (ltb k FRAME_WORDS) v 0) (frame_after o k e there below other_slot other_next)
    | inr following ↦ cond-false _ _ _ (le-ltb k FRAME_WORDS following) ∙ sym (cond-false _ _ _ (le-ltb k FRAME_WORDS following))
  ]

  module _ (free : IsFreePlace st p) (next : serial ≡ next_serial_of st) (defined : map_of type_id types ≡ Some m) (fits : fits_class slot.class m ≡ true) where
    pub made : IsMade types st later p type_id m
    made =
        let low = slice_get_within at slot.ordinal (slot.frame, of.puddle) of.there in
        let ordinal = place_ordinal slot.ordinal slot.slot of.puddle of.below in
        let size = length-map at (λ (e : ℕ × Puddle). e.1) in
        let some = some_words slot.class in
        let room = leb-true (SLOT_FIELDS_WORD + field_count m) words fits in
        record {
          within = omega arith;
          slot = is_slot_of_slot F at image slot of;
          free = free;
          serial_word = slot_after SLOT_SERIAL_WORD serial (omega arith) (new_object_words-serial words serial type_id) ∙ next;
          type_word = slot_after SLOT_TYPE_WORD type_id (omega arith) (new_object_words-type words serial type_id);
          defined = defined;
          room = ap (λ (c : ℕ). fits_class c m) (class_of_slot F at image slot of) ∙ fits;
          fields = λ f below. slot_after (SLOT_FIELDS_WORD + f) 0 (omega arith) (new_object_words-field words serial type_id f (omega arith));
          next_word = next_after ∙ ap (λ k. k + 1) next;
          others = λ o k. others_by o k (slice_get at o) refl;
        }

    pub new_stored : (g : Graph) → graph_of types st ≡ Some g → g.next_serial < NUMBER_LIMIT → graph_of types (stored_in F at after) ≡ Some (with_new (blank_object slot.class type_id m) g)
    new_stored g is room =
        let same : next_serial_of st ≡ g.next_serial = ap (λ (k : Graph). k.next_serial) (graph_of-each types st g is).is in
        graph_of-new types st g later p type_id m is (omega arith) made ∙ ap (λ (c : ℕ). Some (with_new (blank_object c type_id m) g)) (class_of_slot F at image slot of)

    -- the slot has the serial then
    pub serial_made : place_serial (stored_in F at after) p ≡ next_serial_of st
    serial_made = serial_of_slot F at after slot of ∙ made.serial_word
