-- If words of a log are written, and the word of a field or of the root, each slot of the pool has the serial that it
-- had. If the word of a serial is written, its slot is free.
use Rattle.std.proofs.Common.{◌≡◌, inl, inr, ℕ, ◌+◌, ◌<◌, ◌≤◌, true, ltb, cond, List, [], ◌∷◌, length, get_or, Option, Some, None, refl, sym, ap, subst, ◌∙◌, arith}
use Rattle.std.specs.Prelude.{slice_get}
use Rattle.std.proofs.lemmas.Bool.{cases_eq, ltb-true}
use Rattle.std.proofs.lemmas.Option.{slice_get-get_or}
use Rattle.pm_model.specs.declared.host.HostFault.{HostFault}
use Rattle.pm_model.specs.Words.{reads}
use Rattle.pm_model.specs.Moments.{State}
use Rattle.pm_model.specs.Changes.{Write, Changes}
use Rattle.pm_model.proofs.Words.{only_at}
use Rattle.pud_defs.specs.declared.layout.TheConstants.{LOG_WORDS, FRAME_WORDS}
use Rattle.pud_defs.specs.declared.space.TheConstants.{SLOT_SERIAL_WORD, SLOT_FIELDS_WORD, ROOT_WORD}
use Rattle.pud_defs.specs.declared.records.Puddle.{Puddle}
use Rattle.pud_defs.specs.declared.records.Slot.{Slot}
use Rattle.pud_defs.specs.Formats.Frames.{frame_at}
use Rattle.pud_defs.specs.Formats.Geometry.{class_slots, class_slot_words, class_slot_at, slot_begins, ordinal_of, slot_of}
use Rattle.pud_defs.proofs.Formats.Geometry.{some_words, slot_low, slot_end, same_slot}
use Rattle.pud_defs.specs.Formats.Image.{Image}
use Rattle.pud_defs.specs.Formats.Layout.{frames_at}
use Rattle.pud_defs.specs.PoolGraphs.Stored.{stored_in, is_slot, place_word, place_serial, word_in_frame}
use Rattle.graph_laws.specs.Reads.{HasDistinctFrames}
use Rattle.graph_laws.proofs.SameReads.Words.{serial-same}
use Rattle.puddle_header.specs.Places.{places_in, is_slot_in, place_of_slot, IsSlotOf}
use Rattle.puddle_header.proofs.Placed.{slot_at_place}
use Rattle.graph_read.specs.Reading.{class_in}
use Rattle.graph_read.proofs.Pointed.{no_puddle}
use Rattle.batch.proofs.Tables.{reads_kept}
use Rattle.log_store.specs.Store.{InLog}
use Rattle.object_alloc.specs.Alloc.{serial_word_at}
use Rattle.object_alloc.proofs.Freed.{placed-single}
use Rattle.hybrid_tx.specs.Objects.Stores.{field_word, ByPut}
use Rattle.pool_transaction.specs.Changing.{FreesSlot}
use Rattle.pool_transaction.proofs.SlotClasses.{ordinal_class, zero_either}
use Rattle.hybrid_tx.proofs.Objects.SlotPlaces.{below_of_slot}

word_kept : (F : ℕ) (i j : Image) (k : ℕ) (d : Option (ℕ × Puddle)) → ((e : ℕ × Puddle) → d ≡ Some e → j (frame_at F e.0 + k) ≡ i (frame_at F e.0 + k)) → word_in_frame F j k d ≡ word_in_frame F i k d
word_kept F i j k None same = refl
word_kept F i j k (Some e) same = ap (λ (v : ℕ). cond (ltb k FRAME_WORDS) v 0) (same e refl)

module _ (F : ℕ) (at : List (ℕ × Puddle)) where
  -- The word of a puddle's frame that has the serial of the slot at a place.
  abbrev serial_word : ℕ → ℕ
  serial_word p = class_slot_at (class_in at (ordinal_of p)) (slot_of p) + SLOT_SERIAL_WORD

  -- The place is a slot of the puddle in this frame.
  record IsSlotIn (p : ℕ) (e : ℕ × Puddle) : Type 0 where
    slot : is_slot_in at p ≡ true
    there : slice_get at (ordinal_of p) ≡ Some e

  word_high : (p : ℕ) → is_slot_in at p ≡ true → serial_word p < FRAME_WORDS
  word_high p is =
      let class = class_in at (ordinal_of p) in
      let end = slot_end class (slot_of p) (ltb-true (slot_of p) (class_slots class) is) in
      let some = some_words class in
      omega (arith, end, some)

  -- If a word of a slot is the word of a serial, the serial is that of the slot.
  module _ (slot : Slot) (of : IsSlotOf at slot) (frames : HasDistinctFrames at) (j : ℕ) (few : j < class_slot_words slot.class) (p : ℕ) (e : ℕ × Puddle) (is : IsSlotIn p e)
      (same : frame_at F e.0 + serial_word p ≡ frame_at F slot.frame + (slot_begins slot + j)) where
    same_frame : e.0 ≡ slot.frame
    same_frame =
        let high = word_high p is.slot in
        let end = slot_end slot.class slot.slot (below_of_slot at slot of) in
        omega (arith, high, end, few, same)

    same_ordinal : ordinal_of p ≡ slot.ordinal
    same_ordinal = frames.each (ordinal_of p) slot.ordinal e (slot.frame, of.puddle) is.there of.there same_frame

    same_word : class_slot_at slot.class (slot_of p) + SLOT_SERIAL_WORD ≡ class_slot_at slot.class slot.slot + j
    same_word =
        let class : class_in at (ordinal_of p) ≡ slot.class = ap (class_in at) same_ordinal ∙ ordinal_class at slot of in
        let frame = same_frame in
        sym (ap (λ (c : ℕ). class_slot_at c (slot_of p) + SLOT_SERIAL_WORD) class) ∙ omega (arith, same, frame)

    number : slot_of p ≡ slot.slot
    number = let some = some_words slot.class in same_slot slot.class (slot_of p) slot.slot SLOT_SERIAL_WORD j (omega (arith, some)) few same_word

    its_place : p ≡ place_of_slot slot
    its_place = let ordinal = same_ordinal in let slot = number in omega (arith, ordinal, slot)

    its_word : j ≡ SLOT_SERIAL_WORD
    its_word = let word = same_word in let begins = ap (class_slot_at slot.class) number in omega (arith, word, begins)

module _ (F : ℕ) (at : List (ℕ × Puddle)) (old new : State) where
  -- No word of a serial changes.
  abbrev KeepsWords : Type 0
  KeepsWords = (p : ℕ) (e : ℕ × Puddle) → IsSlotIn F at p e → reads new.now.words (frame_at F e.0 + serial_word F at p) ≡ reads old.now.words (frame_at F e.0 + serial_word F at p)

  serials_by : KeepsWords → (p : ℕ) → place_serial (stored_in F at (reads new.now.words)) p ≡ place_serial (stored_in F at (reads old.now.words)) p
  serials_by same p =
      serial-same (stored_in F at (reads old.now.words)) (stored_in F at (reads new.now.words)).word p
      (λ is. word_kept F (reads old.now.words) (reads new.now.words) (serial_word F at p) (slice_get at (ordinal_of p)) (λ e there. same p e (record { slot = is; there = there })))

  module _ (log : ℕ) (apart : log + LOG_WORDS ≤ frames_at F) where
    -- The serials stay if only words of the log are written.
    pub serials_beside : (fault : Option HostFault) → fault ≡ None → Changes (InLog log) fault old new → (p : ℕ) → p < places_in at → place_serial (stored_in F at (reads new.now.words)) p ≡ place_serial (stored_in F at (reads old.now.words)) p
    serials_beside fault none c p below =
        let done = subst (λ (f : Option HostFault). Changes (InLog log) f old new) none c in
        serials_by (λ p e is. reads_kept (InLog log) old new (frame_at F e.0 + serial_word F at p) done (λ v inside. let high = inside.high in absurd (omega (arith, high, apart)))) p

    -- The serials stay if one word of a frame that is no serial is written too.
    serials_but : (word v : ℕ) → (fault : Option HostFault) → fault ≡ None → Changes (ByPut log word (v ∷ [])) fault old new → ((p : ℕ) (e : ℕ × Puddle) → IsSlotIn F at p e → frame_at F e.0 + serial_word F at p ≡ word → ⊥)
        → (p : ℕ) → p < places_in at → place_serial (stored_in F at (reads new.now.words)) p ≡ place_serial (stored_in F at (reads old.now.words)) p
    serials_but word v fault none c other p below =
        let done = subst (λ (o : Option HostFault). Changes (ByPut log word (v ∷ [])) o old new) none c in
        serials_by (λ p e is. reads_kept (ByPut log word (v ∷ [])) old new (frame_at F e.0 + serial_word F at p) done (λ x may. elim may [
          | inl inside ↦ let high = inside.high in absurd (omega (arith, high, apart))
          | inr put ↦ absurd (other p e is (only_at word v (frame_at F e.0 + serial_word F at p) x (subst (λ (w : Write). w (frame_at F e.0 + serial_word F at p) ≡ Some x) (placed-single word v) put)))
        ])) p

    -- The word of a field is such a word.
    pub serials_put : (slot : Slot) → IsSlotOf at slot → HasDistinctFrames at → (f v : ℕ) → SLOT_FIELDS_WORD + f < class_slot_words slot.class → (fault : Option HostFault) → fault ≡ None
        → Changes (ByPut log (frame_at F slot.frame + field_word slot f) (v ∷ [])) fault old new → (p : ℕ) → p < places_in at → place_serial (stored_in F at (reads new.now.words)) p ≡ place_serial (stored_in F at (reads old.now.words)) p
    serials_put slot of frames f v below fault none c =
        serials_but (frame_at F slot.frame + field_word slot f) v fault none c
        (λ p e is here. let first = its_word F at slot of frames (SLOT_FIELDS_WORD + f) below p e is (omega (arith, here)) in absurd (omega (arith, first)))

    -- The word of the root is such a word, if there is a puddle.
    pub serials_rooted : (v : ℕ) (fault : Option HostFault) → fault ≡ None → ((e : ℕ × Puddle) → slice_get at 0 ≡ Some e → Changes (ByPut log (frame_at F e.0 + ROOT_WORD) (v ∷ [])) fault old new) → (length at ≡ 0 → new ≡ old)
        → (p : ℕ) → p < places_in at → place_serial (stored_in F at (reads new.now.words)) p ≡ place_serial (stored_in F at (reads old.now.words)) p
    serials_rooted v fault none puts nothing p below = elim (cases_eq (length at) 0) [
      | inl empty ↦ ap (λ (s : State). place_serial (stored_in F at (reads s.now.words)) p) (nothing empty)
      | inr some ↦
          let first = get_or at 0 no_puddle in
          serials_but (frame_at F first.0 + ROOT_WORD) v fault none (puts first (slice_get-get_or at 0 no_puddle (omega (arith, some))))
          (λ p e is here.
          let low = slot_low (class_in at (ordinal_of p)) (slot_of p) in
          let high = word_high F at p is.slot in
          absurd (omega (arith, here, low, high))) p below
    ]

    -- The serial of one slot is taken away.
    module _ (slot : Slot) (of : IsSlotOf at slot) (frames : HasDistinctFrames at) (fault : Option HostFault) (none : fault ≡ None) (c : Changes (ByPut log (serial_word_at F slot) (0 ∷ [])) fault old new) where
      few : SLOT_SERIAL_WORD < class_slot_words slot.class
      few = let some = some_words slot.class in omega (arith, some)

      word_by : (p : ℕ) → (p ≡ place_of_slot slot → ⊥) → (e : ℕ × Puddle) → IsSlotIn F at p e → reads new.now.words (frame_at F e.0 + serial_word F at p) ≡ reads old.now.words (frame_at F e.0 + serial_word F at p)
      word_by p other e is =
          let done = subst (λ (o : Option HostFault). Changes (ByPut log (serial_word_at F slot) (0 ∷ [])) o old new) none c in
          reads_kept (ByPut log (serial_word_at F slot) (0 ∷ [])) old new (frame_at F e.0 + serial_word F at p) done (λ x may. elim may [
            | inl inside ↦ let high = inside.high in absurd (omega (arith, high, apart))
            | inr put ↦
                let here = only_at (serial_word_at F slot) 0 (frame_at F e.0 + serial_word F at p) x (subst (λ (w : Write). w (frame_at F e.0 + serial_word F at p) ≡ Some x) (placed-single (serial_word_at F slot) 0) put) in
                absurd (other (its_place F at slot of frames SLOT_SERIAL_WORD few p e is here))
          ])

      pub serials_freed : reads new.now.words (serial_word_at F slot) ≡ 0 → FreesSlot F at slot (reads old.now.words) (reads new.now.words)
      serials_freed zero_there = record {
        free =
            let st = stored_in F at (reads new.now.words) in
            let here = place_of_slot slot in
            let word : place_word st here SLOT_SERIAL_WORD ≡ 0 = sym (slot_at_place F at (reads new.now.words) SLOT_SERIAL_WORD slot of (let some = some_words of.puddle.class in omega (arith, some))) ∙ zero_there in
            ap (λ (v : ℕ). cond (is_slot st here) v 0) word ∙ zero_either (is_slot st here);
        others = λ p other.
            serial-same (stored_in F at (reads old.now.words)) (stored_in F at (reads new.now.words)).word p
            (λ is. word_kept F (reads old.now.words) (reads new.now.words) (serial_word F at p) (slice_get at (ordinal_of p)) (λ e there. word_by p other e (record { slot = is; there = there })));
      }
