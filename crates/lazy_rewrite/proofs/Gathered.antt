-- A batch of steps, gathered word by word.
use Rattle.std.proofs.Common.{◌≡◌, ℕ, zero, suc, ◌+◌, ◌-◌, ◌*◌, ◌<◌, ◌≤◌, Bool, true, false, ◌&&◌, cond, eqb, ltb, not, eq-eqb, ne_eqb, List, [], ◌∷◌, ◌++◌, map, length, get_or, subst, Option, Some, None, refl, sym, ap, ap₂, ◌∙◌, ⊎_elim, arith, append_assoc, append-nil}
use Rattle.std.specs.Prelude.{slice_get}
use Rattle.std.proofs.lemmas.Bool.{cases_eq, cases_Bool, cond-true, cond-false, and_from, and_left, and_right, lt-ltb, le-ltb, le-leb, lt-leb, leb-true}
use Rattle.std.proofs.lemmas.List.Elements.{All-get_or}
use Rattle.std.proofs.lemmas.List.Sums.{sum_by-append}
use Rattle.std.proofs.lemmas.Option.{slice_get_within, get_or_from_slice_get, same_Some, none-some, cond_some}
use Rattle.pud_defs.specs.declared.layout.TheConstants.{MAX_FIELDS, LOG_ENTRY_WORDS}
use Rattle.pud_defs.specs.declared.space.TheConstants.{FRAME_HEADER_WORDS, ROOT_WORD, SLOT_TYPE_WORD, SLOT_FIELDS_WORD}
use Rattle.pud_defs.specs.declared.records.Puddle.{Puddle}
use Rattle.pud_defs.specs.declared.records.Slot.{Slot}
use Rattle.pud_defs.specs.Formats.TypeMap.{is_pointer}
use Rattle.pud_defs.specs.Formats.Geometry.{class_slots, class_slot_words, class_slot_at}
use Rattle.pud_defs.proofs.Formats.Geometry.{slot_end}
use Rattle.pud_defs.specs.Formats.Image.{Image}
use Rattle.pud_defs.specs.Formats.Frames.{frame_at, frame_word}
use Rattle.pud_defs.specs.Logging.Entries.{Entry}
use Rattle.pud_defs.specs.RegistryTables.Puddles.{frontier_word, frontier_with_class}
use Rattle.pud_defs.specs.RegistryTables.Types.{types_of, map_of}
use Rattle.pud_defs.specs.PoolGraphs.Stored.{IsOnDevice, stored_in, slot_state}
use Rattle.pud_defs.specs.PoolGraphs.Graph.{target, over_old, puddles_by, pointee_at, field_count, fits_class, fitting}
use Rattle.puddle_header.specs.Places.{IsSlotOf}
use Rattle.puddle_header.proofs.Placed.{stored_word}
use Rattle.pud_defs.specs.Formats.Headers.{slot_word}
use Rattle.graph_laws.specs.Rewriting.{rewritten, passes_slot, passes_root}
use Rattle.graph_laws.specs.Steps.{pointer_by, slot_pointer, passed_word}
use Rattle.graph_laws.proofs.SameReads.Words.{few_fields}
use Rattle.graph_laws.proofs.RewritingSteps.PassedWords.{passed-header, passed-slot}
use Rattle.graph_read.specs.Bases.{HasLowBases}
use Rattle.batch.specs.Batches.{batch_entry, word_count_of}
use Rattle.lazy_rewrite.specs.declared.batches.TheConstants.{BATCH_STEPS}
use Rattle.lazy_rewrite.proofs.Rows.{row_next, row_more}
use Rattle.lazy_rewrite.specs.Entries.{word_entry, words_batch, IsToRewrite, rewritten_words, first_slot, steps_batch}

-- ---- entries of words in a row

module _ (at : ℕ) (new : ℕ → Option ℕ) where
  pub words_batch-two : (from a b : ℕ) → words_batch at new from (a + b) ≡ words_batch at new from a ++ words_batch at new (from + a) b
  unfolding words_batch
  words_batch-two from zero b =
      let all : zero + b ≡ b = omega arith in
      let place : from ≡ from + zero = omega arith in
      ap (words_batch at new from) all ∙ ap (λ k. words_batch at new k b) place
  words_batch-two from (suc a) b =
      let all : suc a + b ≡ suc (a + b) = omega arith in
      let place : from + 1 + a ≡ from + suc a = omega arith in
      ap (words_batch at new from) all
      ∙ ap (λ es. word_entry (at + from) (new from) ++ es) (words_batch-two (from + 1) a b ∙ ap (λ k. words_batch at new (from + 1) a ++ words_batch at new k b) place)
      ∙ sym (append_assoc (word_entry (at + from) (new from)) (words_batch at new (from + 1) a) (words_batch at new (from + suc a) b))

  words_batch-one : (k : ℕ) → words_batch at new k 1 ≡ word_entry (at + k) (new k)
  unfolding words_batch
  words_batch-one k = append-nil (word_entry (at + k) (new k))

  pub words_batch-more : (from count : ℕ) → words_batch at new from (count + 1) ≡ words_batch at new from count ++ word_entry (at + (from + count)) (new (from + count))
  words_batch-more from count = words_batch-two from count 1 ∙ ap (λ es. words_batch at new from count ++ es) (words_batch-one (from + count))

  pub words_batch-zero : (from : ℕ) → words_batch at new from 0 ≡ []
  unfolding words_batch
  words_batch-zero from = refl

  pub words_batch-none : (from count : ℕ) → ((k : ℕ) → from ≤ k → k < from + count → new k ≡ None) → words_batch at new from count ≡ []
  unfolding words_batch
  words_batch-none from zero none = refl
  words_batch-none from (suc count) none =
      ap₂ (λ (o : Option ℕ) (es : List Entry). word_entry (at + from) o ++ es) (none from (omega arith) (omega arith)) (words_batch-none (from + 1) count (λ k low high. none k (omega arith) (omega arith)))

  words_of-entry : (w : ℕ) (o : Option ℕ) → word_count_of (word_entry w o) ≤ 3
  words_of-entry w None = let none : word_count_of (word_entry w None) ≡ 0 = refl in omega (arith, none)
  words_of-entry w (Some v) = let three : word_count_of (word_entry w (Some v)) ≡ 3 = refl in omega (arith, three)

  -- Each word takes at most three words of the log.
  pub words_of-batch : (from count : ℕ) → word_count_of (words_batch at new from count) ≤ 3 * count
  unfolding words_batch
  words_of-batch from zero = let none : word_count_of [] ≡ 0 = refl in omega (arith, none)
  words_of-batch from (suc count) =
      omega (arith, sum_by-append (λ (e : Entry). length e.vals + 2) (word_entry (at + from) (new from)) (words_batch at new (from + 1) count), words_of-entry (at + from) (new from), words_of-batch (from + 1) count)

pub words_batch-same : (at : ℕ) (f g : ℕ → Option ℕ) (from count : ℕ) → ((k : ℕ) → from ≤ k → k < from + count → f k ≡ g k) → words_batch at f from count ≡ words_batch at g from count
unfolding words_batch
words_batch-same at f g from zero same = refl
words_batch-same at f g from (suc count) same =
    ap₂ (λ (o : Option ℕ) (es : List Entry). word_entry (at + from) o ++ es) (same from (omega arith) (omega arith)) (words_batch-same at f g (from + 1) count (λ k low high. same k (omega arith) (omega arith)))

-- The entries are the same if words are counted from a later word on.
pub words_batch-after : (at d : ℕ) (new : ℕ → Option ℕ) (from count : ℕ) → words_batch (at + d) (λ j. new (d + j)) from count ≡ words_batch at new (d + from) count
unfolding words_batch
words_batch-after at d new from zero = refl
words_batch-after at d new from (suc count) =
    let place : at + d + from ≡ at + (d + from) = omega arith in
    let next : d + (from + 1) ≡ d + from + 1 = omega arith in
    ap₂ (λ (w : ℕ) (es : List Entry). word_entry w (new (d + from)) ++ es) place (words_batch-after at d new (from + 1) count ∙ ap (λ k. words_batch at new k count) next)

-- ---- batches that grow

module _ (at : ℕ) (new : ℕ → Option ℕ) (from : ℕ) (old : List Entry) where
  pub added-none : old ≡ old ++ words_batch at new from 0
  added-none = sym (ap (λ es. old ++ es) (words_batch-zero at new from) ∙ append-nil old)

  -- One more word is added, if there is room for 30 words.
  pub added-more : (f w : ℕ) (so_far now : List Entry) (o : Option ℕ) → so_far ≡ old ++ words_batch at new from f → w ≡ at + (from + f) → o ≡ new (from + f)
      → (word_count_of so_far + 3 ≤ LOG_ENTRY_WORDS → now ≡ so_far ++ word_entry w o) → word_count_of old + 3 * MAX_FIELDS ≤ LOG_ENTRY_WORDS → f < MAX_FIELDS → now ≡ old ++ words_batch at new from (f + 1)
  added-more f w so_far now o is place value added room low =
      added (omega (arith, ap word_count_of is, sum_by-append (λ (e : Entry). length e.vals + 2) old (words_batch at new from f), words_of-batch at new from f))
      ∙ (λ i. is i ++ word_entry (place i) (value i))
      ∙ append_assoc old (words_batch at new from f) (word_entry (at + (from + f)) (new (from + f)))
      ∙ ap (λ es. old ++ es) (sym (words_batch-more at new from f))

  -- Several more words are added.
  pub added-words : (a b : ℕ) (so_far now words : List Entry) → so_far ≡ old ++ words_batch at new from a → words ≡ words_batch at new (from + a) b → now ≡ so_far ++ words → now ≡ old ++ words_batch at new from (a + b)
  added-words a b so_far now words is same added =
      added
      ∙ (λ i. is i ++ same i)
      ∙ append_assoc old (words_batch at new from a) (words_batch at new (from + a) b)
      ∙ ap (λ es. old ++ es) (sym (words_batch-two at new from a b))

-- ---- what is read

-- The frame of a puddle is one of the device's frames.
pub frame_below : (F : ℕ) (at : List (ℕ × Puddle)) (o : ℕ) (e : ℕ × Puddle) → IsOnDevice F at → slice_get at o ≡ Some e → e.0 < F
frame_below F at o e known here =
    let below = All-get_or (λ (d : ℕ × Puddle). d.0 < F) at o e (slice_get_within at o e here) known.frames in
    omega (arith, below, ap (λ (d : ℕ × Puddle). d.0) (get_or_from_slice_get at o e e here))

-- The number of a slot is below that of the slots that its puddle has.
pub slot_below : (at : List (ℕ × Puddle)) (s : Slot) → IsSlotOf at s → s.slot < class_slots s.class
slot_below at s of = subst (λ (c : ℕ). s.slot < class_slots c) (sym of.alike) of.below

-- A word of a slot, by its place in the frame.
pub stored_there : (F : ℕ) (at : List (ℕ × Puddle)) (image : Image) (k : ℕ) (s : Slot) → IsSlotOf at s → k < class_slot_words s.class
    → slot_word F s.frame s.class s.slot k image ≡ (stored_in F at image).word s.ordinal (class_slot_at s.class s.slot + k)
stored_there F at image k s of low =
    let end = slot_end s.class s.slot (slot_below at s of) in
    sym (stored_word F at image s.ordinal (class_slot_at s.class s.slot + k) (s.frame, of.puddle) of.there (omega arith))

-- A free slot has no object, and any other slot has one.
pub live_by : (serial word : ℕ) (b : Bool) → serial ≡ word → b ≡ (slot_state serial).is_free → (slot_state word).is_live ≡ not b
live_by serial word b is free = ap (λ w. (slot_state w).is_live) (sym is) ∙ ap not (sym free)

-- a pointer from the frontier on is read over the old bases
pub pointee_at-old : (puddles : List Puddle) (o step v : ℕ) (d : Puddle) → slice_get puddles o ≡ Some d → d.frontier ≤ step → pointee_at puddles o step v ≡ target (map over_old puddles) v
pointee_at-old puddles o step v d here old = ap (λ p. target (puddles_by puddles p step) v) here ∙ ap (λ ds. target ds v) (cond-false _ _ _ (le-ltb step d.frontier old))

-- ---- the pointers of an object

module _ (puddles : List Puddle) (map v : ℕ) where
  -- A field is a pointer if the map tells so.
  pub pointer_by-field : (f : ℕ) → f < field_count map → pointer_by puddles (Some map) (SLOT_FIELDS_WORD + f) v ≡ cond (is_pointer map f) (Some (rewritten puddles v)) None
  pointer_by-field f low =
      let back : SLOT_FIELDS_WORD + f - SLOT_FIELDS_WORD ≡ f = omega arith in
      ap (λ b. cond b (Some (rewritten puddles v)) None)
      (ap (λ b. b && is_pointer map (SLOT_FIELDS_WORD + f - SLOT_FIELDS_WORD)) (and_from _ _ (le-leb SLOT_FIELDS_WORD (SLOT_FIELDS_WORD + f) (omega arith)) (lt-ltb (SLOT_FIELDS_WORD + f) (SLOT_FIELDS_WORD + field_count map) (omega arith)))
      ∙ ap (is_pointer map) back)

  -- The same by the word that was read.
  pub field-new : (f word : ℕ) → f < field_count map → v ≡ word → cond (is_pointer map f) (Some (rewritten puddles v)) None ≡ pointer_by puddles (Some map) (SLOT_FIELDS_WORD + f) word
  field-new f word low is = sym (pointer_by-field f low) ∙ ap (pointer_by puddles (Some map) (SLOT_FIELDS_WORD + f)) is

  -- No word before the fields is a pointer, and no word after them.
  pointer_by-front : (j : ℕ) → j < SLOT_FIELDS_WORD → pointer_by puddles (Some map) j v ≡ None
  pointer_by-front j low = cond-false _ _ _ (and_left _ _ (and_left _ _ (lt-leb SLOT_FIELDS_WORD j low)))

  pointer_by-after : (j : ℕ) → SLOT_FIELDS_WORD + field_count map ≤ j → pointer_by puddles (Some map) j v ≡ None
  pointer_by-after j high = cond-false _ _ _ (and_left _ _ (and_right _ _ (le-ltb j (SLOT_FIELDS_WORD + field_count map) high)))

-- An object of a type that fits has room in the slot.
pub room_that_fits : (class : ℕ) (type : Option ℕ) (map : ℕ) → fitting class type ≡ Some map → SLOT_FIELDS_WORD + field_count map ≤ class_slot_words class
room_that_fits class None map is = absurd (none-some map is)
room_that_fits class (Some x) map is =
    let found = cond_some (fits_class class x) x map is in
    subst (λ (y : ℕ). SLOT_FIELDS_WORD + field_count y ≤ class_slot_words class) found.1 (leb-true (SLOT_FIELDS_WORD + field_count x) (class_slot_words class) found.0)

module _ (types : List (ℕ × ℕ)) (puddles : List Puddle) (class : ℕ) (word : ℕ → ℕ) (base slot : ℕ) where
  abbrev type_word : Option ℕ
  type_word = fitting class (map_of (word (class_slot_at class slot + SLOT_TYPE_WORD)) types)

  -- A slot without an object has no pointers.
  pub slot-free : (slot_state (word (class_slot_at class slot + 0))).is_live ≡ false → words_batch base (slot_pointer types puddles class word slot) 0 (class_slot_words class) ≡ []
  slot-free free = words_batch-none base (slot_pointer types puddles class word slot) 0 (class_slot_words class) (λ k low high. cond-false _ _ _ free)

  -- A slot has no pointers if its type is not defined, or if an object of the type has no room in it.
  pub slot-unknown : type_word ≡ None → words_batch base (slot_pointer types puddles class word slot) 0 (class_slot_words class) ≡ []
  slot-unknown unknown = words_batch-none base (slot_pointer types puddles class word slot) 0 (class_slot_words class) (λ k low high. ⊎_elim
      (λ live. cond-true _ _ _ live ∙ ap (λ t. pointer_by puddles t k (word (class_slot_at class slot + k))) unknown)
      (λ free. cond-false _ _ _ free)
      (cases_Bool (slot_state (word (class_slot_at class slot + 0))).is_live))

  -- An object has the pointers among its fields.
  pub slot-fields : (map : ℕ) → (slot_state (word (class_slot_at class slot + 0))).is_live ≡ true → type_word ≡ Some map
      → words_batch base (slot_pointer types puddles class word slot) 0 (class_slot_words class) ≡ words_batch base (λ j. pointer_by puddles (Some map) j (word (class_slot_at class slot + j))) SLOT_FIELDS_WORD (field_count map)
  slot-fields map live is =
      let new = λ (j : ℕ). pointer_by puddles (Some map) j (word (class_slot_at class slot + j)) in
      let count = field_count map in
      let room = room_that_fits class _ map is in
      let rest = class_slot_words class - SLOT_FIELDS_WORD - count in
      let all : class_slot_words class ≡ SLOT_FIELDS_WORD + (count + rest) = omega arith in
      words_batch-same base (slot_pointer types puddles class word slot) new 0 (class_slot_words class) (λ k low high. cond-true _ _ _ live ∙ ap (λ t. pointer_by puddles t k (word (class_slot_at class slot + k))) is)
      ∙ ap (words_batch base new 0) all
      ∙ words_batch-two base new 0 SLOT_FIELDS_WORD (count + rest)
      ∙ ap (λ es. es ++ words_batch base new SLOT_FIELDS_WORD (count + rest)) (words_batch-none base new 0 SLOT_FIELDS_WORD (λ k low high. pointer_by-front puddles map (word (class_slot_at class slot + k)) k (omega arith)))
      ∙ words_batch-two base new SLOT_FIELDS_WORD count rest
      ∙ ap (λ es. words_batch base new SLOT_FIELDS_WORD count ++ es)
      (words_batch-none base new (SLOT_FIELDS_WORD + count) rest (λ k low high. pointer_by-after puddles map (word (class_slot_at class slot + k)) k (omega arith)))
      ∙ append-nil (words_batch base new SLOT_FIELDS_WORD count)

  -- A slot has at most 30 pointers, in 90 words of the log.
  pub words_of-slot : word_count_of (words_batch base (slot_pointer types puddles class word slot) 0 (class_slot_words class)) ≤ 3 * MAX_FIELDS
  words_of-slot =
      let none : word_count_of [] ≡ 0 = refl in
      ⊎_elim
      (λ live. by_type type_word refl live)
      (λ free. omega (arith, ap word_count_of (slot-free free), none))
      (cases_Bool (slot_state (word (class_slot_at class slot + 0))).is_live)
    where
      by_type : (t : Option ℕ) → type_word ≡ t → (slot_state (word (class_slot_at class slot + 0))).is_live ≡ true → word_count_of (words_batch base (slot_pointer types puddles class word slot) 0 (class_slot_words class)) ≤ 3 * MAX_FIELDS
      by_type None is live = let none : word_count_of [] ≡ 0 = refl in omega (arith, ap word_count_of (slot-unknown is), none)
      by_type (Some map) is live =
          let new = λ (j : ℕ). pointer_by puddles (Some map) j (word (class_slot_at class slot + j)) in
          omega (arith, ap word_count_of (slot-fields map live is), words_of-batch base new SLOT_FIELDS_WORD (field_count map), few_fields map)

-- ---- the words of a frame

module _ (types : List (ℕ × ℕ)) (puddles : List Puddle) (class : ℕ) (word : ℕ → ℕ) (o n m base : ℕ) where
  abbrev new : ℕ → Option ℕ
  new = passed_word types puddles class word o n m

  -- The entries of a slot that is passed.
  pub frame-slot : (slot : ℕ) → passes_slot n m slot ≡ true → words_batch base new (class_slot_at class slot) (class_slot_words class) ≡ words_batch (base + class_slot_at class slot) (slot_pointer types puddles class word slot) 0 (class_slot_words class)
  frame-slot slot passes =
      let d = class_slot_at class slot in
      let place : d + 0 ≡ d = omega arith in
      sym (ap (λ k. words_batch base new k (class_slot_words class)) place)
      ∙ sym (words_batch-after base d new 0 (class_slot_words class))
      ∙ words_batch-same (base + d) (λ j. new (d + j)) (slot_pointer types puddles class word slot) 0 (class_slot_words class)
      (λ k low high. passed-slot types puddles class word o n m slot k (omega arith) ∙ cond-true _ _ _ passes)

  -- The entries of a header.
  header-none : (k : ℕ) → k < FRAME_HEADER_WORDS → (k ≡ ROOT_WORD → passes_root o n m ≡ false) → new k ≡ None
  header-none k low out = passed-header types puddles class word o n m k low ∙ cond-false _ _ _ (⊎_elim
      (λ root. and_right (eqb k ROOT_WORD) (passes_root o n m) (out root))
      (λ other. and_left (eqb k ROOT_WORD) (passes_root o n m) (ne_eqb k ROOT_WORD other))
      (cases_eq k ROOT_WORD))

  pub header-still : passes_root o n m ≡ false → words_batch base new 0 FRAME_HEADER_WORDS ≡ []
  header-still out = words_batch-none base new 0 FRAME_HEADER_WORDS (λ k low high. header-none k (omega arith) (λ root. out))

  pub header-root : passes_root o n m ≡ true → words_batch base new 0 FRAME_HEADER_WORDS ≡ word_entry (base + ROOT_WORD) (Some (rewritten puddles (word ROOT_WORD)))
  header-root passes =
      let rest = FRAME_HEADER_WORDS - ROOT_WORD - 1 in
      let other = λ (k : ℕ) (differs : k ≡ ROOT_WORD → ⊥) (low : k < FRAME_HEADER_WORDS). header-none k low (λ root. absurd (differs root)) in
      let root : new ROOT_WORD ≡ Some (rewritten puddles (word ROOT_WORD)) =
      passed-header types puddles class word o n m ROOT_WORD (omega arith) ∙ cond-true _ _ _ (and_from _ _ (eq-eqb ROOT_WORD ROOT_WORD refl) passes) in
      words_batch-two base new 0 ROOT_WORD (1 + rest)
      ∙ ap (λ es. es ++ words_batch base new ROOT_WORD (1 + rest)) (words_batch-none base new 0 ROOT_WORD (λ k low high. other k (λ at. absurd (omega arith)) (omega arith)))
      ∙ words_batch-two base new ROOT_WORD 1 rest
      ∙ ap (λ es. words_batch base new ROOT_WORD 1 ++ es) (words_batch-none base new (ROOT_WORD + 1) rest (λ k low high. other k (λ at. absurd (omega arith)) (omega arith)))
      ∙ append-nil (words_batch base new ROOT_WORD 1)
      ∙ words_batch-one base new ROOT_WORD
      ∙ ap (word_entry (base + ROOT_WORD)) root

  pub words_of-header : word_count_of (words_batch base new 0 FRAME_HEADER_WORDS) ≤ 3
  words_of-header =
      let none : word_count_of [] ≡ 0 = refl in
      ⊎_elim
      (λ passes. omega (arith, ap word_count_of (header-root passes), words_of-entry base new (base + ROOT_WORD) (Some (rewritten puddles (word ROOT_WORD)))))
      (λ out. omega (arith, ap word_count_of (header-still out), none))
      (cases_Bool (passes_root o n m))

-- The root is added, if it is passed.
pub header-added : (F : ℕ) (at : List (ℕ × Puddle)) (image : Image) (o n m : ℕ) (e d : ℕ × Puddle) (old now : List Entry) (value v w : ℕ) → IsToRewrite at o n → slice_get at o ≡ Some e → n < m → o ≡ 0 → n ≡ 0
    → value ≡ frame_word F (get_or at 0 d).0 ROOT_WORD image → (IsToRewrite at 0 0 → v ≡ rewritten (map (λ d. d.1) at) value) → w ≡ frame_at F (get_or at 0 d).0 + ROOT_WORD
    → (word_count_of old + 3 ≤ LOG_ENTRY_WORDS → now ≡ old ++ batch_entry w (v ∷ []) ∷ []) → word_count_of old + 3 ≤ LOG_ENTRY_WORDS
    → now ≡ old ++ words_batch (frame_at F e.0) (rewritten_words F at image e.1.class o n m) 0 FRAME_HEADER_WORDS
header-added F at image o n m e d old now value v w h here less first zero_from read is place added room =
    let types = types_of image in
    let puddles = map (λ (x : ℕ × Puddle). x.1) at in
    let word = (stored_in F at image).word o in
    let same : get_or at 0 d ≡ e = get_or_from_slice_get at 0 e d (ap (slice_get at) (sym first) ∙ here) in
    let passes : passes_root o n m ≡ true = and_from (eqb o 0) (eqb n 0 && ltb 0 m) (eq-eqb o 0 first) (and_from (eqb n 0) (ltb 0 m) (eq-eqb n 0 zero_from) (lt-ltb 0 m (omega arith))) in
    let there : IsToRewrite at 0 0 = record { bases = h.bases; old = λ x at_first. let low = h.old x (ap (slice_get at) first ∙ at_first) in omega arith } in
    let value_is : value ≡ word ROOT_WORD = read ∙ ap (λ (x : ℕ × Puddle). frame_word F x.0 ROOT_WORD image) same ∙ sym (stored_word F at image o ROOT_WORD e here (omega arith)) in
    let v_is : v ≡ rewritten puddles (word ROOT_WORD) = is there ∙ ap (rewritten puddles) value_is in
    let w_is : w ≡ frame_at F e.0 + ROOT_WORD = place ∙ ap (λ (x : ℕ × Puddle). frame_at F x.0 + ROOT_WORD) same in
    added room
    ∙ (λ i. old ++ batch_entry (w_is i) (v_is i ∷ []) ∷ [])
    ∙ ap (λ es. old ++ es) (sym (header-root types puddles e.1.class word o n m (frame_at F e.0) passes))

-- ---- a batch of steps

-- A batch has at most ten slots.
few_slots : (n m : ℕ) → m ≤ n + BATCH_STEPS → m - 1 - first_slot n ≤ BATCH_STEPS
few_slots zero m few = omega arith
few_slots (suc n) m few = omega arith

-- The step of a slot from the first one on is not below the frontier.
pub before_slot : (n slot : ℕ) → first_slot n ≤ slot → n ≤ slot + 1
before_slot zero slot from = omega arith
before_slot (suc n) slot from = omega arith

-- The first slot does not come after the last one.
pub first_below : (n m : ℕ) → n < m → first_slot n ≤ m - 1
first_below zero m less = omega arith
first_below (suc n) m less = omega arith

-- What was gathered before a slot, by what is read: the words of the header, and those of the slots from the first one
-- on.
pub record HasGathered (F : ℕ) (at : List (ℕ × Puddle)) (image : Image) (o n m slot : ℕ) (e : ℕ × Puddle) (so_far : List Entry) : Type 0 where
  pub is : so_far ≡ words_batch (frame_at F e.0) (rewritten_words F at image e.1.class o n m) 0 FRAME_HEADER_WORDS
      ++ words_batch (frame_at F e.0) (rewritten_words F at image e.1.class o n m) (class_slot_at e.1.class (first_slot n)) (class_slot_words e.1.class * (slot - first_slot n))
  pub few : word_count_of so_far ≤ 3 + 3 * MAX_FIELDS * (slot - first_slot n)

module _ (F : ℕ) (at : List (ℕ × Puddle)) (image : Image) (o n m : ℕ) (e : ℕ × Puddle) where
  abbrev base : ℕ
  base = frame_at F e.0

  abbrev class : ℕ
  class = e.1.class

  abbrev words : ℕ → Option ℕ
  words = rewritten_words F at image class o n m

  pub HasGathered-start : (so_far : List Entry) → so_far ≡ words_batch base words 0 FRAME_HEADER_WORDS → HasGathered F at image o n m (first_slot n) e so_far
  HasGathered-start so_far is =
      let same : first_slot n - first_slot n ≡ 0 = omega arith in
      let none : class_slot_words class * (first_slot n - first_slot n) ≡ 0 = ap (λ (k : ℕ). class_slot_words class * k) same ∙ omega arith in
      record {
        is =
            is
            ∙ sym (append-nil (words_batch base words 0 FRAME_HEADER_WORDS))
            ∙ ap (λ es. words_batch base words 0 FRAME_HEADER_WORDS ++ es) (sym (ap (words_batch base words (class_slot_at class (first_slot n))) none ∙ words_batch-zero base words (class_slot_at class (first_slot n))));
        few = omega (arith, ap word_count_of is, words_of-header (types_of image) (map (λ d. d.1) at) class ((stored_in F at image).word o) o n m base);
      }

  pub HasGathered-more : (slot : ℕ) (so_far now : List Entry) → first_slot n ≤ slot → passes_slot n m slot ≡ true → HasGathered F at image o n m slot e so_far
      → now ≡ so_far ++ words_batch (base + class_slot_at class slot) (slot_pointer (types_of image) (map (λ d. d.1) at) class ((stored_in F at image).word o) slot) 0 (class_slot_words class)
      → HasGathered F at image o n m (slot + 1) e now
  HasGathered-more slot so_far now from passes h added =
      let types = types_of image in
      let puddles = map (λ (d : ℕ × Puddle). d.1) at in
      let word = (stored_in F at image).word o in
      let first = first_slot n in
      let all = row_more class first slot from in
      let place = row_next class first slot from in
      let here = sym (frame-slot types puddles class word o n m base slot passes) ∙ ap (λ k. words_batch base words k (class_slot_words class)) place in
      record {
        is =
            added-words base words (class_slot_at class first) (words_batch base words 0 FRAME_HEADER_WORDS) (class_slot_words class * (slot - first)) (class_slot_words class) so_far now
            (words_batch (base + class_slot_at class slot) (slot_pointer types puddles class word slot) 0 (class_slot_words class)) h.is here added
            ∙ ap (λ c. words_batch base words 0 FRAME_HEADER_WORDS ++ words_batch base words (class_slot_at class first) c) all;
        few =
            let more = sum_by-append (λ (d : Entry). length d.vals + 2) so_far (words_batch (base + class_slot_at class slot) (slot_pointer types puddles class word slot) 0 (class_slot_words class)) in
            omega (arith, ap word_count_of added, more, h.few, words_of-slot types puddles class word (base + class_slot_at class slot) slot);
      }

  -- One more slot fits.
  pub HasGathered-room : (slot : ℕ) (so_far : List Entry) → m ≤ n + BATCH_STEPS → slot < m - 1 → HasGathered F at image o n m slot e so_far → word_count_of so_far + 3 * MAX_FIELDS ≤ LOG_ENTRY_WORDS
  HasGathered-room slot so_far few below h = omega (arith, h.few, few_slots n m few)

  pub HasGathered-end : (so_far now : List Entry) → m ≤ n + BATCH_STEPS → HasGathered F at image o n m (m - 1) e so_far → (word_count_of so_far + 3 ≤ LOG_ENTRY_WORDS → now ≡ so_far ++ batch_entry (frontier_word e.0) (frontier_with_class m class ∷ []) ∷ [])
      → now ≡ steps_batch F e.0 class words n m
  HasGathered-end so_far now few h added =
      let first = first_slot n in
      let header = words_batch base words 0 FRAME_HEADER_WORDS in
      let slots = words_batch base words (class_slot_at class first) (class_slot_words class * (m - 1 - first)) in
      added (omega (arith, h.few, few_slots n m few))
      ∙ ap (λ es. es ++ batch_entry (frontier_word e.0) (frontier_with_class m class ∷ []) ∷ []) h.is
      ∙ append_assoc header slots (batch_entry (frontier_word e.0) (frontier_with_class m class ∷ []) ∷ [])

-- the pointers at a puddle's frontier stand over the old bases
IsToRewrite-here : (at : List (ℕ × Puddle)) (o n : ℕ) (e : ℕ × Puddle) → HasLowBases at → slice_get at o ≡ Some e → e.1.frontier ≡ n → IsToRewrite at o n
IsToRewrite-here at o n e low here is = record { bases = low; old = λ d there. let same = same_Some d e (sym there ∙ here) in omega (arith, is, ap (λ (x : ℕ × Puddle). x.1.frontier) same) }

-- What was gathered from a frontier on is the batch of the steps. The pool is the one that was lent.
pub gathered_from : (F : ℕ) (at lent : List (ℕ × Puddle)) (image : Image) (o n m : ℕ) (e : ℕ × Puddle) (es : List Entry) → lent ≡ at → HasLowBases at → slice_get at o ≡ Some e → e.1.frontier ≡ n
    → (IsToRewrite lent o n → (d : ℕ × Puddle) → slice_get lent o ≡ Some d → es ≡ steps_batch F d.0 d.1.class (rewritten_words F lent image d.1.class o n m) n m)
    → es ≡ steps_batch F e.0 e.1.class (rewritten_words F at image e.1.class o e.1.frontier m) e.1.frontier m
gathered_from F at lent image o n m e es same low here is gathered =
    gathered (subst (λ (ds : List (ℕ × Puddle)). IsToRewrite ds o n) (sym same) (IsToRewrite-here at o n e low here is)) e (ap (λ (ds : List (ℕ × Puddle)). slice_get ds o) same ∙ here)
    ∙ ap (λ (ds : List (ℕ × Puddle)). steps_batch F e.0 e.1.class (rewritten_words F ds image e.1.class o n m) n m) same
    ∙ ap (λ (k : ℕ). steps_batch F e.0 e.1.class (rewritten_words F at image e.1.class o k m) k m) (sym is)
