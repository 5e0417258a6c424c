-- The words of an exported file, piece by piece, and what they are read as: the types, the puddles, and the words of
-- the frames.
use Rattle.std.proofs.Common.{◌≡◌, ℕ, ◌+◌, ◌-◌, ◌*◌, ◌<◌, ◌≤◌, List, [], ◌∷◌, ◌++◌, map, length, get_or, replicate, slice_index, true, Option, Some, None, option_map, refl, sym, ap, ◌∙◌, ⊎_elim, arith, eq-eqb, ne_eqb}
use Rattle.std.specs.Prelude.{slice_get}
use Rattle.std.specs.List.{flat_map, range_with_len}
use Rattle.std.proofs.lemmas.Bool.{cases_eq, cond-true, cond-false, ltb-true}
use Rattle.std.proofs.Math.Nat.{add-zero}
use Rattle.std.proofs.lemmas.List.{append_assoc, length-append, length-map, length-replicate, get_or_append_left, get_or-append-add, get_or-map}
use Rattle.std.proofs.lemmas.List.FromFn.{get_or-map-range_with_len, length-range_with_len, length-map-range_with_len, fill_by_all}
use Rattle.std.proofs.lemmas.Option.{slice_get-map, slice_get-get_or, get_or_from_slice_get}
use Rattle.pud_defs.specs.declared.layout.TheConstants.{FRAME_WORDS}
use Rattle.pud_defs.specs.declared.space.TheConstants.{FRAME_HEADER_WORDS, FRAME_NUMBER_WORD, SLOT_SERIAL_WORD, SLOT_TYPE_WORD, SLOT_FIELDS_WORD}
use Rattle.pud_defs.specs.declared.records.Puddle.{Puddle}
use Rattle.pud_defs.specs.declared.files.TheConstants.{FILE_MAGIC, FILE_VERSION}
use Rattle.pud_defs.specs.Formats.Geometry.{class_slots, class_slot_words, class_slot_at, class_steps, steps_of, ordinal_of, slot_of, place_at}
use Rattle.pud_defs.proofs.Formats.Geometry.{few_slots, slot_at_is, whole_frame}
use Rattle.pud_defs.specs.PoolGraphs.Stored.{Stored, places_of, class_of, class_at, is_slot, place_words, place_word, place_serial, place_begins, IsFreePlace, IsLivePlace}
use Rattle.pud_defs.specs.PoolGraphs.Graph.{field_count, place_map}
use Rattle.pud_defs.specs.PoolGraphs.ExportFile.{file_type_at, file_bases_at, file_classes_at, file_frame_at, file_words, file_type, file_types, file_puddle, file_stored}
use Rattle.pud_defs.specs.PoolGraphs.Exported.{exported_field, exported_object, exported_slot, uuid_number_of, exported_header, exported_frame, type_words, exported_words}
use Rattle.graph_laws.proofs.SameReads.Words.{word_within, room_of_map}
use Rattle.graph_laws.proofs.Exporting.Chunks.{length-chunks, chunk, length-range, chunk-range, zeroes}

-- ---- what is stored in a file

-- A puddle in a file: its old base is its base, and no step is left to rewrite.
abbrev pub at_rest : Puddle → Puddle
at_rest d = record { number = d.number; base = d.base; old_base = d.base; frontier = steps_of d; class = d.class }

-- The later puddles are at rest, and the words of their frames are the exported ones.
pub record IsExported (types : List (ℕ × ℕ)) (st later : Stored) : Type 0 where
  pub puddles : later.puddles ≡ map at_rest st.puddles
  pub headers : (o k : ℕ) → o < length st.puddles → k < FRAME_HEADER_WORDS → later.word o k ≡ slice_index (exported_header st o) k
  pub slots : (p j : ℕ) → p < places_of st → is_slot st p ≡ true → j < place_words st p → place_word later p j ≡ slice_index (exported_slot types st p) j

-- ---- classes

class-at_rest : (o : Option Puddle) → class_of (option_map at_rest o) ≡ class_of o
class-at_rest None = refl
class-at_rest (Some d) = refl

-- The classes are those of the pool.
pub class-exported : (st later : Stored) → later.puddles ≡ map at_rest st.puddles → (p : ℕ) → class_at later p ≡ class_at st p
class-exported st later same p =
    ap (λ (ds : List Puddle). class_of (slice_get ds (ordinal_of p))) same ∙ ap class_of (slice_get-map at_rest st.puddles (ordinal_of p)) ∙ class-at_rest (slice_get st.puddles (ordinal_of p))

-- ---- lengths

after_front : (a b x j : ℕ) → a ≡ b + x → a + j ≡ b + (x + j)
after_front a b x j is = omega arith

module _ (types : List (ℕ × ℕ)) (st : Stored) where
  length-object : (p : ℕ) (type : Option ℕ) → ((m : ℕ) → type ≡ Some m → SLOT_FIELDS_WORD + field_count m ≤ place_words st p) → length (exported_object st p type) ≡ place_words st p
  length-object p None room = length-replicate {A = ℕ} (place_words st p) 0
  length-object p (Some m) room =
      let fields = map (exported_field st m p) (range_with_len 0 (field_count m)) in
      let rest : List ℕ = replicate (place_words st p - SLOT_FIELDS_WORD - field_count m) 0 in
      omega (arith, length-append fields rest, length-map-range_with_len (exported_field st m p) 0 (field_count m), length-replicate {A = ℕ} (place_words st p - SLOT_FIELDS_WORD - field_count m) 0, room m refl)

  -- What is exported of a free slot, and of a slot in which an object lives.
  pub slot-free : (p : ℕ) → IsFreePlace st p → exported_slot types st p ≡ replicate (place_words st p) 0
  unfolding exported_slot
  slot-free p free = cond-true _ _ _ (eq-eqb _ 0 free)

  pub slot-live : (p : ℕ) → IsLivePlace st p → exported_slot types st p ≡ exported_object st p (place_map types st p)
  unfolding exported_slot
  slot-live p used = cond-false _ _ _ (ne_eqb _ 0 used)

  -- The fields of an object, and the words after them.
  module _ (p m : ℕ) where
    abbrev front : List ℕ
    front = place_word st p SLOT_SERIAL_WORD ∷ place_word st p SLOT_TYPE_WORD ∷ []

    abbrev fields : List ℕ
    fields = map (exported_field st m p) (range_with_len 0 (field_count m))

    abbrev rest : List ℕ
    rest = replicate (place_words st p - SLOT_FIELDS_WORD - field_count m) 0

    pub object_field : (f : ℕ) → f < field_count m → slice_index (exported_object st p (Some m)) (SLOT_FIELDS_WORD + f) ≡ exported_field st m p f
    object_field f below =
        get_or-append-add front (fields ++ rest) f 0
        ∙ get_or_append_left fields rest 0 f (omega (arith, length-map-range_with_len (exported_field st m p) 0 (field_count m)))
        ∙ get_or-map-range_with_len (exported_field st m p) 0 (field_count m) f f 0 below (omega arith)

    pub object_rest : (j : ℕ) → SLOT_FIELDS_WORD + field_count m ≤ j → slice_index (exported_object st p (Some m)) j ≡ 0
    object_rest j high =
        let i = j - SLOT_FIELDS_WORD - field_count m in
        let at : j ≡ SLOT_FIELDS_WORD + (length fields + i) = omega (arith, length-map-range_with_len (exported_field st m p) 0 (field_count m)) in
        ap (slice_index (front ++ (fields ++ rest))) at
        ∙ get_or-append-add front (fields ++ rest) (length fields + i) 0
        ∙ get_or-append-add fields rest i 0
        ∙ zeroes (place_words st p - SLOT_FIELDS_WORD - field_count m) i

  length-slot : (p : ℕ) → length (exported_slot types st p) ≡ place_words st p
  length-slot p = ⊎_elim
      (λ free. ap length (slot-free p free) ∙ length-replicate {A = ℕ} (place_words st p) 0)
      (λ used. ap length (slot-live p used) ∙ length-object p (place_map types st p) (λ m is. room_of_map types st p m is))
      (cases_eq (place_serial st p) 0)

  length-header : (o : ℕ) → length (exported_header st o) ≡ FRAME_HEADER_WORDS
  unfolding exported_header
  length-header o = refl

  -- The pieces of an ordinal's slots.
  abbrev slot_pieces : ℕ → ℕ → List ℕ
  slot_pieces o s = exported_slot types st (place_at o s)

  -- The class of the puddle of an ordinal.
  abbrev class_there : ℕ → ℕ
  class_there o = class_of (slice_get st.puddles o)

  length-piece : (o s : ℕ) → s < class_slots (class_there o) → length (slot_pieces o s) ≡ class_slot_words (class_there o)
  length-piece o s below =
      let few = few_slots (class_there o) in
      let home : ordinal_of (place_at o s) ≡ o = omega arith in
      length-slot (place_at o s) ∙ ap (λ (x : ℕ). class_slot_words (class_there x)) home

  length-frame : (o : ℕ) → length (exported_frame types st o) ≡ FRAME_WORDS
  unfolding exported_frame
  length-frame o =
      let n = class_slots (class_there o) in
      let slots = flat_map (slot_pieces o) (range_with_len 0 n) in
      let all : length slots ≡ class_slot_words (class_there o) * n = length-range (slot_pieces o) (class_slot_words (class_there o)) 0 n (λ s low high. length-piece o s (omega arith)) in
      length-append (exported_header st o) slots ∙ (λ i. length-header o i + all i) ∙ whole_frame (class_there o)

  -- ---- a frame

  header_word : (o k : ℕ) → k < FRAME_HEADER_WORDS → slice_index (exported_frame types st o) k ≡ slice_index (exported_header st o) k
  unfolding exported_frame
  header_word o k low = get_or_append_left (exported_header st o) (flat_map (slot_pieces o) (range_with_len 0 (class_slots (class_there o)))) 0 k (omega (arith, length-header o))

  slot_word : (p j : ℕ) → is_slot st p ≡ true → j < place_words st p → slice_index (exported_frame types st (ordinal_of p)) (place_begins st p + j) ≡ slice_index (exported_slot types st p) j
  unfolding exported_frame
  slot_word p j slot low =
      let o = ordinal_of p in
      let n = class_slots (class_there o) in
      let slots = flat_map (slot_pieces o) (range_with_len 0 n) in
      let before = class_slot_words (class_there o) * slot_of p in
      let begins : place_begins st p ≡ length (exported_header st o) + before = slot_at_is (class_there o) (slot_of p) ∙ ap (λ (h : ℕ). h + before) (sym (length-header o)) in
      let at : place_begins st p + j ≡ length (exported_header st o) + (before + j) = after_front (place_begins st p) (length (exported_header st o)) before j begins in
      let here : place_at o (slot_of p) ≡ p = omega arith in
      ap (slice_index (exported_header st o ++ slots)) at
      ∙ get_or-append-add (exported_header st o) slots (before + j) 0
      ∙ chunk-range (slot_pieces o) (class_slot_words (class_there o)) n (λ s below. length-piece o s below) (slot_of p) j (ltb-true (slot_of p) n slot) low
      ∙ ap (λ q. slice_index (exported_slot types st q) j) here

  -- ---- the file

  module _ (machine number : ℕ) (used : List (ℕ × ℕ)) where
    abbrev written : List ℕ
    written = exported_words machine number types used st

    abbrev header : List ℕ
    header = FILE_MAGIC ∷ FILE_VERSION ∷ length used ∷ length st.puddles ∷ machine ∷ number ∷ 0 ∷ 0 ∷ []

    abbrev type_pieces : List ℕ
    type_pieces = flat_map type_words used

    abbrev bases : List ℕ
    bases = map (λ d. d.base) st.puddles

    abbrev classes : List ℕ
    classes = map (λ d. d.class) st.puddles

    abbrev frames : List ℕ
    frames = flat_map (exported_frame types st) (range_with_len 0 (length st.puddles))

    are_words : written ≡ header ++ (type_pieces ++ (bases ++ (classes ++ frames)))
    unfolding exported_words
    are_words = ap (λ (l : List ℕ). header ++ (type_pieces ++ l)) (append_assoc bases classes frames)

    length-types : length type_pieces ≡ 2 * length used
    length-types = length-chunks type_words 2 (λ t. refl) used

    length-bases : length bases ≡ length st.puddles
    length-bases = length-map st.puddles (λ d. d.base)

    length-classes : length classes ≡ length st.puddles
    length-classes = length-map st.puddles (λ d. d.class)

    length-frames : length frames ≡ FRAME_WORDS * length st.puddles
    length-frames = length-chunks (exported_frame types st) FRAME_WORDS length-frame (range_with_len 0 (length st.puddles)) ∙ ap (λ n. FRAME_WORDS * n) (length-range_with_len 0 (length st.puddles))

    pub length-words : length written ≡ file_words FILE_VERSION (length used) (length st.puddles)
    length-words =
        omega (arith, ap length are_words, length-append header (type_pieces ++ (bases ++ (classes ++ frames))), length-append type_pieces (bases ++ (classes ++ frames)), length-append bases (classes ++ frames), length-append classes frames, length-types, length-bases, length-classes, length-frames)

    -- The words after the header, after the types, and after the bases.
    past_header : (k : ℕ) → slice_index written (file_type_at 0 + k) ≡ slice_index (type_pieces ++ (bases ++ (classes ++ frames))) k
    past_header k = ap (λ ws. slice_index ws (file_type_at 0 + k)) are_words ∙ get_or-append-add header (type_pieces ++ (bases ++ (classes ++ frames))) k 0

    after_types : (k : ℕ) → slice_index written (file_bases_at (length used) + k) ≡ slice_index (bases ++ (classes ++ frames)) k
    after_types k =
        let at : file_bases_at (length used) + k ≡ file_type_at 0 + (length type_pieces + k) = omega (arith, length-types) in
        ap (slice_index written) at ∙ past_header (length type_pieces + k) ∙ get_or-append-add type_pieces (bases ++ (classes ++ frames)) k 0

    type_word : (i j : ℕ) (e : ℕ × ℕ) → i < length used → j < 2 → slice_index written (file_type_at i + j) ≡ slice_index (type_words (get_or used i e)) j
    type_word i j e below low =
        let at : file_type_at i + j ≡ file_type_at 0 + (2 * i + j) = omega arith in
        ap (slice_index written) at
        ∙ past_header (2 * i + j)
        ∙ get_or_append_left type_pieces (bases ++ (classes ++ frames)) 0 (2 * i + j) (omega (arith, length-types))
        ∙ chunk type_words 2 (λ t. refl) used i j e below low

    base_word : (o : ℕ) (e : Puddle) → o < length st.puddles → slice_index written (file_bases_at (length used) + o) ≡ (get_or st.puddles o e).base
    base_word o e below = after_types o ∙ get_or_append_left bases (classes ++ frames) 0 o (omega (arith, length-bases)) ∙ get_or-map (λ d. d.base) st.puddles o e 0 below

    after_bases : (k : ℕ) → slice_index written (file_classes_at (length used) (length st.puddles) + k) ≡ slice_index (classes ++ frames) k
    after_bases k =
        let at : file_classes_at (length used) (length st.puddles) + k ≡ file_bases_at (length used) + (length bases + k) = omega (arith, length-bases) in
        ap (slice_index written) at ∙ after_types (length bases + k) ∙ get_or-append-add bases (classes ++ frames) k 0

    class_word : (o : ℕ) (e : Puddle) → o < length st.puddles → slice_index written (file_classes_at (length used) (length st.puddles) + o) ≡ (get_or st.puddles o e).class
    class_word o e below = after_bases o ∙ get_or_append_left classes frames 0 o (omega (arith, length-classes)) ∙ get_or-map (λ d. d.class) st.puddles o e 0 below

    frame_word : (o k : ℕ) → o < length st.puddles → k < FRAME_WORDS → slice_index written (file_frame_at FILE_VERSION (length used) (length st.puddles) o + k) ≡ slice_index (exported_frame types st o) k
    frame_word o k below low =
        let at : file_frame_at FILE_VERSION (length used) (length st.puddles) o + k ≡ file_classes_at (length used) (length st.puddles) + (length classes + (FRAME_WORDS * o + k)) = omega (arith, length-classes) in
        ap (slice_index written) at
        ∙ after_bases (length classes + (FRAME_WORDS * o + k))
        ∙ get_or-append-add classes frames (FRAME_WORDS * o + k) 0
        ∙ chunk-range (exported_frame types st) FRAME_WORDS (length st.puddles) (λ x few. length-frame x) o k below low

    -- ---- what they are read as

    abbrev file : Stored
    file = file_stored (slice_index written) FILE_VERSION (length used) (length st.puddles)

    pub types_read : file_types (slice_index written) (length used) ≡ used
    types_read =
        let none : ℕ × ℕ = (0, 0) in
        sym (fill_by_all (file_type (slice_index written)) used (length used) none refl (λ i below.
        let id = sym (type_word i 0 none below (omega arith)) ∙ ap (slice_index written) (add-zero (file_type_at i)) in
        let map = sym (type_word i 1 none below (omega arith)) in
        λ k. (id k, map k)))

    puddle_read : (o : ℕ) (d : Puddle) → o < length st.puddles → slice_get st.puddles o ≡ Some d → file_puddle (slice_index written) FILE_VERSION (length used) (length st.puddles) o ≡ at_rest d
    unfolding exported_header
    puddle_read o d below here =
        let number = frame_word o FRAME_NUMBER_WORD below (omega arith) ∙ header_word o FRAME_NUMBER_WORD (omega arith) ∙ ap uuid_number_of here in
        let base = base_word o d below ∙ ap (λ (e : Puddle). e.base) (get_or_from_slice_get st.puddles o d d here) in
        let class = class_word o d below ∙ ap (λ (e : Puddle). e.class) (get_or_from_slice_get st.puddles o d d here) in
        λ k. record { number = number k; base = base k; old_base = base k; frontier = class_steps (class k); class = class k }

    puddles_read : file.puddles ≡ map at_rest st.puddles
    puddles_read =
        let none : Puddle = record { number = 0; base = 0; old_base = 0; frontier = 0; class = 0 } in
        sym (fill_by_all (file_puddle (slice_index written) FILE_VERSION (length used) (length st.puddles)) (map at_rest st.puddles) (length st.puddles) none (length-map st.puddles at_rest)
        (λ o below. get_or-map at_rest st.puddles o none none below ∙ sym (puddle_read o (get_or st.puddles o none) below (slice_get-get_or st.puddles o none below))))

    pub is_exported : IsExported types st file
    is_exported = record {
      puddles = puddles_read;
      headers = λ o k below low. frame_word o k below (omega arith) ∙ header_word o k low;
      slots = λ p j within slot low.
          let class = class-exported st file puddles_read p in
          ap (λ (c : ℕ). file.word (ordinal_of p) (class_slot_at c (slot_of p) + j)) class
          ∙ frame_word (ordinal_of p) (place_begins st p + j) (omega arith) (word_within st p j slot low) ∙ slot_word p j slot low;
    }
