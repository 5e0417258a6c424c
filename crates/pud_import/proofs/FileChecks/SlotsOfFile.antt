-- The slots of the puddles of a file, and their places.
use Rattle.std.proofs.Common.{◌≡◌, ℕ, ◌+◌, ◌<◌, ◌≤◌, Bool, true, false, not, ◌&&◌, ◌||◌, eqb, ltb, List, map, Some, sym, ap, ◌∙◌, arith}
use Rattle.std.specs.Prelude.{slice_get}
use Rattle.std.specs.List.{range_with_len}
use Rattle.std.proofs.lemmas.Bool.{cond-true, cond-false, ltb-true, lt-ltb, le-ltb}
use Rattle.std.proofs.lemmas.List.FromFn.{length-map-range_with_len, get_or-map-range_with_len}
use Rattle.std.proofs.lemmas.Option.{slice_get-get_or}
use Rattle.pud_defs.specs.declared.records.Puddle.{Puddle}
use Rattle.pud_defs.specs.declared.space.TheConstants.{CLASSES, MAX_SLOTS, SLOT_SERIAL_WORD, SLOT_TYPE_WORD}
use Rattle.pud_defs.specs.Formats.Geometry.{class_slots, class_slot_words, class_slot_at, is_legal_class, ordinal_of, slot_of, place_at}
use Rattle.pud_defs.specs.Formats.Image.{Image}
use Rattle.pud_defs.specs.PoolGraphs.ExportFile.{file_class, file_puddle, file_stored, are_file_classes, is_zero, slot_words_read, is_plain_place}
use Rattle.pud_defs.specs.PoolGraphs.Stored.{Stored, class_of, class_at, is_slot, place_words, place_word, place_serial}
use Rattle.pud_defs.specs.RegistryTables.Spaces.{all_below}
use Rattle.pud_defs.proofs.Formats.Geometry.{few_slots}
use Rattle.pud_defs.proofs.RegistryTables.Spaces.{all_below-each, list_all-below}
use Rattle.graph_laws.specs.Slots.{is_of_type}

-- ---- classes

no_puddle : Puddle
no_puddle = record { number = 0; base = 0; old_base = 0; frontier = 0; class = 0 }

-- the class of each puddle is the one that the file has for it
pub class_of_file : (words : Image) (V T K o : ℕ) → o < K → class_of (slice_get (file_stored words V T K).puddles o) ≡ file_class words V T K o
class_of_file words V T K o below =
    let puddle = file_puddle words V T K in
    let many = length-map-range_with_len puddle 0 K in
    ap class_of (slice_get-get_or (map puddle (range_with_len 0 K)) o no_puddle (omega arith) ∙ ap (λ (d : Puddle). Some d) (get_or-map-range_with_len puddle 0 K o o no_puddle below (omega arith)))

-- the classes are legal if each is, one by one
pub classes-each : (words : Image) (V T K : ℕ) → are_file_classes (file_stored words V T K).puddles ≡ all_below K (λ o. ltb (file_class words V T K o) CLASSES)
classes-each words V T K = list_all-below is_legal_class (file_puddle words V T K) K

-- then each is a class
pub class_legal : (words : Image) (V T K o : ℕ) → are_file_classes (file_stored words V T K).puddles ≡ true → o < K → file_class words V T K o < CLASSES
class_legal words V T K o legal below =
    ltb-true (file_class words V T K o) CLASSES (all_below-each K (λ o. ltb (file_class words V T K o) CLASSES) (sym (classes-each words V T K) ∙ legal) o below)

-- ---- places

module _ (st : Stored) (o s : ℕ) where
  -- the class of the puddle of the ordinal
  abbrev class : ℕ
  class = class_of (slice_get st.puddles o)

  abbrev p : ℕ
  p = place_at o s

  module _ (below : s < class_slots class) where
    home : ordinal_of p ≡ o
    home = let few = few_slots class in omega arith

    number : slot_of p ≡ s
    number = let few = few_slots class in omega arith

    pub class_there : class_at st p ≡ class
    class_there = ap (λ (i : ℕ). class_of (slice_get st.puddles i)) home

    -- the place is a slot
    pub is_slot-there : is_slot st p ≡ true
    is_slot-there = let slots = ap class_slots class_there in let slot = number in lt-ltb (slot_of p) (class_slots (class_at st p)) (omega arith)

    pub words_there : class_slot_words class ≡ place_words st p
    words_there = ap class_slot_words (sym class_there)

    -- and its words are those of the frame
    pub word_there : (k : ℕ) → st.word o (class_slot_at class s + k) ≡ place_word st p k
    word_there k = sym (λ i. st.word (home i) (class_slot_at (class_there i) (number i) + k))

    pub serial_there : place_word st p SLOT_SERIAL_WORD ≡ place_serial st p
    serial_there = sym (cond-true _ _ _ is_slot-there)

    -- an object of a type lives there, by its serial and its type
    pub of_type_there : (id serial known : ℕ) (live : Bool) → serial ≡ place_word st p SLOT_SERIAL_WORD → known ≡ place_word st p SLOT_TYPE_WORD → live ≡ not (eqb serial 0) → (live && eqb known id) ≡ is_of_type st id p
    of_type_there id serial known live is_serial is_known is_live = λ i. (is_live ∙ ap (λ (v : ℕ). not (eqb v 0)) (is_serial ∙ serial_there)) i && eqb (is_known i) id

    -- its words that are not read are 0
    pub plain_there : (types : List (ℕ × ℕ)) → is_zero (place_word st p) (slot_words_read types st p) (place_words st p) ≡ is_plain_place types st p
    plain_there types = ap (λ (b : Bool). not b || is_zero (place_word st p) (slot_words_read types st p) (place_words st p)) (sym is_slot-there)

  -- a place after the last slot is none: nothing lives there, and it has no words
  module _ (past : class_slots class ≤ s) (within : s < MAX_SLOTS) where
    none_there : is_slot st p ≡ false
    none_there =
        let home : ordinal_of p ≡ o = omega arith in
        let number : slot_of p ≡ s = omega arith in
        let slots = ap (λ (i : ℕ). class_slots (class_of (slice_get st.puddles i))) home in
        le-ltb (slot_of p) (class_slots (class_at st p)) (omega arith)

    pub plain_none : (types : List (ℕ × ℕ)) → is_plain_place types st p ≡ true
    plain_none types = ap (λ (b : Bool). not b || is_zero (place_word st p) (slot_words_read types st p) (place_words st p)) none_there

    pub of_type_none : (id : ℕ) → is_of_type st id p ≡ false
    of_type_none id = ap (λ (v : ℕ). not (eqb v 0) && eqb (place_word st p SLOT_TYPE_WORD) id) (cond-false _ _ _ none_there)
