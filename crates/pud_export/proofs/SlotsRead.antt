-- What is written for a slot, word by word.
use Rattle.std.proofs.Common.{◌≡◌, ◌≢◌, ℕ, true, ◌&&◌, eqb, leb, ltb, suc, ◌+◌, ◌-◌, ◌%◌, ◌^◌, ◌<◌, ◌≤◌, List, [], ◌∷◌, ◌++◌, map, length, set, take, replicate, Option, Some, None, sym, ap, ap₂, ◌∙◌, arith, append_assoc, eq-eqb, ne_eqb}
use Rattle.std.specs.List.{range_with_len}
use Rattle.std.proofs.Math.Seq.{set-append_seam, take-append-add}
use Rattle.std.proofs.lemmas.Bool.{cond-true, cond-false, and_parts, leb-true, ltb-true}
use Rattle.std.proofs.lemmas.List.{take-replicate}
use Rattle.std.proofs.lemmas.Option.{none-some, cond_some}
use Rattle.std.proofs.lemmas.List.Elements.{All-weaker}
use Rattle.std.proofs.lemmas.List.Folds.{list_all-map}
use Rattle.std.proofs.lemmas.List.Sums.{AllPass-from_list_all}
use Rattle.std.proofs.lemmas.List.FromFn.{map-range_with_len_more, length-map-range_with_len}
use Rattle.pud_defs.specs.declared.records.Puddle.{Puddle}
use Rattle.pud_defs.specs.declared.space.TheConstants.{SPACE_START, SPACE_BYTES, RANGE_BYTES, MAX_SLOT_WORDS, SLOT_SERIAL_WORD, SLOT_TYPE_WORD, SLOT_FIELDS_WORD}
use Rattle.pud_defs.specs.Formats.Bases.{is_legal_base}
use Rattle.pud_defs.specs.PoolGraphs.ExportFile.{are_file_bases}
use Rattle.pud_defs.specs.Formats.Geometry.{class_slot_words}
use Rattle.pud_defs.specs.PoolGraphs.Graph.{field_count, fits_class, fitting, place_map}
use Rattle.pud_defs.proofs.Formats.Geometry.{few_words}
use Rattle.pud_defs.specs.RegistryTables.Types.{map_of}
use Rattle.pud_defs.specs.PoolGraphs.Stored.{Stored, class_at, place_words, place_word, place_serial}
use Rattle.pud_defs.specs.PoolGraphs.Exported.{exported_field, exported_object, exported_slot}
use Rattle.graph_read.specs.Bases.{HasLowBases}

-- ---- bases

-- legal bases are low
low_base : (b : ℕ) → is_legal_base b ≡ true → b + RANGE_BYTES ≤ 2 ^ 64
low_base b legal =
    let parts = and_parts (leb SPACE_START b && ltb b (SPACE_START + SPACE_BYTES)) (eqb (b % RANGE_BYTES) 0) legal in
    let below = ltb-true b (SPACE_START + SPACE_BYTES) (and_parts (leb SPACE_START b) (ltb b (SPACE_START + SPACE_BYTES)) parts.0).1 in
    omega arith

pub low_bases : (at : List (ℕ × Puddle)) → are_file_bases (map (λ e. e.1) at) ≡ true → HasLowBases at
low_bases at legal =
    let each = list_all-map (λ (d : Puddle). is_legal_base d.base) (λ (e : ℕ × Puddle). e.1) at in
    let test = λ (e : ℕ × Puddle). is_legal_base e.1.base in
    record { low = All-weaker (λ e. test e ≡ true) (λ e. e.1.base + RANGE_BYTES ≤ 2 ^ 64) (λ e. low_base e.1.base) at (AllPass-from_list_all test at (sym each ∙ (and_parts _ _ legal).0)) }

-- ---- words that are filled one by one

-- what f gives for the first `count` numbers, and 0 after them
abbrev pub filled_to : (ℕ → ℕ) → (size count : ℕ) → List ℕ
filled_to f size n = map f (range_with_len 0 n) ++ replicate (size - n) 0

pub fill_more : (f : ℕ → ℕ) (size n v : ℕ) → n < size → v ≡ f n → set (filled_to f size n) n v ≡ filled_to f size (n + 1)
fill_more f size n v below is =
    let one : size - n ≡ suc (size - (n + 1)) = omega arith in
    let rest : List ℕ = replicate (size - (n + 1)) 0 in
    ap (λ (k : ℕ). set (map f (range_with_len 0 n) ++ replicate k 0) n v) one
    ∙ ap (λ (k : ℕ). set (map f (range_with_len 0 n) ++ 0 ∷ rest) k v) (sym (length-map-range_with_len f 0 n))
    ∙ set-append_seam (map f (range_with_len 0 n)) 0 rest v
    ∙ sym (append_assoc (map f (range_with_len 0 n)) (v ∷ []) rest)
    ∙ ap (λ (xs : List ℕ). xs ++ rest) (ap (λ (w : ℕ). map f (range_with_len 0 n) ++ w ∷ []) is ∙ sym (map-range_with_len_more f 0 n n (omega arith)))

-- ---- objects

-- the words of an object of which `count` fields were read
abbrev pub object_so_far : Stored → (place type_map serial id count : ℕ) → List ℕ
object_so_far st p m serial id n = serial ∷ id ∷ filled_to (exported_field st m p) (MAX_SLOT_WORDS - SLOT_FIELDS_WORD) n

-- one more field
pub object_more : (st : Stored) (p m serial id n v : ℕ) (words : List ℕ) → n < MAX_SLOT_WORDS - SLOT_FIELDS_WORD → v ≡ exported_field st m p n
    → words ≡ object_so_far st p m serial id n → set words (SLOT_FIELDS_WORD + n) v ≡ object_so_far st p m serial id (n + 1)
object_more st p m serial id n v words below is so_far =
    let following : SLOT_FIELDS_WORD + n ≡ suc (suc n) = omega arith in
    ap (λ (ws : List ℕ). set ws (SLOT_FIELDS_WORD + n) v) so_far
    ∙ ap (λ (k : ℕ). set (object_so_far st p m serial id n) k v) following
    ∙ ap (λ (ws : List ℕ). serial ∷ id ∷ ws) (fill_more (exported_field st m p) (MAX_SLOT_WORDS - SLOT_FIELDS_WORD) n v below is)

-- of zeroes after others, as many as there is room for
take_filled : (f : ℕ → ℕ) (size n room : ℕ) → n ≤ room → room ≤ size → take room (filled_to f size n) ≡ filled_to f room n
take_filled f size n room low high =
    let read : List ℕ = map f (range_with_len 0 n) in
    let count : length read ≡ n = length-map-range_with_len f 0 n in
    let all : room ≡ length read + (room - n) = omega arith in
    ap (λ (k : ℕ). take k (read ++ replicate (size - n) 0)) all
    ∙ take-append-add read (replicate (size - n) 0) (room - n)
    ∙ ap (λ (xs : List ℕ). read ++ xs) (take-replicate (room - n) (size - n) 0 (omega arith))

-- once all fields were read, these are the words of the object, as many as its slot has
pub object_whole : (st : Stored) (p m serial id n class : ℕ) (words : List ℕ) → class_at st p ≡ class → fits_class class m ≡ true → serial ≡ place_word st p SLOT_SERIAL_WORD → id ≡ place_word st p SLOT_TYPE_WORD → n ≡ field_count m
    → words ≡ object_so_far st p m serial id n → take (class_slot_words class) words ≡ exported_object st p (Some m)
object_whole st p m serial id n class words same fits is_serial is_id all so_far =
    let width = place_words st p in
    let words_are : class_slot_words class ≡ width = ap class_slot_words (sym same) in
    let room = leb-true (SLOT_FIELDS_WORD + field_count m) (class_slot_words class) fits in
    let few = few_words class in
    let inside : width ≡ suc (suc (width - SLOT_FIELDS_WORD)) = omega arith in
    let field = exported_field st m p in
    ap (λ (ws : List ℕ). take (class_slot_words class) ws) (so_far ∙ ap (object_so_far st p m serial id) all ∙ ap₂ (λ (s i : ℕ). object_so_far st p m s i (field_count m)) is_serial is_id)
    ∙ ap (λ (k : ℕ). take k (object_so_far st p m (place_word st p SLOT_SERIAL_WORD) (place_word st p SLOT_TYPE_WORD) (field_count m))) (words_are ∙ inside)
    ∙ ap (λ (ws : List ℕ). place_word st p SLOT_SERIAL_WORD ∷ place_word st p SLOT_TYPE_WORD ∷ ws) (take_filled field (MAX_SLOT_WORDS - SLOT_FIELDS_WORD) (field_count m) (width - SLOT_FIELDS_WORD) (omega arith) (omega arith))

-- ---- slots

-- as many zeroes as a slot of the class has words
pub zeroes_of : (st : Stored) (p class : ℕ) → class_at st p ≡ class → take (class_slot_words class) (replicate {A = ℕ} MAX_SLOT_WORDS 0) ≡ replicate (place_words st p) 0
zeroes_of st p class same =
    take-replicate (class_slot_words class) MAX_SLOT_WORDS 0 (few_words class) ∙ ap (λ (c : ℕ). replicate (class_slot_words c) 0) (sym same)

module _ (types : List (ℕ × ℕ)) (st : Stored) (p : ℕ) where
  pub exported_slot-free : place_serial st p ≡ 0 → exported_slot types st p ≡ replicate (place_words st p) 0
  unfolding exported_slot
  exported_slot-free free = cond-true _ _ _ (eq-eqb _ _ free)

  pub exported_slot-live : (m : Option ℕ) → place_serial st p ≢ 0 → place_map types st p ≡ m → exported_slot types st p ≡ exported_object st p m
  unfolding exported_slot
  exported_slot-live m live is = cond-false _ _ _ (ne_eqb _ _ live) ∙ ap (exported_object st p) is

-- the map of a slot's type is the one that was looked up
pub map_read : (types : List (ℕ × ℕ)) (st : Stored) (p class id : ℕ) → class_at st p ≡ class → id ≡ place_word st p SLOT_TYPE_WORD → place_map types st p ≡ fitting class (map_of id types)
map_read types st p class id same is = ap₂ (λ (c i : ℕ). fitting c (map_of i types)) same (sym is)

-- a map that was found is one for which there is room
pub fits_found : (class : ℕ) (found : Option ℕ) (m : ℕ) → fitting class found ≡ Some m → fits_class class m ≡ true
fits_found class None m is = absurd (none-some m is)
fits_found class (Some x) m is = let found = cond_some (fits_class class x) x m is in ap (fits_class class) (sym found.1) ∙ found.0
