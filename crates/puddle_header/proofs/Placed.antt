-- The words that are stored at a place are those in its frame.
use Rattle.std.proofs.Common.{◌≡◌, ℕ, ◌+◌, ◌<◌, ◌≤◌, true, false, List, map, get_or, slice_get, Option, Some, option_map, sym, ap, ◌∙◌, arith}
use Rattle.std.proofs.lemmas.Bool.{cond-true, lt-ltb, le-ltb}
use Rattle.std.proofs.lemmas.Option.{slice_get-map, slice_get-get_or}
use Rattle.pud_defs.specs.declared.layout.TheConstants.{FRAME_WORDS}
use Rattle.pud_defs.specs.declared.records.Puddle.{Puddle}
use Rattle.pud_defs.specs.declared.records.Slot.{Slot}
use Rattle.pud_defs.specs.Formats.Geometry.{class_slots, slots_of, slot_words_of, class_slot_at, ordinal_of, slot_of, place_at}
use Rattle.pud_defs.proofs.Formats.Geometry.{few_slots, slot_end}
use Rattle.pud_defs.specs.Formats.Image.{Image}
use Rattle.pud_defs.specs.Formats.Frames.{frame_word}
use Rattle.pud_defs.specs.Formats.Headers.{slot_word}
use Rattle.pud_defs.specs.PoolGraphs.Stored.{stored_in, class_of, place_word, word_in_frame}
use Rattle.puddle_header.specs.Places.{places_in, is_slot_in, place_of_slot, IsSlotOf}

-- The place of slot s of ordinal o has the ordinal o and the slot s.
pub place_ordinal : (o s : ℕ) (d : Puddle) → s < slots_of d → ordinal_of (place_at o s) ≡ o
place_ordinal o s d below = let few = few_slots d.class in omega arith

pub place_slot : (o s : ℕ) (d : Puddle) → s < slots_of d → slot_of (place_at o s) ≡ s
place_slot o s d below = let few = few_slots d.class in omega arith

-- A stored word of an ordinal is the word of the frame that has the puddle.
pub stored_word : (F : ℕ) (at : List (ℕ × Puddle)) (image : Image) (o k : ℕ) (e : ℕ × Puddle) → slice_get at o ≡ Some e → k < FRAME_WORDS
    → (stored_in F at image).word o k ≡ frame_word F e.0 k image
stored_word F at image o k e there below = ap (word_in_frame F image k) there ∙ cond-true _ _ _ (lt-ltb k FRAME_WORDS below)

-- The class of an ordinal is that of the puddle there.
pub class_there : (at : List (ℕ × Puddle)) (o : ℕ) (e : ℕ × Puddle) → slice_get at o ≡ Some e → class_of (slice_get (map (λ d. d.1) at) o) ≡ e.1.class
class_there at o e there = ap class_of (slice_get-map (λ (d : ℕ × Puddle). d.1) at o) ∙ ap (λ (x : Option (ℕ × Puddle)). class_of (option_map (λ d. d.1) x)) there

-- A stored word at a place is the word of the slot there.
pub stored_slot : (F : ℕ) (at : List (ℕ × Puddle)) (image : Image) (o s k : ℕ) (e : ℕ × Puddle) → slice_get at o ≡ Some e → s < slots_of e.1 → k < slot_words_of e.1
    → place_word (stored_in F at image) (place_at o s) k ≡ slot_word F e.0 e.1.class s k image
stored_slot F at image o s k e there slot below =
    let end = slot_end e.1.class s slot in
    let ordinal = place_ordinal o s e.1 slot in
    let number = place_slot o s e.1 slot in
    (λ p. (stored_in F at image).word (ordinal p) (class_slot_at (class_of (slice_get (map (λ d. d.1) at) (ordinal p))) (number p) + k))
    ∙ ap (λ (c : ℕ). (stored_in F at image).word o (class_slot_at c s + k)) (class_there at o e there)
    ∙ stored_word F at image o (class_slot_at e.1.class s + k) e there (omega arith)

-- A word of a slot is the stored word at the slot's place.
pub slot_at_place : (F : ℕ) (at : List (ℕ × Puddle)) (image : Image) (k : ℕ) (s : Slot) (of : IsSlotOf at s) → k < slot_words_of of.puddle
    → slot_word F s.frame s.class s.slot k image ≡ place_word (stored_in F at image) (place_of_slot s) k
slot_at_place F at image k s of below =
    ap (λ (c : ℕ). slot_word F s.frame c s.slot k image) of.alike ∙ sym (stored_slot F at image s.ordinal s.slot k (s.frame, of.puddle) of.there of.below below)

-- ---- whether a place is a slot

-- A place is a slot if its puddle has more slots than the slot's number, and else it is none.
pub is_slot_there : (at : List (ℕ × Puddle)) (place o slot n : ℕ) (x : ℕ × Puddle) → place < places_in at → o ≡ ordinal_of place → slot ≡ slot_of place → n ≡ slots_of (get_or at o x).1 → slot < n → is_slot_in at place ≡ true
is_slot_there at place o slot n x within ordinal number count below =
    let there = slice_get-get_or at o x (omega arith) in
    let class = ap (λ (i : ℕ). class_slots (class_of (slice_get (map (λ d. d.1) at) i))) (sym ordinal) ∙ ap class_slots (class_there at o (get_or at o x) there) in
    lt-ltb (slot_of place) _ (omega (arith, class, count, below, number))

pub no_slot_there : (at : List (ℕ × Puddle)) (place o slot n : ℕ) (x : ℕ × Puddle) → place < places_in at → o ≡ ordinal_of place → slot ≡ slot_of place → n ≡ slots_of (get_or at o x).1 → n ≤ slot → is_slot_in at place ≡ false
no_slot_there at place o slot n x within ordinal number count above =
    let there = slice_get-get_or at o x (omega arith) in
    let class = ap (λ (i : ℕ). class_slots (class_of (slice_get (map (λ d. d.1) at) i))) (sym ordinal) ∙ ap class_slots (class_there at o (get_or at o x) there) in
    le-ltb (slot_of place) _ (omega (arith, class, count, above, number))
