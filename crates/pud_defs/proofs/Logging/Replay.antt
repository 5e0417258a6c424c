-- What replay makes of an image: which words do not change, in which order values are written, and what a second replay
-- does.
use Rattle.std.proofs.Common.{◌≡◌, ◌⊎◌, inl, inr, ℕ, ◌+◌, ◌-◌, ◌<◌, ◌≤◌, true, false, ◌&&◌, cond, ltb, leb, eqb, List, [], ◌∷◌, ◌++◌, length, Option, Some, None, refl, sym, ap, ap₂, ◌∙◌, arith, ne_eqb}
use Rattle.std.specs.Prelude.{slice_get, unwrap_or}
use Rattle.std.specs.Option.{option_or}
use Rattle.std.proofs.lemmas.Bool.{leb-true, eqb-true, ltb-true, le-leb, lt-leb, lt-ltb, and_from, and_parts, and_left, and_right, cond-true, cond-false, cases_Bool}
use Rattle.std.proofs.lemmas.Bool.Decides.{leb_tells, nat_tests}
use Rattle.std.proofs.lemmas.Option.{slice_get_past}
use Rattle.pud_defs.specs.declared.log_words.TheConstants.{UNDO_ORDER, REDO_ORDER}
use Rattle.pud_defs.specs.Formats.Image.{Image}
use Rattle.pud_defs.specs.declared.layout.TheConstants.{LOG_WORDS, LOG_HEADER_WORDS}
use Rattle.pud_defs.specs.Logging.Entries.{Entry, Log, log_of, gate_lo, gate_hi, gate_used, is_legal_gate, is_idle_gate, entries_of, words_from}
use Rattle.pud_defs.specs.Logging.Replay.{AddressMap, device_word, is_in_range, value_at, value_in, given_by, undo_value, redo_value, given, entries_or_none, new_value, over, overwritten, replayed, IsInLog, is_in_log, settled_by, beside_log}
use Rattle.pud_defs.proofs.Logging.Entries.{words_from-none, entries_of-is, entries_in-nothing}

-- ---- words written over an image

-- a word that is not written does not change
pub overwritten-stays : (write : ℕ → Option ℕ) (image : Image) (w : ℕ) → write w ≡ None → overwritten write image w ≡ image w
overwritten-stays write image w none = ap (λ o. unwrap_or o (image w)) none

-- a word that is written has the written value
pub overwritten-there : (write : ℕ → Option ℕ) (image : Image) (w v : ℕ) → write w ≡ Some v → overwritten write image w ≡ v
overwritten-there write image w v some = ap (λ o. unwrap_or o (image w)) some

same_or : (o : Option ℕ) (v x : ℕ) → (o ≡ None → v ≡ x) → unwrap_or o v ≡ unwrap_or o x
same_or None v x same = same refl
same_or (Some y) v x same = refl

-- images that agree on each word that is not written are the same after the write
pub overwritten-again : (write : ℕ → Option ℕ) (i j : Image) → ((w : ℕ) → write w ≡ None → j w ≡ i w) → overwritten write j ≡ overwritten write i
overwritten-again write i j same = λ p w. same_or (write w) (j w) (i w) (same w) p

then_or : (f g : Option ℕ) (v : ℕ) → unwrap_or g (unwrap_or f v) ≡ unwrap_or (option_or g f) v
then_or f None v = refl
then_or f (Some y) v = refl

-- two writes, one after the other, are one write of both
pub overwritten-then : (f g : ℕ → Option ℕ) (image : Image) → overwritten g (overwritten f image) ≡ overwritten (over f g) image
overwritten-then f g image = λ p w. then_or (f w) (g w) (image w) p

either_first : (f g : Option ℕ) (v : ℕ) → (f ≡ None) ⊎ (g ≡ None) → unwrap_or g (unwrap_or f v) ≡ unwrap_or f (unwrap_or g v)
either_first None g v apart = refl
either_first (Some x) None v apart = refl
either_first (Some x) (Some y) v (inl no_first) = absurd (cc)
either_first (Some x) (Some y) v (inr no_second) = absurd (cc)

-- writes of different words may come in either order
pub overwritten-either_order : (f g : ℕ → Option ℕ) (image : Image) → ((w : ℕ) → (f w ≡ None) ⊎ (g w ≡ None)) → overwritten g (overwritten f image) ≡ overwritten f (overwritten g image)
overwritten-either_order f g image apart = λ p w. either_first (f w) (g w) (image w) (apart w) p

-- if nothing is written, nothing changes
pub overwritten-nothing : (write : ℕ → Option ℕ) (image : Image) → ((w : ℕ) → write w ≡ None) → overwritten write image ≡ image
overwritten-nothing write image none = λ p w. overwritten-stays write image w (none w) p

-- ---- what values give that are placed from a word on

-- the word with number n from there on gets the value with number n
pub value_at-there : (at n k : ℕ) (vals : List ℕ) → k ≡ at + n → value_at at vals k ≡ slice_get vals n
value_at-there at n k vals here = cond-true _ _ _ (le-leb at k (omega arith)) ∙ ap (slice_get vals) (let e : k - at ≡ n = omega arith in e)

-- a word before the values or after them gets none
pub value_at-apart : (at k : ℕ) (vals : List ℕ) → (k < at) ⊎ (at + length vals ≤ k) → value_at at vals k ≡ None
value_at-apart at k vals (inl before) = cond-false _ _ _ (lt-leb at k before)
value_at-apart at k vals (inr following) = cond-true _ _ _ (le-leb at k (omega arith)) ∙ slice_get_past vals (k - at) (omega arith)

-- ---- what entries give

pub undo_value-first : (place : AddressMap) (log : Log) (e : Entry) (es : List Entry) (w : ℕ) → undo_value place log (e ∷ es) w ≡ option_or (given_by place log UNDO_ORDER e w) (undo_value place log es w)
unfolding undo_value
undo_value-first place log e es w = refl

pub redo_value-first : (place : AddressMap) (log : Log) (e : Entry) (es : List Entry) (w : ℕ) → redo_value place log (e ∷ es) w ≡ option_or (redo_value place log es w) (given_by place log REDO_ORDER e w)
unfolding redo_value
redo_value-first place log e es w = refl

pub undo_value-none : (place : AddressMap) (log : Log) (w : ℕ) → undo_value place log [] w ≡ None
unfolding undo_value
undo_value-none place log w = refl

pub redo_value-none : (place : AddressMap) (log : Log) (w : ℕ) → redo_value place log [] w ≡ None
unfolding redo_value
redo_value-none place log w = refl

-- ---- the first of several values that is there

pub or_assoc : (a b c : Option ℕ) → option_or a (option_or b c) ≡ option_or (option_or a b) c
or_assoc None b c = refl
or_assoc (Some x) b c = refl

pub or_none : (a : Option ℕ) → a ≡ option_or a None
or_none None = refl
or_none (Some x) = refl

-- ---- what entries give that come after others

pub undo_value-append : (place : AddressMap) (log : Log) (xs ys : List Entry) (w : ℕ) → undo_value place log (xs ++ ys) w ≡ option_or (undo_value place log xs w) (undo_value place log ys w)
unfolding undo_value
undo_value-append place log [] ys w = refl
undo_value-append place log (e ∷ xs) ys w = ap (option_or (given_by place log UNDO_ORDER e w)) (undo_value-append place log xs ys w) ∙ or_assoc (given_by place log UNDO_ORDER e w) (undo_value place log xs w) (undo_value place log ys w)

pub redo_value-append : (place : AddressMap) (log : Log) (xs ys : List Entry) (w : ℕ) → redo_value place log (xs ++ ys) w ≡ option_or (redo_value place log ys w) (redo_value place log xs w)
unfolding redo_value
redo_value-append place log [] ys w = or_none (redo_value place log ys w)
redo_value-append place log (e ∷ xs) ys w =
    ap (λ o. option_or o (given_by place log REDO_ORDER e w)) (redo_value-append place log xs ys w)
    ∙ sym (or_assoc (redo_value place log ys w) (redo_value place log xs w) (given_by place log REDO_ORDER e w))

-- no number lies in a closed range
nothing_between : (lo hi seq : ℕ) → hi ≤ lo + 1 → (ltb lo seq && ltb seq hi) ≡ false
nothing_between lo hi seq closed = elim (leb_tells hi seq) [
  | inl above ↦ grind (arith, nat_tests)
  | inr below ↦ grind (arith, nat_tests)
]

pub closed_range : (log : Log) (e : Entry) → log.hi ≤ log.lo + 1 → is_in_range log e ≡ false
closed_range log e closed = nothing_between log.lo log.hi e.seq closed

-- an entry that does not count gives nothing
pub given_by-out : (place : AddressMap) (log : Log) (order : ℕ) (e : Entry) (w : ℕ) → is_in_range log e ≡ false → given_by place log order e w ≡ None
given_by-out place log order e w out = cond-false _ _ _ (and_left (is_in_range log e) (eqb e.order order) out)

-- nor does an entry of another order
pub given_by-other : (place : AddressMap) (log : Log) (order : ℕ) (e : Entry) (w : ℕ) → (e.order ≡ order → ⊥) → given_by place log order e w ≡ None
given_by-other place log order e w other = cond-false _ _ _ (and_right (is_in_range log e) (eqb e.order order) (ne_eqb e.order order other))

pub given_by-closed : (place : AddressMap) (log : Log) (order : ℕ) (e : Entry) (w : ℕ) → log.hi ≤ log.lo + 1 → given_by place log order e w ≡ None
given_by-closed place log order e w closed = given_by-out place log order e w (closed_range log e closed)

undo_value-closed : (place : AddressMap) (log : Log) (es : List Entry) (w : ℕ) → log.hi ≤ log.lo + 1 → undo_value place log es w ≡ None
unfolding undo_value
undo_value-closed place log [] w closed = refl
undo_value-closed place log (e ∷ es) w closed = ap₂ option_or (given_by-closed place log UNDO_ORDER e w closed) (undo_value-closed place log es w closed)

redo_value-closed : (place : AddressMap) (log : Log) (es : List Entry) (w : ℕ) → log.hi ≤ log.lo + 1 → redo_value place log es w ≡ None
unfolding redo_value
redo_value-closed place log [] w closed = refl
redo_value-closed place log (e ∷ es) w closed = ap₂ option_or (redo_value-closed place log es w closed) (given_by-closed place log REDO_ORDER e w closed)

-- ---- logs

-- a closed log gives nothing
pub new_value-closed : (place : AddressMap) (log : Log) (w : ℕ) → log.hi ≤ log.lo + 1 → new_value place log w ≡ None
unfolding new_value
new_value-closed place log w closed =
    ap₂ option_or (redo_value-closed place log (entries_or_none log.entries) w closed) (undo_value-closed place log (entries_or_none log.entries) w closed)

-- nor does a log whose entries do not name the word
given_by-nowhere : (place : AddressMap) (log : Log) (order : ℕ) (e : Entry) (w : ℕ) → value_in place e w ≡ None → given_by place log order e w ≡ None
given_by-nowhere place log order e w none = elim (is_in_range log e && eqb e.order order) as (λ b. cond b (value_in place e w) None ≡ None) [ true ↦ none | false ↦ refl ]

undo_value-nowhere : (place : AddressMap) (log : Log) (es : List Entry) (w : ℕ) → ((e : Entry) → value_in place e w ≡ None) → undo_value place log es w ≡ None
unfolding undo_value
undo_value-nowhere place log [] w none = refl
undo_value-nowhere place log (e ∷ es) w none = ap₂ option_or (given_by-nowhere place log UNDO_ORDER e w (none e)) (undo_value-nowhere place log es w none)

redo_value-nowhere : (place : AddressMap) (log : Log) (es : List Entry) (w : ℕ) → ((e : Entry) → value_in place e w ≡ None) → redo_value place log es w ≡ None
unfolding redo_value
redo_value-nowhere place log [] w none = refl
redo_value-nowhere place log (e ∷ es) w none = ap₂ option_or (redo_value-nowhere place log es w none) (given_by-nowhere place log REDO_ORDER e w (none e))

pub new_value-nowhere : (place : AddressMap) (log : Log) (w : ℕ) → ((e : Entry) → value_in place e w ≡ None) → new_value place log w ≡ None
unfolding new_value
new_value-nowhere place log w none =
    ap₂ option_or (redo_value-nowhere place log (entries_or_none log.entries) w none) (undo_value-nowhere place log (entries_or_none log.entries) w none)

-- the replay of a closed log changes nothing
pub replayed-none : (place : AddressMap) (log : Log) (image : Image) → log.hi ≤ log.lo + 1 → replayed place log image ≡ image
replayed-none place log image closed = overwritten-nothing (new_value place log) image (λ w. new_value-closed place log w closed)

-- what a log gives is what its entries give
pub new_value-of : (place : AddressMap) (log : Log) (es : List Entry) (w : ℕ) → log.entries ≡ Some es → new_value place log w ≡ given place log es w
unfolding new_value
new_value-of place log es w some = ap (λ o. given place log (entries_or_none o) w) some

-- ---- the image with a log of device words replayed

pub settled_by-inside : (at : ℕ) (image : Image) (w : ℕ) → is_in_log at w ≡ true → settled_by at image w ≡ 0
unfolding settled_by
settled_by-inside at image w inside = cond-true _ _ _ inside

pub settled_by-outside : (at : ℕ) (image : Image) (w : ℕ) → is_in_log at w ≡ false → settled_by at image w ≡ replayed device_word (log_of image at) image w
unfolding settled_by
settled_by-outside at image w outside = cond-false _ _ _ outside

-- images that replay to the same words outside the log give the same image
pub settled_by-same : (at : ℕ) (i j : Image) → ((w : ℕ) → is_in_log at w ≡ false → replayed device_word (log_of i at) i w ≡ replayed device_word (log_of j at) j w) → settled_by at i ≡ settled_by at j
settled_by-same at i j same =
    let each : (w : ℕ) → settled_by at i w ≡ settled_by at j w = λ w. elim (cases_Bool (is_in_log at w)) [
      | inl inside ↦ settled_by-inside at i w inside ∙ sym (settled_by-inside at j w inside)
      | inr outside ↦ settled_by-outside at i w outside ∙ same w outside ∙ sym (settled_by-outside at j w outside)
    ] in
    λ p w. each w p

-- ---- a closed log that counts no word

pub empty_range_of : (v : ℕ) → is_idle_gate v ≡ true → gate_hi v ≤ gate_lo v + 1
empty_range_of v closed = leb-true _ _ (and_parts (is_legal_gate v && eqb (gate_used v) 0) (leb (gate_hi v) (gate_lo v + 1)) closed).1

pub entries_of-idle : (image : Image) (at : ℕ) → is_idle_gate (image at) ≡ true → entries_of image at ≡ Some []
entries_of-idle image at closed =
    let parts = and_parts (is_legal_gate (image at) && eqb (gate_used (image at)) 0) (leb (gate_hi (image at)) (gate_lo (image at) + 1)) closed in
    let gate = and_parts (is_legal_gate (image at)) (eqb (gate_used (image at)) 0) parts.0 in
    let none : words_from image (at + LOG_HEADER_WORDS) (gate_used (image at)) ≡ [] = words_from-none image (at + LOG_HEADER_WORDS) (gate_used (image at)) (eqb-true _ _ gate.1) in
    entries_of-is image at (image at) [] refl gate.0 none ∙ entries_in-nothing [] refl

-- outside the log its replay changes nothing
pub settled_by-idle : (at : ℕ) (image : Image) (w : ℕ) → is_idle_gate (image at) ≡ true → is_in_log at w ≡ false → settled_by at image w ≡ image w
settled_by-idle at image w closed outside =
    settled_by-outside at image w outside ∙ ap (λ (i : Image). i w) (replayed-none device_word (log_of image at) image (empty_range_of (image at) closed))

pub settled_by-beside : (at : ℕ) (image : Image) → is_idle_gate (image at) ≡ true → settled_by at image ≡ beside_log at image
settled_by-beside at image closed =
    let each : (w : ℕ) → settled_by at image w ≡ beside_log at image w = λ w. elim (cases_Bool (is_in_log at w)) [
      | inl inside ↦ settled_by-inside at image w inside ∙ sym (cond-true _ _ _ inside)
      | inr outside ↦ settled_by-idle at image w closed outside ∙ sym (cond-false _ _ _ outside)
    ] in
    λ p w. each w p

pub beside_log-outside : (at : ℕ) (image : Image) (w : ℕ) → is_in_log at w ≡ false → beside_log at image w ≡ image w
beside_log-outside at image w outside = cond-false _ _ _ outside

-- a word outside the log, and a word in it
pub outside_log : (at k : ℕ) → (k < at) ⊎ (at + LOG_WORDS ≤ k) → is_in_log at k ≡ false
outside_log at k (inl before) = and_left _ _ (lt-leb at k before)
outside_log at k (inr following) = grind (arith, nat_tests)

pub within_log : (at k : ℕ) → is_in_log at k ≡ true → IsInLog at k
within_log at k inside = let parts = and_parts (leb at k) (ltb k (at + LOG_WORDS)) inside in record { low = leb-true at k parts.0; high = ltb-true k (at + LOG_WORDS) parts.1 }

pub not_inside : (at k : ℕ) → is_in_log at k ≡ false → IsInLog at k → ⊥
not_inside at k outside inside = absurd (let it : true ≡ false = sym (and_from (leb at k) (ltb k (at + LOG_WORDS)) (le-leb at k inside.low) (lt-ltb k (at + LOG_WORDS) inside.high)) ∙ outside in cc)
