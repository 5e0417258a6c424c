-- Where a stored pointer leads: the address of a slot is read as the slot's place.
use Rattle.std.proofs.Common.{◌≡◌, ℕ, zero, suc, ◌+◌, ◌-◌, ◌*◌, ◌/◌, ◌%◌, ◌<◌, ◌≤◌, ◌&&◌, true, false, cond, eqb, ltb, List, [], ◌∷◌, map, length, Option, Some, None, option_map, refl, sym, ap, subst, ◌∙◌, ⊎_elim, arith, eq-eqb, ne_eqb}
use Rattle.std.specs.Prelude.{slice_get}
use Rattle.std.specs.Option.{option_or}
use Rattle.std.proofs.lemmas.Bool.{cond-true, cond-false, cases_Bool, and_parts, and_from, ltb-true, lt-ltb, eqb-true}
use Rattle.std.proofs.lemmas.Option.{none-some, same_Some, slice_get-map, cond_some}
use Rattle.pud_defs.specs.declared.space.TheConstants.{RANGE_BYTES, WORD_BYTES}
use Rattle.pud_defs.specs.declared.records.Puddle.{Puddle}
use Rattle.pud_defs.specs.Formats.Geometry.{class_slots, slots_of, slot_words_of, ordinal_of, slot_of, place_at, places_among}
use Rattle.pud_defs.proofs.Formats.Geometry.{few_slots, some_words, slot_low, slot_end, slot_of_address}
use Rattle.pud_defs.specs.PoolGraphs.Graph.{Content, Null, At, slot_address, slot_in, place_in, at_place, target, puddles_by, pointee_at, stands}
use Rattle.pud_defs.specs.PoolGraphs.Exported.{address_in, address_of}
use Rattle.pud_defs.proofs.PoolGraphs.Contents.{target-null}
use Rattle.graph_laws.specs.Changes.{AreBases, IsAddress}

-- ---- one puddle

abbrev slot_by : Puddle → (v slot : ℕ) → Option ℕ
slot_by puddle v slot = cond (ltb slot (slots_of puddle) && eqb (slot_address puddle slot) v) (Some slot) None

-- The address of a slot leads to the slot.
slot_in-there : (puddle : Puddle) (slot : ℕ) → slot < slots_of puddle → slot_in puddle (slot_address puddle slot) ≡ Some slot
slot_in-there puddle slot within =
    let v = slot_address puddle slot in
    let is : (v - slot_address puddle 0) / (WORD_BYTES * slot_words_of puddle) ≡ slot = slot_of_address puddle.class slot puddle.base in
    ap (slot_by puddle v) is ∙ cond-true _ _ _ (and_from _ _ (lt-ltb _ _ within) (eq-eqb v v refl))

one_range : (puddle other : Puddle) (slot guess : ℕ) → puddle.base % RANGE_BYTES ≡ 0 → other.base % RANGE_BYTES ≡ 0 → slot < slots_of puddle → guess < slots_of other
    → slot_address other guess ≡ slot_address puddle slot → other.base ≡ puddle.base
one_range puddle other slot guess multiple others within below same =
    let low = slot_low puddle.class slot in
    let end = slot_end puddle.class slot within in
    let words = some_words puddle.class in
    let other_low = slot_low other.class guess in
    let other_end = slot_end other.class guess below in
    let other_words = some_words other.class in
    omega arith

-- The address of a slot of another range leads to none.
slot_in-other : (puddle other : Puddle) (slot : ℕ) → puddle.base % RANGE_BYTES ≡ 0 → other.base % RANGE_BYTES ≡ 0 → (other.base ≡ puddle.base → ⊥) → slot < slots_of puddle → slot_in other (slot_address puddle slot) ≡ None
slot_in-other puddle other slot multiple others apart within =
    let v = slot_address puddle slot in
    let guess = (v - slot_address other 0) / (WORD_BYTES * slot_words_of other) in
    ⊎_elim
    (λ found.
    let parts = and_parts (ltb guess (slots_of other)) (eqb (slot_address other guess) v) found in
    let below : guess < slots_of other = ltb-true _ _ parts.0 in
    let same : slot_address other guess ≡ v = eqb-true _ _ parts.1 in
    absurd (apart (one_range puddle other slot guess multiple others within below same)))
    (λ none. cond-false _ _ _ none)
    (cases_Bool (ltb guess (slots_of other) && eqb (slot_address other guess) v))

-- ---- all puddles

first_found : (o later : Option ℕ) (p : ℕ) → o ≡ Some p → option_or o later ≡ Some p
first_found o later p is = ap (λ v. option_or v later) is

-- The bases after the first one are such bases too.
pub following : (base : ℕ) (bases : List ℕ) → AreBases (base ∷ bases) → AreBases bases
following base bases h = record {
  multiples = λ i b is. h.multiples (suc i) b is;
  distinct = λ i j b is also. let same = h.distinct (suc i) (suc j) b is also in omega arith;
}

base_there : (puddles : List Puddle) (i : ℕ) (puddle : Puddle) → slice_get puddles i ≡ Some puddle → slice_get (map (λ (d : Puddle). d.base) puddles) i ≡ Some puddle.base
base_there puddles i puddle is = slice_get-map (λ (d : Puddle). d.base) puddles i ∙ ap (option_map (λ (d : Puddle). d.base)) is

pub place_in-there : (first : ℕ) (puddles : List Puddle) (i : ℕ) (puddle : Puddle) (slot : ℕ) → AreBases (map (λ d. d.base) puddles) → slice_get puddles i ≡ Some puddle → slot < slots_of puddle
    → place_in first puddles (slot_address puddle slot) ≡ Some (first + place_at i slot)
unfolding place_in
place_in-there first [] i puddle slot h is within = absurd (none-some puddle is)
place_in-there first (d ∷ puddles) zero puddle slot h is within =
    let same : d ≡ puddle = same_Some d puddle is in
    let found = ap (λ (e : Puddle). slot_in e (slot_address puddle slot)) same ∙ slot_in-there puddle slot within in
    let place : first + slot ≡ first + place_at 0 slot = omega arith in
    first_found _ _ (first + slot) (ap (option_map (λ k. first + k)) found) ∙ ap (λ (k : ℕ). Some k) place
place_in-there first (d ∷ puddles) (suc i) puddle slot h is within =
    let base = base_there puddles i puddle is in
    let apart : d.base ≡ puddle.base → ⊥ = λ e. absurd (let one = h.distinct 0 (suc i) puddle.base (ap (λ (k : ℕ). Some k) e) base in omega arith) in
    let none = slot_in-other puddle d slot (h.multiples (suc i) puddle.base base) (h.multiples 0 d.base refl) apart within in
    let place : first + places_among 1 + place_at i slot ≡ first + place_at (suc i) slot = omega arith in
    ap (λ o. option_or (option_map (λ k. first + k) o) (place_in (first + places_among 1) puddles (slot_address puddle slot))) none
    ∙ place_in-there (first + places_among 1) puddles i puddle slot (following d.base (map (λ (e : Puddle). e.base) puddles) h) is within ∙ ap (λ (k : ℕ). Some k) place

-- The address of a place is read as the place.
pub target-there : (puddles : List Puddle) (q : ℕ) (puddle : Puddle) → AreBases (map (λ d. d.base) puddles) → slice_get puddles (ordinal_of q) ≡ Some puddle → slot_of q < slots_of puddle → target puddles (slot_address puddle (slot_of q)) ≡ At q
unfolding target
target-there puddles q puddle h is within =
    let place : 0 + place_at (ordinal_of q) (slot_of q) ≡ q = omega arith in
    let used : slot_address puddle (slot_of q) ≡ 0 → ⊥ = λ e. absurd (let low = slot_low puddle.class (slot_of q) in omega arith) in
    cond-false _ _ _ (ne_eqb _ 0 used)
    ∙ ap at_place (place_in-there 0 puddles (ordinal_of q) puddle (slot_of q) h is within)
    ∙ ap At place

-- ---- over other bases

pub there_is_puddle : (puddles : List Puddle) (o : ℕ) → o < length puddles → (d : Puddle) × (slice_get puddles o ≡ Some d)
there_is_puddle [] o below = absurd (omega arith)
there_is_puddle (d ∷ puddles) zero below = (d, refl)
there_is_puddle (d ∷ puddles) (suc o) below = there_is_puddle puddles o (omega arith)

-- The place is a slot of one of these puddles.
pub record IsSlotAmong (puddles : List Puddle) (q : ℕ) : Type 0 where
  pub puddle : Puddle
  pub there : slice_get puddles (ordinal_of q) ≡ Some puddle
  pub below : slot_of q < slots_of puddle

module _ (puddles : List Puddle) (serial : ℕ → ℕ) (bases : AreBases (map (λ d. d.base) puddles)) where
  address_read : (q : ℕ) → IsSlotAmong puddles q → target puddles (address_of puddles (At q)) ≡ At q
  address_read q is = ap (λ e. target puddles (address_in e (slot_of q))) is.there ∙ target-there puddles q is.puddle bases is.there is.below

  place_read : (c : Content) (p : Option ℕ) → c ≡ at_place p → ((q : ℕ) → p ≡ Some q → IsSlotAmong puddles q) → stands serial c ≡ true → target puddles (address_of puddles c) ≡ c
  place_read c None is within stand = absurd (let it : false ≡ true = sym (ap (stands serial) is) ∙ stand in cc)
  place_read c (Some q) is within stand = ap (λ k. target puddles (address_of puddles k)) is ∙ address_read q (within q refl) ∙ sym is

-- If a pointer stands for something over some puddles, at most as many as these, then its address over these stands for
-- the same.
slot_among : (puddles over : List Puddle) (q : ℕ) → map (λ d. d.class) over ≡ map (λ d. d.class) puddles → IsSlotAmong over q → IsSlotAmong puddles q
slot_among puddles over q same is =
    let class = λ (d : Puddle). d.class in
    let there : option_map class (slice_get puddles (ordinal_of q)) ≡ Some is.puddle.class =
    sym (slice_get-map class puddles (ordinal_of q)) ∙ ap (λ (cs : List ℕ). slice_get cs (ordinal_of q)) (sym same) ∙ slice_get-map class over (ordinal_of q) ∙ ap (option_map class) is.there in
    by_option (slice_get puddles (ordinal_of q)) refl there
  where
    by_option : (o : Option Puddle) → slice_get puddles (ordinal_of q) ≡ o → option_map (λ (d : Puddle). d.class) o ≡ Some is.puddle.class → IsSlotAmong puddles q
    by_option None found of = absurd (none-some is.puddle.class of)
    by_option (Some d) found of =
        let one : d.class ≡ is.puddle.class = same_Some d.class is.puddle.class of in
        record { puddle = d; there = found; below = subst (λ (c : ℕ). slot_of q < class_slots c) (sym one) is.below }

-- A place to which an address leads is a slot.
slot_in_below : (d : Puddle) (v slot : ℕ) → slot_in d v ≡ Some slot → slot < slots_of d
slot_in_below d v slot is =
    let guess = (v - slot_address d 0) / (WORD_BYTES * slot_words_of d) in
    let found = cond_some (ltb guess (slots_of d) && eqb (slot_address d guess) v) guess slot is in
    subst (λ (n : ℕ). n < slots_of d) found.1 (ltb-true guess (slots_of d) (and_parts (ltb guess (slots_of d)) (eqb (slot_address d guess) v) found.0).0)

-- The place is a slot of one of these puddles, the first of which has this ordinal.
record IsSlotFrom (first : ℕ) (puddles : List Puddle) (q : ℕ) : Type 0 where
  puddle : Puddle
  low : first ≤ ordinal_of q
  there : slice_get puddles (ordinal_of q - first) ≡ Some puddle
  below : slot_of q < slots_of puddle

by_slot : (first : ℕ) (d : Puddle) (puddles : List Puddle) (v q : ℕ) → (place_in (places_among (first + 1)) puddles v ≡ Some q → IsSlotFrom (first + 1) puddles q) → (o : Option ℕ) → slot_in d v ≡ o
    → option_or (option_map (λ k. places_among first + k) o) (place_in (places_among first + places_among 1) puddles v) ≡ Some q → IsSlotFrom first (d ∷ puddles) q
by_slot first d puddles v q rest (Some slot) found of =
    let below = slot_in_below d v slot found in
    let few = few_slots d.class in
    let place : places_among first + slot ≡ q = same_Some (places_among first + slot) q of in
    let ordinal : ordinal_of q - first ≡ 0 = omega arith in
    let low : first ≤ ordinal_of q = omega arith in
    let is_slot : slot_of q < slots_of d = omega arith in
    record { puddle = d; low = low; there = ap (slice_get (d ∷ puddles)) ordinal; below = is_slot }
by_slot first d puddles v q rest None found of =
    let next : places_among first + places_among 1 ≡ places_among (first + 1) = omega arith in
    let later = rest (sym (ap (λ (n : ℕ). place_in n puddles v) next) ∙ of) in
    let low = later.low in
    let ordinal : ordinal_of q - first ≡ suc (ordinal_of q - (first + 1)) = omega arith in
    let before : first ≤ ordinal_of q = omega arith in
    record { puddle = later.puddle; low = before; there = ap (slice_get (d ∷ puddles)) ordinal ∙ later.there; below = later.below }

place_in_slot : (first : ℕ) (puddles : List Puddle) (v q : ℕ) → place_in (places_among first) puddles v ≡ Some q → IsSlotFrom first puddles q
unfolding place_in
place_in_slot first [] v q is = absurd (none-some q is)
place_in_slot first (d ∷ puddles) v q is = by_slot first d puddles v q (place_in_slot (first + 1) puddles v q) (slot_in d v) refl is

among : (puddles : List Puddle) (v q : ℕ) → place_in 0 puddles v ≡ Some q → IsSlotAmong puddles q
among puddles v q is =
    let from = place_in_slot 0 puddles v q is in
    let same : ordinal_of q - 0 ≡ ordinal_of q = omega arith in
    record { puddle = from.puddle; there = ap (slice_get puddles) (sym same) ∙ from.there; below = from.below }

-- If a pointer stands for something over some puddles, of the same classes as these, then its address over these stands
-- for the same.
pub target-address : (puddles over : List Puddle) (serial : ℕ → ℕ) (v : ℕ) → AreBases (map (λ d. d.base) puddles) → map (λ d. d.class) over ≡ map (λ d. d.class) puddles → stands serial (target over v) ≡ true
    → target puddles (address_of puddles (target over v)) ≡ target over v
unfolding target
target-address puddles over serial v bases classes stand = ⊎_elim
    (λ null.
    let is : target over v ≡ Null = cond-true _ _ _ null in
    ap (λ c. target puddles (address_of puddles c)) is ∙ sym is)
    (λ used. place_read puddles serial bases (target over v) (place_in 0 over v) (cond-false _ _ _ used)
    (λ q is. slot_among puddles over q classes (among over v q is)) stand)
    (cases_Bool (eqb v 0))

-- ---- the pointer of a step

pub pointee_at-null : (puddles : List Puddle) (ordinal step v : ℕ) → v ≡ 0 → pointee_at puddles ordinal step v ≡ Null
pointee_at-null puddles ordinal step v null = target-null (puddles_by puddles (slice_get puddles ordinal) step) v null

-- Below its puddle's frontier a pointer is read over the pool's bases.
pub pointee_at-address : (puddles : List Puddle) (ordinal step q v : ℕ) → IsAddress puddles ordinal step q v → pointee_at puddles ordinal step v ≡ At q
pointee_at-address puddles ordinal step q v h =
    ap (λ (o : Option Puddle). target (puddles_by puddles o step) v) h.here
    ∙ ap (λ (read : List Puddle). target read v) (cond-true _ _ _ (lt-ltb _ _ h.rewritten))
    ∙ ap (target puddles) h.address
    ∙ target-there puddles q h.away h.bases h.there h.slot
