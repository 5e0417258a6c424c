-- Where a pointer leads, puddle by puddle.
use Rattle.std.proofs.Common.{◌≡◌, ℕ, ◌+◌, ◌-◌, ◌*◌, ◌/◌, ◌%◌, ◌<◌, ◌≤◌, Bool, true, false, ◌&&◌, eqb, ltb, cond, List, ◌∷◌, map, length, get_or, drop, Option, Some, None, option_map, add-one, refl, sym, ap, ap₂, subst, ◌∙◌, arith, eq-eqb, ne_eqb}
use Rattle.std.specs.Prelude.{slice_get}
use Rattle.std.proofs.Math.ListN.{get_or-map}
use Rattle.std.proofs.Math.Seq.{drop-cons}
use Rattle.std.proofs.lemmas.List.{length-map, drop_all}
use Rattle.std.proofs.lemmas.Option.{slice_get-map, slice_get-get_or}
use Rattle.std.specs.Option.{option_or}
use Rattle.std.proofs.Math.Bool.{and-false}
use Rattle.std.proofs.lemmas.Bool.{cond-true, cond-false, lt-ltb, le-ltb}
use Rattle.pud_defs.specs.declared.records.Puddle.{Puddle}
use Rattle.pud_defs.specs.declared.objects.Pointee.TheVariants as pointees
use Rattle.pud_defs.specs.declared.space.TheConstants.{WORD_BYTES, HEADER_BYTES, RANGE_BYTES, SMALL_SLOTS, LARGE_SLOTS}
use Rattle.pud_defs.specs.Formats.Geometry.{class_slots, class_slot_words, class_slot_at, slots_of, slot_words_of, place_at, places_among}
use Rattle.pud_defs.proofs.Formats.Geometry.{by_class}
use Rattle.pud_defs.specs.PoolGraphs.Graph.{Content, slot_in, place_in, at_place, target, over_old, puddles_by, pointee_at}
use Rattle.pud_defs.specs.PoolGraphs.Graph.Content.{Null, At, Nowhere}
use Rattle.graph_read.specs.Reading.{pointee_of}
use Rattle.puddle_header.proofs.Placed.{place_ordinal, place_slot}
use Rattle.std.proofs.lemmas.Simd.{map-map}

-- What is read for an ordinal after the last one.
abbrev pub no_puddle : ℕ × Puddle
no_puddle = (0, record { number = 0; base = 0; old_base = 0; frontier = 0; class = 0 })

-- the puddle over the base by which pointers are read
abbrev pub read_over : Bool → ℕ × Puddle → Puddle
read_over rewritten e = cond rewritten e.1 (over_old e.1)

-- where a pointer leads among the puddles from ordinal i on
unfoldable pub pointer_from : List (ℕ × Puddle) → (rewritten : Bool) → (v i : ℕ) → Content
pointer_from pool rewritten v i = at_place (place_in (places_among i) (drop i (map (read_over rewritten) pool)) v)

same_puddles : (pool : List (ℕ × Puddle)) (b : Bool) → cond b (map (λ (e : ℕ × Puddle). e.1) pool) (map over_old (map (λ (e : ℕ × Puddle). e.1) pool)) ≡ map (read_over b) pool
same_puddles pool true = refl
same_puddles pool false = map-map over_old (λ (e : ℕ × Puddle). e.1) pool

-- a null pointer leads to nothing
pub pointer-null : (pool : List (ℕ × Puddle)) (o step v : ℕ) → v ≡ 0 → pointee_at (map (λ e. e.1) pool) o step v ≡ Null
unfolding target
pointer-null pool o step v null = cond-true _ _ _ (eq-eqb v 0 null)

pub pointer_from-start : (pool : List (ℕ × Puddle)) (o step v : ℕ) (rewritten : Bool) → (v ≡ 0 → ⊥) → o < length pool → rewritten ≡ ltb step (get_or pool o no_puddle).1.frontier
    → pointee_at (map (λ e. e.1) pool) o step v ≡ pointer_from pool rewritten v 0
unfolding target pointer_from
pointer_from-start pool o step v rewritten some below is =
    let puddles : List Puddle = map (λ (e : ℕ × Puddle). e.1) pool in
    let holder : slice_get puddles o ≡ Some (get_or pool o no_puddle).1 = slice_get-map (λ (e : ℕ × Puddle). e.1) pool o ∙ ap (option_map (λ (e : ℕ × Puddle). e.1)) (slice_get-get_or pool o no_puddle below) in
    ap (λ (p : Option Puddle). target (puddles_by puddles p step) v) holder
    ∙ cond-false _ _ _ (ne_eqb v 0 some)
    ∙ ap (λ (read : List Puddle). at_place (place_in 0 read v)) (ap (λ b. cond b puddles (map over_old puddles)) (sym is) ∙ same_puddles pool rewritten)

-- The search goes on to the next puddle.
next_puddle : (pool : List (ℕ × Puddle)) (b : Bool) (v i : ℕ) → i < length pool
    → place_in (places_among i) (drop i (map (read_over b) pool)) v
    ≡ option_or (option_map (λ slot. place_at i slot) (slot_in (read_over b (get_or pool i no_puddle)) v)) (place_in (places_among (i + 1)) (drop (i + 1) (map (read_over b) pool)) v)
unfolding place_in
next_puddle pool b v i below =
    let read : List Puddle = map (read_over b) pool in
    let within : i < length read = omega (arith, below, length-map pool (read_over b)) in
    let first : drop i read ≡ read_over b (get_or pool i no_puddle) ∷ drop (i + 1) read =
    drop-cons read i (read_over b no_puddle) within ∙ ap₂ (λ (x : Puddle) (n : ℕ). x ∷ drop n read) (get_or-map (read_over b) pool i no_puddle) (sym (add-one i)) in
    let further : places_among i + places_among 1 ≡ places_among (i + 1) = omega arith in
    ap (λ (ds : List Puddle). place_in (places_among i) ds v) first
    ∙ ap (λ n. option_or (option_map (λ slot. place_at i slot) (slot_in (read_over b (get_or pool i no_puddle)) v)) (place_in n (drop (i + 1) read) v)) further

pub pointer_from-here : (pool : List (ℕ × Puddle)) (rewritten : Bool) (v i slot : ℕ) → i < length pool → slot_in (read_over rewritten (get_or pool i no_puddle)) v ≡ Some slot
    → pointer_from pool rewritten v i ≡ At (place_at i slot)
unfolding pointer_from
pointer_from-here pool rewritten v i slot below here =
    ap at_place (next_puddle pool rewritten v i below
    ∙ ap (λ (o : Option ℕ). option_or (option_map (λ slot. place_at i slot) o) (place_in (places_among (i + 1)) (drop (i + 1) (map (read_over rewritten) pool)) v)) here)

pub pointer_from-other : (pool : List (ℕ × Puddle)) (rewritten : Bool) (v i : ℕ) → i < length pool → slot_in (read_over rewritten (get_or pool i no_puddle)) v ≡ None
    → pointer_from pool rewritten v i ≡ pointer_from pool rewritten v (i + 1)
unfolding pointer_from
pointer_from-other pool rewritten v i below other =
    ap at_place (next_puddle pool rewritten v i below
    ∙ ap (λ (o : Option ℕ). option_or (option_map (λ slot. place_at i slot) o) (place_in (places_among (i + 1)) (drop (i + 1) (map (read_over rewritten) pool)) v)) other)

pub pointer_from-end : (pool : List (ℕ × Puddle)) (rewritten : Bool) (v i : ℕ) → length pool ≤ i → pointer_from pool rewritten v i ≡ Nowhere
unfolding pointer_from place_in
pointer_from-end pool rewritten v i past =
    ap (λ (ds : List Puddle). at_place (place_in (places_among i) ds v)) (drop_all i (map (read_over rewritten) pool) (omega (arith, past, length-map pool (read_over rewritten))))

-- The place of a slot is answered as that slot.
pub pointee_of-slot : (i slot : ℕ) (d : Puddle) → slot < slots_of d → pointee_of (At (place_at i slot)) ≡ Some (pointees.At i slot)
pointee_of-slot i slot d below = ap₂ (λ o s. Some (pointees.At o s)) (place_ordinal i slot d below) (place_slot i slot d below)

-- A puddle has its class over either base.
pub same_class : (b : Bool) (d : Puddle) → (cond b d (over_old d)).class ≡ d.class
same_class true d = refl
same_class false d = refl

-- ---- the slot that has an address

-- The address of a slot of a puddle of a class, which has this base.
abbrev address : (class base slot : ℕ) → ℕ
address class base slot = base + WORD_BYTES * class_slot_at class slot

-- The slot that may have the address v.
abbrev guess : (class base v : ℕ) → ℕ
guess class base v = (v - address class base 0) / (WORD_BYTES * class_slot_words class)

-- The guess is the quotient of the distance from the first slot.
guess_is : (class base v bytes : ℕ) → bytes ≡ WORD_BYTES * class_slot_words class → guess class base v ≡ (v - base - HEADER_BYTES) / bytes
guess_is class base v bytes is = by_class (λ c. guess c base v ≡ (v - base - HEADER_BYTES) / (WORD_BYTES * class_slot_words c)) class
    (λ g. let a = g.at 0 in let w = g.width in (λ p. (v - (base + WORD_BYTES * a p)) / (WORD_BYTES * w p)) ∙ omega arith ∙ sym (λ p. (v - base - HEADER_BYTES) / (WORD_BYTES * w p)))
    (λ g. let a = g.at 0 in let w = g.width in (λ p. (v - (base + WORD_BYTES * a p)) / (WORD_BYTES * w p)) ∙ omega arith ∙ sym (λ p. (v - base - HEADER_BYTES) / (WORD_BYTES * w p)))
    ∙ ap (λ (n : ℕ). (v - base - HEADER_BYTES) / n) (sym is)

-- A value before the first slot is no address of a slot.
address_low : (class base v slot : ℕ) → v < base + HEADER_BYTES → address class base slot ≡ v → ⊥
address_low class base v slot low same = by_class (λ c. address c base slot ≡ v → ⊥) class
    (λ g e. let a = g.at slot in absurd (omega (arith, low, e, a)))
    (λ g e. let a = g.at slot in absurd (omega (arith, low, e, a))) same

-- A value between two addresses of slots is none.
address_between : (class base v slot bytes : ℕ) → bytes ≡ WORD_BYTES * class_slot_words class → base + HEADER_BYTES ≤ v → slot ≡ (v - base - HEADER_BYTES) / bytes → ((v - base - HEADER_BYTES) % bytes ≡ 0 → ⊥) → address class base slot ≡ v → ⊥
address_between class base v slot bytes is low here odd same =
    odd (ap (λ (n : ℕ). (v - base - HEADER_BYTES) % n) is ∙ by_class (λ c. address c base slot ≡ v → (v - base - HEADER_BYTES) % (WORD_BYTES * class_slot_words c) ≡ 0) class
    (λ g e. let a = g.at slot in let w = g.width in (λ p. (v - base - HEADER_BYTES) % (WORD_BYTES * w p)) ∙ omega (arith, low, e, a))
    (λ g e. let a = g.at slot in let w = g.width in (λ p. (v - base - HEADER_BYTES) % (WORD_BYTES * w p)) ∙ omega (arith, low, e, a)) same)

-- A value at a multiple of a slot's length after the first slot is the address of a slot.
address_there : (class base v slot bytes : ℕ) → bytes ≡ WORD_BYTES * class_slot_words class → base + HEADER_BYTES ≤ v → slot ≡ (v - base - HEADER_BYTES) / bytes → (v - base - HEADER_BYTES) % bytes ≡ 0 → address class base slot ≡ v
address_there class base v slot bytes is low here even =
    by_class (λ c. slot ≡ (v - base - HEADER_BYTES) / (WORD_BYTES * class_slot_words c) → (v - base - HEADER_BYTES) % (WORD_BYTES * class_slot_words c) ≡ 0 → address c base slot ≡ v) class
    (λ g q r. let a = g.at slot in let w = g.width in
    let q' = q ∙ (λ p. (v - base - HEADER_BYTES) / (WORD_BYTES * w p)) in
    let r' = sym (λ p. (v - base - HEADER_BYTES) % (WORD_BYTES * w p)) ∙ r in
    omega (arith, low, a, q', r'))
    (λ g q r. let a = g.at slot in let w = g.width in
    let q' = q ∙ (λ p. (v - base - HEADER_BYTES) / (WORD_BYTES * w p)) in
    let r' = sym (λ p. (v - base - HEADER_BYTES) % (WORD_BYTES * w p)) ∙ r in
    omega (arith, low, a, q', r'))
    (here ∙ ap (λ (n : ℕ). (v - base - HEADER_BYTES) / n) is) (sym (ap (λ (n : ℕ). (v - base - HEADER_BYTES) % n) is) ∙ even)

found_at : (d : Puddle) (v slot : ℕ) → guess d.class d.base v ≡ slot → slot_in d v ≡ cond (ltb slot (slots_of d) && eqb (address d.class d.base slot) v) (Some slot) None
found_at d v slot is = ap (λ (s : ℕ). cond (ltb s (slots_of d) && eqb (address d.class d.base s) v) (Some s) None) is

pub slot_in-low : (d : Puddle) (v : ℕ) → v < d.base + HEADER_BYTES → slot_in d v ≡ None
slot_in-low d v low =
    let s = guess d.class d.base v in
    cond-false _ _ _ (ap (λ b. ltb s (slots_of d) && b) (ne_eqb (address d.class d.base s) v (address_low d.class d.base v s low)) ∙ and-false (ltb s (slots_of d)))

pub slot_in-between : (d : Puddle) (v slot bytes : ℕ) → bytes ≡ WORD_BYTES * slot_words_of d → d.base + HEADER_BYTES ≤ v → slot ≡ (v - d.base - HEADER_BYTES) / bytes → ((v - d.base - HEADER_BYTES) % bytes ≡ 0 → ⊥) → slot_in d v ≡ None
slot_in-between d v slot bytes is low here odd =
    found_at d v slot (guess_is d.class d.base v bytes is ∙ sym here)
    ∙ cond-false _ _ _ (ap (λ b. ltb slot (slots_of d) && b) (ne_eqb (address d.class d.base slot) v (address_between d.class d.base v slot bytes is low here odd)) ∙ and-false (ltb slot (slots_of d)))

pub slot_in-past : (d : Puddle) (v slot bytes : ℕ) → bytes ≡ WORD_BYTES * slot_words_of d → slot ≡ (v - d.base - HEADER_BYTES) / bytes → slots_of d ≤ slot → slot_in d v ≡ None
slot_in-past d v slot bytes is here past =
    found_at d v slot (guess_is d.class d.base v bytes is ∙ sym here)
    ∙ cond-false _ _ _ (ap (λ b. b && eqb (address d.class d.base slot) v) (le-ltb slot (slots_of d) past))

-- An address after the range of a puddle is in none of its slots.
range_past : (class base v : ℕ) → base + RANGE_BYTES ≤ v → class_slots class ≤ (v - base - HEADER_BYTES) / (WORD_BYTES * class_slot_words class)
range_past class base v past = by_class (λ c. class_slots c ≤ (v - base - HEADER_BYTES) / (WORD_BYTES * class_slot_words c)) class
    (λ g. let n = g.count in let w = g.width in subst (λ (k : ℕ). k ≤ (v - base - HEADER_BYTES) / (WORD_BYTES * class_slot_words class)) (sym n) (subst (λ (k : ℕ). SMALL_SLOTS ≤ (v - base - HEADER_BYTES) / (WORD_BYTES * k)) (sym w) (omega arith)))
    (λ g. let n = g.count in let w = g.width in subst (λ (k : ℕ). k ≤ (v - base - HEADER_BYTES) / (WORD_BYTES * class_slot_words class)) (sym n) (subst (λ (k : ℕ). LARGE_SLOTS ≤ (v - base - HEADER_BYTES) / (WORD_BYTES * k)) (sym w) (omega arith)))

pub slot_in-far : (d : Puddle) (v : ℕ) → d.base + RANGE_BYTES ≤ v → slot_in d v ≡ None
slot_in-far d v past = slot_in-past d v _ _ refl refl (range_past d.class d.base v past)

pub slot_in-there : (d : Puddle) (v slot bytes : ℕ) → bytes ≡ WORD_BYTES * slot_words_of d → d.base + HEADER_BYTES ≤ v → slot ≡ (v - d.base - HEADER_BYTES) / bytes → (v - d.base - HEADER_BYTES) % bytes ≡ 0 → slot < slots_of d → slot_in d v ≡ Some slot
slot_in-there d v slot bytes is low here even below =
    found_at d v slot (guess_is d.class d.base v bytes is ∙ sym here)
    ∙ cond-true _ _ _ (ap₂ (λ a b. a && b) (lt-ltb slot (slots_of d) below) (eq-eqb _ v (address_there d.class d.base v slot bytes is low here even)))
