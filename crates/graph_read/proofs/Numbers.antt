-- The sum of the number fields of a pool, field by field and place by place. It is the sum of the pool's graph.
use Rattle.std.proofs.Common.{◌≡◌, ◌≢◌, ℕ, zero, suc, ◌+◌, ◌%◌, ◌^◌, ◌<◌, Bool, true, false, ◌==◌, cond, List, [], ◌∷◌, map, sum_by, Option, Some, None, is_some, nat_cmp, refl, sym, ap, ap₂, ◌∙◌, zero-add, arith}
use Rattle.std.specs.Bool.{then_some}
use Rattle.std.specs.List.{range_with_len}
use Rattle.std.proofs.Math.Nat.{mod-add-mod, add-mod-mod}
use Rattle.std.proofs.lemmas.Bool.{cond-true}
use Rattle.std.proofs.lemmas.Cmp.{nat_cmp_total}
use Rattle.std.proofs.lemmas.List.{map-id}
use Rattle.std.proofs.lemmas.Option.{none-some, same_Some}
use Rattle.std.proofs.lemmas.List.FromFn.{sum_by-map-range_with_len_more}
use Rattle.std.proofs.lemmas.List.Sums.{sum_by-cons}
use Rattle.pud_defs.specs.declared.space.TheConstants.{SLOT_FIELDS_WORD}
use Rattle.pud_defs.specs.declared.records.Puddle.{Puddle}
use Rattle.pud_defs.specs.Formats.TypeMap.{is_pointer}
use Rattle.pud_defs.specs.PoolGraphs.Stored.{Stored, places_of, place_word}
use Rattle.pud_defs.specs.PoolGraphs.Graph.{Content, Number, Null, At, Nowhere, Object, Table, Graph, at_place, place_in, target, content, contents_or_none, table_of, value_of, object_at, live, graph_of}
use Rattle.pud_defs.proofs.PoolGraphs.Graphs.{under_serial-free, under_serial-used, graph_of-each, distinct_live}
use Rattle.pud_defs.specs.RegistryTables.Spaces.{all_below}
use Rattle.pud_defs.proofs.RegistryTables.Spaces.{all_below-fails}
use Rattle.pud_defs.proofs.RegistryTables.PoolsCounted.{sum_places, sum_places-same, worth, sum-keyed}
use Rattle.graph_read.specs.declared.checking.SlotCheck.{SlotCheck}
use Rattle.graph_read.specs.Numbers.{number_in_value, numbers_of, number_sum, number_in_content, contents_sum, numbers_under, numbers_at, numbers_below, value_number, fields_sum, place_sum, places_sum}
use Rattle.graph_read.specs.Checking.{serial_passes, place_passes}
use Rattle.graph_read.proofs.Passing.{field_passes, place_passes-free, place_passes-refused, place_passes-live}

-- ---- what there is if a test passes

pub then_some-none : {A : Type 0} (b : Bool) (x : A) → then_some b x ≡ None → b ≡ false
then_some-none true x none = absurd (none-some x (sym none))
then_some-none false x none = refl

pub then_some-some : {A : Type 0} (b : Bool) (x y : A) → then_some b x ≡ Some y → (b ≡ true) × (x ≡ y)
then_some-some true x y some = (refl, same_Some x y some)
then_some-some false x y some = absurd (none-some y some)

pub is_some-then_some : {A : Type 0} (b : Bool) (x : A) → is_some (then_some b x) ≡ b
is_some-then_some true x = refl
is_some-then_some false x = refl

-- ---- a field

number_at_place : (o : Option ℕ) → number_in_content (at_place o) ≡ 0
number_at_place None = refl
number_at_place (Some p) = refl

number_either : (b : Bool) (c : Content) → number_in_content c ≡ 0 → number_in_content (cond b Null c) ≡ 0
number_either true c e = refl
number_either false c e = e

number_of_target : (puddles : List Puddle) (v : ℕ) → number_in_content (target puddles v) ≡ 0
unfolding target
number_of_target puddles v = number_either (v == 0) (at_place (place_in 0 puddles v)) (number_at_place (place_in 0 puddles v))

-- A pointer adds 0, wherever it leads.
pub number_in_content-pointer : (puddles : List Puddle) (m place f v : ℕ) → is_pointer m f ≡ true → number_in_content (content puddles m place f v) ≡ 0
number_in_content-pointer puddles m place f v pointer = ap number_in_content (cond-true _ _ _ pointer) ∙ number_of_target _ v

-- ---- the fields of a place

-- What a field stands for, by the map of its type.
abbrev pub field_content : Stored → (place m f : ℕ) → Content
field_content st place m f = content st.puddles m place f (place_word st place (SLOT_FIELDS_WORD + f))

-- The sum of the number fields among the first `count` fields.
abbrev pub fields_counted : Stored → (place m count : ℕ) → ℕ
fields_counted st place m count = sum_by number_in_content (map (field_content st place m) (range_with_len 0 count))

-- A field passed, and this is what it adds.
pub value_passed : (check : SlotCheck) (serial : ℕ → ℕ) (st : Stored) (place m f v number : ℕ) (o : Option ℕ) → v ≡ place_word st place (SLOT_FIELDS_WORD + f) → o ≡ value_number check serial (content st.puddles m place f v) → o ≡ Some number
    → (field_passes check serial st place m f ≡ true) × (number_in_content (field_content st place m f) ≡ number)
value_passed check serial st place m f v number o word is some =
    then_some-some _ _ number (sym (is ∙ ap (λ (x : ℕ). value_number check serial (content st.puddles m place f x)) word) ∙ some)

pub value_refused : (check : SlotCheck) (serial : ℕ → ℕ) (st : Stored) (place m f v : ℕ) (o : Option ℕ) → v ≡ place_word st place (SLOT_FIELDS_WORD + f) → o ≡ value_number check serial (content st.puddles m place f v) → o ≡ None
    → field_passes check serial st place m f ≡ false
value_refused check serial st place m f v o word is none =
    then_some-none _ (number_in_content (field_content st place m f)) (sym (is ∙ ap (λ (x : ℕ). value_number check serial (content st.puddles m place f x)) word) ∙ none)

-- One more field is added.
pub fields_counted-more : (st : Stored) (place m f sum number : ℕ) → sum ≡ fields_counted st place m f % 2 ^ 64 → number ≡ number_in_content (field_content st place m f) → (sum + number) % 2 ^ 64 ≡ fields_counted st place m (f + 1) % 2 ^ 64
fields_counted-more st place m f sum number so_far is =
    ap₂ (λ (a b : ℕ). (a + b) % 2 ^ 64) so_far is
    ∙ mod-add-mod (fields_counted st place m f) (2 ^ 64) (number_in_content (field_content st place m f))
    ∙ ap (λ (n : ℕ). n % 2 ^ 64) (sym (sum_by-map-range_with_len_more number_in_content (field_content st place m) 0 f f (zero-add f)))

-- ---- the object at a place

number_named : (serial : ℕ → ℕ) (c : Content) → number_in_value (value_of serial c) ≡ number_in_content c
number_named serial (Number v) = refl
number_named serial Null = refl
number_named serial (At p) = refl
number_named serial Nowhere = refl

numbers_named : (serial : ℕ → ℕ) (contents : List Content) → sum_by number_in_value (map (value_of serial) contents) ≡ sum_by number_in_content contents
numbers_named serial [] = refl
numbers_named serial (c ∷ contents) =
    sum_by-cons number_in_value (value_of serial c) (map (value_of serial) contents)
    ∙ ap₂ (λ (a b : ℕ). a + b) (number_named serial c) (numbers_named serial contents)
    ∙ sym (sum_by-cons number_in_content c contents)

numbers_there : (serial : ℕ → ℕ) (o : Option (List Content)) → sum_by number_in_value (map (value_of serial) (contents_or_none o)) ≡ contents_sum o
numbers_there serial None = refl
numbers_there serial (Some contents) = numbers_named serial contents

-- A free place adds 0.
pub numbers_at-free : (t : Table) (p : ℕ) → t.serial p ≡ 0 → numbers_at t p ≡ 0
numbers_at-free t p free = ap numbers_under (under_serial-free t.serial (object_at t) p free)

-- A live place adds the sum of its number fields.
pub numbers_at-live : (t : Table) (p : ℕ) → t.serial p ≢ 0 → numbers_at t p ≡ contents_sum (t.contents p)
numbers_at-live t p used = ap numbers_under (under_serial-used t.serial (object_at t) p used) ∙ numbers_there t.serial (t.contents p)

-- ---- what was summed at a place

pub place_sum-free : (check : SlotCheck) (t : Table) (p : ℕ) → t.serial p ≡ 0 → place_sum check t p ≡ Some 0
place_sum-free check t p free = ap₂ (λ b (n : ℕ). then_some b (n % 2 ^ 64)) (place_passes-free check t p free) (numbers_at-free t p free)

pub place_sum-refused : (check : SlotCheck) (t : Table) (p : ℕ) → t.serial p ≢ 0 → serial_passes check (t.serial p) ≡ false → place_sum check t p ≡ None
place_sum-refused check t p live refused = ap (λ b. then_some b (numbers_at t p % 2 ^ 64)) (place_passes-refused check t p live refused)

pub place_sum-live : (check : SlotCheck) (t : Table) (p : ℕ) → t.serial p ≢ 0 → serial_passes check (t.serial p) ≡ true → place_sum check t p ≡ fields_sum check t.serial (t.contents p)
place_sum-live check t p live taken = ap₂ (λ b (n : ℕ). then_some b (n % 2 ^ 64)) (place_passes-live check t p live taken) (numbers_at-live t p live)

-- ---- all places

numbers_below-next : (t : Table) (p : ℕ) → numbers_below t (p + 1) ≡ numbers_below t p + numbers_at t p
numbers_below-next t p =
    ap (sum_by (numbers_at t)) (sym (map-id (range_with_len 0 (p + 1))))
    ∙ sum_by-map-range_with_len_more (numbers_at t) (λ k. k) 0 p p (zero-add p)
    ∙ ap (λ ps. sum_by (numbers_at t) ps + numbers_at t p) (map-id (range_with_len 0 p))

-- One more place is added.
pub numbers_below-more : (t : Table) (p sum numbers : ℕ) → sum ≡ numbers_below t p % 2 ^ 64 → numbers ≡ numbers_at t p % 2 ^ 64 → (sum + numbers) % 2 ^ 64 ≡ numbers_below t (p + 1) % 2 ^ 64
numbers_below-more t p sum numbers so_far is =
    ap₂ (λ (a b : ℕ). (a + b) % 2 ^ 64) so_far is
    ∙ mod-add-mod (numbers_below t p) (2 ^ 64) (numbers_at t p % 2 ^ 64)
    ∙ add-mod-mod (numbers_below t p) (numbers_at t p) (2 ^ 64)
    ∙ ap (λ (n : ℕ). n % 2 ^ 64) (sym (numbers_below-next t p))

-- A free place adds nothing.
pub numbers_below-free : (t : Table) (p : ℕ) → t.serial p ≡ 0 → numbers_below t (p + 1) ≡ numbers_below t p
numbers_below-free t p free = let next = numbers_below-next t p in let none = numbers_at-free t p free in omega (arith, next, none)

-- A place passed, and this is what it adds.
pub place_summed : (check : SlotCheck) (t : Table) (p numbers : ℕ) (o : Option ℕ) → o ≡ place_sum check t p → o ≡ Some numbers → (place_passes check t p ≡ true) × (numbers_at t p % 2 ^ 64 ≡ numbers)
place_summed check t p numbers o is some = then_some-some (place_passes check t p) (numbers_at t p % 2 ^ 64) numbers (sym is ∙ some)

-- If a place does not pass, there is no sum.
pub places_sum-refused : (check : SlotCheck) (t : Table) (n p : ℕ) (o : Option ℕ) → p < n → o ≡ place_sum check t p → o ≡ None → None ≡ places_sum check t n
places_sum-refused check t n p o below is none =
    ap (λ b. then_some b (numbers_below t n % 2 ^ 64)) (sym (all_below-fails n p (place_passes check t) below (then_some-none (place_passes check t p) (numbers_at t p % 2 ^ 64) (sym is ∙ none))))

pub places_sum-all : (check : SlotCheck) (t : Table) (n p sum : ℕ) → p ≡ n → all_below p (place_passes check t) ≡ true → sum ≡ numbers_below t p % 2 ^ 64 → Some sum ≡ places_sum check t n
places_sum-all check t n p sum all passed summed = ap₂ (λ b m. then_some b m) (sym passed) summed ∙ ap (places_sum check t) all

-- ---- the graph

worth_under : (o : Option (ℕ × Object)) → worth nat_cmp (λ (e : ℕ × Object). numbers_of e.1) o ≡ numbers_under o
worth_under None = refl
worth_under (Some e) = refl

pub sum_places-listed : (h : ℕ → ℕ) (from count : ℕ) → sum_places h from count ≡ sum_by h (range_with_len from count)
unfolding sum_places
sum_places-listed h from zero = refl
sum_places-listed h from (suc count) = ap (λ n. h from + n) (sum_places-listed h (from + 1) count) ∙ sym (sum_by-cons h from (range_with_len (from + 1) count))

-- The sum over the objects of a graph is the sum over the places of its pool.
pub number_sum-places : (types : List (ℕ × ℕ)) (st : Stored) (g : Graph) → graph_of types st ≡ Some g → numbers_below (table_of types st) (places_of st) % 2 ^ 64 ≡ number_sum g
number_sum-places types st g is =
    let h = graph_of-each types st g is in
    let t = table_of types st in
    let n = places_of st in
    sym (ap number_sum (sym h.is)
    ∙ ap (λ (m : ℕ). m % 2 ^ 64)
    (sum-keyed nat_cmp (λ (e : ℕ × Object). numbers_of e.1) nat_cmp_total (live t) 0 n (distinct_live t n h.graph.distinct)
    ∙ sum_places-same _ (numbers_at t) 0 n (λ j low high. worth_under (live t j))
    ∙ sum_places-listed (numbers_at t) 0 n))
