-- Puddles that one number each tells apart. One test then serves all pools, and the marks of a pool's ordinals tell
-- whether its puddles are counted.
use Rattle.std.proofs.Common.{◌≡◌, inl, inr, ℕ, zero, suc, ◌+◌, ◌-◌, ◌%◌, ◌^◌, ◌<◌, ◌≤◌, Bool, true, false, not, ◌&&◌, ◌||◌, cond, leb, ltb, eqb, List, [], ◌∷◌, map, length, Option, Some, None, is_some, is_none, refl, sym, ap, ap₂, ◌∙◌, arith, eq-eqb, ne_eqb, true≢false}
use Rattle.std.specs.Prelude.{option_map}
use Rattle.std.specs.Option.{option_or}
use Rattle.std.specs.Ordering.{nat_cmp, eq_by_cmp, is_lt}
use Rattle.std.specs.declared.cmp.Ordering.TheVariants.{Less, Equal, Greater}
use Rattle.std.specs.Cmp.{unsigned_tied}
use Rattle.std.specs.FinMap.Entries.{find, below_all, is_sorted}
use Rattle.std.proofs.lemmas.Cmp.{nat_cmp_total}
use Rattle.std.proofs.lemmas.Bool.{and_parts, and_from, or_cases, or_left, or_right, or_from, cases_Bool, cases_eq, cases_lt, cond-false, eqb-true, ltb-true, leb-true, lt-ltb, le-ltb, le-leb, not_from_false, not-true, false_from_ne_true}
use Rattle.std.proofs.lemmas.Bool.Decides.{same_from_decides, nat_tests}
use Rattle.std.proofs.lemmas.Option.{none-some}
use Rattle.pud_defs.specs.declared.records.TheConstants.{POOL_RECORDS, MAX_PUDDLES}
use Rattle.pud_defs.specs.declared.records.Puddle.{Puddle}
use Rattle.pud_defs.specs.Formats.Image.{Image}
use Rattle.pud_defs.specs.RegistryTables.Spaces.{all_below}
use Rattle.pud_defs.specs.RegistryTables.Keyed.{keyed, under, first_from, is_apart, are_distinct}
use Rattle.pud_defs.specs.Formats.Bases.{is_legal_base}
use Rattle.pud_defs.specs.Formats.Geometry.{is_legal_class, is_legal_frontier}
use Rattle.pud_defs.specs.RegistryTables.Pools.{is_given}
use Rattle.pud_defs.specs.RegistryTables.Puddles.{Member, is_legal_puddle}
use Rattle.pud_defs.specs.RegistryTables.Tables.{Tables, tables_of, member_of, members, puddles_of}
use Rattle.pud_defs.specs.RegistryTables.SoundTables.{is_pool, is_legal_member, is_sound_puddle, has_legal_puddles, has_distinct_old_bases, has_distinct_ordinals, count_up, are_counted}
use Rattle.pud_defs.proofs.RegistryTables.Spaces.{all_below-from, all_below-each}
use Rattle.pud_defs.proofs.KeyedTables.Keyed.{find-keyed, is_sorted-keyed}
use Rattle.pud_defs.proofs.RegistryTables.TablesOf.{puddles_beyond}
use Rattle.std.proofs.Math.Bool.{or-false}
use Rattle.pud_defs.proofs.RegistryTables.TypeLists.{true_when}

-- ---- tests

-- two tests of one fact are equal
pub same_tests : (a b : Bool) → (a ≡ true → b ≡ true) → (b ≡ true → a ≡ true) → a ≡ b
same_tests a b to back = let P : Type 0 = b ≡ true in same_from_decides {P = P} a b (to, back) ((λ h. h), (λ h. h))

pub eqb_turned : (x y : ℕ) → eqb x y ≡ eqb y x
eqb_turned x y = grind (arith, nat_tests)

pub some_or : {A : Type 0} (o later : Option A) → is_some (option_or o later) ≡ (is_some o || is_some later)
some_or None later = refl
some_or (Some x) later = refl

some_cond : {A : Type 0} (b : Bool) (x : A) (later : Option A) → is_some (cond b (Some x) later) ≡ (b || is_some later)
some_cond true x later = refl
some_cond false x later = refl

pub none_by_some : {A : Type 0} (o : Option A) → is_none o ≡ not (is_some o)
none_by_some None = refl
none_by_some (Some x) = refl

pub all_below-and : (n : ℕ) (f g : ℕ → Bool) → all_below n (λ k. f k && g k) ≡ (all_below n f && all_below n g)
all_below-and n f g = same_tests (all_below n (λ k. f k && g k)) (all_below n f && all_below n g)
    (λ h. and_from (all_below n f) (all_below n g)
    (all_below-from n f (λ k below. (and_parts (f k) (g k) (all_below-each n (λ j. f j && g j) h k below)).0))
    (all_below-from n g (λ k below. (and_parts (f k) (g k) (all_below-each n (λ j. f j && g j) h k below)).1)))
    (λ h. let parts = and_parts (all_below n f) (all_below n g) h in
    all_below-from n (λ k. f k && g k) (λ k below. and_from (f k) (g k) (all_below-each n f parts.0 k below) (all_below-each n g parts.1 k below)))

-- a test that holds for all numbers but one is decided by that one
pub all_below-one : (n k : ℕ) (f : ℕ → Bool) → k < n → ((j : ℕ) → (j ≡ k → ⊥) → f j ≡ true) → all_below n f ≡ f k
all_below-one n k f below others = same_tests (all_below n f) (f k)
    (λ h. all_below-each n f h k below)
    (λ h. all_below-from n f (λ j _. elim (cases_eq j k) [ inl e ↦ ap f e ∙ h | inr other ↦ others j other ]))

-- ---- records under a number

pub some_under : {Y : Type 0} (q k : ℕ) (y : Y) → is_some (under nat_cmp q (Some (k, y))) ≡ eqb q k
some_under q k y = some_cond (eq_by_cmp nat_cmp q k) y None ∙ or-false (eq_by_cmp nat_cmp q k) ∙ unsigned_tied q k

-- if one table has records under p at the places where another has records under q, both look-ups find something, or
-- neither does
pub first_from-alike : {X Y : Type 0} (p q : ℕ) (f : ℕ → Option (ℕ × X)) (g : ℕ → Option (ℕ × Y)) (from count : ℕ)
    → ((j : ℕ) → is_some (under nat_cmp p (f j)) ≡ is_some (under nat_cmp q (g j)))
    → is_some (first_from nat_cmp p f from count) ≡ is_some (first_from nat_cmp q g from count)
unfolding first_from
first_from-alike p q f g from zero same = refl
first_from-alike p q f g from (suc count) same =
    some_or (under nat_cmp p (f from)) (first_from nat_cmp p f (from + 1) count)
    ∙ ap₂ (λ (a b : Bool). a || b) (same from) (first_from-alike p q f g (from + 1) count same)
    ∙ sym (some_or (under nat_cmp q (g from)) (first_from nat_cmp q g (from + 1) count))

-- nothing is found under a number that no place has
pub first_from-nowhere : {X : Type 0} (q : ℕ) (f : ℕ → Option (ℕ × X)) (from count : ℕ) → ((j : ℕ) → is_some (under nat_cmp q (f j)) ≡ false) → is_some (first_from nat_cmp q f from count) ≡ false
unfolding first_from
first_from-nowhere q f from zero none = refl
first_from-nowhere q f from (suc count) none =
    some_or (under nat_cmp q (f from)) (first_from nat_cmp q f (from + 1) count)
    ∙ or_from (is_some (under nat_cmp q (f from))) (is_some (first_from nat_cmp q f (from + 1) count)) (none from) (first_from-nowhere q f (from + 1) count none)

-- ---- the records of one pool

-- what a record gives, if it belongs to the pool in the slot
abbrev pub in_pool : {X : Type 0} → ℕ → (Member → ℕ × X) → Option Member → Option (ℕ × X)
in_pool slot entry None = None
in_pool slot entry (Some m) = cond (eqb m.pool (slot + 1)) (Some (entry m)) None

module _ {X : Type 0} (at : ℕ → Option Member) (key number : Member → ℕ) (value : ℕ → Member → X) where
  -- the records of a pool under their keys, and all records under their numbers
  abbrev pub keys_of : ℕ → ℕ → Option (ℕ × X)
  keys_of slot j = in_pool slot (λ m. (key m, value j m)) (at j)

  abbrev pub numbers : ℕ → Option (ℕ × ℕ)
  numbers j = option_map (λ m. (number m, j)) (at j)

  -- a record has the number p exactly if it belongs to the slot's pool and has the key q
  pub record Numbers (slot q p : ℕ) : Type 0 where
    pub same : (j : ℕ) (m : Member) → at j ≡ Some m → (eqb m.pool (slot + 1) && eqb q (key m)) ≡ eqb p (number m)

  under-in_pool : (slot q p j : ℕ) (o : Option Member) → ((m : Member) → o ≡ Some m → (eqb m.pool (slot + 1) && eqb q (key m)) ≡ eqb p (number m))
      → is_some (under nat_cmp q (in_pool slot (λ m. (key m, value j m)) o)) ≡ is_some (under nat_cmp p (option_map (λ m. (number m, j)) o))
  under-in_pool slot q p j None same = refl
  under-in_pool slot q p j (Some m) same =
      elim (eqb m.pool (slot + 1)) as (λ b. is_some (under nat_cmp q (cond b (Some (key m, value j m)) None)) ≡ (b && eqb q (key m))) [
        | true ↦ some_under q (key m) (value j m)
        | false ↦ refl
      ]
      ∙ same m refl
      ∙ sym (some_under p (number m) j)

  pub first_from-in_pool : (slot q p from count : ℕ) → Numbers slot q p → is_some (first_from nat_cmp q (keys_of slot) from count) ≡ is_some (first_from nat_cmp p numbers from count)
  first_from-in_pool slot q p from count h = first_from-alike q p (keys_of slot) numbers from count (λ j. under-in_pool slot q p j (at j) (h.same j))

  -- the pool of the record is one of the table, and another record has its number exactly if it has its pool and its
  -- key
  pub record IsTold (m : Member) : Type 0 where
    pub low : 1 ≤ m.pool
    pub high : m.pool ≤ POOL_RECORDS
    pub same : (j : ℕ) (other : Member) → at j ≡ Some other → (eqb other.pool m.pool && eqb (key m) (key other)) ≡ eqb (number m) (number other)

  numbers_of : (m : Member) → IsTold m → Numbers (m.pool - 1) (key m) (number m)
  numbers_of m told = record {
    same = λ j other is.
        let low = told.low in
        let e : (m.pool - 1) + 1 ≡ m.pool = omega arith in
        ap (λ (n : ℕ). eqb other.pool n && eqb (key m) (key other)) e ∙ told.same j other is;
  }

  -- in each pool a record is told apart by its key from those after it, exactly if its number tells it apart from them
  apart_in_all : (i from count : ℕ) (o : Option Member) → ((m : Member) → o ≡ Some m → IsTold m)
      → all_below POOL_RECORDS (λ slot. is_apart nat_cmp (in_pool slot (λ m. (key m, value i m)) o) (keys_of slot) from count) ≡ is_apart nat_cmp (option_map (λ m. (number m, i)) o) numbers from count
  apart_in_all i from count None told = all_below-from POOL_RECORDS (λ slot. true) (λ k below. refl)
  apart_in_all i from count (Some m) told =
      let t = told m refl in
      let low = t.low in
      let high = t.high in
      let slot = m.pool - 1 in
      let entry : ℕ × X = (key m, value i m) in
      all_below-one POOL_RECORDS slot (λ k. is_apart nat_cmp (cond (eqb m.pool (k + 1)) (Some entry) None) (keys_of k) from count) (omega arith)
      (λ k other. ap (λ (b : Bool). is_apart nat_cmp (cond b (Some entry) None) (keys_of k) from count) (ne_eqb m.pool (k + 1) (λ e. other (omega arith))))
      ∙ ap (λ (b : Bool). is_apart nat_cmp (cond b (Some entry) None) (keys_of slot) from count) (eq-eqb m.pool (slot + 1) (omega arith))
      ∙ none_by_some (first_from nat_cmp (key m) (keys_of slot) from count)
      ∙ ap not (first_from-in_pool slot (key m) (number m) from count (numbers_of m t))
      ∙ sym (none_by_some (first_from nat_cmp (number m) numbers from count))

  pub distinct_in_all : ((j : ℕ) (m : Member) → at j ≡ Some m → IsTold m) → (from count : ℕ)
      → all_below POOL_RECORDS (λ slot. are_distinct nat_cmp (keys_of slot) from count) ≡ are_distinct nat_cmp numbers from count
  unfolding are_distinct
  distinct_in_all told from zero = all_below-from POOL_RECORDS (λ slot. true) (λ k below. refl)
  distinct_in_all told from (suc count) =
      all_below-and POOL_RECORDS (λ slot. is_apart nat_cmp (keys_of slot from) (keys_of slot) (from + 1) count) (λ slot. are_distinct nat_cmp (keys_of slot) (from + 1) count)
      ∙ ap₂ (λ (a b : Bool). a && b) (apart_in_all from (from + 1) count (at from) (told from)) (distinct_in_all told (from + 1) count)

-- ---- old bases and ordinals

members-in_pool : (slot j : ℕ) (o : Option Member) → member_of slot j o ≡ in_pool slot (λ m. (m.ordinal, (j, m.puddle))) o
members-in_pool slot j None = refl
members-in_pool slot j (Some m) = refl

abbrev by_old_base : ℕ → ℕ × (ℕ × Puddle) → ℕ × ℕ
by_old_base j p = (p.1.1.old_base, j)

old_bases-in_pool : (slot j : ℕ) (o : Option Member) → option_map (by_old_base j) (member_of slot j o) ≡ in_pool slot (λ m. (m.puddle.old_base, j)) o
old_bases-in_pool slot j None = refl
old_bases-in_pool slot j (Some m) =
    elim (eqb m.pool (slot + 1)) as (λ b. option_map (by_old_base j) (cond b (Some (m.ordinal, (j, m.puddle))) None) ≡ cond b (Some (m.puddle.old_base, j)) None) [
      | true ↦ refl
      | false ↦ refl
    ]

pub distinct_old_bases : (t : Tables) (number : Member → ℕ) → ((j : ℕ) (m : Member) → t.puddles j ≡ Some m → IsTold {X = ℕ} t.puddles (λ m. m.puddle.old_base) number (λ j m. j) m)
    → has_distinct_old_bases t ≡ are_distinct nat_cmp (λ j. option_map (λ m. (number m, j)) (t.puddles j)) 0 t.frames
unfolding has_distinct_old_bases
distinct_old_bases t number told =
    ap (λ (at : ℕ → ℕ → Option (ℕ × ℕ)). all_below POOL_RECORDS (λ slot. are_distinct nat_cmp (at slot) 0 t.frames)) (λ p slot j. old_bases-in_pool slot j (t.puddles j) p)
    ∙ distinct_in_all {X = ℕ} t.puddles (λ m. m.puddle.old_base) number (λ j m. j) told 0 t.frames

pub distinct_ordinals : (t : Tables) (number : Member → ℕ) → ((j : ℕ) (m : Member) → t.puddles j ≡ Some m → IsTold {X = ℕ × Puddle} t.puddles (λ m. m.ordinal) number (λ j m. (j, m.puddle)) m)
    → has_distinct_ordinals t ≡ are_distinct nat_cmp (λ j. option_map (λ m. (number m, j)) (t.puddles j)) 0 t.frames
unfolding has_distinct_ordinals
distinct_ordinals t number told =
    ap (λ (at : ℕ → ℕ → Option (ℕ × (ℕ × Puddle))). all_below POOL_RECORDS (λ slot. are_distinct nat_cmp (at slot) 0 t.frames)) (λ p slot j. members-in_pool slot j (t.puddles j) p)
    ∙ distinct_in_all {X = ℕ × Puddle} t.puddles (λ m. m.ordinal) number (λ j m. (j, m.puddle)) told 0 t.frames

-- a pool has an ordinal exactly if some record has the number of both
pub found_ordinal : (t : Tables) (number : Member → ℕ) (slot k p : ℕ) → Numbers {X = ℕ × Puddle} t.puddles (λ m. m.ordinal) number (λ j m. (j, m.puddle)) slot k p
    → is_some (first_from nat_cmp k (members t slot) 0 t.frames) ≡ is_some (first_from nat_cmp p (λ j. option_map (λ m. (number m, j)) (t.puddles j)) 0 t.frames)
found_ordinal t number slot k p h =
    ap (λ (at : ℕ → Option (ℕ × (ℕ × Puddle))). is_some (first_from nat_cmp k at 0 t.frames)) (λ q j. members-in_pool slot j (t.puddles j) q)
    ∙ first_from-in_pool {X = ℕ × Puddle} t.puddles (λ m. m.ordinal) number (λ j m. (j, m.puddle)) slot k p 0 t.frames h

-- ---- counted ordinals

no_less : (b : Bool) → is_lt (cond b Equal Greater) ≡ false
no_less true = refl
no_less false = refl

less_by : (x y : ℕ) → is_lt (nat_cmp x y) ≡ true → x < y
less_by x y h = elim (cases_Bool (ltb x y)) [
  | inl less ↦ ltb-true x y less
  | inr more ↦ absurd (true≢false (sym h ∙ ap (λ (b : Bool). is_lt (cond b Less (cond (eqb x y) Equal Greater))) more ∙ no_less (eqb x y)))
]

-- k is `from` or one of the n numbers after it, exactly if it is one of n + 1 numbers from `from` on
one_more : (k from n : ℕ) → (eqb k from || (leb (from + 1) k && ltb k ((from + 1) + n))) ≡ (leb from k && ltb k (from + suc n))
one_more k from n = same_tests (eqb k from || (leb (from + 1) k && ltb k ((from + 1) + n))) (leb from k && ltb k (from + suc n))
    (λ h. elim (or_cases (eqb k from) (leb (from + 1) k && ltb k ((from + 1) + n)) h) [
      | inl here ↦ let e = eqb-true k from here in and_from (leb from k) (ltb k (from + suc n)) (le-leb from k (omega arith)) (lt-ltb k (from + suc n) (omega arith))
      | inr later ↦
          let parts = and_parts (leb (from + 1) k) (ltb k ((from + 1) + n)) later in
          let low = leb-true (from + 1) k parts.0 in
          let high = ltb-true k ((from + 1) + n) parts.1 in
          and_from (leb from k) (ltb k (from + suc n)) (le-leb from k (omega arith)) (lt-ltb k (from + suc n) (omega arith))
    ])
    (λ h.
    let parts = and_parts (leb from k) (ltb k (from + suc n)) h in
    let low = leb-true from k parts.0 in
    let high = ltb-true k (from + suc n) parts.1 in
    elim (cases_eq k from) [
      | inl e ↦ or_left (eqb k from) (leb (from + 1) k && ltb k ((from + 1) + n)) (eq-eqb k from e)
      | inr other ↦ or_right (eqb k from) (leb (from + 1) k && ltb k ((from + 1) + n)) (and_from (leb (from + 1) k) (ltb k ((from + 1) + n)) (le-leb (from + 1) k (omega arith)) (lt-ltb k ((from + 1) + n) (omega arith)))
    ])

none_left : (from k : ℕ) → (leb from k && ltb k (from + 0)) ≡ false
none_left from k = false_from_ne_true (leb from k && ltb k (from + 0)) (λ h.
    let parts = and_parts (leb from k) (ltb k (from + 0)) h in
    let low = leb-true from k parts.0 in
    let high = ltb-true k (from + 0) parts.1 in
    absurd (omega arith))

-- of 16 numbers the first is marked, and each other marked number follows a marked one
abbrev pub counts : (ℕ → Bool) → Bool
counts mark = all_below 15 (λ k. mark k || not (mark (k + 1))) && mark 0

-- the marked numbers are the keys that are found, and all of these are below 16
pub record AreKeys (mark : ℕ → Bool) (has : ℕ → Bool) : Type 0 where
  pub same : (k : ℕ) → k < 16 → has k ≡ mark k
  pub none : (k : ℕ) → 16 ≤ k → has k ≡ false

module _ {X : Type 0} where
  found : (k : ℕ) (e : ℕ × X) (es : List (ℕ × X)) → is_some (find nat_cmp k (e ∷ es)) ≡ (eqb k e.0 || is_some (find nat_cmp k es))
  found k e es = some_cond (eq_by_cmp nat_cmp k e.0) e.1 (find nat_cmp k es) ∙ ap (λ (b : Bool). b || is_some (find nat_cmp k es)) (unsigned_tied k e.0)

  -- a key that is found in a list is above each number that is below all keys of the list
  above : (x k : ℕ) (es : List (ℕ × X)) → below_all nat_cmp x es ≡ true → is_some (find nat_cmp k es) ≡ true → x < k
  above x k [] below some = absurd (true≢false (sym some))
  above x k (e ∷ es) below some =
      let parts = and_parts (is_lt (nat_cmp x e.0)) (below_all nat_cmp x es) below in
      elim (or_cases (eqb k e.0) (is_some (find nat_cmp k es)) (sym (found k e es) ∙ some)) [
        | inl here ↦ let same = eqb-true k e.0 here in let less = less_by x e.0 parts.0 in omega arith
        | inr later ↦ above x k es parts.1 later
      ]

  -- if the keys count up from `from`, those that are found are `from` and the numbers after it, as many as there are
  -- entries
  found_by_count : (from k : ℕ) (es : List (ℕ × X)) → count_up from (map (λ e. e.0) es) ≡ true → is_some (find nat_cmp k es) ≡ (leb from k && ltb k (from + length es))
  unfolding count_up
  found_by_count from k [] h = sym (none_left from k)
  found_by_count from k (e ∷ es) h =
      let parts = and_parts (eqb e.0 from) (count_up (from + 1) (map (λ d. d.0) es)) h in
      found k e es
      ∙ ap₂ (λ (n : ℕ) (b : Bool). eqb k n || b) (eqb-true e.0 from parts.0) (found_by_count (from + 1) k es parts.1)
      ∙ one_more k from (length es)

  -- keys in order count up from `from` if none is below it and each later one has the one before it
  counted_by_found : (from : ℕ) (es : List (ℕ × X)) → is_sorted nat_cmp es ≡ true → ((k : ℕ) → is_some (find nat_cmp k es) ≡ true → from ≤ k)
      → ((k : ℕ) → from ≤ k → is_some (find nat_cmp (k + 1) es) ≡ true → is_some (find nat_cmp k es) ≡ true) → count_up from (map (λ e. e.0) es) ≡ true
  unfolding count_up
  counted_by_found from [] sorted low closed = refl
  counted_by_found from (e ∷ es) sorted low closed =
      let parts = and_parts (below_all nat_cmp e.0 es) (is_sorted nat_cmp es) sorted in
      let own : is_some (find nat_cmp e.0 (e ∷ es)) ≡ true = found e.0 e es ∙ or_left (eqb e.0 e.0) (is_some (find nat_cmp e.0 es)) (eq-eqb e.0 e.0 refl) in
      let least : from ≤ e.0 = low e.0 own in
      let first : e.0 ≡ from = elim (cases_eq e.0 from) [
        | inl same ↦ same
        | inr other ↦
            let k : ℕ = e.0 - 1 in
            let next : k + 1 ≡ e.0 = omega arith in
            let before : is_some (find nat_cmp k (e ∷ es)) ≡ true = closed k (omega arith) (ap (λ (n : ℕ). is_some (find nat_cmp n (e ∷ es))) next ∙ own) in
            elim (or_cases (eqb k e.0) (is_some (find nat_cmp k es)) (sym (found k e es) ∙ before)) [
              | inl here ↦ let same = eqb-true k e.0 here in absurd (omega arith)
              | inr later ↦ let less = above e.0 k es parts.0 later in absurd (omega arith)
            ]
      ] in
      and_from (eqb e.0 from) (count_up (from + 1) (map (λ d. d.0) es)) (eq-eqb e.0 from first)
      (counted_by_found (from + 1) es parts.1
      (λ k some. let less = above e.0 k es parts.0 some in omega arith)
      (λ k from_here some.
      let also : is_some (find nat_cmp (k + 1) (e ∷ es)) ≡ true = found (k + 1) e es ∙ or_right (eqb (k + 1) e.0) (is_some (find nat_cmp (k + 1) es)) some in
      elim (or_cases (eqb k e.0) (is_some (find nat_cmp k es)) (sym (found k e es) ∙ closed k (omega arith) also)) [
        | inl here ↦ let same = eqb-true k e.0 here in absurd (omega arith)
        | inr later ↦ later
      ]))

  counted_by_keys : (mark : ℕ → Bool) (es : List (ℕ × X)) → is_sorted nat_cmp es ≡ true → AreKeys mark (λ k. is_some (find nat_cmp k es))
      → (leb 1 (length es) && leb (length es) 16 && count_up 0 (map (λ e. e.0) es)) ≡ counts mark
  counted_by_keys mark es sorted keys = same_tests (leb 1 (length es) && leb (length es) 16 && count_up 0 (map (λ e. e.0) es)) (counts mark)
      (λ h.
      let parts = and_parts (leb 1 (length es) && leb (length es) 16) (count_up 0 (map (λ e. e.0) es)) h in
      let sizes = and_parts (leb 1 (length es)) (leb (length es) 16) parts.0 in
      let some = leb-true 1 (length es) sizes.0 in
      let few = leb-true (length es) 16 sizes.1 in
      let here : (k : ℕ) → k < 16 → mark k ≡ (leb 0 k && ltb k (0 + length es)) = λ k below. sym (keys.same k below) ∙ found_by_count 0 k es parts.1 in
      and_from (all_below 15 (λ k. mark k || not (mark (k + 1)))) (mark 0)
      (all_below-from 15 (λ k. mark k || not (mark (k + 1))) (λ k below. elim (cases_Bool (mark (k + 1))) [
        | inr free ↦ or_right (mark k) (not (mark (k + 1))) (not_from_false (mark (k + 1)) free)
        | inl marked ↦
            let next = ltb-true (k + 1) (0 + length es) (and_parts (leb 0 (k + 1)) (ltb (k + 1) (0 + length es)) (sym (here (k + 1) (omega arith)) ∙ marked)).1 in
            or_left (mark k) (not (mark (k + 1))) (here k (omega arith) ∙ and_from (leb 0 k) (ltb k (0 + length es)) (le-leb 0 k (omega arith)) (lt-ltb k (0 + length es) (omega arith)))
      ]))
      (here 0 (omega arith) ∙ and_from (leb 0 0) (ltb 0 (0 + length es)) (le-leb 0 0 (omega arith)) (lt-ltb 0 (0 + length es) (omega arith))))
      (λ h.
      let parts = and_parts (all_below 15 (λ k. mark k || not (mark (k + 1)))) (mark 0) h in
      let closed : (k : ℕ) → 0 ≤ k → is_some (find nat_cmp (k + 1) es) ≡ true → is_some (find nat_cmp k es) ≡ true = λ k _ some. elim (cases_lt (k + 1) 16) [
        | inr high ↦ absurd (true≢false (sym some ∙ keys.none (k + 1) high))
        | inl below ↦ elim (or_cases (mark k) (not (mark (k + 1))) (all_below-each 15 (λ j. mark j || not (mark (j + 1))) parts.0 k (omega arith))) [
          | inl marked ↦ keys.same k (omega arith) ∙ marked
          | inr free ↦ absurd (true≢false (sym some ∙ keys.same (k + 1) below ∙ not-true (mark (k + 1)) free))
        ]
      ] in
      let counted = counted_by_found 0 es sorted (λ k _. omega arith) closed in
      let some : is_some (find nat_cmp 0 es) ≡ true = keys.same 0 (omega arith) ∙ parts.1 in
      let least = ltb-true 0 (0 + length es) (and_parts (leb 0 0) (ltb 0 (0 + length es)) (sym (found_by_count 0 0 es counted) ∙ some)).1 in
      let few : length es ≤ 16 = elim (cases_lt 16 (length es)) [
        | inr most ↦ most
        | inl more ↦ absurd (true≢false (sym (found_by_count 0 16 es counted ∙ and_from (leb 0 16) (ltb 16 (0 + length es)) (le-leb 0 16 (omega arith)) (lt-ltb 16 (0 + length es) (omega arith))) ∙ keys.none 16 (omega arith)))
      ] in
      and_from (leb 1 (length es) && leb (length es) 16) (count_up 0 (map (λ e. e.0) es))
      (and_from (leb 1 (length es)) (leb (length es) 16) (le-leb 1 (length es) (omega arith)) (le-leb (length es) 16 few)) counted)

-- the puddles of a pool are counted exactly if the marks of their ordinals pass `counts`
pub counted_by_marks : (t : Tables) (slot : ℕ) (mark : ℕ → Bool) → AreKeys mark (λ k. is_some (first_from nat_cmp k (members t slot) 0 t.frames)) → are_counted (puddles_of t slot) ≡ counts mark
unfolding puddles_of
counted_by_marks t slot mark keys =
    let es = keyed nat_cmp (members t slot) 0 t.frames in
    let same : (k : ℕ) → is_some (find nat_cmp k es) ≡ is_some (first_from nat_cmp k (members t slot) 0 t.frames) = λ k. ap is_some (find-keyed nat_cmp nat_cmp_total k (members t slot) 0 t.frames) in
    counted_by_keys {X = ℕ × Puddle} mark es (true_when (is_sorted nat_cmp es) (is_sorted-keyed nat_cmp nat_cmp_total (members t slot) 0 t.frames))
    (record { same = λ k below. same k ∙ keys.same k below; none = λ k high. same k ∙ keys.none k high })

-- ---- legal records

-- the bounds of a legal record's numbers
pub record IsSmall (m : Member) : Type 0 where
  pub low : 1 ≤ m.pool
  pub high : m.pool ≤ POOL_RECORDS
  pub ordinal : m.ordinal < MAX_PUDDLES
  pub old_base : m.puddle.old_base < 2 ^ 45

small_by : (next : ℕ) (t : Tables) (m : Member) → ((slot : ℕ) → POOL_RECORDS ≤ slot → t.pools slot ≡ None) → is_legal_member next t m ≡ true → IsSmall m
small_by next t m masked legal =
    let parts = and_parts (is_pool t m.pool && ltb m.ordinal MAX_PUDDLES) (is_legal_puddle next m.puddle) legal in
    let whose = and_parts (is_pool t m.pool) (ltb m.ordinal MAX_PUDDLES) parts.0 in
    let pool = and_parts (not (eqb m.pool 0)) (is_some (t.pools (m.pool - 1))) whose.0 in
    let rest = and_parts (is_given next m.puddle.number && is_legal_base m.puddle.base && is_legal_base m.puddle.old_base) (is_legal_class m.puddle && is_legal_frontier m.puddle) parts.1 in
    let old = (and_parts (is_given next m.puddle.number && is_legal_base m.puddle.base) (is_legal_base m.puddle.old_base) rest.0).1 in
    let within = and_parts (leb 17592186044416 m.puddle.old_base && ltb m.puddle.old_base (17592186044416 + 1099511627776)) (eqb (m.puddle.old_base % 16384) 0) old in
    let below = ltb-true m.puddle.old_base (17592186044416 + 1099511627776) (and_parts (leb 17592186044416 m.puddle.old_base) (ltb m.puddle.old_base (17592186044416 + 1099511627776)) within.0).1 in
    record {
      low = elim (cases_eq m.pool 0) [
        | inr other ↦ omega arith
        | inl zero_pool ↦ absurd (true≢false (sym pool.0 ∙ ap not (eq-eqb m.pool 0 zero_pool)))
      ];
      high = elim (cases_lt POOL_RECORDS m.pool) [
        | inr most ↦ most
        | inl more ↦ absurd (true≢false (sym pool.1 ∙ ap is_some (masked (m.pool - 1) (omega arith))))
      ];
      ordinal = ltb-true m.ordinal MAX_PUDDLES whose.1;
      old_base = omega arith;
    }

pub small_in_tables : (F : ℕ) (image : Image) (next : ℕ) → has_legal_puddles next (tables_of F image) ≡ true → (j : ℕ) (m : Member) → (tables_of F image).puddles j ≡ Some m → IsSmall m
unfolding has_legal_puddles tables_of
small_in_tables F image next legal j m is = elim (cases_lt j F) [
  | inr past ↦ absurd (none-some m (sym (puddles_beyond F image j past) ∙ is))
  | inl below ↦
      small_by next (tables_of F image) m (λ slot past. cond-false _ _ _ (le-ltb slot POOL_RECORDS past))
      (sym (ap (is_sound_puddle next (tables_of F image)) is) ∙ all_below-each F (λ frame. is_sound_puddle next (tables_of F image) ((tables_of F image).puddles frame)) legal j below)
]
