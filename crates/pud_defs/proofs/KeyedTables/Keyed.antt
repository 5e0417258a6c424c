-- Laws of tables that are read by their keys: look-up, and what a change of one record changes.
use Rattle.std.proofs.Common.{◌≡◌, ◌⊎◌, inl, inr, ℕ, zero, suc, ◌+◌, ◌-◌, ◌<◌, ◌≤◌, Bool, true, false, not, cond, T, List, [], length, Option, Some, None, is_some, is_none, option_map, refl, sym, ap, ap₂, ◌∙◌, arith, add-one, zero-le, true≢false, ◌&&◌, ◌∷◌}
use Rattle.std.specs.declared.cmp.Ordering.{Ordering}
use Rattle.std.specs.declared.cmp.Ordering.TheVariants.{Less, Equal, Greater}
use Rattle.std.specs.Ordering.{is_eq, eq_by_cmp, match_ordering}
use Rattle.std.specs.Cmp.{IsTotalOrder, Equal-is, alike_right, tied_back, tied_itself}
use Rattle.std.specs.Option.{option_or}
use Rattle.std.specs.FinMap.Entries.{put, find, is_sorted, find-put, is_sorted-put, find-where_key, is_sorted-where_key, length-put, same_entries, by_order}
use Rattle.std.proofs.lemmas.Bool.{cases_eq, cases_lt, cond-true, cond-false, and_parts, and_from}
use Rattle.std.proofs.lemmas.Option.{none-some, same_Some}
use Rattle.pud_defs.specs.RegistryTables.Keyed.{first_free, count_used, put_entry, keyed, under, first_from, is_apart, are_distinct, without}
use Rattle.std.specs.BTreeMap.{insert_entry}

-- ---- small facts

pub none_when : {A : Type 0} (o : Option A) → is_none o ≡ true → o ≡ None
none_when None e = refl
none_when (Some x) e = cc

pub some_there : {A : Type 0} (o : Option A) → is_some o ≡ true → (x : A) × (o ≡ Some x)
some_there None e = cc
some_there (Some x) e = (x, refl)

pub option_or-none : {A : Type 0} (o : Option A) → option_or o None ≡ o
option_or-none None = refl
option_or-none (Some x) = refl

-- the option has a value, which g maps to y
pub record IsMapped {A B : Type 0} (g : A → B) (o : Option A) (y : B) : Type 0 where
  pub value : A
  pub is : o ≡ Some value
  pub gives : g value ≡ y

pub option_map_parts : {A B : Type 0} (g : A → B) (o : Option A) (y : B) → option_map g o ≡ Some y → IsMapped g o y
option_map_parts g None y e = absurd (none-some y e)
option_map_parts g (Some x) y e = record { value = x; is = refl; gives = same_Some (g x) y e }

tied_or_apart : (r : Ordering) → (r ≡ Equal) ⊎ (is_eq r ≡ false)
tied_or_apart Less = inr refl
tied_or_apart Equal = inl refl
tied_or_apart Greater = inr refl

-- what was found first is found, whether or not something is found later
or_first : {A : Type 0} (o : Option A) (x : A) (later : Option A) → o ≡ Some x → option_or o later ≡ Some x
or_first o x later e = ap (λ v. option_or v later) e

or_later : {A : Type 0} (o later : Option A) → o ≡ None → option_or o later ≡ later
or_later o later e = ap (λ v. option_or v later) e

pub or_none : {A : Type 0} (o later : Option A) → option_or o later ≡ None → (o ≡ None) × (later ≡ None)
or_none None later e = (refl, e)
or_none (Some x) later e = absurd (none-some x (sym e))

or_some : {A : Type 0} (o later : Option A) (x : A) → option_or o later ≡ Some x → (o ≡ Some x) ⊎ ((o ≡ None) × (later ≡ Some x))
or_some None later x e = inr (refl, e)
or_some (Some y) later x e = inl e

chosen : {A : Type 0} (b : Bool) (x : A) (later : Option A) → cond b (Some x) later ≡ option_or (cond b (Some x) None) later
chosen true x later = refl
chosen false x later = refl

pub chosen_some : {A : Type 0} (b : Bool) (x y : A) → cond b (Some x) None ≡ Some y → x ≡ y
chosen_some true x y e = same_Some x y e
chosen_some false x y e = absurd (none-some y e)

-- inserting an entry into a map does the same as putting it into the list of a table
pub insert_entry-put : {K X : Type 0} (R : K → K → Ordering) (k : K) (v : X) (es : List (K × X)) → insert_entry R es k v ≡ put R k v es
insert_entry-put R k v [] = refl
insert_entry-put R k v (e ∷ es) =
    elim (R k e.0) as (λ o. match_ordering o ((k, v) ∷ e ∷ es) ((e.0, v) ∷ es) (e ∷ insert_entry R es k v) ≡ by_order o ((k, v) ∷ e ∷ es) ((e.0, v) ∷ es) (e ∷ put R k v es)) [
      | Less ↦ refl
      | Equal ↦ refl
      | Greater ↦ ap (λ others. e ∷ others) (insert_entry-put R k v es)
    ]

-- ---- keys that tie

module _ {K : Type 0} {R : K → K → Ordering} (o : IsTotalOrder R) where
  turned_apart : (q k : K) → eq_by_cmp R q k ≡ false → eq_by_cmp R k q ≡ false
  turned_apart q k a = elim (tied_or_apart (R k q)) [
    | inl t ↦ let tied = tied_back o k q t in absurd (true≢false (sym (ap is_eq tied) ∙ a))
    | inr apart ↦ apart
  ]

  kept_key : (q k : K) → R q k ≡ Equal → not (eq_by_cmp R k q) ≡ false
  kept_key q k t = ap (λ r. not (is_eq r)) (tied_back o q k t)

module _ {K X : Type 0} (R : K → K → Ordering) where
  -- ---- one record under a key

  pub under_tied : (q : K) (e : K × X) → R q e.0 ≡ Equal → under R q (Some e) ≡ Some e.1
  under_tied q e t = ap (λ r. cond (is_eq r) (Some e.1) None) t

  pub under_apart : (q : K) (e : K × X) → eq_by_cmp R q e.0 ≡ false → under R q (Some e) ≡ None
  under_apart q e a = cond-false _ _ _ a

  pub under_none : (q : K) (e : K × X) → under R q (Some e) ≡ None → eq_by_cmp R q e.0 ≡ false
  under_none q e none = elim (tied_or_apart (R q e.0)) [
    | inl t ↦ absurd (none-some e.1 (sym none ∙ under_tied q e t))
    | inr a ↦ a
  ]

  -- ---- look-up, record by record

  pub first_from_step : (q : K) (at : ℕ → Option (K × X)) (from end : ℕ) → from < end → first_from R q at from (end - from) ≡ option_or (under R q (at from)) (first_from R q at (from + 1) (end - (from + 1)))
  unfolding first_from
  first_from_step q at from end h = let e : end - from ≡ suc (end - (from + 1)) = omega arith in ap (first_from R q at from) e

  pub first_from_here : (q : K) (at : ℕ → Option (K × X)) (from end : ℕ) (x : X) → from < end → under R q (at from) ≡ Some x → first_from R q at from (end - from) ≡ Some x
  first_from_here q at from end x h here = first_from_step q at from end h ∙ or_first _ x _ here

  pub first_from_other : (q : K) (at : ℕ → Option (K × X)) (from end : ℕ) → from < end → under R q (at from) ≡ None → first_from R q at from (end - from) ≡ first_from R q at (from + 1) (end - (from + 1))
  first_from_other q at from end h other = first_from_step q at from end h ∙ or_later _ _ other

  pub first_from_end : (q : K) (at : ℕ → Option (K × X)) (from end : ℕ) → end ≤ from → first_from R q at from (end - from) ≡ None
  unfolding first_from
  first_from_end q at from end h = let e : end - from ≡ 0 = omega arith in ap (first_from R q at from) e

  -- tables that have the same under a key give the same for it
  pub first_from_same : (q : K) (f g : ℕ → Option (K × X)) (from count : ℕ) → ((j : ℕ) → from ≤ j → j < from + count → under R q (f j) ≡ under R q (g j)) → first_from R q f from count ≡ first_from R q g from count
  unfolding first_from
  first_from_same q f g from zero same = refl
  first_from_same q f g from (suc count) same =
      ap₂ option_or (same from (omega arith) (omega arith)) (first_from_same q f g (from + 1) count (λ j low high. same j (omega arith) (omega arith)))

  -- the first record under the key is found
  pub first_from_at : (q : K) (at : ℕ → Option (K × X)) (from count i : ℕ) (x : X) → from ≤ i → i < from + count → under R q (at i) ≡ Some x → ((j : ℕ) → from ≤ j → j < i → under R q (at j) ≡ None)
      → first_from R q at from count ≡ Some x
  unfolding first_from
  first_from_at q at from zero i x low high here before = absurd (omega arith)
  first_from_at q at from (suc count) i x low high here before = elim (cases_eq i from) [
    | inl e ↦ or_first _ x _ (ap (λ n. under R q (at n)) (sym e) ∙ here)
    | inr e ↦ or_later _ _ (before from (omega arith) (omega arith)) ∙ first_from_at q at (from + 1) count i x (omega arith) (omega arith) here (λ j l h. before j (omega arith) h)
  ]

  -- nothing is found if no record is under the key
  pub first_from_none : (q : K) (at : ℕ → Option (K × X)) (from count : ℕ) → ((j : ℕ) → from ≤ j → j < from + count → under R q (at j) ≡ None) → first_from R q at from count ≡ None
  unfolding first_from
  first_from_none q at from zero none = refl
  first_from_none q at from (suc count) none =
      or_later _ _ (none from (omega arith) (omega arith)) ∙ first_from_none q at (from + 1) count (λ j low high. none j (omega arith) (omega arith))

  pub first_from_none_each : (q : K) (at : ℕ → Option (K × X)) (from count : ℕ) → first_from R q at from count ≡ None → (j : ℕ) → from ≤ j → j < from + count → under R q (at j) ≡ None
  unfolding first_from
  first_from_none_each q at from zero none j low high = absurd (omega arith)
  first_from_none_each q at from (suc count) none j low high =
      let parts = or_none (under R q (at from)) (first_from R q at (from + 1) count) none in
      elim (cases_eq j from) [
        | inl e ↦ ap (λ n. under R q (at n)) e ∙ parts.0
        | inr e ↦ first_from_none_each q at (from + 1) count parts.1 j (omega arith) (omega arith)
      ]

  -- the first record under the key, and its place
  pub record IsFirstUnder (q : K) (at : ℕ → Option (K × X)) (from count : ℕ) (x : X) (i : ℕ) : Type 0 where
    pub low : from ≤ i
    pub high : i < from + count
    pub here : under R q (at i) ≡ Some x
    pub before : (j : ℕ) → from ≤ j → j < i → under R q (at j) ≡ None

  pub first_from_some : (q : K) (at : ℕ → Option (K × X)) (from count : ℕ) (x : X) → first_from R q at from count ≡ Some x → (i : ℕ) × IsFirstUnder q at from count x i
  unfolding first_from
  first_from_some q at from zero x e = absurd (none-some x e)
  first_from_some q at from (suc count) x e = elim (or_some (under R q (at from)) (first_from R q at (from + 1) count) x e) [
    | inl here ↦ (from, record { low = omega arith; high = omega arith; here = here; before = λ j low high. absurd (omega arith) })
    | inr later ↦
        let found = first_from_some q at (from + 1) count x later.1 in
        let first = found.1 in
        let low = first.low in
        let high = first.high in (
          found.0,
          record {
            low = omega arith;
            high = omega arith;
            here = first.here;
            before = λ j l h. elim (cases_eq j from) [ inl s ↦ ap (λ n. under R q (at n)) s ∙ later.0 | inr other ↦ first.before j (omega arith) h ];
          },
        )
  ]

  -- ---- what the laws are about

  -- no record has the key of an earlier one
  pub record HasDistinctKeys (at : ℕ → Option (K × X)) (from count : ℕ) : Type 0 where
    pub apart : (i j : ℕ) → from ≤ i → i < j → j < from + count → (e : K × X) → at i ≡ Some e → under R e.0 (at j) ≡ None

  -- the record is free, or it has this key
  abbrev pub is_free_for : K → Option (K × X) → Bool
  is_free_for k None = true
  is_free_for k (Some e) = eq_by_cmp R k e.0

  -- The second table is the first with one record changed. This record was free or had this key, and no other record
  -- has the key.
  pub record IsSetAt (f g : ℕ → Option (K × X)) (from count i : ℕ) (k : K) (now : Option X) : Type 0 where
    pub low : from ≤ i
    pub high : i < from + count
    pub others : (j : ℕ) → (j ≡ i → ⊥) → g j ≡ f j
    pub is : g i ≡ option_map (λ v. (k, v)) now
    pub was : is_free_for k (f i) ≡ true
    pub alone : (j : ℕ) → from ≤ j → j < from + count → (j ≡ i → ⊥) → under R k (f j) ≡ None

  -- ---- distinct keys, by the test

  apart_of : (first : Option (K × X)) (at : ℕ → Option (K × X)) (from count : ℕ) → is_apart R first at from count ≡ true → (e : K × X) → first ≡ Some e → first_from R e.0 at from count ≡ None
  apart_of first at from count h e is = none_when _ (sym (ap (λ v. is_apart R v at from count) is) ∙ h)

  pub distinct_keys : (at : ℕ → Option (K × X)) (from count : ℕ) → are_distinct R at from count ≡ true → HasDistinctKeys at from count
  unfolding are_distinct
  distinct_keys at from zero h = record { apart = λ i j low less high. absurd (omega arith) }
  distinct_keys at from (suc count) h =
      let parts = and_parts (is_apart R (at from) at (from + 1) count) (are_distinct R at (from + 1) count) h in
      let later = distinct_keys at (from + 1) count parts.1 in
      record {
        apart = λ i j low less high e is. elim (cases_eq i from) [
          | inl s ↦ first_from_none_each e.0 at (from + 1) count (apart_of (at from) at (from + 1) count parts.0 e (sym (ap at s) ∙ is)) j (omega arith) (omega arith)
          | inr other ↦ later.apart i j (omega arith) less (omega arith) e is
        ];
      }

  apart_from : (first : Option (K × X)) (at : ℕ → Option (K × X)) (from count : ℕ) → ((e : K × X) → first ≡ Some e → first_from R e.0 at from count ≡ None) → is_apart R first at from count ≡ true
  apart_from None at from count h = refl
  apart_from (Some e) at from count h = ap is_none (h e refl)

  pub are_distinct_keys : (at : ℕ → Option (K × X)) (from count : ℕ) → HasDistinctKeys at from count → are_distinct R at from count ≡ true
  unfolding are_distinct
  are_distinct_keys at from zero h = refl
  are_distinct_keys at from (suc count) h =
      and_from _ _
      (apart_from (at from) at (from + 1) count (λ e is. first_from_none e.0 at (from + 1) count (λ j low high. h.apart from j (omega arith) (omega arith) (omega arith) e is)))
      (are_distinct_keys at (from + 1) count (record { apart = λ i j low less high. h.apart i j (omega arith) less (omega arith) }))

  -- one step of the test; `end` is the place after the last one
  pub are_distinct-step : (at : ℕ → Option (K × X)) (from end : ℕ) → from < end
      → are_distinct R at from (end - from) ≡ (is_apart R (at from) at (from + 1) (end - (from + 1)) && are_distinct R at (from + 1) (end - (from + 1)))
  unfolding are_distinct
  are_distinct-step at from end below = let e : end - from ≡ suc (end - (from + 1)) = omega arith in ap (are_distinct R at from) e

  pub are_distinct-end : (at : ℕ → Option (K × X)) (from end : ℕ) → end ≤ from → are_distinct R at from (end - from) ≡ true
  unfolding are_distinct
  are_distinct-end at from end past = let e : end - from ≡ 0 = omega arith in ap (are_distinct R at from) e

  -- if records are only freed, the keys stay distinct
  pub HasDistinctKeys-fewer : (f g : ℕ → Option (K × X)) (from count : ℕ) → ((j : ℕ) → from ≤ j → j < from + count → (g j ≡ f j) ⊎ (g j ≡ None)) → HasDistinctKeys f from count → HasDistinctKeys g from count
  HasDistinctKeys-fewer f g from count fewer h = record {
    apart = λ i j low less high e is. elim (fewer i low (omega arith)) [
      | inr none ↦ absurd (none-some e (sym none ∙ is))
      | inl kept ↦ elim (fewer j (omega arith) high) [
        | inr none ↦ ap (under R e.0) none
        | inl same ↦ ap (under R e.0) same ∙ h.apart i j low less high e (sym kept ∙ is)
      ]
    ];
  }

  -- if only one place has a record, the keys are distinct
  pub HasDistinctKeys-one : (at : ℕ → Option (K × X)) (from count i : ℕ) → ((j : ℕ) → from ≤ j → j < from + count → (j ≡ i → ⊥) → at j ≡ None) → HasDistinctKeys at from count
  HasDistinctKeys-one at from count i none = record {
    apart = λ a b low less high e is. elim (cases_eq b i) [
      | inl here ↦ absurd (none-some e (sym (none a low (omega arith) (λ s. absurd (omega arith))) ∙ is))
      | inr other ↦ ap (under R e.0) (none b (omega arith) high other)
    ];
  }

  -- ---- with the order of the keys

  module _ (o : IsTotalOrder R) where
    -- keys that tie have the same under them
    pub under_alike : (q k : K) → R q k ≡ Equal → (e : Option (K × X)) → under R q e ≡ under R k e
    under_alike q k t None = refl
    under_alike q k t (Some e) = ap (λ r. cond (is_eq r) (Some e.1) None) (o.congr q k e.0 t)

    found_in_front : (q : K) (e : Option (K × X)) (es : List (K × X)) → find R q (put_entry R e es) ≡ option_or (under R q e) (find R q es)
    found_in_front q None es = refl
    found_in_front q (Some e) es = find-put R o q e.0 e.1 es ∙ chosen (eq_by_cmp R q e.0) e.1 (find R q es)

    sorted_in_front : (e : Option (K × X)) (es : List (K × X)) → T (is_sorted R es) → T (is_sorted R (put_entry R e es))
    sorted_in_front None es h = h
    sorted_in_front (Some e) es h = is_sorted-put R o e.0 e.1 es h

    pub is_sorted-keyed : (at : ℕ → Option (K × X)) (from count : ℕ) → T (is_sorted R (keyed R at from count))
    unfolding keyed
    is_sorted-keyed at from zero = tt
    is_sorted-keyed at from (suc count) = sorted_in_front (at from) (keyed R at (from + 1) count) (is_sorted-keyed at (from + 1) count)

    -- what is found under a key is the first record of the table that has it
    pub find-keyed : (q : K) (at : ℕ → Option (K × X)) (from count : ℕ) → find R q (keyed R at from count) ≡ first_from R q at from count
    unfolding keyed first_from
    find-keyed q at from zero = refl
    find-keyed q at from (suc count) = found_in_front q (at from) (keyed R at (from + 1) count) ∙ ap (option_or (under R q (at from))) (find-keyed q at (from + 1) count)

    -- ---- distinct keys and look-up

    no_later : (at : ℕ → Option (K × X)) (from count i j : ℕ) (e : K × X) (d : Option (K × X)) → HasDistinctKeys at from count → from ≤ j → j < i → i < from + count → at i ≡ Some e → at j ≡ d → under R e.0 d ≡ None
    no_later at from count i j e None h low less high is there = refl
    no_later at from count i j e (Some d) h low less high is there =
        under_apart e.0 d (turned_apart o d.0 e.0 (under_none d.0 e (sym (ap (under R d.0) is) ∙ h.apart j i low less high d there)))

    -- if the keys are distinct, a record is the only one under its key
    pub alone_there : (at : ℕ → Option (K × X)) (from count i : ℕ) (e : K × X) → HasDistinctKeys at from count → from ≤ i → i < from + count → at i ≡ Some e
        → (j : ℕ) → from ≤ j → j < from + count → (j ≡ i → ⊥) → under R e.0 (at j) ≡ None
    alone_there at from count i e h low high is j l r other = elim (cases_lt i j) [
      | inl less ↦ h.apart i j low less r e is
      | inr more ↦ no_later at from count i j e (at j) h l (omega arith) high is refl
    ]

    -- so a record is found under its key
    pub find-keyed_place : (at : ℕ → Option (K × X)) (from count i : ℕ) (e : K × X) → HasDistinctKeys at from count → from ≤ i → i < from + count → at i ≡ Some e → find R e.0 (keyed R at from count) ≡ Some e.1
    find-keyed_place at from count i e h low high is =
        find-keyed e.0 at from count
        ∙ first_from_at e.0 at from count i e.1 low high (ap (under R e.0) is ∙ under_tied e.0 e (tied_itself o e.0))
        (λ j l less. alone_there at from count i e h low high is j l (omega arith) (λ s. absurd (omega arith)))

    -- if the keys are distinct, the list has as many entries as there are used places
    length_in_front : (e : Option (K × X)) (es : List (K × X)) (count : ℕ) → T (is_sorted R es) → ((d : K × X) → e ≡ Some d → find R d.0 es ≡ None) → length es ≡ count → length (put_entry R e es) ≡ cond (is_none e) count (count + 1)
    length_in_front None es count sorted none is = is
    length_in_front (Some e) es count sorted none is = length-put R o e.0 e.1 es sorted ∙ cond-false _ _ _ (ap is_some (none e refl)) ∙ ap (λ n. n + 1) is

    pub length-keyed : (at : ℕ → Option (K × X)) (from count : ℕ) → HasDistinctKeys at from count → length (keyed R at from count) ≡ count_used at from count
    unfolding keyed count_used
    length-keyed at from zero h = refl
    length-keyed at from (suc count) h =
        length_in_front (at from) (keyed R at (from + 1) count) (count_used at (from + 1) count) (is_sorted-keyed at (from + 1) count)
        (λ d is. find-keyed d.0 at (from + 1) count ∙ first_from_none d.0 at (from + 1) count (λ j low high. h.apart from j (omega arith) (omega arith) (omega arith) d is))
        (length-keyed at (from + 1) count (record { apart = λ i j low less high. h.apart i j (omega arith) less (omega arith) }))

    -- ---- a change of one record

    other_key : (q k : K) (e : Option (K × X)) → is_free_for k e ≡ true → eq_by_cmp R q k ≡ false → under R q e ≡ None
    other_key q k None was a = refl
    other_key q k (Some e) was a = under_apart q e (sym (ap is_eq (alike_right o k e.0 q ((Equal-is (R k e.0)).0 was))) ∙ a)

    other_now : (q k : K) (now : Option X) → eq_by_cmp R q k ≡ false → under R q (option_map (λ v. (k, v)) now) ≡ None
    other_now q k None a = refl
    other_now q k (Some v) a = under_apart q (k, v) a

    -- another key gives the same as before
    found_other : (f g : ℕ → Option (K × X)) (from count i : ℕ) (k : K) (now : Option X) → IsSetAt f g from count i k now → (q : K) → eq_by_cmp R q k ≡ false → first_from R q g from count ≡ first_from R q f from count
    found_other f g from count i k now h q a = first_from_same q g f from count (λ j low high. elim (cases_eq j i) [
      | inl e ↦ ap (λ n. under R q (g n)) e ∙ ap (under R q) h.is ∙ other_now q k now a ∙ sym (ap (λ n. under R q (f n)) e ∙ other_key q k (f i) h.was a)
      | inr other ↦ ap (under R q) (h.others j other)
    ])

    -- this key gives the new record, if the record is used now
    found_now : (f g : ℕ → Option (K × X)) (from count i : ℕ) (k : K) (v : X) → IsSetAt f g from count i k (Some v) → (q : K) → R q k ≡ Equal → first_from R q g from count ≡ Some v
    found_now f g from count i k v h q t =
        let less = h.high in
        first_from_at q g from count i v h.low h.high (ap (under R q) h.is ∙ under_tied q (k, v) t)
        (λ j l b. let apart : j ≡ i → ⊥ = λ s. absurd (omega arith) in ap (under R q) (h.others j apart) ∙ under_alike q k t (f j) ∙ h.alone j l (omega arith) apart)

    -- this key gives nothing, if the record is free now
    found_no_more : (f g : ℕ → Option (K × X)) (from count i : ℕ) (k : K) → IsSetAt f g from count i k None → (q : K) → R q k ≡ Equal → first_from R q g from count ≡ None
    found_no_more f g from count i k h q t = first_from_none q g from count (λ j low high. elim (cases_eq j i) [
      | inl e ↦ ap (λ n. under R q (g n)) e ∙ ap (under R q) h.is
      | inr other ↦ ap (under R q) (h.others j other) ∙ under_alike q k t (f j) ∙ h.alone j low high other
    ])

    found_after_put : (f g : ℕ → Option (K × X)) (from count i : ℕ) (k : K) (v : X) → IsSetAt f g from count i k (Some v) → (q : K) → first_from R q g from count ≡ cond (eq_by_cmp R q k) (Some v) (find R q (keyed R f from count))
    found_after_put f g from count i k v h q = elim (tied_or_apart (R q k)) [
      | inl t ↦ found_now f g from count i k v h q t ∙ sym (ap (λ r. cond (is_eq r) (Some v) (find R q (keyed R f from count))) t)
      | inr a ↦ found_other f g from count i k (Some v) h q a ∙ sym (cond-false _ _ _ a ∙ find-keyed q f from count)
    ]

    found_after_without : (f g : ℕ → Option (K × X)) (from count i : ℕ) (k : K) → IsSetAt f g from count i k None → (q : K) → first_from R q g from count ≡ cond (not (eq_by_cmp R k q)) (find R q (keyed R f from count)) None
    found_after_without f g from count i k h q = elim (tied_or_apart (R q k)) [
      | inl t ↦ found_no_more f g from count i k h q t ∙ sym (cond-false _ _ _ (kept_key o q k t))
      | inr a ↦ found_other f g from count i k None h q a ∙ sym (cond-true _ _ _ (ap not (turned_apart o q k a)) ∙ find-keyed q f from count)
    ]

    module _ (same : (x y : K) → R x y ≡ Equal → x ≡ y) where
      -- writing a record puts its entry into the list
      pub keyed-put : (f g : ℕ → Option (K × X)) (from count i : ℕ) (k : K) (v : X) → IsSetAt f g from count i k (Some v) → keyed R g from count ≡ put R k v (keyed R f from count)
      keyed-put f g from count i k v h =
          same_entries R o same _ _ (is_sorted-keyed g from count) (is_sorted-put R o k v (keyed R f from count) (is_sorted-keyed f from count))
          (λ q. find-keyed q g from count ∙ found_after_put f g from count i k v h q ∙ sym (find-put R o q k v (keyed R f from count)))

      -- freeing a record takes its entry out of the list
      pub keyed-without : (f g : ℕ → Option (K × X)) (from count i : ℕ) (k : K) → IsSetAt f g from count i k None → keyed R g from count ≡ without R k (keyed R f from count)
      keyed-without f g from count i k h =
          same_entries R o same _ _ (is_sorted-keyed g from count) (is_sorted-where_key R (λ x. not (eq_by_cmp R k x)) (keyed R f from count) (is_sorted-keyed f from count))
          (λ q. find-keyed q g from count ∙ found_after_without f g from count i k h q
          ∙ sym (find-where_key R (λ x. not (eq_by_cmp R k x)) q (λ x t. ap (λ r. not (is_eq r)) (sym (alike_right o q x k t))) (keyed R f from count)))

    -- ---- distinct keys after a change

    same_key : (k : K) (v : X) (e : K × X) → Some (k, v) ≡ Some e → k ≡ e.0
    same_key k v e is = ap (λ (p : K × X). p.0) (same_Some {A = K × X} (k, v) e is)

    pub HasDistinctKeys-set : (f g : ℕ → Option (K × X)) (from count i : ℕ) (k : K) (now : Option X) → IsSetAt f g from count i k now → HasDistinctKeys f from count → HasDistinctKeys g from count
    HasDistinctKeys-set f g from count i k None h d =
        HasDistinctKeys-fewer f g from count (λ j low high. elim (cases_eq j i) [ inl e ↦ inr (ap g e ∙ h.is) | inr other ↦ inl (h.others j other) ]) d
    HasDistinctKeys-set f g from count i k (Some v) h d = record {
      apart = λ a b low less high e is. elim (cases_eq a i) [
        | inl s ↦
            let key = same_key k v e (sym h.is ∙ ap g (sym s) ∙ is) in
            let other : b ≡ i → ⊥ = λ t. absurd (omega arith) in
            ap (under R e.0) (h.others b other) ∙ ap (λ (x : K). under R x (f b)) (sym key) ∙ h.alone b (omega arith) high other
        | inr first ↦ elim (cases_eq b i) [
          | inl s ↦
              let kept = sym (h.others a first) ∙ is in
              ap (λ n. under R e.0 (g n)) s ∙ ap (under R e.0) h.is ∙ under_apart e.0 (k, v) (turned_apart o k e.0 (under_none k e (sym (ap (under R k) kept) ∙ h.alone a low (omega arith) first)))
          | inr second ↦ ap (under R e.0) (h.others b second) ∙ d.apart a b low less high e (sym (h.others a first) ∙ is)
        ]
      ];
    }

-- ---- tables that have the same keys, or the same records

key_there : {K X Y : Type 0} (e : Option (K × X)) (d : K × Y) → option_map (λ (p : K × X). p.0) e ≡ option_map (λ (p : K × Y). p.0) (Some d) → (c : K × X) × ((e ≡ Some c) × (c.0 ≡ d.0))
key_there {K} None d same = absurd (none-some d.0 same)
key_there {K} (Some c) d same = (c, (refl, same_Some c.0 d.0 same))

pub no_key : {K X Y : Type 0} (R : K → K → Ordering) (q : K) (e : Option (K × X)) (d : Option (K × Y)) → option_map (λ (p : K × X). p.0) e ≡ option_map (λ (p : K × Y). p.0) d → under R q e ≡ None → under R q d ≡ None
no_key R q e None same none = refl
no_key R q None (Some d) same none = absurd (none-some d.0 same)
no_key R q (Some e) (Some d) same none = under_apart R q d (ap (eq_by_cmp R q) (sym (same_Some e.0 d.0 same)) ∙ under_none R q e none)

pub HasDistinctKeys-keys : {K X Y : Type 0} (R : K → K → Ordering) (f : ℕ → Option (K × X)) (g : ℕ → Option (K × Y)) (from count : ℕ) → ((j : ℕ) → option_map (λ (p : K × X). p.0) (f j) ≡ option_map (λ (p : K × Y). p.0) (g j))
    → HasDistinctKeys R f from count → HasDistinctKeys R g from count
HasDistinctKeys-keys R f g from count same h = record {
  apart = λ i j low less high d is.
      let there = key_there (f i) d (same i ∙ ap (option_map (λ p. p.0)) is) in
      no_key R d.0 (f j) (g j) (same j) (ap (λ k. under R k (f j)) (sym there.1.1) ∙ h.apart i j low less high there.0 there.1.0);
}

pub keyed-none : {K X : Type 0} (R : K → K → Ordering) (at : ℕ → Option (K × X)) (from count : ℕ) → ((j : ℕ) → from ≤ j → j < from + count → at j ≡ None) → keyed R at from count ≡ []
unfolding keyed
keyed-none R at from zero none = refl
keyed-none R at from (suc count) none =
    ap₂ (put_entry R) (none from (omega arith) (omega arith)) (keyed-none R at (from + 1) count (λ j low high. none j (omega arith) (omega arith)))

pub keyed-same : {K X : Type 0} (R : K → K → Ordering) (f g : ℕ → Option (K × X)) (from count : ℕ) → ((j : ℕ) → from ≤ j → j < from + count → f j ≡ g j) → keyed R f from count ≡ keyed R g from count
unfolding keyed
keyed-same R f g from zero same = refl
keyed-same R f g from (suc count) same =
    ap₂ (put_entry R) (same from (omega arith) (omega arith)) (keyed-same R f g (from + 1) count (λ j low high. same j (omega arith) (omega arith)))

-- ---- free and used places

module _ {A : Type 0} where
  pub first_free_step : (at : ℕ → Option A) (from end : ℕ) → from < end → first_free at from (end - from) ≡ cond (is_none (at from)) (Some from) (first_free at (from + 1) (end - (from + 1)))
  unfolding first_free
  first_free_step at from end h = let e : end - from ≡ suc (end - (from + 1)) = omega arith in ap (first_free at from) e

  pub first_free_here : (at : ℕ → Option A) (from end : ℕ) → from < end → at from ≡ None → first_free at from (end - from) ≡ Some from
  first_free_here at from end h free = first_free_step at from end h ∙ cond-true _ _ _ (ap is_none free)

  pub first_free_used : (at : ℕ → Option A) (from end : ℕ) (x : A) → from < end → at from ≡ Some x → first_free at from (end - from) ≡ first_free at (from + 1) (end - (from + 1))
  first_free_used at from end x h used = first_free_step at from end h ∙ cond-false _ _ _ (ap is_none used)

  pub first_free_end : (at : ℕ → Option A) (from end : ℕ) → end ≤ from → first_free at from (end - from) ≡ None
  unfolding first_free
  first_free_end at from end h = let e : end - from ≡ 0 = omega arith in ap (first_free at from) e

  used_or_free : (o : Option A) → (o ≡ None) ⊎ (is_none o ≡ false)
  used_or_free None = inl refl
  used_or_free (Some x) = inr refl

  -- the place is the lowest free one of `count` places from a given one on
  pub record IsLowestFree (at : ℕ → Option A) (from count i : ℕ) : Type 0 where
    pub low : from ≤ i
    pub high : i < from + count
    pub free : at i ≡ None
    pub used : (j : ℕ) → from ≤ j → j < i → is_none (at j) ≡ false

  pub first_free_some : (at : ℕ → Option A) (from count i : ℕ) → first_free at from count ≡ Some i → IsLowestFree at from count i
  unfolding first_free
  first_free_some at from zero i e = absurd (none-some i e)
  first_free_some at from (suc count) i e = elim (used_or_free (at from)) [
    | inl free ↦
        let here : from ≡ i = same_Some from i (sym (cond-true (is_none (at from)) (Some from) (first_free at (from + 1) count) (ap is_none free)) ∙ e) in
        record { low = omega arith; high = omega arith; free = ap at (sym here) ∙ free; used = λ j l less. absurd (omega arith) }
    | inr used ↦
        let later = first_free_some at (from + 1) count i (sym (cond-false (is_none (at from)) (Some from) (first_free at (from + 1) count) used) ∙ e) in
        let low = later.low in
        let high = later.high in
        record {
          low = omega arith;
          high = omega arith;
          free = later.free;
          used = λ j l less. elim (cases_eq j from) [ inl s ↦ ap (λ n. is_none (at n)) s ∙ used | inr other ↦ later.used j (omega arith) less ];
        }
  ]

  -- one step of the count: the place is used, or it is not
  pub count_used_step : (at : ℕ → Option A) (from end : ℕ) → from < end → count_used at from (end - from) ≡ cond (is_none (at from)) (count_used at (from + 1) (end - (from + 1))) (count_used at (from + 1) (end - (from + 1)) + 1)
  unfolding count_used
  count_used_step at from end h = let e : end - from ≡ suc (end - (from + 1)) = omega arith in ap (count_used at from) e

  counted_at_most : (o : Option A) (n count : ℕ) → n ≤ count → cond (is_none o) n (n + 1) ≤ suc count
  counted_at_most None n count h = omega arith
  counted_at_most (Some x) n count h = omega arith

  one_more : (o : Option A) (n count : ℕ) → n < count → cond (is_none o) n (n + 1) < suc count
  one_more None n count h = omega arith
  one_more (Some x) n count h = omega arith

  -- no more places are used than there are
  pub count_used_most : (at : ℕ → Option A) (from count : ℕ) → count_used at from count ≤ count
  unfolding count_used
  count_used_most at from zero = zero-le
  count_used_most at from (suc count) = counted_at_most (at from) (count_used at (from + 1) count) count (count_used_most at (from + 1) count)

  -- if no place is free, all are used
  pub count_used_full : (at : ℕ → Option A) (from count : ℕ) → first_free at from count ≡ None → count_used at from count ≡ count
  unfolding first_free count_used
  count_used_full at from zero e = refl
  count_used_full at from (suc count) e = elim (used_or_free (at from)) [
    | inl free ↦ absurd (none-some from (sym e ∙ cond-true (is_none (at from)) (Some from) (first_free at (from + 1) count) (ap is_none free)))
    | inr used ↦
        let rest = count_used_full at (from + 1) count (sym (cond-false (is_none (at from)) (Some from) (first_free at (from + 1) count) used) ∙ e) in
        cond-false (is_none (at from)) (count_used at (from + 1) count) (count_used at (from + 1) count + 1) used ∙ ap (λ n. n + 1) rest ∙ add-one count
  ]

  -- if a place is free, not all are used
  pub count_used_room : (at : ℕ → Option A) (from count i : ℕ) → from ≤ i → i < from + count → at i ≡ None → count_used at from count < count
  unfolding count_used
  count_used_room at from zero i low high free = absurd (omega arith)
  count_used_room at from (suc count) i low high free = elim (cases_eq i from) [
    | inl e ↦
        let here = cond-true (is_none (at from)) (count_used at (from + 1) count) (count_used at (from + 1) count + 1) (ap is_none (ap at (sym e) ∙ free)) in
        omega (arith, here, count_used_most at (from + 1) count)
    | inr other ↦ one_more (at from) (count_used at (from + 1) count) count (count_used_room at (from + 1) count i (omega arith) (omega arith) free)
  ]
