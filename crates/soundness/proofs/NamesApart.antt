-- Names are told apart by their two words.
use Rattle.std.proofs.Common.{◌≡◌, ℕ, suc, ◌+◌, ◌%◌, ◌/◌, ◌^◌, ◌<◌, ◌≤◌, Bool, true, false, not, ◌&&◌, ◌||◌, cond, eqb, List, [], ◌∷◌, length, take, drop, slice_index_or, Option, Some, None, is_none, inl, inr, refl, sym, ap, ap₂, subst, ◌∙◌, arith, add-zero}
use Rattle.std.specs.Prelude.{option_map}
use Rattle.std.specs.List.{list_any}
use Rattle.std.specs.Option.{option_or}
use Rattle.std.specs.Ordering.{eq_by_cmp}
use Rattle.std.specs.Int.{from_le_bytes, w64}
use Rattle.std.proofs.lemmas.Bool.{eq-eqb, ne_eqb, eqb-true, eqb-false, cases_eq, false_from_ne_true}
use Rattle.std.proofs.lemmas.Cmp.{nat_list_cmp_total, eq_by_cmp_equiv}
use Rattle.std.proofs.lemmas.Map.Lookups.{exact_bytes}
use Rattle.std.proofs.lemmas.Map.Views.{tells_apart}
use Rattle.std.proofs.lemmas.Nat.{from_le_bytes-to_le_bytes_8}
use Rattle.pud_defs.specs.declared.records.TheConstants.{POOL_RECORDS}
use Rattle.pud_defs.specs.declared.records.PoolRecord.{PoolRecord}
use Rattle.pud_defs.specs.Formats.Image.{Image}
use Rattle.pud_defs.specs.Formats.Names.{name_by, name_cmp}
use Rattle.pud_defs.specs.RegistryTables.Keyed.{under, first_from, is_apart, are_distinct}
use Rattle.pud_defs.specs.RegistryTables.Pools.{pool_by, pool_record_at}
use Rattle.pud_defs.specs.RegistryTables.Tables.{tables_of, named}
use Rattle.pud_defs.specs.RegistryTables.SoundTables.{has_distinct_names}
use Rattle.soundness.specs.declared.names.NameWords.{NameWords}
use Rattle.soundness.specs.Tables.{record_words, pool_by_words}
use Rattle.soundness.specs.Named.{is_same_name, are_apart, IsNameOf, HoldsNames, no_name}
use Rattle.soundness.proofs.Tabled.{pool_here}

-- ---- two words that are one name

name_low : (a b : ℕ) → a < 2 ^ 64 → from_le_bytes w64 (take 8 (name_by a b)) ≡ a
unfolding name_by
name_low a b fits = from_le_bytes-to_le_bytes_8 a fits

name_high : (a b : ℕ) → b < 2 ^ 64 → from_le_bytes w64 (drop 8 (name_by a b)) ≡ b
unfolding name_by
name_high a b fits = from_le_bytes-to_le_bytes_8 b fits

-- both words fit in 64 bits
record Fits (n : NameWords) : Type 0 where
  low : n.low < 2 ^ 64
  high : n.high < 2 ^ 64

abbrev spelled : NameWords → List ℕ
spelled n = name_by n.low n.high

low_tied : (n m : NameWords) → Fits n → Fits m → eq_by_cmp name_cmp (spelled n) (spelled m) ≡ true → m.low ≡ n.low
low_tied n m fn fm tied =
    let same = tells_apart exact_bytes (spelled n) (spelled m) tied in
    sym (name_low m.low m.high fm.low) ∙ ap (λ (bytes : List ℕ). from_le_bytes w64 (take 8 bytes)) (sym same) ∙ name_low n.low n.high fn.low

high_tied : (n m : NameWords) → Fits n → Fits m → eq_by_cmp name_cmp (spelled n) (spelled m) ≡ true → m.high ≡ n.high
high_tied n m fn fm tied =
    let same = tells_apart exact_bytes (spelled n) (spelled m) tied in
    sym (name_high m.low m.high fm.high) ∙ ap (λ (bytes : List ℕ). from_le_bytes w64 (drop 8 bytes)) (sym same) ∙ name_high n.low n.high fn.high

tied_by : (n m : NameWords) → Fits n → Fits m → eq_by_cmp name_cmp (spelled n) (spelled m) ≡ is_same_name n m
tied_by n m fn fm = elim (cases_eq m.low n.low) [
  | inl low ↦ elim (cases_eq m.high n.high) [
    | inl high ↦
        ap₂ (λ (a b : ℕ). eq_by_cmp name_cmp (spelled n) (name_by a b)) low high
        ∙ (eq_by_cmp_equiv nat_list_cmp_total).refl (spelled n)
        ∙ sym (ap₂ (λ (a b : Bool). a && b) (eq-eqb m.low n.low low) (eq-eqb m.high n.high high))
    | inr other ↦
        false_from_ne_true _ (λ tied. other (high_tied n m fn fm tied))
        ∙ sym (ap₂ (λ (a b : Bool). a && b) (eq-eqb m.low n.low low) (ne_eqb m.high n.high other))
  ]
  | inr other ↦
      false_from_ne_true _ (λ tied. other (low_tied n m fn fm tied))
      ∙ sym (ap (λ (a : Bool). a && eqb m.high n.high) (ne_eqb m.low n.low other))
]

-- ---- the records under their names

module _ (F : ℕ) (image : Image) where
  abbrev under_name : ℕ → PoolRecord → List ℕ × (ℕ × PoolRecord)
  under_name slot r = (r.name, (slot, r))

  at_slot : (slot : ℕ) → slot < POOL_RECORDS → named (tables_of F image) slot ≡ option_map (under_name slot) (pool_by_words (record_words image (pool_record_at slot)))
  at_slot slot known = ap (option_map (under_name slot)) (pool_here F image slot known)

  abbrev pool : ℕ → NameWords → PoolRecord
  pool slot n = record {
    name = spelled n;
    uid = image (pool_record_at slot + 2) % 2 ^ 32;
    gid = image (pool_record_at slot + 2) / 2 ^ 32;
    mode = image (pool_record_at slot + 3);
    number = image (pool_record_at slot + 4);
  }

  entry_by : (slot : ℕ) (n : NameWords) → slot < POOL_RECORDS → IsNameOf image slot n → (free : Bool) → eqb n.low 0 ≡ free → named (tables_of F image) slot ≡ cond free None (Some (spelled n, (slot, pool slot n)))
  unfolding pool_by
  entry_by slot n known is free tested =
      at_slot slot known
      ∙ ap₂ (λ (a b : ℕ). option_map (under_name slot) (cond (eqb a 0) None (Some (pool slot (record { low = a; high = b }))))) (sym is.low) (sym is.high)
      ∙ ap (λ (b : Bool). option_map (under_name slot) (cond b None (Some (pool slot n)))) tested
      ∙ elim free as (λ b. option_map (under_name slot) (cond b None (Some (pool slot n))) ≡ cond b None (Some (spelled n, (slot, pool slot n)))) [ true ↦ refl | false ↦ refl ]

  -- the list has the names of the records from this place on
  abbrev Holds : ℕ → List NameWords → Type 0
  Holds from ns = (k : ℕ) → k < length ns → IsNameOf image (from + k) (slice_index_or ns k no_name)

  head_of : (from : ℕ) (n : NameWords) (ns : List NameWords) → Holds from (n ∷ ns) → IsNameOf image from n
  head_of from n ns holds = let at : IsNameOf image (from + 0) n = holds 0 (omega arith) in rw add-zero at at

  tail_of : (from : ℕ) (n : NameWords) (ns : List NameWords) → Holds from (n ∷ ns) → Holds (from + 1) ns
  tail_of from n ns holds = λ k below.
      let at : IsNameOf image (from + suc k) (slice_index_or ns k no_name) = holds (suc k) (omega arith) in
      let e : from + suc k ≡ from + 1 + k = omega arith in
      subst (λ (m : ℕ). IsNameOf image m (slice_index_or ns k no_name)) e at

  fits_of : (slot : ℕ) (n : NameWords) → IsNameOf image slot n → Fits n
  fits_of slot n is = record { low = is.low_fits; high = is.high_fits }

  -- a name is one of the later ones exactly if one of their records has it
  found_by : (q n : NameWords) (slot : ℕ) (later : Option (ℕ × PoolRecord)) → Fits q → IsNameOf image slot n → (q.low ≡ 0 → ⊥) → (free : Bool) → eqb n.low 0 ≡ free
      → is_none (option_or (under name_cmp (spelled q) (cond free None (Some (spelled n, (slot, pool slot n))))) later) ≡ not (is_same_name q n || not (is_none later))
  found_by q n slot later fq is used true tested =
      let other : eqb n.low q.low ≡ false = ne_eqb n.low q.low (λ same. used (sym same ∙ eqb-true n.low 0 tested)) in
      sym (ap (λ (b : Bool). not ((b && eqb n.high q.high) || not (is_none later))) other ∙ elim (is_none later) as (λ b. not (not b) ≡ b) [ true ↦ refl | false ↦ refl ])
  found_by q n slot later fq is used false tested =
      ap (λ (b : Bool). is_none (option_or (cond b (Some (slot, pool slot n)) None) later)) (tied_by q n fq (fits_of slot n is))
      ∙ elim (is_same_name q n) as (λ b. is_none (option_or (cond b (Some (slot, pool slot n)) None) later) ≡ not (b || not (is_none later)))
      [ true ↦ refl | false ↦ elim (is_none later) as (λ b. b ≡ not (not b)) [ true ↦ refl | false ↦ refl ] ]

  found : (q : NameWords) (ns : List NameWords) (from : ℕ) → from + length ns ≤ POOL_RECORDS → Fits q → (q.low ≡ 0 → ⊥) → Holds from ns
      → is_none (first_from name_cmp (spelled q) (named (tables_of F image)) from (length ns)) ≡ not (list_any (is_same_name q) ns)
  unfolding first_from
  found q [] from few fq used holds = refl
  found q (n ∷ ns) from few fq used holds =
      let is = head_of from n ns holds in
      let later = first_from name_cmp (spelled q) (named (tables_of F image)) (from + 1) (length ns) in
      let following = found q ns (from + 1) (omega arith) fq used (tail_of from n ns holds) in
      ap (λ (o : Option (List ℕ × (ℕ × PoolRecord))). is_none (option_or (under name_cmp (spelled q) o) later)) (entry_by from n (omega arith) is (eqb n.low 0) refl)
      ∙ found_by q n from later fq is used (eqb n.low 0) refl
      ∙ ap (λ (b : Bool). not (is_same_name q n || not b)) following
      ∙ ap (λ (b : Bool). not (is_same_name q n || b)) (elim (list_any (is_same_name q) ns) as (λ b. not (not b) ≡ b) [ true ↦ refl | false ↦ refl ])

  apart_by : (n : NameWords) (ns : List NameWords) (from : ℕ) → from + length (n ∷ ns) ≤ POOL_RECORDS → IsNameOf image from n → Holds (from + 1) ns → (free : Bool) → eqb n.low 0 ≡ free
      → is_apart name_cmp (cond free None (Some (spelled n, (from, pool from n)))) (named (tables_of F image)) (from + 1) (length ns) ≡ (free || not (list_any (is_same_name n) ns))
  apart_by n ns from few is holds true tested = refl
  apart_by n ns from few is holds false tested = found n ns (from + 1) (omega arith) (fits_of from n is) (eqb-false n.low 0 tested) holds

  distinct_from : (ns : List NameWords) (from : ℕ) → from + length ns ≤ POOL_RECORDS → Holds from ns → are_apart ns ≡ are_distinct name_cmp (named (tables_of F image)) from (length ns)
  unfolding are_distinct
  distinct_from [] from few holds = refl
  distinct_from (n ∷ ns) from few holds =
      let is = head_of from n ns holds in
      let tail = tail_of from n ns holds in
      let rest = are_distinct name_cmp (named (tables_of F image)) (from + 1) (length ns) in
      ap (λ (b : Bool). (eqb n.low 0 || not (list_any (is_same_name n) ns)) && b) (distinct_from ns (from + 1) (omega arith) tail)
      ∙ sym (ap (λ (o : Option (List ℕ × (ℕ × PoolRecord))). is_apart name_cmp o (named (tables_of F image)) (from + 1) (length ns) && rest) (entry_by from n (omega arith) is (eqb n.low 0) refl)
      ∙ ap (λ (b : Bool). b && rest) (apart_by n ns from few is tail (eqb n.low 0) refl))

  pub distinct_names : (names : List NameWords) → HoldsNames image names → are_apart names ≡ has_distinct_names (tables_of F image)
  unfolding has_distinct_names
  distinct_names names holds =
      distinct_from names 0 (let all = holds.all in omega arith) (λ k below. let e : k ≡ 0 + k = omega arith in subst (λ (m : ℕ). IsNameOf image m (slice_index_or names k no_name)) e (holds.each k (let all = holds.all in omega arith)))
      ∙ ap (are_distinct name_cmp (named (tables_of F image)) 0) holds.all
