-- The scope of a pool: where addresses lie, which words are its own, and that it is a scope.
use Rattle.std.proofs.Common.{◌≡◌, inl, inr, ℕ, zero, suc, ◌+◌, ◌-◌, ◌*◌, ◌/◌, ◌%◌, ◌<◌, ◌≤◌, Bool, true, false, ◌||◌, List, [], ◌∷◌, All, map, Option, Some, None, option_map, refl, sym, ap, subst, ◌∙◌, arith, eqb, leb, ltb, eq-eqb}
use Rattle.std.specs.Prelude.{slice_get}
use Rattle.std.specs.List.{list_any}
use Rattle.std.specs.Option.{option_or}
use Rattle.std.proofs.lemmas.Bool.{cases_Bool, cond-true, cond-false, and_parts, and_from, and_left, and_right, or_left, or_right, leb-true, ltb-true, eqb-true, le-leb, lt-ltb, le-ltb}
use Rattle.std.proofs.lemmas.Option.{none-some, same_Some, slice_get-map, slice_get_within, get_or_from_slice_get}
use Rattle.std.proofs.lemmas.List.Elements.{All-get_or}
use Rattle.pud_defs.specs.declared.layout.TheConstants.{LOG_WORDS, FRAME_WORDS}
use Rattle.pud_defs.specs.declared.space.TheConstants.{RANGE_BYTES, WORD_BYTES, SPACE_START, SPACE_BYTES}
use Rattle.pud_defs.specs.declared.records.Puddle.{Puddle}
use Rattle.pud_defs.specs.Formats.Layout.{frames_at, device_words}
use Rattle.pud_defs.specs.Formats.Bases.{is_legal_base}
use Rattle.pud_defs.specs.Formats.Frames.{frame_at}
use Rattle.pud_defs.specs.RegistryTables.Places.{word_in}
use Rattle.pud_defs.specs.Logging.Replay.{is_in_log}
use Rattle.graph_laws.specs.Changes.{AreBases}
use Rattle.graph_laws.proofs.SameReads.Pointers.{following}
use Rattle.word_transaction.specs.Scope.{Spans, IsScope}
use Rattle.hybrid_tx.specs.PoolScopes.{word_by, pool_place, has_words, pool_may_name, is_in_puddle, pool_has_word, pool_scope, ArePlacedPuddles}

-- ---- elements of lists

pub all_there : {X : Type 0} (P : X → Type 0) (xs : List X) (i : ℕ) (x : X) → All P xs → slice_get xs i ≡ Some x → P x
all_there P xs i x all there = subst P (get_or_from_slice_get xs i x x there) (All-get_or P xs i x (slice_get_within xs i x there) all)

-- an element of the list passes the test
pub record Passes {X : Type 0} (test : X → Bool) (xs : List X) : Type 0 where
  pub index : ℕ
  pub element : X
  pub there : slice_get xs index ≡ Some element
  pub passes : test element ≡ true

pub any_element : {X : Type 0} (test : X → Bool) (xs : List X) → list_any test xs ≡ true → Passes test xs
any_element test [] any = absurd (let it : false ≡ true = any in cc)
any_element test (x ∷ xs) any = elim (cases_Bool (test x)) [
  | inl here ↦ record { index = 0; element = x; there = refl; passes = here }
  | inr fails ↦
      let later = any_element test xs (sym (ap (λ b. b || list_any test xs) fails) ∙ any) in
      record { index = suc later.index; element = later.element; there = later.there; passes = later.passes }
]

pub element_passes : {X : Type 0} (test : X → Bool) (xs : List X) (i : ℕ) (x : X) → slice_get xs i ≡ Some x → test x ≡ true → list_any test xs ≡ true
element_passes test [] i x there here = absurd (none-some x there)
element_passes test (y ∷ xs) zero x there here = or_left _ _ (ap test (same_Some y x there) ∙ here)
element_passes test (y ∷ xs) (suc i) x there here = or_right (test y) _ (element_passes test xs i x there here)

-- ---- where an address lies

module _ (base address : ℕ) (low : base ≤ address) (high : address < base + RANGE_BYTES) where
  word_in-there : word_in base address ≡ Some ((address - base) / WORD_BYTES)
  word_in-there = cond-true _ _ _ (and_from _ _ (le-leb base address low) (lt-ltb address (base + RANGE_BYTES) high))

  word_in-other : (other : ℕ) → base % RANGE_BYTES ≡ 0 → other % RANGE_BYTES ≡ 0 → (other ≡ base → ⊥) → word_in other address ≡ None
  word_in-other other multiple others apart = elim (cases_Bool (leb other address)) [
    | inr above ↦ cond-false _ _ _ (and_left (leb other address) _ above)
    | inl below ↦
        let from : other ≤ address = leb-true other address below in
        let past : other + RANGE_BYTES ≤ address = elim (cases_Bool (ltb address (other + RANGE_BYTES))) [
          | inl within ↦ absurd (let end = ltb-true address (other + RANGE_BYTES) within in apart (omega arith))
          | inr following ↦ grind (arith, Rattle.std.proofs.lemmas.Bool.Decides.nat_tests)
        ] in
        cond-false _ _ _ (and_right (leb other address) _ (le-ltb address (other + RANGE_BYTES) past))
  ]

-- the bases of puddles, by their ordinals
abbrev pub bases_of : List (ℕ × Puddle) → List ℕ
bases_of at = map (λ (d : Puddle). d.base) (map (λ (e : ℕ × Puddle). e.1) at)

pub base_there : (at : List (ℕ × Puddle)) (i : ℕ) (e : ℕ × Puddle) → slice_get at i ≡ Some e → slice_get (bases_of at) i ≡ Some e.1.base
base_there at i e there =
    slice_get-map (λ (d : Puddle). d.base) (map (λ (e : ℕ × Puddle). e.1) at) i
    ∙ ap (option_map (λ (d : Puddle). d.base)) (slice_get-map (λ (e : ℕ × Puddle). e.1) at i ∙ ap (option_map (λ (e : ℕ × Puddle). e.1)) there)

pub pool_place-there : (F : ℕ) (at : List (ℕ × Puddle)) (i : ℕ) (e : ℕ × Puddle) (address : ℕ) → AreBases (bases_of at) → slice_get at i ≡ Some e
    → e.1.base ≤ address → address < e.1.base + RANGE_BYTES → pool_place F at address ≡ Some (frame_at F e.0 + (address - e.1.base) / WORD_BYTES)
unfolding pool_place
pool_place-there F [] i e address bases there low high = absurd (none-some e there)
pool_place-there F (d ∷ at) zero e address bases there low high =
    ap (λ (o : Option ℕ). option_or o (pool_place F at address))
    (ap (word_by F address) (same_Some d e there) ∙ ap (option_map (λ k. frame_at F e.0 + k)) (word_in-there e.1.base address low high))
pool_place-there F (d ∷ at) (suc i) e address bases there low high =
    let its = base_there at i e there in
    let apart : d.1.base ≡ e.1.base → ⊥ = λ same. absurd (let it = bases.distinct 0 (suc i) e.1.base (ap (λ (b : ℕ). Some b) same) its in cc) in
    ap (λ (o : Option ℕ). option_or o (pool_place F at address))
    (ap (option_map (λ k. frame_at F d.0 + k)) (word_in-other e.1.base address low high d.1.base (bases.multiples (suc i) e.1.base its) (bases.multiples 0 d.1.base refl) apart))
    ∙ pool_place-there F at i e address (following d.1.base (bases_of at) bases) there low high

-- ---- what may be named

-- the range of this puddle of the pool has this many words from an address on
pub record IsNamed (at : List (ℕ × Puddle)) (address count : ℕ) : Type 0 where
  pub ordinal : ℕ
  pub puddle : ℕ × Puddle
  pub there : slice_get at ordinal ≡ Some puddle
  pub low : puddle.1.base ≤ address
  pub high : address + WORD_BYTES * count ≤ puddle.1.base + RANGE_BYTES
  pub aligned : address % WORD_BYTES ≡ 0
  pub some : 1 ≤ count

pub pool_may_name-named : (at : List (ℕ × Puddle)) (address count : ℕ) → pool_may_name at address count ≡ true → IsNamed at address count
unfolding pool_may_name
pool_may_name-named at address count may =
    let parts = and_parts _ (list_any (has_words address count) at) may in
    let front = and_parts (eqb (address % WORD_BYTES) 0) (leb 1 count) parts.0 in
    let found = any_element (has_words address count) at parts.1 in
    let range = and_parts (leb found.element.1.base address) (leb (address + WORD_BYTES * count) (found.element.1.base + RANGE_BYTES)) found.passes in
    record {
      ordinal = found.index;
      puddle = found.element;
      there = found.there;
      low = leb-true _ _ range.0;
      high = leb-true _ _ range.1;
      aligned = eqb-true _ _ front.0;
      some = leb-true _ _ front.1;
    }

pub pool_may_name-from : (at : List (ℕ × Puddle)) (address count : ℕ) → IsNamed at address count → pool_may_name at address count ≡ true
unfolding pool_may_name
pool_may_name-from at address count named =
    and_from _ _ (and_from _ _ (eq-eqb _ _ named.aligned) (le-leb _ _ named.some))
    (element_passes (has_words address count) at named.ordinal named.puddle named.there (and_from _ _ (le-leb _ _ named.low) (le-leb _ _ named.high)))

-- ---- own words

-- the word is one of this puddle's frame
pub record IsMine (F : ℕ) (at : List (ℕ × Puddle)) (k : ℕ) : Type 0 where
  pub ordinal : ℕ
  pub puddle : ℕ × Puddle
  pub there : slice_get at ordinal ≡ Some puddle
  pub low : frame_at F puddle.0 ≤ k
  pub high : k < frame_at F puddle.0 + FRAME_WORDS

pub pool_has_word-each : (F : ℕ) (at : List (ℕ × Puddle)) (k : ℕ) → pool_has_word F at k ≡ true → IsMine F at k
unfolding pool_has_word
pool_has_word-each F at k mine =
    let found = any_element (is_in_puddle F k) at mine in
    let parts = and_parts (leb (frame_at F found.element.0) k) (ltb k (frame_at F found.element.0 + FRAME_WORDS)) found.passes in
    record { ordinal = found.index; puddle = found.element; there = found.there; low = leb-true _ _ parts.0; high = ltb-true _ _ parts.1 }

pub pool_has_word-from : (F : ℕ) (at : List (ℕ × Puddle)) (k : ℕ) → IsMine F at k → pool_has_word F at k ≡ true
unfolding pool_has_word
pool_has_word-from F at k m = element_passes (is_in_puddle F k) at m.ordinal m.puddle m.there (and_from _ _ (le-leb _ _ m.low) (lt-ltb _ _ m.high))

-- ---- the scope

-- a legal base lies in the space
pub base_below : (base : ℕ) → is_legal_base base ≡ true → base < SPACE_START + SPACE_BYTES
base_below base legal =
    let parts = and_parts _ _ legal in
    ltb-true base (SPACE_START + SPACE_BYTES) (and_parts _ _ parts.0).1

module _ (F size log : ℕ) (at : List (ℕ × Puddle)) (placed : ArePlacedPuddles F at) (room : device_words F ≤ size) (before : log + LOG_WORDS ≤ frames_at F) where
  spans : (address count : ℕ) → IsNamed at address count → Spans size (pool_scope F at) address count
  spans address count named =
      let e = named.puddle in
      let low = named.low in
      let high = named.high in
      let aligned = named.aligned in
      let some = named.some in
      let frame : e.0 < F = all_there (λ d. d.0 < F) at named.ordinal e placed.below named.there in
      let few : (address - e.1.base) / WORD_BYTES + count ≤ FRAME_WORDS = omega arith in
      let below : e.1.base < SPACE_START + SPACE_BYTES = base_below e.1.base (all_there (λ d. is_legal_base d.1.base ≡ true) at named.ordinal e placed.legal named.there) in
      let there = λ (i : ℕ) (inside : i < count). pool_place-there F at named.ordinal e (address + WORD_BYTES * i) placed.bases named.there (omega arith) (omega arith) in
      let one_further = λ (i : ℕ). (let it : (address + WORD_BYTES * i - e.1.base) / WORD_BYTES ≡ (address - e.1.base) / WORD_BYTES + i = omega arith in it) in
      record {
        first = frame_at F e.0 + (address - e.1.base) / WORD_BYTES;
        some = some;
        placed = pool_place-there F at named.ordinal e address placed.bases named.there low (omega arith);
        within = omega arith;
        fits = omega arith;
        each = λ i inside. there i inside ∙ ap (λ (n : ℕ). Some n) (let further = one_further i in let it : frame_at F e.0 + (address + WORD_BYTES * i - e.1.base) / WORD_BYTES ≡ frame_at F e.0 + (address - e.1.base) / WORD_BYTES + i = omega arith in it);
        own = λ k from end. pool_has_word-from F at k (record { ordinal = named.ordinal; puddle = e; there = named.there; low = omega arith; high = omega arith });
      }

  outside_log : (k : ℕ) → IsMine F at k → is_in_log log k ≡ false
  outside_log k m = let low = m.low in and_right (leb log k) (ltb k (log + LOG_WORDS)) (le-ltb k (log + LOG_WORDS) (omega arith))

  pub is_scope : IsScope size log (pool_scope F at)
  is_scope = record {
    named = λ address count may. spans address count (pool_may_name-named at address count may);
    apart = λ k mine. outside_log k (pool_has_word-each F at k mine);
  }

-- ---- words by ordinal

module _ (F : ℕ) (at : List (ℕ × Puddle)) (placed : ArePlacedPuddles F at) (o k : ℕ) (e : ℕ × Puddle) (there : slice_get at o ≡ Some e) where
  pub place_of_word : k < FRAME_WORDS → pool_place F at (e.1.base + WORD_BYTES * k) ≡ Some (frame_at F e.0 + k)
  place_of_word below =
      let word : (e.1.base + WORD_BYTES * k - e.1.base) / WORD_BYTES ≡ k = omega arith in
      pool_place-there F at o e (e.1.base + WORD_BYTES * k) placed.bases there (omega arith) (omega arith) ∙ ap (λ n. Some (frame_at F e.0 + n)) word

  pub may_name_words : (count : ℕ) → 1 ≤ count → k + count ≤ FRAME_WORDS → pool_may_name at (e.1.base + WORD_BYTES * k) count ≡ true
  may_name_words count some few =
      let base : e.1.base % RANGE_BYTES ≡ 0 = placed.bases.multiples o e.1.base (base_there at o e there) in
      pool_may_name-from at (e.1.base + WORD_BYTES * k) count (record {
        ordinal = o;
        puddle = e;
        there = there;
        low = omega arith;
        high = omega arith;
        aligned = omega arith;
        some = some;
      })
