-- The log-space table: images that agree on what is read from it and from the clients' logs.
use Rattle.std.proofs.Common.{◌≡◌, ℕ, zero, suc, ◌+◌, ◌^◌, ◌<◌, ◌≤◌, Bool, true, false, ◌&&◌, ◌||◌, eqb, leb, ltb, refl, sym, ap, ap₂, ◌∙◌, ⊎_elim, inl, inr, arith, add-one, eq-eqb, not, List, [], ◌∷◌, map}
use Rattle.std.specs.Prelude.{cond, Some, None, is_some}
use Rattle.std.proofs.lemmas.Bool.{and_parts, and_from, cond-false, cases_Bool, cases_eq, or_left, leb-true}
use Rattle.pud_defs.specs.declared.layout.TheConstants.{SPACE_TABLE, CLIENTS, CLIENT_LOGS, LOG_ENTRY_WORDS, PUDDLE_TABLE}
use Rattle.pud_defs.specs.Formats.Image.{Image}
use Rattle.pud_defs.specs.Formats.Layout.{tables_end, log_at, frames_at}
use Rattle.pud_defs.specs.Logging.Entries.{gate_lo, gate_hi, gate_used, is_legal_gate, entries_of, log_of}
use Rattle.pud_defs.specs.Logging.Replay.{IsInLog}
use Rattle.pud_defs.specs.RegistryTables.Spaces.{Owner, owner, space_record_at, owner_by, all_below, is_space, is_legal_space, is_closed_range, is_closed_log, has_closed_logs, are_legal_spaces, are_closed_logs, owner_of}
use Rattle.pud_defs.proofs.Logging.Entries.{entries_of-same}
use Rattle.std.specs.List.{list_all, list_any, range_with_len}
use Rattle.std.proofs.Math.Bool.{and-true}
use Rattle.std.proofs.lemmas.List.Folds.{list_all-append, list_all-map}
use Rattle.std.proofs.lemmas.List.FromFn.{map-range_with_len_more}

pub all_below-same : (n : ℕ) (f g : ℕ → Bool) → ((k : ℕ) → k < n → f k ≡ g k) → all_below n f ≡ all_below n g
unfolding all_below
all_below-same zero f g same = refl
all_below-same (suc n) f g same = ap₂ (λ (x y : Bool). x && y) (all_below-same n f g (λ k below. same k (omega arith))) (same n (omega arith))

pub all_below-from : (n : ℕ) (f : ℕ → Bool) → ((k : ℕ) → k < n → f k ≡ true) → all_below n f ≡ true
unfolding all_below
all_below-from zero f each = refl
all_below-from (suc n) f each = and_from (all_below n f) (f n) (all_below-from n f (λ k below. each k (omega arith))) (each n (omega arith))

pub all_below-each : (n : ℕ) (f : ℕ → Bool) → all_below n f ≡ true → (k : ℕ) → k < n → f k ≡ true
unfolding all_below
all_below-each zero f all k below = absurd (omega arith)
all_below-each (suc n) f all k below =
    let parts = and_parts (all_below n f) (f n) all in
    ⊎_elim (λ here. ap f here ∙ parts.1) (λ other. all_below-each n f parts.0 k (omega arith)) (cases_eq k n)

-- ---- steps of a loop over the numbers below n

pub all_below-more : (n : ℕ) (f : ℕ → Bool) → all_below n f ≡ true → f n ≡ true → all_below (n + 1) f ≡ true
unfolding all_below
all_below-more n f all here = ap (λ k. all_below k f) (add-one n) ∙ and_from (all_below n f) (f n) all here

pub all_below-fails : (n k : ℕ) (f : ℕ → Bool) → k < n → f k ≡ false → all_below n f ≡ false
all_below-fails n k f below fails = elim (cases_Bool (all_below n f)) [
  | inl all ↦ absurd (let it : true ≡ false = sym (all_below-each n f all k below) ∙ fails in cc)
  | inr some ↦ some
]

pub all_below-none : (test : ℕ → Bool) → all_below 0 test ≡ true
unfolding all_below
all_below-none test = refl

-- the test of a list of values, from f 0 on, is a test of each number below n
pub list_all-below : {X : Type 0} (test : X → Bool) (f : ℕ → X) (n : ℕ) → list_all test (map f (range_with_len 0 n)) ≡ all_below n (λ k. test (f k))
unfolding all_below
list_all-below test f zero = refl
list_all-below test f (suc n) =
    ap (λ k. list_all test (map f (range_with_len 0 k))) (sym (add-one n))
    ∙ ap (list_all test) (map-range_with_len_more f 0 n n (omega arith))
    ∙ list_all-append test (map f (range_with_len 0 n)) (f n ∷ [])
    ∙ ap₂ (λ (a b : Bool). a && b) (list_all-below test f n) (and-true (test (f n)))

any_by_all : {X : Type 0} (test : X → Bool) (xs : List X) → list_any test xs ≡ not (list_all (λ x. not (test x)) xs)
any_by_all test [] = refl
any_by_all test (x ∷ xs) = elim (test x) as (λ b. (b || list_any test xs) ≡ not (not b && list_all (λ y. not (test y)) xs)) [ true ↦ refl | false ↦ any_by_all test xs ]

-- some number below n passes the test exactly if not all of them fail it
pub any-range : (test : ℕ → Bool) (n : ℕ) → list_any test (range_with_len 0 n) ≡ not (all_below n (λ k. not (test k)))
any-range test n =
    any_by_all test (range_with_len 0 n)
    ∙ ap not (sym (list_all-map (λ x. not (test x)) (λ (x : ℕ). x) (range_with_len 0 n)) ∙ list_all-below (λ x. not (test x)) (λ x. x) n)

-- ---- one record

-- its first word tells whether it gives an owner
pub used_is_some : (used uid gid : ℕ) → eqb used 1 ≡ is_some (owner_by used uid gid)
used_is_some used uid gid = elim (eqb used 1) as (λ b. b ≡ is_some {T = Owner} (cond b (Some (owner uid gid)) None)) [ true ↦ refl | false ↦ refl ]

-- ---- images that agree

-- images that agree on the words of a log have the same entries there
pub entries_of-within : (i j : Image) (at : ℕ) → ((k : ℕ) → IsInLog at k → i k ≡ j k) → entries_of i at ≡ entries_of j at
unfolding entries_of
entries_of-within i j at same =
    let gate : i at ≡ j at = same at (record { low = omega arith; high = omega arith }) in
    elim (cases_Bool (is_legal_gate (i at))) [
      | inl legal ↦
          let within : gate_used (i at) ≤ LOG_ENTRY_WORDS = leb-true _ _ (and_parts (ltb (i at) (2 ^ 32)) (leb (gate_used (i at)) LOG_ENTRY_WORDS) legal).1 in
          entries_of-same i j at gate (λ k low high. same k (record { low = omega arith; high = omega arith }))
      | inr illegal ↦ cond-false _ _ _ illegal ∙ sym (cond-false _ _ _ (ap is_legal_gate (sym gate) ∙ illegal))
    ]

-- and the same log
pub log_of-within : (i j : Image) (at : ℕ) → ((k : ℕ) → IsInLog at k → i k ≡ j k) → log_of i at ≡ log_of j at
log_of-within i j at same =
    let gate : i at ≡ j at = same at (record { low = omega arith; high = omega arith }) in
    let entries = entries_of-within i j at same in
    λ p. record { lo = gate_lo (gate p); hi = gate_hi (gate p); entries = entries p }

pub is_closed_log-same : (i j : Image) (at : ℕ) → ((k : ℕ) → IsInLog at k → i k ≡ j k) → is_closed_log i at ≡ is_closed_log j at
is_closed_log-same i j at same = ap₂ (λ (v : ℕ) (x : Bool). is_closed_range v && x) (same at (record { low = omega arith; high = omega arith })) (ap is_some (entries_of-within i j at same))

pub has_closed_logs-same : (i j : Image) (F client : ℕ) → client < CLIENTS → ((k : ℕ) → tables_end F ≤ k → k < frames_at F → i k ≡ j k) → has_closed_logs i F client ≡ has_closed_logs j F client
has_closed_logs-same i j F client known same =
    all_below-same CLIENT_LOGS (λ n. is_closed_log i (log_at F client n)) (λ n. is_closed_log j (log_at F client n))
    (λ n below. is_closed_log-same i j (log_at F client n) (λ k inside. same k (omega arith) (omega arith)))

-- images that agree on the table, and images that agree on the clients' logs too
pub are_legal_spaces-same : (i j : Image) → ((k : ℕ) → SPACE_TABLE ≤ k → k < PUDDLE_TABLE → i k ≡ j k) → are_legal_spaces i ≡ are_legal_spaces j
are_legal_spaces-same i j same =
    all_below-same CLIENTS (is_legal_space i) (is_legal_space j)
    (λ c below.
    let used = same (space_record_at c) (omega arith) (omega arith) in
    let uid = same (space_record_at c + 1) (omega arith) (omega arith) in
    let gid = same (space_record_at c + 2) (omega arith) (omega arith) in
    λ p. is_space (used p) (uid p) (gid p))

pub are_closed_logs-same : (i j : Image) (F : ℕ) → ((k : ℕ) → SPACE_TABLE ≤ k → k < PUDDLE_TABLE → i k ≡ j k) → ((k : ℕ) → tables_end F ≤ k → k < frames_at F → i k ≡ j k)
    → are_closed_logs i F ≡ are_closed_logs j F
are_closed_logs-same i j F table logs =
    all_below-same CLIENTS (λ c. eqb (i (space_record_at c)) 0 || has_closed_logs i F c) (λ c. eqb (j (space_record_at c)) 0 || has_closed_logs j F c)
    (λ c below. ap₂ (λ (v : ℕ) (x : Bool). eqb v 0 || x) (table (space_record_at c) (omega arith) (omega arith)) (has_closed_logs-same i j F c below logs))

-- images that agree on the table have the same owners
pub owner_of-same : (i j : Image) (client : ℕ) → client < CLIENTS → ((k : ℕ) → SPACE_TABLE ≤ k → k < PUDDLE_TABLE → i k ≡ j k) → owner_of i client ≡ owner_of j client
owner_of-same i j client known same =
    let used = same (space_record_at client) (omega arith) (omega arith) in
    let uid = same (space_record_at client + 1) (omega arith) (omega arith) in
    let gid = same (space_record_at client + 2) (omega arith) (omega arith) in
    λ p. owner_by (used p) (uid p) (gid p)

-- a table in which no record is used is legal, and no log is registered
pub are_legal_spaces-none : (image : Image) → ((c : ℕ) → c < CLIENTS → image (space_record_at c) ≡ 0) → are_legal_spaces image ≡ true
are_legal_spaces-none image none =
    all_below-from CLIENTS (is_legal_space image) (λ c below. or_left (eqb (image (space_record_at c)) 0) _ (eq-eqb _ 0 (none c below)))

pub are_closed_logs-none : (image : Image) (F : ℕ) → ((c : ℕ) → c < CLIENTS → image (space_record_at c) ≡ 0) → are_closed_logs image F ≡ true
are_closed_logs-none image F none =
    all_below-from CLIENTS (λ c. eqb (image (space_record_at c)) 0 || has_closed_logs image F c)
    (λ c below. or_left (eqb (image (space_record_at c)) 0) _ (eq-eqb _ 0 (none c below)))
