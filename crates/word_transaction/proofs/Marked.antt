-- Words in a row are marked if an entry covers them, while the entries of a log are read.
use Rattle.std.proofs.Common.{◌≡◌, inl, inr, ℕ, ◌+◌, ◌*◌, ◌<◌, ◌≤◌, Bool, true, false, ◌||◌, List, [], ◌∷◌, length, set, refl, sym, ap, ◌∙◌, arith}
use Rattle.std.proofs.lemmas.Bool.{cases_Bool, cases_eq}
use Rattle.std.proofs.lemmas.List.{get_or-set_same, get_or-set_other, length-set}
use Rattle.pud_defs.specs.declared.space.TheConstants.{WORD_BYTES}
use Rattle.pud_defs.specs.Logging.Entries.{Entry}
use Rattle.pud_defs.specs.RegistryTables.Spaces.{all_below}
use Rattle.pud_defs.proofs.RegistryTables.Spaces.{all_below-same, all_below-from, all_below-each}
use Rattle.word_transaction.specs.Coverage.{covers, is_covered, are_covered, is_marked, MarksCovered}
use Rattle.word_transaction.proofs.Covered.{word_of}

-- each of the `count` words from that of an address on is marked, or one of the entries that are left covers it
abbrev pub covered_with : (address count : ℕ) → List Bool → List Entry → Bool
covered_with address count marks left = all_below count (λ i. is_marked marks i || is_covered left (address + WORD_BYTES * i))

pub or-assoc : (a b c : Bool) → (a || b) || c ≡ a || (b || c)
or-assoc true b c = refl
or-assoc false b c = refl

pub or-false : (a : Bool) → a || false ≡ a
or-false true = refl
or-false false = refl

-- A row of one word is covered exactly if that word is.
pub one_covered : (es : List Entry) (address : ℕ) → are_covered es address 1 ≡ is_covered es address
unfolding all_below
one_covered es address = ap (is_covered es) (let it : address + WORD_BYTES * 0 ≡ address = omega arith in it)

-- Before the first entry none is marked.
pub covered_with-start : (address count : ℕ) (marks : List Bool) (es : List Entry) → ((i : ℕ) → i < count → is_marked marks i ≡ false) → covered_with address count marks es ≡ are_covered es address count
covered_with-start address count marks es none =
    all_below-same count (λ i. is_marked marks i || is_covered es (address + WORD_BYTES * i)) (λ i. is_covered es (address + WORD_BYTES * i)) (λ i below. ap (λ (b : Bool). b || is_covered es (address + WORD_BYTES * i)) (none i below))

-- It stays the same one entry further.
pub covered_with-more : (address count : ℕ) (e : Entry) (old new : List Bool) (left : List Entry) → MarksCovered address count e old new → covered_with address count new left ≡ covered_with address count old (e ∷ left)
covered_with-more address count e old new left marks =
    all_below-same count (λ i. is_marked new i || is_covered left (address + WORD_BYTES * i)) (λ i. is_marked old i || is_covered (e ∷ left) (address + WORD_BYTES * i))
    (λ i below.
    let word = address + WORD_BYTES * i in
    ap (λ (b : Bool). b || is_covered left word) (marks.each i below) ∙ or-assoc (is_marked old i) (covers word e) (is_covered left word))

-- After the last entry it tells whether all words are marked.
pub covered_with-end : (address count : ℕ) (marks : List Bool) → covered_with address count marks [] ≡ all_below count (is_marked marks)
covered_with-end address count marks =
    all_below-same count (λ i. is_marked marks i || is_covered [] (address + WORD_BYTES * i)) (is_marked marks) (λ i below. or-false (is_marked marks i))

-- If all are marked, the entries that are left do not matter.
pub covered_with-all : (address count : ℕ) (marks : List Bool) (left : List Entry) → all_below count (is_marked marks) ≡ true → covered_with address count marks left ≡ true
covered_with-all address count marks left all =
    all_below-from count (λ i. is_marked marks i || is_covered left (address + WORD_BYTES * i))
    (λ i below. ap (λ (b : Bool). b || is_covered left (address + WORD_BYTES * i)) (all_below-each count (is_marked marks) all i below))

-- ---- the words of one entry

-- An entry covers no word after its own words.
pub covers_none_after : (address i : ℕ) (e : Entry) → e.address + WORD_BYTES * length e.vals ≤ address → covers (address + WORD_BYTES * i) e ≡ false
covers_none_after address i e ends = elim (cases_Bool (covers (address + WORD_BYTES * i) e)) [
  | inl told ↦ absurd (let w = word_of (address + WORD_BYTES * i) e told in let below = w.below in let is = w.is in omega arith)
  | inr none ↦ none
]

-- An entry covers no word before its own words.
pub covers_none_before : (address count i : ℕ) (e : Entry) → address + WORD_BYTES * count ≤ e.address → i < count → covers (address + WORD_BYTES * i) e ≡ false
covers_none_before address count i e begins within = elim (cases_Bool (covers (address + WORD_BYTES * i) e)) [
  | inl told ↦ absurd (let w = word_of (address + WORD_BYTES * i) e told in let is = w.is in omega arith)
  | inr none ↦ none
]

-- If an entry covers none of these words, no more words are marked.
pub MarksCovered-none : (address count : ℕ) (e : Entry) (marks : List Bool) → ((i : ℕ) → i < count → covers (address + WORD_BYTES * i) e ≡ false) → MarksCovered address count e marks marks
MarksCovered-none address count e marks none = record { each = λ i below. sym (ap (λ (b : Bool). is_marked marks i || b) (none i below) ∙ or-false (is_marked marks i)) }

-- Of the first `i` words those that the entry covers are marked, too. The other marks are as they were.
pub record MarksFirst (address i : ℕ) (e : Entry) (old new : List Bool) : Type 0 where
  pub same_length : length new ≡ length old
  pub first : MarksCovered address i e old new
  pub others : (j : ℕ) → i ≤ j → is_marked new j ≡ is_marked old j

pub MarksFirst-start : (address : ℕ) (e : Entry) (marks : List Bool) → MarksFirst address 0 e marks marks
MarksFirst-start address e marks = record { same_length = refl; first = record { each = λ i below. absurd (omega arith) }; others = λ j from. refl }

-- The next word, if the entry does not cover it.
pub MarksFirst-pass : (address i : ℕ) (e : Entry) (old new : List Bool) → MarksFirst address i e old new → covers (address + WORD_BYTES * i) e ≡ false → MarksFirst address (i + 1) e old new
MarksFirst-pass address i e old new so none = record {
  same_length = so.same_length;
  first = record {
    each = λ j below. elim (cases_eq j i) [
      | inl here ↦
          so.others j (omega arith) ∙ sym (ap (λ (b : Bool). is_marked old j || b) (ap (λ (k : ℕ). covers (address + WORD_BYTES * k) e) here ∙ none) ∙ or-false (is_marked old j))
      | inr other ↦ so.first.each j (omega arith)
    ];
  };
  others = λ j from. so.others j (omega arith);
}

or-true : (a : Bool) → a || true ≡ true
or-true true = refl
or-true false = refl

-- The next word, if the entry covers it and it is marked.
pub MarksFirst-mark : (address i : ℕ) (e : Entry) (old new : List Bool) → i < length old → MarksFirst address i e old new → covers (address + WORD_BYTES * i) e ≡ true
    → MarksFirst address (i + 1) e old (set new i true)
MarksFirst-mark address i e old new within so one =
    let count = so.same_length in
    record {
      same_length = length-set new i true ∙ count;
      first = record {
        each = λ j below. elim (cases_eq j i) [
          | inl here ↦
              ap (is_marked (set new i true)) here ∙ get_or-set_same new i true false (omega arith)
              ∙ sym (ap (λ (b : Bool). is_marked old j || b) (ap (λ (k : ℕ). covers (address + WORD_BYTES * k) e) here ∙ one) ∙ or-true (is_marked old j))
          | inr other ↦ get_or-set_other new i j true false other ∙ so.first.each j (omega arith)
        ];
      };
      others = λ j from. get_or-set_other new i j true false (λ same. absurd (omega arith)) ∙ so.others j (omega arith);
    }
