-- The geometry of a class: where its slots lie in a frame, and that no two of them overlap. What is stated about any class
-- is proved for each of the two.
use Rattle.std.proofs.Common.{◌≡◌, inl, inr, ℕ, ◌+◌, ◌-◌, ◌*◌, ◌/◌, ◌%◌, ◌<◌, ◌≤◌, true, false, eqb, leb, refl, sym, ap, subst, ◌∙◌, arith}
use Rattle.std.proofs.lemmas.Bool.{cases_Bool, cond-true, cond-false, cond_both}
use Rattle.pud_defs.specs.declared.layout.TheConstants.{FRAME_WORDS}
use Rattle.pud_defs.specs.declared.space.TheConstants.{FRAME_HEADER_WORDS, WORD_BYTES, CLASSES, SMALL, LARGE, MAX_SMALL_FIELDS, SMALL_SLOTS, SMALL_SLOT_WORDS, LARGE_SLOTS, LARGE_SLOT_WORDS, MAX_SLOTS, MAX_SLOT_WORDS}
use Rattle.pud_defs.specs.Formats.Geometry.{class_slots, class_slot_words, class_slot_at, class_for}

-- A puddle of the class has this many slots, and each of them has this many words.
pub record IsSized (class slots words : ℕ) : Type 0 where
  pub count : class_slots class ≡ slots
  pub width : class_slot_words class ≡ words
  pub at : (slot : ℕ) → class_slot_at class slot ≡ FRAME_HEADER_WORDS + words * slot

sized_small : (class : ℕ) → eqb class SMALL ≡ true → IsSized class SMALL_SLOTS SMALL_SLOT_WORDS
unfolding class_slots class_slot_words class_slot_at
sized_small class is = record {
  count = cond-true _ _ _ is;
  width = cond-true _ _ _ is;
  at = λ slot. ap (λ (w : ℕ). FRAME_HEADER_WORDS + w * slot) (cond-true (eqb class SMALL) SMALL_SLOT_WORDS LARGE_SLOT_WORDS is);
}

sized_large : (class : ℕ) → eqb class SMALL ≡ false → IsSized class LARGE_SLOTS LARGE_SLOT_WORDS
unfolding class_slots class_slot_words class_slot_at
sized_large class other = record {
  count = cond-false _ _ _ other;
  width = cond-false _ _ _ other;
  at = λ slot. ap (λ (w : ℕ). FRAME_HEADER_WORDS + w * slot) (cond-false (eqb class SMALL) SMALL_SLOT_WORDS LARGE_SLOT_WORDS other);
}

-- What holds for the small class and for the large one holds for each number.
pub by_class : (P : ℕ → Type 0) (class : ℕ) → (IsSized class SMALL_SLOTS SMALL_SLOT_WORDS → P class) → (IsSized class LARGE_SLOTS LARGE_SLOT_WORDS → P class) → P class
by_class P class small large = elim (cases_Bool (eqb class SMALL)) [ inl is ↦ small (sized_small class is) | inr other ↦ large (sized_large class other) ]

-- A slot begins after the header and the slots before it.
pub slot_at_is : (class slot : ℕ) → class_slot_at class slot ≡ FRAME_HEADER_WORDS + class_slot_words class * slot
unfolding class_slot_at
slot_at_is class slot = refl

module _ (class : ℕ) where
  -- ---- sizes

  -- The header and all slots fill the frame.
  pub whole_frame : FRAME_HEADER_WORDS + class_slot_words class * class_slots class ≡ FRAME_WORDS
  whole_frame = by_class (λ c. FRAME_HEADER_WORDS + class_slot_words c * class_slots c ≡ FRAME_WORDS) class
      (λ g. let n = g.count in let w = g.width in λ p. FRAME_HEADER_WORDS + w p * n p) (λ g. let n = g.count in let w = g.width in λ p. FRAME_HEADER_WORDS + w p * n p)

  pub few_slots : class_slots class ≤ MAX_SLOTS
  few_slots = by_class (λ c. class_slots c ≤ MAX_SLOTS) class (λ g. let n = g.count in omega arith) (λ g. let n = g.count in omega arith)

  pub some_words : SMALL_SLOT_WORDS ≤ class_slot_words class
  some_words = by_class (λ c. SMALL_SLOT_WORDS ≤ class_slot_words c) class (λ g. let n = g.width in omega arith) (λ g. let n = g.width in omega arith)

  pub few_words : class_slot_words class ≤ MAX_SLOT_WORDS
  few_words = by_class (λ c. class_slot_words c ≤ MAX_SLOT_WORDS) class (λ g. let n = g.width in omega arith) (λ g. let n = g.width in omega arith)

  -- ---- where slots lie

  module _ (slot : ℕ) where
    pub slot_low : FRAME_HEADER_WORDS ≤ class_slot_at class slot
    slot_low = by_class (λ c. FRAME_HEADER_WORDS ≤ class_slot_at c slot) class (λ g. let n = g.at slot in omega arith) (λ g. let n = g.at slot in omega arith)

    -- A slot ends within the frame.
    pub slot_end : slot < class_slots class → class_slot_at class slot + class_slot_words class ≤ FRAME_WORDS
    slot_end below = by_class (λ c. slot < class_slots c → class_slot_at c slot + class_slot_words c ≤ FRAME_WORDS) class
        (λ g few. let n = g.count in let w = g.width in let a = g.at slot in omega arith)
        (λ g few. let n = g.count in let w = g.width in let a = g.at slot in omega arith) below

    -- A number after that of the last slot begins at the end of the frame, or after it.
    pub slot_past : class_slots class ≤ slot → FRAME_WORDS ≤ class_slot_at class slot
    slot_past above = by_class (λ c. class_slots c ≤ slot → FRAME_WORDS ≤ class_slot_at c slot) class
        (λ g many. let n = g.count in let a = g.at slot in omega arith)
        (λ g many. let n = g.count in let a = g.at slot in omega arith) above

    -- A slot ends before those that follow it.
    pub slots_apart : (other : ℕ) → slot < other → class_slot_at class slot + class_slot_words class ≤ class_slot_at class other
    slots_apart other less = by_class (λ c. class_slot_at c slot + class_slot_words c ≤ class_slot_at c other) class
        (λ g. let w = g.width in let a = g.at slot in let b = g.at other in omega arith)
        (λ g. let w = g.width in let a = g.at slot in let b = g.at other in omega arith)

    -- ---- which slot a word is in

    module _ (j : ℕ) (low : j < class_slot_words class) where
      pub slot_of_word : (class_slot_at class slot + j - FRAME_HEADER_WORDS) / class_slot_words class ≡ slot
      slot_of_word = by_class (λ c. j < class_slot_words c → (class_slot_at c slot + j - FRAME_HEADER_WORDS) / class_slot_words c ≡ slot) class
          (λ g few. let w = g.width in let a = g.at slot in (λ p. (a p + j - FRAME_HEADER_WORDS) / w p) ∙ omega arith)
          (λ g few. let w = g.width in let a = g.at slot in (λ p. (a p + j - FRAME_HEADER_WORDS) / w p) ∙ omega arith) low

      pub word_of_slot : (class_slot_at class slot + j - FRAME_HEADER_WORDS) % class_slot_words class ≡ j
      word_of_slot = by_class (λ c. j < class_slot_words c → (class_slot_at c slot + j - FRAME_HEADER_WORDS) % class_slot_words c ≡ j) class
          (λ g few. let w = g.width in let a = g.at slot in (λ p. (a p + j - FRAME_HEADER_WORDS) % w p) ∙ omega arith)
          (λ g few. let w = g.width in let a = g.at slot in (λ p. (a p + j - FRAME_HEADER_WORDS) % w p) ∙ omega arith) low

    -- A slot is found from its address.
    pub slot_of_address : (base : ℕ) → (base + WORD_BYTES * class_slot_at class slot - (base + WORD_BYTES * class_slot_at class 0)) / (WORD_BYTES * class_slot_words class) ≡ slot
    slot_of_address base = by_class (λ c. (base + WORD_BYTES * class_slot_at c slot - (base + WORD_BYTES * class_slot_at c 0)) / (WORD_BYTES * class_slot_words c) ≡ slot) class
        (λ g. let w = g.width in let a = g.at slot in let z = g.at 0 in (λ p. (base + WORD_BYTES * a p - (base + WORD_BYTES * z p)) / (WORD_BYTES * w p)) ∙ omega arith)
        (λ g. let w = g.width in let a = g.at slot in let z = g.at 0 in (λ p. (base + WORD_BYTES * a p - (base + WORD_BYTES * z p)) / (WORD_BYTES * w p)) ∙ omega arith)

    -- A word lies in one slot only.
    pub same_slot : (other j k : ℕ) → j < class_slot_words class → k < class_slot_words class → class_slot_at class slot + j ≡ class_slot_at class other + k → slot ≡ other
    same_slot other j k low few same = by_class (λ c. j < class_slot_words c → k < class_slot_words c → class_slot_at c slot + j ≡ class_slot_at c other + k → slot ≡ other) class
        (λ g l f is. let w = g.width in let a = g.at slot in let b = g.at other in omega arith)
        (λ g l f is. let w = g.width in let a = g.at slot in let b = g.at other in omega arith) low few same

-- A word after the frame lies in no slot of it.
pub slot_of_far_word : (class k : ℕ) → FRAME_WORDS ≤ k → FRAME_WORDS ≤ class_slot_at class ((k - FRAME_HEADER_WORDS) / class_slot_words class)
slot_of_far_word class k far = by_class (λ c. FRAME_WORDS ≤ class_slot_at c ((k - FRAME_HEADER_WORDS) / class_slot_words c)) class
    (λ g. let w = g.width in let a = g.at ((k - FRAME_HEADER_WORDS) / class_slot_words class) in subst (λ (n : ℕ). FRAME_WORDS ≤ n) (sym (a ∙ ap (λ (v : ℕ). FRAME_HEADER_WORDS + SMALL_SLOT_WORDS * ((k - FRAME_HEADER_WORDS) / v)) w)) (omega arith))
    (λ g. let w = g.width in let a = g.at ((k - FRAME_HEADER_WORDS) / class_slot_words class) in subst (λ (n : ℕ). FRAME_WORDS ≤ n) (sym (a ∙ ap (λ (v : ℕ). FRAME_HEADER_WORDS + LARGE_SLOT_WORDS * ((k - FRAME_HEADER_WORDS) / v)) w)) (omega arith))

-- ---- the class of a type

-- A device may have puddles of the class in which objects are made.
pub class_for_legal : (fields : ℕ) → class_for fields < CLASSES
unfolding class_for
class_for_legal fields = cond_both (leb fields MAX_SMALL_FIELDS) SMALL LARGE (λ class. class < CLASSES) (λ few. omega arith) (λ many. omega arith)
