-- Which field of a puddle an address is that of, by the class of the puddle.
use Rattle.std.proofs.Common.{◌≡◌, ℕ, ◌+◌, ◌-◌, ◌*◌, ◌/◌, ◌%◌, ◌<◌, ◌≤◌, sym, ap, subst, ◌∙◌, arith}
use Rattle.pud_defs.specs.declared.space.TheConstants.{FRAME_HEADER_WORDS, WORD_BYTES, HEADER_BYTES, SLOT_FIELDS_WORD}
use Rattle.pud_defs.specs.declared.records.Puddle.{Puddle}
use Rattle.pud_defs.specs.Formats.Geometry.{class_slot_words, class_slot_at, slots_of, slot_words_of}
use Rattle.pud_defs.proofs.Formats.Geometry.{by_class, some_words, slot_low, slot_at_is}
use Rattle.hybrid_tx.specs.Objects.FieldAddresses.{IsFieldAddress}

-- ---- by how many bytes a field begins after the header

-- the word of a slot that is so many bytes after the header, in slots of so many words
abbrev word_at : (offset words : ℕ) → ℕ
word_at offset words = offset % (WORD_BYTES * words) / WORD_BYTES

-- so many bytes after the header a field of a slot begins
abbrev IsOffset : (class offset slot f : ℕ) → Type 0
IsOffset class offset slot f = offset + HEADER_BYTES ≡ WORD_BYTES * (class_slot_at class slot + SLOT_FIELDS_WORD + f)

module _ (class offset : ℕ) where
  module _ (slot f : ℕ) (few : SLOT_FIELDS_WORD + f < class_slot_words class) (is : IsOffset class offset slot f) where
    slot_of_offset : offset / (WORD_BYTES * class_slot_words class) ≡ slot
    slot_of_offset = by_class (λ c. SLOT_FIELDS_WORD + f < class_slot_words c → IsOffset c offset slot f → offset / (WORD_BYTES * class_slot_words c) ≡ slot) class
        (λ g low at. let w = g.width in let a = g.at slot in (λ p. offset / (WORD_BYTES * w p)) ∙ omega arith)
        (λ g low at. let w = g.width in let a = g.at slot in (λ p. offset / (WORD_BYTES * w p)) ∙ omega arith) few is

    word_of_offset : word_at offset (class_slot_words class) ≡ SLOT_FIELDS_WORD + f
    word_of_offset = by_class (λ c. SLOT_FIELDS_WORD + f < class_slot_words c → IsOffset c offset slot f → word_at offset (class_slot_words c) ≡ SLOT_FIELDS_WORD + f) class
        (λ g low at. let w = g.width in let a = g.at slot in (λ p. word_at offset (w p)) ∙ omega arith)
        (λ g low at. let w = g.width in let a = g.at slot in (λ p. word_at offset (w p)) ∙ omega arith) few is

  -- a word of a slot is one of those that it has
  few_words_at : word_at offset (class_slot_words class) < class_slot_words class
  few_words_at = by_class (λ c. word_at offset (class_slot_words c) < class_slot_words c) class
      (λ g. subst (λ (n : ℕ). word_at offset n < n) (sym g.width) (omega arith)) (λ g. subst (λ (n : ℕ). word_at offset n < n) (sym g.width) (omega arith))

  -- the field begins there, in slots of so many words
  abbrev BeginsThere : (words : ℕ) → Type 0
  BeginsThere words =
      SLOT_FIELDS_WORD ≤ word_at offset words
      → offset + HEADER_BYTES ≡ WORD_BYTES * (FRAME_HEADER_WORDS + words * (offset / (WORD_BYTES * words)) + SLOT_FIELDS_WORD + (word_at offset words - SLOT_FIELDS_WORD))

  offset_is : offset % WORD_BYTES ≡ 0 → SLOT_FIELDS_WORD ≤ word_at offset (class_slot_words class)
      → IsOffset class offset (offset / (WORD_BYTES * class_slot_words class)) (word_at offset (class_slot_words class) - SLOT_FIELDS_WORD)
  offset_is whole past =
      by_class (λ c. BeginsThere (class_slot_words c)) class (λ g. subst BeginsThere (sym g.width) (λ some. omega arith)) (λ g. subst BeginsThere (sym g.width) (λ some. omega arith)) past
      ∙ ap (λ (k : ℕ). WORD_BYTES * (k + SLOT_FIELDS_WORD + (word_at offset (class_slot_words class) - SLOT_FIELDS_WORD))) (sym (slot_at_is class (offset / (WORD_BYTES * class_slot_words class))))

-- ---- in the range of a puddle

module _ (puddle : Puddle) (address : ℕ) where
  abbrev pub offset_of : ℕ
  offset_of = address - puddle.base - HEADER_BYTES

  -- an address of a field comes after those of the header
  pub address_low : (slot f : ℕ) → IsFieldAddress puddle address slot f → puddle.base + HEADER_BYTES ≤ address
  address_low slot f is = let low = slot_low puddle.class slot in let there = is.is in omega arith

  pub address_whole : (slot f : ℕ) → IsFieldAddress puddle address slot f → offset_of % WORD_BYTES ≡ 0
  address_whole slot f is = let low = slot_low puddle.class slot in let there = is.is in omega arith

  is_offset : (slot f : ℕ) → IsFieldAddress puddle address slot f → IsOffset puddle.class offset_of slot f
  is_offset slot f is = let low = slot_low puddle.class slot in let there = is.is in omega arith

  module _ (bytes : ℕ) (are : bytes ≡ WORD_BYTES * slot_words_of puddle) where
    pub some_bytes : 0 < bytes
    some_bytes = let some = some_words puddle.class in omega arith

    pub slot_of_address : (slot f : ℕ) → IsFieldAddress puddle address slot f → offset_of / bytes ≡ slot
    slot_of_address slot f is = ap (λ (n : ℕ). offset_of / n) are ∙ slot_of_offset puddle.class offset_of slot f is.field_below (is_offset slot f is)

    pub word_of_address : (slot f : ℕ) → IsFieldAddress puddle address slot f → offset_of % bytes / WORD_BYTES ≡ SLOT_FIELDS_WORD + f
    word_of_address slot f is = ap (λ (n : ℕ). offset_of % n / WORD_BYTES) are ∙ word_of_offset puddle.class offset_of slot f is.field_below (is_offset slot f is)

    pub word_below : offset_of % bytes / WORD_BYTES < slot_words_of puddle
    word_below = subst (λ (n : ℕ). offset_of % n / WORD_BYTES < slot_words_of puddle) (sym are) (few_words_at puddle.class offset_of)

    pub field_there : puddle.base + HEADER_BYTES ≤ address → offset_of % WORD_BYTES ≡ 0 → offset_of / bytes < slots_of puddle → SLOT_FIELDS_WORD ≤ offset_of % bytes / WORD_BYTES
        → IsFieldAddress puddle address (offset_of / bytes) (offset_of % bytes / WORD_BYTES - SLOT_FIELDS_WORD)
    field_there low whole below past =
        let few = word_below in
        let is = subst (λ (n : ℕ). SLOT_FIELDS_WORD ≤ offset_of % n / WORD_BYTES → IsOffset puddle.class offset_of (offset_of / n) (offset_of % n / WORD_BYTES - SLOT_FIELDS_WORD)) (sym are)
        (offset_is puddle.class offset_of whole) past in
        record { slot_below = below; field_below = omega arith; is = omega arith }
