-- Slots in a row: where they begin and end in their frame.
use Rattle.std.proofs.Common.{◌≡◌, ℕ, ◌+◌, ◌-◌, ◌*◌, ◌/◌, ◌<◌, ◌≤◌, sym, subst, arith}
use Rattle.pud_defs.specs.declared.layout.TheConstants.{FRAME_WORDS}
use Rattle.pud_defs.specs.declared.space.TheConstants.{FRAME_HEADER_WORDS}
use Rattle.pud_defs.specs.Formats.Geometry.{class_slots, class_slot_words, class_slot_at}
use Rattle.pud_defs.proofs.Formats.Geometry.{by_class}

module _ (class : ℕ) where
  -- Slots in a row end within the frame.
  pub row_end : (first count : ℕ) → first + count ≤ class_slots class → class_slot_at class first + class_slot_words class * count ≤ FRAME_WORDS
  row_end first count within = by_class (λ c. first + count ≤ class_slots c → class_slot_at c first + class_slot_words c * count ≤ FRAME_WORDS) class
      (λ g few. let n = g.count in let a = g.at first in subst (λ (w : ℕ). class_slot_at class first + w * count ≤ FRAME_WORDS) (sym g.width) (omega arith))
      (λ g few. let n = g.count in let a = g.at first in subst (λ (w : ℕ). class_slot_at class first + w * count ≤ FRAME_WORDS) (sym g.width) (omega arith)) within

  -- A slot begins where the slot before it ends.
  pub slot_next : (slot : ℕ) → class_slot_at class slot + class_slot_words class ≡ class_slot_at class (slot + 1)
  slot_next slot = by_class (λ c. class_slot_at c slot + class_slot_words c ≡ class_slot_at c (slot + 1)) class
      (λ g. let w = g.width in let a = g.at slot in let b = g.at (slot + 1) in omega arith)
      (λ g. let w = g.width in let a = g.at slot in let b = g.at (slot + 1) in omega arith)

  -- A slot begins where a row of slots ends that comes before it.
  pub row_next : (first slot : ℕ) → first ≤ slot → class_slot_at class slot ≡ class_slot_at class first + class_slot_words class * (slot - first)
  row_next first slot from = by_class (λ c. class_slot_at c slot ≡ class_slot_at c first + class_slot_words c * (slot - first)) class
      (λ g. let a = g.at slot in let b = g.at first in subst (λ (w : ℕ). class_slot_at class slot ≡ class_slot_at class first + w * (slot - first)) (sym g.width) (omega arith))
      (λ g. let a = g.at slot in let b = g.at first in subst (λ (w : ℕ). class_slot_at class slot ≡ class_slot_at class first + w * (slot - first)) (sym g.width) (omega arith))

  -- A row with one more slot.
  pub row_more : (first slot : ℕ) → first ≤ slot → class_slot_words class * (slot - first) + class_slot_words class ≡ class_slot_words class * (slot + 1 - first)
  row_more first slot from = by_class (λ c. class_slot_words c * (slot - first) + class_slot_words c ≡ class_slot_words c * (slot + 1 - first)) class
      (λ g. subst (λ (w : ℕ). w * (slot - first) + w ≡ w * (slot + 1 - first)) (sym g.width) (omega arith))
      (λ g. subst (λ (w : ℕ). w * (slot - first) + w ≡ w * (slot + 1 - first)) (sym g.width) (omega arith))

  -- A word whose slot is in a row of slots lies in that row.
  pub word_in_row : (j first count : ℕ) → FRAME_HEADER_WORDS ≤ j → first ≤ (j - FRAME_HEADER_WORDS) / class_slot_words class → (j - FRAME_HEADER_WORDS) / class_slot_words class < first + count
      → (class_slot_at class first ≤ j) × (j < class_slot_at class first + class_slot_words class * count)
  word_in_row j first count low from to =
      by_class (λ c. first ≤ (j - FRAME_HEADER_WORDS) / class_slot_words c → (j - FRAME_HEADER_WORDS) / class_slot_words c < first + count
      → (class_slot_at c first ≤ j) × (j < class_slot_at c first + class_slot_words c * count)) class
      (λ g. let a = g.at first in subst (λ (w : ℕ). first ≤ (j - FRAME_HEADER_WORDS) / w → (j - FRAME_HEADER_WORDS) / w < first + count → (class_slot_at class first ≤ j) × (j < class_slot_at class first + w * count)) (sym g.width)
      (λ least most. (omega arith, omega arith)))
      (λ g. let a = g.at first in subst (λ (w : ℕ). first ≤ (j - FRAME_HEADER_WORDS) / w → (j - FRAME_HEADER_WORDS) / w < first + count → (class_slot_at class first ≤ j) × (j < class_slot_at class first + w * count)) (sym g.width)
      (λ least most. (omega arith, omega arith))) from to
