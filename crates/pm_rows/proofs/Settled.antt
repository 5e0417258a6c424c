-- Lemmas: the rows are the same outside of the unsettled lines.
use Rattle.std.proofs.Common.{◌≡◌, ℕ, ◌/◌, ◌<◌, ◌==◌, ◌||◌, Bool, true, false, cond, List, length, get_or, set, refl, sym, ap, ◌∙◌, arith, inl, inr, get_or-set_same, get_or-set_other}
use Rattle.std.proofs.lemmas.Bool.Decides.{nat_tests}
use Rattle.std.proofs.lemmas.Bool.{cases_eq}
use Rattle.pm_model.specs.Picking.{keeps_newest}
use Rattle.pm_rows.specs.Rows.{is_listed, picked, TakesLine, TakesLines, AreSame, AreSameOutside, Loses, LosesLines}

or-left : (a b : Bool) → (a || b) ≡ false → a ≡ false
or-left true b off = off
or-left false b off = refl

or-right : (a b : Bool) → (a || b) ≡ false → b ≡ false
or-right true b off = absurd (cc off)
or-right false b off = off

same : (b : Bool) (value : ℕ) → cond b value value ≡ value
same true value = refl
same false value = refl

-- Equal rows are the same outside of any lines.
pub AreSameOutside-equal : (row other : List ℕ) (lines : List ℕ) → row ≡ other → AreSameOutside lines row other
AreSameOutside-equal row other lines is = record { each = λ word _. ap (λ (l : List ℕ). get_or l word 0) is }

pub AreSameOutside-sorted : (lines more row other : List ℕ) → ((line : ℕ) → is_listed line more ≡ is_listed line lines) → AreSameOutside lines row other → AreSameOutside more row other
AreSameOutside-sorted lines more row other listed outside = record { each = λ word off. outside.each word (sym (listed (word / 8)) ∙ off) }

-- One more line is listed.
pub AreSameOutside-more : (lines more row other : List ℕ) (added : ℕ) → ((line : ℕ) → is_listed line more ≡ (is_listed line lines || line == added)) → AreSameOutside lines row other → AreSameOutside more row other
AreSameOutside-more lines more row other added listed outside = record {
  each = λ word off. outside.each word (or-left (is_listed (word / 8) lines) (word / 8 == added) (sym (listed (word / 8)) ∙ off));
}

-- One more line is listed, in which a word gets another value.
pub AreSameOutside-set : (lines more row other : List ℕ) (w value : ℕ) → ((line : ℕ) → is_listed line more ≡ (is_listed line lines || line == w / 8)) → AreSameOutside lines row other → AreSameOutside more (set row w value) other
AreSameOutside-set lines more row other w value listed outside = record {
  each = λ word off.
      let parts = sym (listed (word / 8)) ∙ off in
      let apart : (word / 8 == w / 8) ≡ false = or-right (is_listed (word / 8) lines) (word / 8 == w / 8) parts in
      elim (cases_eq word w) [
        | inl e ↦ absurd (grind (arith, nat_tests, e, apart))
        | inr ne ↦ get_or-set_other row w word value 0 ne ∙ outside.each word (or-left (is_listed (word / 8) lines) (word / 8 == w / 8) parts)
      ];
}

-- A word gets one value in both rows.
pub AreSameOutside-poked : (lines row other : List ℕ) (w value : ℕ) → w < length row → w < length other → AreSameOutside lines row other → AreSameOutside lines (set row w value) (set other w value)
AreSameOutside-poked lines row other w value in_row in_other outside = record {
  each = λ word off.
      elim (cases_eq word w) [
        | inl e ↦ rw e (get_or-set_same row w value 0 in_row ∙ sym (get_or-set_same other w value 0 in_other))
        | inr ne ↦ get_or-set_other row w word value 0 ne ∙ outside.each word off ∙ sym (get_or-set_other other w word value 0 ne)
      ];
}

-- A row takes a line from a row that is the same outside of the lines.
pub AreSameOutside-line : (lines from old new durable : List ℕ) (line : ℕ) → TakesLine line from old new → AreSameOutside lines from durable → AreSameOutside lines old durable → AreSameOutside lines new durable
AreSameOutside-line lines from old new durable line takes of_from of_old = record {
  each = λ word off.
      takes.each word
      ∙ ap (λ (v : ℕ). cond (word / 8 == line) v (get_or old word 0)) (of_from.each word off)
      ∙ ap (λ (v : ℕ). cond (word / 8 == line) (get_or durable word 0) v) (of_old.each word off)
      ∙ same (word / 8 == line) (get_or durable word 0);
}

-- Outside of the lines, the row that takes them does not change.
pub TakesLines-outside : (lines from old new : List ℕ) → TakesLines lines from old new → AreSameOutside lines new old
TakesLines-outside lines from old new takes = record {
  each = λ word off. takes.each word ∙ ap (λ (b : Bool). cond b (get_or from word 0) (get_or old word 0)) off;
}

pub LosesLines-outside : (lines : List ℕ) (pick : ℕ) (durable old new : List ℕ) → LosesLines lines pick durable old new → AreSameOutside lines new old
LosesLines-outside lines pick durable old new loses = record {
  each = λ word off. loses.each word ∙ ap (λ (b : Bool). cond b (picked pick word (get_or durable word 0) (get_or old word 0)) (get_or old word 0)) off;
}

pub AreSameOutside-then : (lines a b c : List ℕ) → AreSameOutside lines a b → AreSameOutside lines b c → AreSameOutside lines a c
AreSameOutside-then lines a b c first second = record { each = λ word off. first.each word off ∙ second.each word off }

pub AreSameOutside-back : (lines a b : List ℕ) → AreSameOutside lines a b → AreSameOutside lines b a
AreSameOutside-back lines a b outside = record { each = λ word off. sym (outside.each word off) }

-- What holds both ways holds.
by_line : (P : Type 0) (b : Bool) → (b ≡ true → P) → (b ≡ false → P) → P
by_line P true on off = on refl
by_line P false on off = off refl

-- The lines are taken, and outside of them both rows were the same.
pub AreSame-taken : (lines from old new : List ℕ) → TakesLines lines from old new → AreSameOutside lines from old → AreSame new from
AreSame-taken lines from old new takes outside = record {
  each = λ word.
      by_line (get_or new word 0 ≡ get_or from word 0) (is_listed (word / 8) lines)
      (λ on. takes.each word ∙ ap (λ (b : Bool). cond b (get_or from word 0) (get_or old word 0)) on)
      (λ off. (TakesLines-outside lines from old new takes).each word off ∙ sym (outside.each word off));
}

-- The rows are the same in the lines and outside of them.
pub AreSame-everywhere : (lines row other : List ℕ) → ((word : ℕ) → is_listed (word / 8) lines ≡ true → get_or row word 0 ≡ get_or other word 0) → AreSameOutside lines row other → AreSame row other
AreSame-everywhere lines row other inside outside = record {
  each = λ word. by_line (get_or row word 0 ≡ get_or other word 0) (is_listed (word / 8) lines) (inside word) (outside.each word);
}

pub AreSameOutside-everywhere : (lines row other : List ℕ) → AreSame row other → AreSameOutside lines row other
AreSameOutside-everywhere lines row other same_words = record { each = λ word _. same_words.each word }

-- A word whose two values are the same keeps that value.
pub picked-same : (pick word durable newest : ℕ) → newest ≡ durable → picked pick word durable newest ≡ newest
picked-same pick word durable newest is = ap (λ (d : ℕ). picked pick word d newest) (sym is) ∙ same (keeps_newest pick word) newest

-- A loss in the lines alone is a loss everywhere, since outside of them each word has one value.
pub Loses-lines : (lines : List ℕ) (pick : ℕ) (durable old new : List ℕ) → LosesLines lines pick durable old new → AreSameOutside lines old durable → Loses pick durable old new
Loses-lines lines pick durable old new loses outside = record {
  each = λ word.
      by_line (get_or new word 0 ≡ picked pick word (get_or durable word 0) (get_or old word 0)) (is_listed (word / 8) lines)
      (λ on. loses.each word ∙ ap (λ (b : Bool). cond b (picked pick word (get_or durable word 0) (get_or old word 0)) (get_or old word 0)) on)
      (λ off. (LosesLines-outside lines pick durable old new loses).each word off ∙ sym (picked-same pick word (get_or durable word 0) (get_or old word 0) (outside.each word off)));
}

pub Loses-same : (pick : ℕ) (durable newest row other : List ℕ) → AreSame other row → Loses pick durable newest row → Loses pick durable newest other
Loses-same pick durable newest row other same_words loses = record { each = λ word. same_words.each word ∙ loses.each word }
