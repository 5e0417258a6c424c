-- Lemmas on rows of words of which some lines are copied or lost.
use Rattle.std.proofs.Common.{◌≡◌, ℕ, ◌+◌, ◌-◌, ◌*◌, ◌/◌, ◌<◌, ◌≤◌, ◌==◌, ◌&&◌, not, nat_lt, Bool, true, false, cond, List, [], length, get_or, set, take, slice_range, refl, ap, ◌∙◌, arith, rules, inl, inr, get_or-set_same, get_or-set_other}
use Rattle.std.proofs.lemmas.List.{places}
use Rattle.std.proofs.lemmas.List.Folds.{list_any_more}
use Rattle.std.proofs.lemmas.Bool.Decides.{nat_tests}
use Rattle.std.proofs.lemmas.Bool.{cases_eq, cases_lt}
use borrow.Rule.Slice.PartMut.{put_mid}
use Rattle.pm_model.specs.Picking.{keeps_newest}
use Rattle.pm_rows.specs.Rows.{picked, TakesLine, TakesLines, LosesLine, LosesLines}

-- A line is copied from one row to another.
pub TakesLine-copied : (line first : ℕ) (from old part : List ℕ) → first ≡ line * 8 → first + 8 ≤ length from → first + 8 ≤ length old → part ≡ slice_range from first (first + 8)
    → TakesLine line from old (put_mid first (first + 8 - first) old part)
TakesLine-copied line first from old part e in_from in_old is = record {
  each = λ word.
      let len : length part ≡ 8 = ap length is ∙ search (rules, places) in
      elim (cases_lt word first) [
        | inl before ↦
            let same : get_or (put_mid first (first + 8 - first) old part) word 0 ≡ get_or old word 0 = search (rules, places) in
            grind (arith, nat_tests, same)
        | inr past ↦
            elim (cases_lt word (first + 8)) [
              | inl within ↦
                  let there : get_or (put_mid first (first + 8 - first) old part) word 0 ≡ get_or part (word - first) 0 = search (rules, places) in
                  let same : get_or part (word - first) 0 ≡ get_or from word 0 = rw is (search (rules, places)) in
                  grind (arith, nat_tests, there, same)
              | inr following ↦
                  let same : get_or (put_mid first (first + 8 - first) old part) word 0 ≡ get_or old word 0 = search (rules, places) in
                  grind (arith, nat_tests, same)
            ]
      ];
}

-- The row keeps its length.
pub length-copied : (first : ℕ) (from old part : List ℕ) → first + 8 ≤ length from → first + 8 ≤ length old → part ≡ slice_range from first (first + 8)
    → length (put_mid first (first + 8 - first) old part) ≡ length old
length-copied first from old part in_from in_old is =
    let len : length part ≡ 8 = ap length is ∙ search (rules, places) in
    search (rules, places)

pub TakesLines-none : (from old : List ℕ) → TakesLines [] from old old
TakesLines-none from old = record { each = λ word. refl }

pub TakesLines-more : (lines from old mid new : List ℕ) (i line : ℕ) → i < length lines → line ≡ get_or lines i 0 → TakesLines (take i lines) from old mid → TakesLine line from mid new → TakesLines (take (i + 1) lines) from old new
TakesLines-more lines from old mid new i line lt is some one = record {
  each = λ word.
      let more = list_any_more (λ listed. word / 8 == listed) lines i 0 lt in
      elim (cases_eq (word / 8) line) [
        | inl e ↦ grind (arith, nat_tests, e, is, more, one.each word)
        | inr ne ↦ grind (arith, nat_tests, ne, is, more, one.each word, some.each word)
      ];
}

-- The words from `first` on and below `upto` are lost by the pick, and no other word changes.
pub record LosesPart (first upto pick : ℕ) (durable old new : List ℕ) : Type 0 where
  pub each : (word : ℕ) → get_or new word 0
      ≡ cond (not (nat_lt word first) && nat_lt word upto) (picked pick word (get_or durable word 0) (get_or old word 0)) (get_or old word 0)

pub LosesPart-start : (first pick : ℕ) (durable old : List ℕ) → LosesPart first first pick durable old old
LosesPart-start first pick durable old = record { each = λ word. grind (arith, nat_tests) }

-- One more word keeps its newest value.
pub LosesPart-kept : (first i pick : ℕ) (durable old new : List ℕ) → keeps_newest pick i ≡ true → LosesPart first i pick durable old new → LosesPart first (i + 1) pick durable old new
LosesPart-kept first i pick durable old new keeps part = record {
  each = λ word.
      elim (cases_eq word i) [
        | inl e ↦ rw e (grind (arith, nat_tests, keeps, part.each i))
        | inr ne ↦ grind (arith, nat_tests, ne, part.each word)
      ];
}

-- One more word gets its durable value.
pub LosesPart-lost : (first i pick value : ℕ) (durable old new : List ℕ) → first ≤ i → i < length new → keeps_newest pick i ≡ false → value ≡ get_or durable i 0
    → LosesPart first i pick durable old new → LosesPart first (i + 1) pick durable old (set new i value)
LosesPart-lost first i pick value durable old new le lt loses is part = record {
  each = λ word.
      elim (cases_eq word i) [
        | inl e ↦ rw e (grind (arith, nat_tests, is, loses, get_or-set_same new i value 0 lt))
        | inr ne ↦ grind (arith, nat_tests, ne, part.each word, get_or-set_other new i word value 0 ne)
      ];
}

pub LosesLine-part : (line first pick : ℕ) (durable old new : List ℕ) → first ≡ line * 8 → LosesPart first (first + 8) pick durable old new → LosesLine line pick durable old new
LosesLine-part line first pick durable old new e part = record { each = λ word. grind (arith, nat_tests, part.each word) }

pub LosesLines-none : (pick : ℕ) (durable old : List ℕ) → LosesLines [] pick durable old old
LosesLines-none pick durable old = record { each = λ word. refl }

again : (b : Bool) (durable newest : ℕ) → cond b (cond b newest durable) durable ≡ cond b newest durable
again true durable newest = refl
again false durable newest = refl

-- What the pick gives a word does not change if the same pick is applied again.
picked-again : (pick word durable newest : ℕ) → picked pick word durable (picked pick word durable newest) ≡ picked pick word durable newest
picked-again pick word durable newest = again (keeps_newest pick word) durable newest

pub LosesLines-more : (lines : List ℕ) (pick : ℕ) (durable old mid new : List ℕ) (i line : ℕ) → i < length lines → line ≡ get_or lines i 0
    → LosesLines (take i lines) pick durable old mid → LosesLine line pick durable mid new → LosesLines (take (i + 1) lines) pick durable old new
LosesLines-more lines pick durable old mid new i line lt is some one = record {
  each = λ word.
      let more = list_any_more (λ listed. word / 8 == listed) lines i 0 lt in
      elim (cases_eq (word / 8) line) [
        | inl e ↦ grind (arith, nat_tests, e, is, more, one.each word, some.each word, picked-again pick word (get_or durable word 0) (get_or old word 0))
        | inr ne ↦ grind (arith, nat_tests, ne, is, more, one.each word, some.each word)
      ];
}
