-- What is read after entries are undone, while more entries are appended and words are written that they save. And what
-- becomes of marks.
use Rattle.std.proofs.Common.{◌≡◌, ℕ, true, List, [], ◌∷◌, ◌++◌, length, Option, Some, None, refl, sym, ap, ap₂, subst, ◌∙◌, append_assoc, arith}
use Rattle.std.specs.Prelude.{unwrap_or}
use Rattle.std.specs.Option.{option_or}
use Rattle.std.proofs.lemmas.List.{append-nil}
use Rattle.pm_model.specs.Words.{Words, reads}
use Rattle.pm_model.specs.Changes.{Write}
use Rattle.pud_defs.specs.Formats.Image.{Image}
use Rattle.pud_defs.specs.Logging.Entries.{Entry, entry_words}
use Rattle.pud_defs.specs.Logging.Replay.{overwritten}
use Rattle.word_transaction.specs.Scope.{Scope, saved, deferred_entries}
use Rattle.word_transaction.specs.Marks.{Mark, undone_image, AreMarks}
use Rattle.word_transaction.proofs.Saved.{saved-append, saved-none_more}

-- ---- one word

module _ (g : Scope) (since more : List Entry) (old new : Image) (write : Write) (k : ℕ) (holds : (v : ℕ) → saved g.place more k ≡ Some v → v ≡ old k)
    (covered : (v : ℕ) → write k ≡ Some v → saved g.place (since ++ more) k ≡ None → ⊥) (now : new k ≡ overwritten write old k) where
  both : (a b : Option ℕ) → saved g.place since k ≡ a → saved g.place more k ≡ b → saved g.place (since ++ more) k ≡ option_or a b
  both a b first later = saved-append g.place since more k ∙ ap₂ option_or first later

  unwritten : (o : Option ℕ) → write k ≡ o → saved g.place (since ++ more) k ≡ None → unwrap_or (write k) (old k) ≡ old k
  unwritten None is none = ap (λ (o : Option ℕ). unwrap_or o (old k)) is
  unwritten (Some v) is none = absurd (covered v is none)

  by_both : (a b : Option ℕ) → saved g.place since k ≡ a → saved g.place more k ≡ b → unwrap_or (saved g.place (since ++ more) k) (new k) ≡ unwrap_or (saved g.place since k) (old k)
  by_both (Some v) b first later = ap (λ (o : Option ℕ). unwrap_or o (new k)) (both (Some v) b first later) ∙ sym (ap (λ (o : Option ℕ). unwrap_or o (old k)) first)
  by_both None (Some v) first later = ap (λ (o : Option ℕ). unwrap_or o (new k)) (both None (Some v) first later) ∙ holds v later ∙ sym (ap (λ (o : Option ℕ). unwrap_or o (old k)) first)
  by_both None None first later =
      let none = both None None first later in
      ap (λ (o : Option ℕ). unwrap_or o (new k)) none ∙ now ∙ unwritten (write k) refl none ∙ sym (ap (λ (o : Option ℕ). unwrap_or o (old k)) first)

  -- after all of them are undone, the word reads as before
  pub undone_image-kept : undone_image g (since ++ more) new k ≡ undone_image g since old k
  undone_image-kept = by_both (saved g.place since k) (saved g.place more k) refl refl

-- If entries are undone, and then those before them, all of them are undone.
undone_twice : (a b : Option ℕ) (x : ℕ) → unwrap_or a (unwrap_or b x) ≡ unwrap_or (option_or a b) x
undone_twice None b x = refl
undone_twice (Some v) b x = refl

pub undone_image-twice : (g : Scope) (front back : List Entry) (old new : Image) (k : ℕ) → new k ≡ undone_image g back old k → undone_image g front new k ≡ undone_image g (front ++ back) old k
undone_image-twice g front back old new k is =
    ap (unwrap_or (saved g.place front k)) is
    ∙ undone_twice (saved g.place front k) (saved g.place back k) (old k)
    ∙ sym (ap (λ (o : Option ℕ). unwrap_or o (old k)) (saved-append g.place front back k))

-- ---- marks

-- Marks stay if each word reads the same after all that came since is undone, now as before.
pub AreMarks-same : (g : Scope) (es since now : List Entry) (before : Image) (old new : Words) (marks : List Mark)
    → ((back : List Entry) (k : ℕ) → g.has_word k ≡ true → undone_image g (back ++ now) (reads new) k ≡ undone_image g (back ++ since) (reads old) k)
    → AreMarks g es since before old marks → AreMarks g es now before new marks
AreMarks-same g es since now before old new [] same are = tt
AreMarks-same g es since now before old new (mark ∷ outer) same are =
    let m = are.0 in (
      record {
        front = m.front;
        back = m.back;
        split = m.split;
        ends = m.ends;
        redo_is = m.redo_is;
        undone = λ k mine. same m.back k mine ∙ m.undone k mine;
        begun = m.begun;
      },
      AreMarks-same g m.front (m.back ++ since) (m.back ++ now) before old new outer
          (λ back k mine.
          ap (λ (xs : List Entry). undone_image g xs (reads new) k) (sym (append_assoc back m.back now))
          ∙ same (back ++ m.back) k mine
          ∙ ap (λ (xs : List Entry). undone_image g xs (reads old) k) (append_assoc back m.back since))
          are.1,
    )

-- Entries with values that are read are appended, and own words are written that these or the earlier ones since the
-- innermost place save.
pub AreMarks-kept : (g : Scope) (es since more : List Entry) (before : Image) (old new : Words) (write : Write) (marks : List Mark)
    → ((k v : ℕ) → saved g.place more k ≡ Some v → v ≡ reads old k)
    → ((k v : ℕ) → write k ≡ Some v → saved g.place (since ++ more) k ≡ None → ⊥)
    → ((k : ℕ) → g.has_word k ≡ true → reads new k ≡ overwritten write (reads old) k)
    → AreMarks g es since before old marks → AreMarks g es (since ++ more) before new marks
AreMarks-kept g es since more before old new write marks holds covered now are =
    AreMarks-same g es since (since ++ more) before old new marks
    (λ back k mine.
    ap (λ (xs : List Entry). undone_image g xs (reads new) k) (sym (append_assoc back since more))
    ∙ undone_image-kept g (back ++ since) more (reads old) (reads new) write k (holds k)
    (λ v is none. covered k v is (saved-none_more g.place back (since ++ more) k (ap (λ (xs : List Entry). saved g.place xs k) (sym (append_assoc back since more)) ∙ none)))
    (now k mine))
    are

-- The place since which entries count moves after all of them.
further : (g : Scope) (es since : List Entry) (before : Image) (words : Words) (marks : List Mark) → AreMarks g es since before words marks → AreMarks g (es ++ since) [] before words marks
further g es since before words [] are = tt
further g es since before words (mark ∷ outer) are =
    let m = are.0 in
    let still = sym (append-nil (m.back ++ since)) in (
      record {
        front = m.front;
        back = m.back ++ since;
        split = ap (λ (xs : List Entry). xs ++ since) m.split ∙ append_assoc m.front m.back since;
        ends = m.ends;
        redo_is = m.redo_is;
        undone = λ k mine. ap (λ (xs : List Entry). undone_image g xs (reads words) k) (sym still) ∙ m.undone k mine;
        begun = m.begun;
      },
      subst (λ (xs : List Entry). AreMarks g m.front xs before words outer) still are.1,
    )

-- A mark is made after all entries.
pub AreMarks-marked : (g : Scope) (es since : List Entry) (before : Image) (words : Words) (marks : List Mark)
    → ((k : ℕ) → saved g.place [] k ≡ None) → ((k : ℕ) → g.has_word k ≡ true → saved g.place (es ++ since) k ≡ None → reads words k ≡ before k)
    → AreMarks g es since before words marks
    → AreMarks g (es ++ since) [] before words (record { place = record { used = entry_words (es ++ since) }; values = reads words; redo = deferred_entries (es ++ since) } ∷ marks)
AreMarks-marked g es since before words marks nothing begun are = (
  record {
    front = es ++ since;
    back = [];
    split = sym (append-nil (es ++ since));
    ends = refl;
    redo_is = refl;
    undone = λ k mine. ap (λ (o : Option ℕ). unwrap_or o (reads words k)) (nothing k);
    begun = begun;
  },
  further g es since before words marks are,
)

-- If all is undone to the innermost mark, the others stay.
pub AreMarks-undone : (g : Scope) (es since : List Entry) (before : Image) (old new : Words) (mark : Mark) (outer : List Mark) (are : AreMarks g es since before old (mark ∷ outer))
    → ((k : ℕ) → g.has_word k ≡ true → reads new k ≡ undone_image g (are.0.back ++ since) (reads old) k) → AreMarks g are.0.front [] before new outer
AreMarks-undone g es since before old new mark outer are now =
    let m = are.0 in
    AreMarks-same g m.front (m.back ++ since) [] before old new outer
    (λ back k mine.
    ap (λ (xs : List Entry). undone_image g xs (reads new) k) (append-nil back)
    ∙ undone_image-twice g back (m.back ++ since) (reads old) (reads new) k (now k mine))
    are.1

-- If the same entries are split at two places, after as many words, the places are one.
pub same_front : (front back other rest : List Entry) → front ++ back ≡ other ++ rest → entry_words front ≡ entry_words other → (front ≡ other) × (back ≡ rest)
same_front [] back [] rest same words = (refl, same)
same_front [] back (e ∷ other) rest same words = absurd (omega (arith, words))
same_front (e ∷ front) back [] rest same words = absurd (omega (arith, words))
same_front (e ∷ front) back (f ∷ other) rest same words =
    let one : e ≡ f = cc in
    let tails : front ++ back ≡ other ++ rest = cc in
    let vals : length e.vals ≡ length f.vals = ap (λ (x : Entry). length x.vals) one in
    let later = same_front front back other rest tails (omega (arith, words, vals)) in
    (ap₂ (λ (x : Entry) (xs : List Entry). x ∷ xs) one later.0, later.1)
