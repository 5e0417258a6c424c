-- The marks of a transaction whose scope gets more words. At each mark a new word has the value that is read of it.
use Rattle.std.proofs.Common.{◌≡◌, inl, inr, ℕ, true, false, List, [], ◌∷◌, ◌++◌, map, Option, Some, None, refl, sym, ap, subst, ◌∙◌}
use Rattle.std.specs.Prelude.{All, unwrap_or}
use Rattle.std.proofs.lemmas.Bool.{cases_Bool}
use Rattle.std.proofs.lemmas.List.{append_assoc}
use Rattle.pm_model.specs.Words.{Words, reads}
use Rattle.pud_defs.specs.Formats.Image.{Image}
use Rattle.pud_defs.specs.Logging.Entries.{Entry}
use Rattle.word_transaction.specs.Scope.{Scope, IsScope, IsInScope, saved}
use Rattle.word_transaction.specs.Marks.{Mark, undone_image, AreMarks}
use Rattle.word_transaction.proofs.Saved.{saved_is_mine}
use Rattle.word_transaction.proofs.Growing.{IsWider, saved-wider}
use Rattle.log_replay.proofs.Past.{All-back}
use Rattle.word_transaction.proofs.UndoneTo.{All-front}

-- The image keeps its values of the scope's words. Of the new words of the wide scope it has what is read.
pub record Grows (g wide : Scope) (grow : Image → Image) (words : Words) : Type 0 where
  pub stays : (values : Image) (k : ℕ) → g.has_word k ≡ true → grow values k ≡ values k
  pub joins : (values : Image) (k : ℕ) → wide.has_word k ≡ true → g.has_word k ≡ false → grow values k ≡ reads words k

module _ (size at : ℕ) (g wide : Scope) (grow : Image → Image) (words : Words) (scope : IsScope size at g) (wider : IsWider g wide) (grows : Grows g wide grow words) where
  -- the transaction's entries save no new word
  not_saved : (es : List Entry) (k : ℕ) (o : Option ℕ) → All (IsInScope g) es → g.has_word k ≡ false → saved g.place es k ≡ o → o ≡ None
  not_saved es k None own other is = refl
  not_saved es k (Some v) own other is = absurd (let it : true ≡ false = sym (saved_is_mine size at g es k v scope own is) ∙ other in cc)

  undone_wider : (es : List Entry) (k : ℕ) → All (IsInScope g) es → undone_image wide es (reads words) k ≡ undone_image g es (reads words) k
  undone_wider es k own = ap (λ (o : Option ℕ). unwrap_or o (reads words k)) (saved-wider g wide es k wider own)

  -- The marks stay, with such images.
  pub AreMarks-wider : (es since : List Entry) (before : Image) (marks : List Mark) → All (IsInScope g) (es ++ since) → AreMarks g es since before words marks
      → AreMarks wide es since (grow before) words (map (λ (m : Mark). record m { values = grow m.values }) marks)
  AreMarks-wider es since before [] own are = tt
  AreMarks-wider es since before (mark ∷ outer) own are =
      let m = are.0 in
      let all : All (IsInScope g) (m.front ++ (m.back ++ since)) =
      subst (All (IsInScope g)) (ap (λ (xs : List Entry). xs ++ since) m.split ∙ append_assoc m.front m.back since) own in
      let own_front = All-front (IsInScope g) m.front (m.back ++ since) all in
      let own_back = All-back (IsInScope g) m.front (m.back ++ since) all in (
        record {
          front = m.front;
          back = m.back;
          split = m.split;
          ends = m.ends;
          redo_is = m.redo_is;
          undone = λ k mine.
              undone_wider (m.back ++ since) k own_back
              ∙ elim (cases_Bool (g.has_word k)) [
                | inl was ↦ m.undone k was ∙ sym (grows.stays mark.values k was)
                | inr new ↦ ap (λ (o : Option ℕ). unwrap_or o (reads words k)) (not_saved (m.back ++ since) k (saved g.place (m.back ++ since) k) own_back new refl) ∙ sym (grows.joins mark.values k mine new)
              ];
          begun = λ k mine none. elim (cases_Bool (g.has_word k)) [
            | inl was ↦ grows.stays mark.values k was ∙ m.begun k was (sym (saved-wider g wide m.front k wider own_front) ∙ none) ∙ sym (grows.stays before k was)
            | inr new ↦ grows.joins mark.values k mine new ∙ sym (grows.joins before k mine new)
          ];
        },
        AreMarks-wider m.front (m.back ++ since) before outer all are.1,
      )
