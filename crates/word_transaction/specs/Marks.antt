-- Marks in the log of a transaction: places to which it can be undone.
use Rattle.std.specs.Prelude.{◌≡◌, ℕ, true, List, [], ◌∷◌, ◌++◌, None}
use Rattle.pm_model.specs.Words.{Words, reads}
use Rattle.pud_defs.specs.Formats.Image.{Image}
use Rattle.pud_defs.specs.Logging.Entries.{Entry, entry_words}
use Rattle.pud_defs.specs.Logging.Replay.{overwritten}
use Rattle.word_transaction.specs.declared.TxMark.{TxMark}
use Rattle.word_transaction.specs.Scope.{Scope, saved, deferred_entries}

-- A mark: its place in the log, what was read when it was made, and the entries with deferred values that the log had
-- then.
pub record Mark : Type 0 where
  pub place : TxMark
  pub values : Image
  pub redo : List Entry

-- what is read after these entries are undone, the newest first
abbrev pub undone_image : Scope → List Entry → Image → Image
undone_image g back image = overwritten (saved g.place back) image

-- After the entries `back` are undone, each own word that the entries `front` do not save reads as at the beginning.
abbrev pub BeginsUndone : Scope → (front back : List Entry) → (before : Image) → Words → Type 0
BeginsUndone g front back before words = (k : ℕ) → g.has_word k ≡ true → saved g.place front k ≡ None → undone_image g back (reads words) k ≡ before k

-- The mark was made after the first of the entries `es`. The entries `since` come after all of these. If the entries
-- after the mark are undone, each own word reads as it did when the mark was made. If the entries before the mark do
-- not save a word, it then had its value from the beginning.
pub record IsMark (g : Scope) (es since : List Entry) (before : Image) (words : Words) (mark : Mark) : Type 0 where
  pub front : List Entry
  pub back : List Entry
  pub split : es ≡ front ++ back
  pub ends : entry_words front ≡ mark.place.used
  pub redo_is : deferred_entries front ≡ mark.redo
  pub undone : (k : ℕ) → g.has_word k ≡ true → undone_image g (back ++ since) (reads words) k ≡ mark.values k
  pub begun : (k : ℕ) → g.has_word k ≡ true → saved g.place front k ≡ None → mark.values k ≡ before k

-- These are marks, the innermost first. Each was made before the one in front of it in the list.
abbrev pub AreMarks : (g : Scope) (es since : List Entry) (before : Image) (words : Words) → List Mark → Type 0
AreMarks g es since before words [] = Unit {0}
AreMarks g es since before words (mark ∷ outer) = (m : IsMark g es since before words mark) × AreMarks g m.front (m.back ++ since) before words outer
