-- What the device's rows of words are after each step.
use Rattle.std.specs.Prelude.{◌≡◌, ℕ, ◌/◌, ◌==◌, Bool, false, List, slice_index, cond}
use Rattle.std.specs.List.{list_any}
use Rattle.pm_model.specs.Picking.{keeps_newest}

-- Whether a line is among these lines.
abbrev pub is_listed : ℕ → List ℕ → Bool
is_listed line lines = list_any (λ listed. line == listed) lines

-- A line's eight words are those of another row, and no other word changes.
pub record TakesLine (line : ℕ) (from old new : List ℕ) : Type 0 where
  pub each : (word : ℕ) → slice_index new word ≡ cond (word / 8 == line) (slice_index from word) (slice_index old word)

-- The same for several lines.
pub record TakesLines (lines from old new : List ℕ) : Type 0 where
  pub each : (word : ℕ) → slice_index new word ≡ cond (is_listed (word / 8) lines) (slice_index from word) (slice_index old word)

-- The two rows have the same words.
pub record AreSame (row other : List ℕ) : Type 0 where
  pub each : (word : ℕ) → slice_index row word ≡ slice_index other word

-- Outside of these lines a row has the same words as another.
pub record AreSameOutside (lines row other : List ℕ) : Type 0 where
  pub each : (word : ℕ) → is_listed (word / 8) lines ≡ false → slice_index row word ≡ slice_index other word

-- The value that a word keeps at a power loss with that pick.
abbrev pub picked : ℕ → ℕ → ℕ → ℕ → ℕ
picked pick word durable newest = cond (keeps_newest pick word) newest durable

-- After a power loss each word of the row has the value that the pick gives it.
pub record Loses (pick : ℕ) (durable newest new : List ℕ) : Type 0 where
  pub each : (word : ℕ) → slice_index new word ≡ picked pick word (slice_index durable word) (slice_index newest word)

-- The same in one line. No other word changes.
pub record LosesLine (line pick : ℕ) (durable old new : List ℕ) : Type 0 where
  pub each : (word : ℕ) → slice_index new word
      ≡ cond (word / 8 == line) (picked pick word (slice_index durable word) (slice_index old word)) (slice_index old word)

-- The same in several lines.
pub record LosesLines (lines : List ℕ) (pick : ℕ) (durable old new : List ℕ) : Type 0 where
  pub each : (word : ℕ) → slice_index new word
      ≡ cond (is_listed (word / 8) lines) (picked pick word (slice_index durable word) (slice_index old word)) (slice_index old word)
