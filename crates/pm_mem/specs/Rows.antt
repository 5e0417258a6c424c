-- Three rows of values, and the words that they stand for.
use Rattle.std.specs.Prelude.{◌≡◌, ℕ, List, slice_index}
use Rattle.pm_model.specs.Words.{Cell, last_or, durable, single, Words}

-- The value that a fence makes durable.
abbrev pub marked_value : Cell → ℕ
marked_value c = last_or c.newest c.kept

-- The rows have the newest, the marked and the durable value of each word.
pub record AreOf (newest_row marked_row durable_row : List ℕ) (words : Words) : Type 0 where
  pub newest : (k : ℕ) → slice_index newest_row k ≡ (words k).newest
  pub marked : (k : ℕ) → slice_index marked_row k ≡ marked_value (words k)
  pub durables : (k : ℕ) → slice_index durable_row k ≡ durable (words k)

-- Each word has its newest value and no other.
pub record AreSingle (words : Words) : Type 0 where
  pub each : (k : ℕ) → words k ≡ single (words k).newest
