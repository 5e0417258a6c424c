-- Rows that reach as far as a word was stored. After their ends each word is zero.
use Rattle.std.specs.Prelude.{◌≡◌, ℕ, ◌*◌, ◌≤◌, ◌==◌, List, slice_index, cond, vec_capacity}
use Rattle.pm_rows.specs.declared.device_rows.DeviceRows.{DeviceRows}
use Rattle.pm_rows.specs.Rows.{AreSame}

-- Each word keeps its three values, however far the rows reach.
pub record KeepsWords (old new : DeviceRows) : Type 0 where
  pub durable : AreSame new.durable.items old.durable.items
  pub marked : AreSame new.marked.items old.marked.items
  pub newest : AreSame new.newest.items old.newest.items

-- The rows have room for so many lines.
pub record HasRowRoom (lines : ℕ) (rows : DeviceRows) : Type 0 where
  pub durable : 8 * lines ≤ vec_capacity rows.durable
  pub marked : 8 * lines ≤ vec_capacity rows.marked
  pub newest : 8 * lines ≤ vec_capacity rows.newest
  pub marks : lines ≤ vec_capacity rows.unsettled.marks
  pub listed : lines ≤ vec_capacity rows.unsettled.lines

-- A word of a row takes a value, and no other word changes.
pub record TakesWord (word value : ℕ) (old new : List ℕ) : Type 0 where
  pub each : (at : ℕ) → slice_index new at ≡ cond (at == word) value (slice_index old at)
