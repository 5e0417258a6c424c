-- The lowest closed log of a client.
use Rattle.std.specs.Prelude.{ℕ, zero, suc, ◌+◌, ◌*◌, ◌<◌, ◌≤◌, Bool, cond, Option, Some, None, option_map}
use Rattle.pud_defs.specs.declared.layout.TheConstants.{CLIENT_LOGS}
use Rattle.pud_defs.specs.Formats.Image.{Image}
use Rattle.pud_defs.specs.Formats.Layout.{log_at}
use Rattle.pud_defs.specs.RegistryTables.Spaces.{is_closed_log}

-- the first number that passes the test, of `count` numbers from `k` on
unfoldable pub first_from : ℕ → ℕ → (ℕ → Bool) → Option ℕ
first_from k zero test = None
first_from k (suc count) test = cond (test k) (Some k) (first_from (k + 1) count test)

-- the log number of a client's log, from its index among the client's logs
abbrev pub log_number : ℕ → ℕ → ℕ
log_number slot k = CLIENT_LOGS * slot + k

-- the log number of the lowest closed log of the client, on a device of `F` frames
abbrev pub first_closed : Image → ℕ → ℕ → Option ℕ
first_closed image F slot = option_map (log_number slot) (first_from 0 CLIENT_LOGS (λ k. is_closed_log image (log_at F slot k)))

-- the log number is that of one of the client's logs
pub record IsLogOf (slot n : ℕ) : Type 0 where
  pub low : CLIENT_LOGS * slot ≤ n
  pub high : n < CLIENT_LOGS * slot + CLIENT_LOGS
