-- Clients' logs are replayed and closed one after the other.
use Rattle.std.specs.Prelude.{◌≡◌, ◌⊎◌, ℕ, ◌<◌, false, Some, None}
use Rattle.pud_defs.specs.declared.log_words.TheConstants.{CLOSED_GATE}
use Rattle.pud_defs.specs.Formats.Image.{Image}
use Rattle.pud_defs.specs.Logging.Settled.{log_number_at, given_by_log, is_refused_log}

-- The log of this number is replayed and closed: each word that it gives a value has that value. The log is not a
-- refused one.
pub record IsReplayedAndClosed (F number : ℕ) (i j : Image) : Type 0 where
  pub gate : j (log_number_at F number) ≡ CLOSED_GATE
  pub there : (k v : ℕ) → given_by_log F i number k ≡ Some v → j k ≡ v
  pub allowed : is_refused_log F i number ≡ false

-- The image j may be left while a client's log is replayed and closed on the image i. They differ only in words that
-- the log gives a value, and in its gate. Either the gate did not change, or the log is replayed and closed.
pub record ReplaysClientLog (F number : ℕ) (i j : Image) : Type 0 where
  pub stays : (k : ℕ) → (k ≡ log_number_at F number → ⊥) → given_by_log F i number k ≡ None → j k ≡ i k
  pub gate : (j (log_number_at F number) ≡ i (log_number_at F number)) ⊎ IsReplayedAndClosed F number i j

-- no log below a number gives any word a value
pub record GivesNothingBelow (F number : ℕ) (image : Image) : Type 0 where
  pub each : (other w : ℕ) → other < number → given_by_log F image other w ≡ None
