-- What replaying and closing clients' logs, one after the other, does to a device.
use Rattle.std.specs.Prelude.{◌≡◌, ◌⊎◌, ℕ, ◌<◌, ◌≤◌, true, Option, None}
use Rattle.pm_model.specs.declared.host.HostFault.{HostFault}
use Rattle.pm_model.specs.Words.{reads, IsRested}
use Rattle.pm_model.specs.Moments.{State}
use Rattle.pm_model.specs.Changes.{Footprint, Changes, Leaves, Silently}
use Rattle.pud_defs.specs.declared.layout.TheConstants.{CLIENTS}
use Rattle.pud_defs.specs.declared.log_words.TheConstants.{CLOSED_GATE}
use Rattle.pud_defs.specs.Formats.Image.{Image}
use Rattle.pud_defs.specs.Formats.Layout.{tables_end}
use Rattle.pud_defs.specs.Logging.Entries.{log_of}
use Rattle.pud_defs.specs.RegistryTables.Spaces.{has_closed_logs}
use Rattle.pud_defs.specs.Logging.Settled.{ALL_LOGS, log_number_at, given_by_log, is_refused_log, is_accepted_log, settled_over}
use Rattle.pud_defs.specs.Logging.LogsReplayed.{ReplaysClientLog, GivesNothingBelow}
use Rattle.log_replay.specs.Replaying.{IsNamed}

-- By the image, the log with this log number is registered and allowed, and the word is its gate or a word to which it
-- gives a value.
pub record IsOfLog (F number : ℕ) (image : Image) (k : ℕ) : Type 0 where
  pub accepted : is_accepted_log F image number ≡ true
  pub place : (k ≡ log_number_at F number) ⊎ IsNamed (given_by_log F image number) k

-- any value may be written to such a word
abbrev pub ByClientLog : (F number : ℕ) → Image → Footprint
ByClientLog F number image k v = IsOfLog F number image k

-- the word is such a word of one of the first logs
pub record IsOfLogs (F count : ℕ) (image : Image) (k : ℕ) : Type 0 where
  pub number : ℕ
  pub below : number < count
  pub of_log : IsOfLog F number image k

abbrev pub ByClientLogs : (F count : ℕ) → Image → Footprint
ByClientLogs F count image k v = IsOfLogs F count image k

-- The device read as this image. One log was replayed and closed if it is registered and allowed; otherwise nothing
-- changed. Without a fault, what is read is the image with that log replayed and closed, the log gives no value any
-- more, and an allowed log has the gate of a closed log.
pub record RecoversLog (F number : ℕ) (image : Image) (fault : Option HostFault) (old new : State) : Type 0 where
  pub changes : Changes (ByClientLog F number image) fault old new
  pub takes : fault ≡ None → ReplaysClientLog F number image (reads new.now.words)
  pub gone : fault ≡ None → (w : ℕ) → given_by_log F (reads new.now.words) number w ≡ None
  pub closed : fault ≡ None → is_accepted_log F image number ≡ true → reads new.now.words (log_number_at F number) ≡ CLOSED_GATE

-- On a rested device, whatever a power loss leaves at any moment is the image with the log replayed, wholly or in part.
-- Without a fault, the device is rested again.
pub record RecoversLogAtEachMoment (F number : ℕ) (image : Image) (fault : Option HostFault) (old new : State) : Type 0 where
  pub moments : Leaves (Silently (ReplaysClientLog F number image)) old new
  pub rested : fault ≡ None → IsRested new.now.words

-- An image that is recovered alike. Before the clients' logs it is the same, its settled image is the same, the same
-- logs are refused, and a client whose logs were closed has closed logs in it too.
pub record IsRecoveredAlike (F : ℕ) (before image : Image) : Type 0 where
  pub below : (k : ℕ) → k < tables_end F → image k ≡ before k
  pub settled : settled_over F image ≡ settled_over F before
  pub refused : (number : ℕ) → number < ALL_LOGS → is_refused_log F image number ≡ is_refused_log F before number
  pub closed : (client : ℕ) → client < CLIENTS → has_closed_logs before F client ≡ true → has_closed_logs image F client ≡ true

-- The device read as this image. The first `count` logs were replayed and closed in turn, those that are registered and
-- allowed; nothing else changed. Without a fault, what is read is recovered alike, none of these logs gives a value any
-- more, the allowed ones have the gate of a closed log, and no later log changed.
pub record RecoversLogs (F count : ℕ) (image : Image) (fault : Option HostFault) (old new : State) : Type 0 where
  pub changes : Changes (ByClientLogs F count image) fault old new
  pub alike : fault ≡ None → IsRecoveredAlike F image (reads new.now.words)
  pub gone : fault ≡ None → GivesNothingBelow F count (reads new.now.words)
  pub closed : fault ≡ None → (number : ℕ) → number < count → is_accepted_log F image number ≡ true → reads new.now.words (log_number_at F number) ≡ CLOSED_GATE
  pub left : fault ≡ None → (number : ℕ) → count ≤ number → number < ALL_LOGS → log_of (reads new.now.words) (log_number_at F number) ≡ log_of image (log_number_at F number)

-- On a rested device, whatever a power loss leaves at any moment is recovered alike. Without a fault, the device is
-- rested again.
pub record RecoversLogsAtEachMoment (F : ℕ) (image : Image) (fault : Option HostFault) (old new : State) : Type 0 where
  pub moments : Leaves (Silently (IsRecoveredAlike F image)) old new
  pub rested : fault ≡ None → IsRested new.now.words
