-- The image that a start leaves: the daemon log replayed, and then each allowed log of a registered client.
use Rattle.std.specs.Prelude.{◌≡◌, ◌≢◌, ◌⊎◌, ℕ, zero, suc, ◌+◌, ◌*◌, ◌/◌, ◌%◌, ◌<◌, Bool, ◌&&◌, nat_le, nat_lt, ◌==◌, cond, Option, Some, None}
use Rattle.pud_defs.specs.declared.layout.TheConstants.{DAEMON_LOG, CLIENTS, CLIENT_LOGS}
use Rattle.pud_defs.specs.Formats.Image.{Image}
use Rattle.pud_defs.specs.Formats.Layout.{tables_end, log_at, frames_at}
use Rattle.pud_defs.specs.Logging.Entries.{Log, log_of}
use Rattle.pud_defs.specs.Logging.Replay.{new_value, over, overwritten, settled_by, IsInLog}
use Rattle.pud_defs.specs.RegistryTables.Spaces.{Owner, owner_of}
use Rattle.pud_defs.specs.RegistryTables.Tables.{Tables, tables_of}
use Rattle.pud_defs.specs.Logging.Allowed.{puddle_word, is_allowed_log, is_refused, is_accepted}

-- ---- what one log gives

-- the value that the log of a client with this owner gives to a word; none if the log is not registered or not allowed
unfoldable pub gives_to : Tables → Option Owner → Log → ℕ → Option ℕ
gives_to t None log w = None
gives_to t (Some who) log w = cond (is_allowed_log t who log) (new_value (puddle_word t) log w) None

-- how many logs there are
abbrev pub ALL_LOGS : ℕ
ALL_LOGS = CLIENTS * CLIENT_LOGS

-- the client of a log by its number, and the word at which the log begins
abbrev pub client_of_log : ℕ → ℕ
client_of_log number = number / CLIENT_LOGS

abbrev pub log_number_at : (F number : ℕ) → ℕ
log_number_at F number = log_at F (client_of_log number) (number % CLIENT_LOGS)

-- the value that the log of a number gives to a word, judged by the tables of the same image
abbrev pub given_by_log : (F : ℕ) → Image → (number w : ℕ) → Option ℕ
given_by_log F image number w = gives_to (tables_of F image) (owner_of image (client_of_log number)) (log_of image (log_number_at F number)) w

-- the log of a number is registered, and not allowed by the tables of the same image
abbrev pub is_refused_log : (F : ℕ) → Image → (number : ℕ) → Bool
is_refused_log F image number = is_refused (tables_of F image) (owner_of image (client_of_log number)) (log_of image (log_number_at F number))

-- the log of a number is registered, and allowed by the tables of the same image
abbrev pub is_accepted_log : (F : ℕ) → Image → (number : ℕ) → Bool
is_accepted_log F image number = is_accepted (tables_of F image) (owner_of image (client_of_log number)) (log_of image (log_number_at F number))

-- ---- all of them

-- the value that `count` logs from a given one on give to a word: if several give one, the last counts
unfoldable pub given_in_turn : (ℕ → ℕ → Option ℕ) → (from count : ℕ) → ℕ → Option ℕ
given_in_turn given from zero w = None
given_in_turn given from (suc count) w = over (given from) (given_in_turn given (from + 1) count) w

-- the word belongs to a log of a client
abbrev pub is_in_logs : (F w : ℕ) → Bool
is_in_logs F w = nat_le (tables_end F) w && nat_lt w (frames_at F)

-- the image with 0 in the words of the clients' logs, because they are for replay alone
abbrev pub beside_logs : ℕ → Image → Image
beside_logs F image w = cond (is_in_logs F w) 0 (image w)

-- the image with all allowed logs replayed
unfoldable pub settled_over : ℕ → Image → Image
settled_over F image = beside_logs F (overwritten (given_in_turn (given_by_log F image) 0 ALL_LOGS) image)

-- the same after the daemon log is replayed
unfoldable pub settled : ℕ → Image → Image
settled F image = settled_over F (settled_by DAEMON_LOG image)

-- ---- one log and the others

-- no two of the first `count` logs give a value to the same word
pub record AreDisjoint (given : ℕ → ℕ → Option ℕ) (count : ℕ) : Type 0 where
  pub apart : (i j w : ℕ) → i < count → j < count → i ≢ j → (given i w ≡ None) ⊎ (given j w ≡ None)

-- what all logs but one give to a word
abbrev pub given_but : ℕ → (ℕ → ℕ → Option ℕ) → ℕ → ℕ → Option ℕ
given_but number given other w = cond (other == number) None (given other w)

abbrev pub given_by_others : (F : ℕ) → Image → (number w : ℕ) → Option ℕ
given_by_others F image number w = given_in_turn (given_but number (given_by_log F image)) 0 ALL_LOGS w

-- the image with only that one log replayed
abbrev pub log_alone : (F number : ℕ) → Image → Image
log_alone F number image = overwritten (given_by_log F image number) image

-- no word gets a value both from this log and from another
pub record IsApart (F number : ℕ) (image : Image) : Type 0 where
  pub each : (w : ℕ) → (given_by_log F image number w ≡ None) ⊎ (given_by_others F image number w ≡ None)

-- the two images have the same tables, the same owners, and the same words in all other logs
pub record IsBeside (F number : ℕ) (i j : Image) : Type 0 where
  pub tables : tables_of F j ≡ tables_of F i
  pub owners : (client : ℕ) → client < CLIENTS → owner_of j client ≡ owner_of i client
  pub logs : (other : ℕ) → other < ALL_LOGS → other ≢ number → (w : ℕ) → IsInLog (log_number_at F other) w → j w ≡ i w
