-- The log-space table of an image: which clients' logs are registered, and whose they are.
use Rattle.std.specs.Prelude.{◌≡◌, ◌<◌, ℕ, zero, suc, ◌+◌, ◌*◌, Bool, true, ◌&&◌, ◌||◌, nat_le, ◌==◌, cond, Option, Some, None, is_some}
use Rattle.pud_defs.specs.declared.layout.TheConstants.{SPACE_TABLE, SPACE_RECORD_WORDS, CLIENTS, CLIENT_LOGS, MAX_OWNER_ID}
use Rattle.pud_defs.specs.declared.log_words.TheConstants.{COMMITTING_HI}
use Rattle.pud_defs.specs.Formats.Image.{Image}
use Rattle.pud_defs.specs.Formats.Layout.{log_at}
use Rattle.pud_defs.specs.Logging.Entries.{gate_lo, gate_hi, entries_of}

-- the user and the group of a client
pub record Owner : Type 0 where
  pub uid : ℕ
  pub gid : ℕ

-- the owner with this uid and gid
abbrev pub owner : ℕ → ℕ → Owner
owner uid gid = record { uid = uid; gid = gid }

-- the owners of the clients, with that of one client changed
abbrev pub with_owner : ℕ → Option Owner → (ℕ → Option Owner) → ℕ → Option Owner
with_owner client now owners other = cond (other == client) now (owners other)

-- the word of a client's record that tells whether the client's logs are registered; the uid and the gid follow it
abbrev pub space_record_at : ℕ → ℕ
space_record_at client = SPACE_TABLE + SPACE_RECORD_WORDS * client

-- the owner that the three words of a record give, if the record is used
abbrev pub owner_by : ℕ → ℕ → ℕ → Option Owner
owner_by used uid gid = cond (used == 1) (Some (owner uid gid)) None

-- the owner of a client's logs, if they are registered
abbrev pub owner_of : Image → ℕ → Option Owner
owner_of image client = owner_by (image (space_record_at client)) (image (space_record_at client + 1)) (image (space_record_at client + 2))

-- the test holds for each number below n
unfoldable pub all_below : ℕ → (ℕ → Bool) → Bool
all_below zero test = true
all_below (suc n) test = all_below n test && test n

-- a record of these three words is free, or it is used and has a legal uid and gid
abbrev pub is_space : (used uid gid : ℕ) → Bool
is_space used uid gid = used == 0 || (used == 1 && nat_le uid MAX_OWNER_ID && nat_le gid MAX_OWNER_ID)

abbrev pub is_legal_space : Image → ℕ → Bool
is_legal_space image client = is_space (image (space_record_at client)) (image (space_record_at client + 1)) (image (space_record_at client + 2))

-- a gate's range is (4,4), or (0,0) as after formatting
abbrev pub is_closed_range : ℕ → Bool
is_closed_range v = gate_lo v == gate_hi v && (gate_hi v == COMMITTING_HI || gate_hi v == 0)

-- the log at this word is closed: its range is a closed one, and it is well formed
abbrev pub is_closed_log : Image → ℕ → Bool
is_closed_log image at = is_closed_range (image at) && is_some (entries_of image at)

-- each log of the client is closed, on a device with F frames
abbrev pub has_closed_logs : Image → ℕ → ℕ → Bool
has_closed_logs image F client = all_below CLIENT_LOGS (λ number. is_closed_log image (log_at F client number))

-- the word is the gate of one of the client's logs
pub record IsGateOf (F client k : ℕ) : Type 0 where
  pub number : ℕ
  pub below : number < CLIENT_LOGS
  pub is : k ≡ log_at F client number

-- each record of the table is legal
abbrev pub are_legal_spaces : Image → Bool
are_legal_spaces image = all_below CLIENTS (is_legal_space image)

-- each log that is registered is closed
abbrev pub are_closed_logs : Image → ℕ → Bool
are_closed_logs image F = all_below CLIENTS (λ client. image (space_record_at client) == 0 || has_closed_logs image F client)
