-- Where the parts of a device of F frames lie.
use Rattle.std.specs.Prelude.{ℕ, ◌+◌, ◌*◌, ◌<◌, ◌≤◌, Bool, ◌&&◌, nat_le}
use Rattle.pud_defs.specs.declared.layout.TheConstants.{MIN_FRAMES, MAX_FRAMES, LOG_WORDS, CLIENTS, CLIENT_LOGS, PUDDLE_TABLE, PUDDLE_RECORD_WORDS, FRAME_WORDS}

-- the word lies at `from` or after it, and before `end`
pub record IsWithin (from end k : ℕ) : Type 0 where
  pub low : from ≤ k
  pub high : k < end

-- the first word after the puddle table, which has a record for each frame
abbrev pub tables_end : ℕ → ℕ
tables_end F = PUDDLE_TABLE + PUDDLE_RECORD_WORDS * F

-- the gate of a client's log
abbrev pub log_at : ℕ → ℕ → ℕ → ℕ
log_at F client number = tables_end F + LOG_WORDS * (CLIENT_LOGS * client + number)

-- how many words lie before the first frame, without the puddle table: the words before that table, and the logs of all
-- clients after it
abbrev pub fixed_words : ℕ
fixed_words = PUDDLE_TABLE + LOG_WORDS * (CLIENT_LOGS * CLIENTS)

-- the first word of the first frame
abbrev pub frames_at : ℕ → ℕ
frames_at F = fixed_words + PUDDLE_RECORD_WORDS * F

-- how many words the device needs
abbrev pub device_words : ℕ → ℕ
device_words F = fixed_words + (PUDDLE_RECORD_WORDS + FRAME_WORDS) * F

abbrev pub is_legal_frame_count : ℕ → Bool
is_legal_frame_count F = nat_le MIN_FRAMES F && nat_le F MAX_FRAMES
