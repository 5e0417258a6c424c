-- Which logs of clients are allowed: those that name only what their owners may write.
use Rattle.std.specs.Prelude.{ℕ, ◌+◌, ◌-◌, ◌%◌, Bool, false, not, ◌&&◌, ◌||◌, nat_le, ◌==◌, List, length, Option, Some, None, option_map}
use Rattle.std.specs.List.{list_all, list_any}
use Rattle.pud_defs.specs.declared.layout.TheConstants.{FRAME_WORDS}
use Rattle.pud_defs.specs.declared.space.TheConstants.{WORD_BYTES}
use Rattle.pud_defs.specs.declared.records.PoolRecord.{PoolRecord}
use Rattle.pud_defs.specs.Logging.Entries.{Entry, Log}
use Rattle.pud_defs.specs.Logging.Replay.{AddressMap, is_in_range, entries_or_none}
use Rattle.pud_defs.specs.RegistryTables.Spaces.{Owner, owner}
use Rattle.pud_defs.specs.Formats.Rights.{may_write}
use Rattle.pud_defs.specs.Formats.Frames.{frame_at}
use Rattle.pud_defs.specs.RegistryTables.Puddles.{Member}
use Rattle.pud_defs.specs.RegistryTables.Tables.{Tables}
use Rattle.pud_defs.specs.RegistryTables.Places.{located}

-- An address in a client's log is an address of the global space. It names a word of the frame whose puddle's range has
-- it.
unfoldable pub puddle_word : Tables → AddressMap
puddle_word t address = option_map (λ at. frame_at t.frames at.0 + at.1) (located t address)

-- there is such a pool record, and its mode lets the log's owner write the pool
abbrev pub may_write_record : Owner → Option PoolRecord → Bool
may_write_record who None = false
may_write_record who (Some r) = may_write r.mode (owner r.uid r.gid) who

-- the record is used, and its puddle belongs to a pool that the owner may write
abbrev pub may_write_puddle : Tables → Owner → Option Member → Bool
may_write_puddle t who None = false
may_write_puddle t who (Some m) = not (m.pool == 0) && may_write_record who (t.pools (m.pool - 1))

-- `count` words from the place of an address on are all words of its frame, and the owner may write its puddle
abbrev pub are_writable : Tables → Owner → (count : ℕ) → Option (ℕ × ℕ) → Bool
are_writable t who count None = false
are_writable t who count (Some at) = nat_le (at.1 + count) FRAME_WORDS && may_write_puddle t who (t.puddles at.0)

-- the address is a multiple of 8, and all words that the entry names lie in one puddle of a pool that the owner may
-- write
abbrev pub is_allowed_entry : Tables → Owner → Entry → Bool
is_allowed_entry t who e = (e.address % WORD_BYTES) == 0 && are_writable t who (length e.vals) (located t e.address)

-- there are entries, and each that counts is allowed
abbrev pub are_allowed_entries : Tables → Owner → Log → Option (List Entry) → Bool
are_allowed_entries t who log None = false
are_allowed_entries t who log (Some es) = list_all (λ e. not (is_in_range log e) || is_allowed_entry t who e) es

-- the log is well formed, and in its range it names only what the owner may write, by these tables
unfoldable pub is_allowed_log : Tables → Owner → Log → Bool
is_allowed_log t who log = are_allowed_entries t who log log.entries

-- the log has this owner, so it is registered, and it is not allowed
abbrev pub is_refused : Tables → Option Owner → Log → Bool
is_refused t None log = false
is_refused t (Some who) log = not (is_allowed_log t who log)

-- the log has this owner, so it is registered, and it is allowed
abbrev pub is_accepted : Tables → Option Owner → Log → Bool
is_accepted t None log = false
is_accepted t (Some who) log = is_allowed_log t who log

-- at least one entry of the log counts
abbrev pub counts_any : Log → Bool
counts_any log = list_any (is_in_range log) (entries_or_none log.entries)
