-- What a start finds out about the logs of clients.
use Rattle.std.specs.Prelude.{ℕ, Bool, true, false, cond, Option, Some, None}
use Rattle.pud_defs.specs.Formats.Image.{Image}
use Rattle.pud_defs.specs.Logging.Entries.{Log, log_of}
use Rattle.pud_defs.specs.RegistryTables.Spaces.{Owner, owner, owner_of}
use Rattle.pud_defs.specs.RegistryTables.Tables.{Tables, tables_of}
use Rattle.pud_defs.specs.Logging.Allowed.{is_allowed_log, counts_any}
use Rattle.pud_defs.specs.Logging.Settled.{client_of_log, log_number_at}
use Rattle.recover.specs.declared.judge.Registrant.{Registrant}
use Rattle.recover.specs.declared.judge.Mark.{Mark}
use Rattle.recover.specs.declared.judge.Mark.TheVariants.{Closed, Replayed, Refused}

-- as whom the logs act
abbrev pub owner_by_record : Registrant → Owner
owner_by_record r = owner r.uid r.gid

-- the mark of a log that is registered for this owner: refused if it is not allowed, otherwise replayed if an entry
-- counts
abbrev pub mark_for : Tables → Owner → Log → Mark
mark_for t who log = cond (is_allowed_log t who log) (cond (counts_any log) Replayed Closed) Refused

-- the mark of a log with this owner, or none if it is not registered
abbrev pub verdict_by : Tables → Option Owner → Log → Option Mark
verdict_by t None log = None
verdict_by t (Some who) log = Some (mark_for t who log)

-- the mark of the log with this log number, judged by the tables of the same image
unfoldable pub verdict_of : (F : ℕ) → Image → (number : ℕ) → Option Mark
verdict_of F image number = verdict_by (tables_of F image) (owner_of image (client_of_log number)) (log_of image (log_number_at F number))

-- a log that is not registered counts as closed
abbrev pub mark_of : Option Mark → Mark
mark_of None = Closed
mark_of (Some mark) = mark

abbrev pub is_refused_mark : Mark → Bool
is_refused_mark Refused = true
is_refused_mark Replayed = false
is_refused_mark Closed = false
