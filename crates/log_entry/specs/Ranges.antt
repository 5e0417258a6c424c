-- The range that was read from a log.
use Rattle.std.specs.Prelude.{◌≡◌}
use Rattle.pud_defs.specs.Logging.Entries.{Log}
use Rattle.log_entry.specs.declared.LogRange.{LogRange}

-- this is the range of this log
pub record HasRange (range : LogRange) (log : Log) : Type 0 where
  pub lo : range.lo ≡ log.lo
  pub hi : range.hi ≡ log.hi
