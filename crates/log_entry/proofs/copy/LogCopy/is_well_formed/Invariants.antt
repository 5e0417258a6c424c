use Rattle.std.proofs.Common.{◌≡◌, ◌-◌, is_some}
use Rattle.pud_defs.specs.declared.layout.TheConstants.{LOG_ENTRY_WORDS}
use Rattle.log_entry.specs.Reading.{entries_left}
use Rattle.log_entry.specs.Copying.{image_of_copy, log_copied}
use Rattle.log_entry.proofs.Left.{IsReading}
use Rattle.log_entry.proofs.copy.LogCopy.is_well_formed.Given as goal

abbrev pub invariant-loop-entry : goal.invariant-loop-entry
invariant-loop-entry l = record {
  reading : IsReading 0 l.reader;
  passed : l.passed ≡ l.reader.passed;
  formed : is_some (entries_left (image_of_copy l.self) l.reader) ≡ is_some (log_copied l.self).entries;
}

abbrev pub decreases-loop-entry : goal.decreases-loop-entry
decreases-loop-entry l = LOG_ENTRY_WORDS - l.reader.passed
