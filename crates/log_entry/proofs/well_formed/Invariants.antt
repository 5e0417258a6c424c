use Rattle.std.proofs.Common.{None, ◌≡◌, ◌-◌, is_some}
use Rattle.pm_model.specs.Words.{reads}
use Rattle.pud_defs.specs.declared.layout.TheConstants.{LOG_ENTRY_WORDS}
use Rattle.pud_defs.specs.Formats.Image.{Image}
use Rattle.pud_defs.specs.Logging.Entries.{entries_of}
use Rattle.log_entry.specs.Reading.{entries_left}
use Rattle.log_entry.proofs.Left.{IsReading}
use Rattle.pm_model.specs.Reads.{OnlyReads}
use Rattle.log_entry.proofs.well_formed.Given as goal

abbrev pub invariant-loop-entry : goal.invariant-loop-entry
invariant-loop-entry g l = record {
  reading : IsReading l.log_at l.reader;
  passed : l.passed ≡ l.reader.passed;
  only_reads : OnlyReads g.H.Host.tells g.H.Host.state g.H.Host.counts None l.initial.h l.h;
  formed : g.H.Host.tells → (image : Image) → reads (g.H.Host.state l.initial.h).now.words ≡ image → is_some (entries_left image l.reader) ≡ is_some (entries_of image l.log_at);
}

abbrev pub decreases-loop-entry : goal.decreases-loop-entry
decreases-loop-entry g l = LOG_ENTRY_WORDS - l.reader.passed
