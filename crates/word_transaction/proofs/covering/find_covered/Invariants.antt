use Rattle.std.proofs.Common.{◌≡◌, ◌+◌, ◌*◌, ◌-◌, ◌^◌, ◌≤◌, ◌||◌, Bool, List, None}
use Rattle.pm_model.specs.Words.{reads}
use Rattle.pm_model.specs.Reads.{OnlyReads}
use Rattle.pud_defs.specs.declared.layout.TheConstants.{LOG_ENTRY_WORDS}
use Rattle.pud_defs.specs.declared.space.TheConstants.{WORD_BYTES}
use Rattle.pud_defs.specs.Formats.Image.{Image}
use Rattle.pud_defs.specs.Logging.Entries.{Entry}
use Rattle.log_entry.proofs.Left.{IsReading, MakesWhole}
use Rattle.word_transaction.specs.Coverage.{is_covered, are_covered}
use Rattle.word_transaction.specs.Promises.{OfEntriesAfter}
use Rattle.word_transaction.proofs.Marked.{covered_with}
use Rattle.word_transaction.proofs.covering.find_covered.Given as goal

abbrev pub invariant-loop-entry : goal.invariant-loop-entry
invariant-loop-entry g l = record {
  reading : IsReading l.at l.reader;
  only_reads : OnlyReads g.H.Host.tells g.H.Host.state g.H.Host.counts None l.fn.h l.h;
  covered : g.H.Host.tells → (image : Image) → reads (g.H.Host.state l.fn.h).now.words ≡ image → OfEntriesAfter l.fn.since.used l.at image (λ back.
      l.address + WORD_BYTES * l.count ≤ 2 ^ 64 → MakesWhole (covered_with l.address l.count) image l.reader l.marks (are_covered back l.address l.count));
  other : g.H.Host.tells → (image : Image) → reads (g.H.Host.state l.fn.h).now.words ≡ image → OfEntriesAfter l.fn.since.used l.at image (λ back.
      MakesWhole (λ (b : Bool) (left : List Entry). b || is_covered left l.address2) image l.reader l.other (is_covered back l.address2));
}

abbrev pub decreases-loop-entry : goal.decreases-loop-entry
decreases-loop-entry g l = LOG_ENTRY_WORDS - l.reader.passed
