use Rattle.std.proofs.Common.{◌≡◌, ◌-◌, List, Some, None}
use Rattle.pud_defs.specs.declared.layout.TheConstants.{LOG_ENTRY_WORDS}
use Rattle.pud_defs.specs.Logging.Entries.{Entry}
use Rattle.log_entry.specs.Copying.{image_of_copy, log_copied}
use Rattle.log_entry.proofs.Left.{IsReading, MakesWhole}
use Rattle.soundness.proofs.Overlaid.{given_then}
use Rattle.soundness.proofs.overlay.Overlay.given.Given as goal

abbrev pub invariant-loop-entry : goal.invariant-loop-entry
invariant-loop-entry l = record {
  reading : IsReading 0 l.reader;
  gives : (es : List Entry) → (log_copied l.self.log).entries ≡ Some es
      → MakesWhole (given_then (log_copied l.self.log) l.w) (image_of_copy l.self.log) l.reader l.given (given_then (log_copied l.self.log) l.w (record { undo = None; redo = None }) es);
}

abbrev pub decreases-loop-entry : goal.decreases-loop-entry
decreases-loop-entry l = LOG_ENTRY_WORDS - l.reader.passed
