use Rattle.std.proofs.Common.{◌≡◌, ◌-◌, List, Some}
use Rattle.std.specs.List.{list_all}
use Rattle.pud_defs.specs.declared.layout.TheConstants.{LOG_ENTRY_WORDS}
use Rattle.pud_defs.specs.Logging.Entries.{Entry}
use Rattle.pud_defs.specs.RegistryTables.Registry.{is_loggable}
use Rattle.log_entry.specs.Copying.{image_of_copy, log_copied}
use Rattle.log_entry.proofs.Left.{IsReading, MakesWhole}
use Rattle.soundness.proofs.judge.are_allowed.Given as goal

abbrev pub invariant-loop-entry : goal.invariant-loop-entry
invariant-loop-entry l = record {
  reading : IsReading 0 l.reader;
  allowed : (es : List Entry) → (log_copied l.overlay.log).entries ≡ Some es
      → MakesWhole {A = Unit {0}} (λ _. list_all (is_loggable l.frames (log_copied l.overlay.log))) (image_of_copy l.overlay.log) l.reader tt (list_all (is_loggable l.frames (log_copied l.overlay.log)) es);
}

abbrev pub decreases-loop-entry : goal.decreases-loop-entry
decreases-loop-entry l = LOG_ENTRY_WORDS - l.reader.passed
