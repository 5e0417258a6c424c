use Rattle.std.proofs.Common.{◌-◌}
use Rattle.pud_defs.specs.declared.layout.TheConstants.{LOG_ENTRY_WORDS}
use Rattle.log_replay.proofs.copies.+redo.Given as goal

abbrev pub decreases-redo : goal.decreases-redo
decreases-redo g l = LOG_ENTRY_WORDS - l.reader.now.passed
