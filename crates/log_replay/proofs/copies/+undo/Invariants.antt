use Rattle.std.proofs.Common.{◌-◌}
use Rattle.pud_defs.specs.declared.layout.TheConstants.{LOG_ENTRY_WORDS}
use Rattle.log_replay.proofs.copies.+undo.Given as goal

abbrev pub decreases-undo : goal.decreases-undo
decreases-undo g l = LOG_ENTRY_WORDS - l.reader.now.passed
