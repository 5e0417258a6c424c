use Rattle.std.proofs.Common.{◌+◌, ◌*◌, ◌^◌, ◌≤◌}
use Rattle.pud_defs.specs.declared.space.TheConstants.{WORD_BYTES}
use Rattle.pud_defs.specs.Formats.Image.{Image}
use Rattle.log_entry.specs.Reading.{entry_from}
use Rattle.word_transaction.proofs.Marked.{MarksFirst}
use Rattle.word_transaction.proofs.covering.mark_covered.Given as goal

abbrev pub invariant-loop-i : goal.invariant-loop-i
invariant-loop-i l = (image : Image) → l.address + WORD_BYTES * l.count ≤ 2 ^ 64 → MarksFirst l.address l.i (entry_from image l.entry) l.fn.marks l.marks
