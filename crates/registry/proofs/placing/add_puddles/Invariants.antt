use Rattle.std.proofs.Common.{◌≡◌, ◌+◌, ◌≤◌, ◌++◌, take}
use Rattle.pud_defs.specs.declared.layout.TheConstants.{LOG_ENTRY_WORDS}
use Rattle.batch.specs.Batches.{word_count_of}
use Rattle.registry.specs.Puts.{puts_batch}
use Rattle.registry.specs.Adding.{puddle_records}
use Rattle.registry.proofs.placing.add_puddles.Given as goal

abbrev pub invariant-loop-added : goal.invariant-loop-added
invariant-loop-added l = word_count_of l.initial.batch + word_count_of (puts_batch (puddle_records l.puddles)) ≤ LOG_ENTRY_WORDS → l.batch ≡ l.initial.batch ++ puts_batch (puddle_records (take l.added-index l.puddles))
