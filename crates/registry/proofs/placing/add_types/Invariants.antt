use Rattle.std.proofs.Common.{◌≡◌, ◌+◌, ◌≤◌, ◌++◌, map, take}
use Rattle.pud_defs.specs.declared.layout.TheConstants.{LOG_ENTRY_WORDS}
use Rattle.batch.specs.Batches.{word_count_of}
use Rattle.registry.specs.Puts.{puts_batch}
use Rattle.registry.specs.Placing.{new_type_put}
use Rattle.registry.proofs.placing.add_types.Given as goal

abbrev pub invariant-loop-t : goal.invariant-loop-t
invariant-loop-t l = word_count_of l.initial.batch + word_count_of (puts_batch (map new_type_put l.types)) ≤ LOG_ENTRY_WORDS → l.batch ≡ l.initial.batch ++ puts_batch (map new_type_put (take l.t-index l.types))
