use Rattle.std.proofs.Common.{◌≡◌, true}
use Rattle.pud_defs.specs.RegistryTables.Spaces.{all_below}
use Rattle.word_transaction.specs.Coverage.{is_marked}
use Rattle.word_transaction.proofs.covering.all_marked.Given as goal

abbrev pub invariant-loop-i : goal.invariant-loop-i
invariant-loop-i l = all_below l.i (is_marked l.marks) ≡ true
