use Rattle.std.proofs.Common.{None, ◌≤◌, All}
use Rattle.pm_model.specs.Words.{reads}
use Rattle.pud_defs.specs.RegistryTables.Tables.{tables_of}
use Rattle.puddle_table.proofs.Counting.{IsCounted}
use Rattle.pm_model.specs.Reads.{OnlyReads}
use Rattle.puddle_table.proofs.count_by_pool.Given as goal

abbrev pub invariant-loop-frame : goal.invariant-loop-frame
invariant-loop-frame g l = record {
  few : All (λ count. count ≤ l.frame) l.counts;
  only_reads : OnlyReads g.H.Host.tells g.H.Host.state g.H.Host.counts None l.initial.h l.h;
  counted : g.H.Host.tells → IsCounted l.frames (tables_of l.frames (reads (g.H.Host.state l.initial.h).now.words)) l.frame l.counts;
}
