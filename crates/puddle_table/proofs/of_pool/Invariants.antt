use Rattle.std.proofs.Common.{None, ◌≡◌}
use Rattle.pm_model.specs.Words.{reads}
use Rattle.pud_defs.specs.RegistryTables.Tables.{tables_of, puddle_in}
use Rattle.puddle_table.proofs.Search.{found_from}
use Rattle.pm_model.specs.Reads.{OnlyReads}
use Rattle.puddle_table.proofs.of_pool.Given as goal

abbrev pub invariant-loop-frame : goal.invariant-loop-frame
invariant-loop-frame g l = record {
  only_reads : OnlyReads g.H.Host.tells g.H.Host.state g.H.Host.counts None l.initial.h l.h;
  found : g.H.Host.tells → puddle_in (tables_of l.frames (reads (g.H.Host.state l.initial.h).now.words)) l.pool l.ordinal
      ≡ found_from l.frames (reads (g.H.Host.state l.initial.h).now.words) l.pool l.ordinal l.frame;
}
