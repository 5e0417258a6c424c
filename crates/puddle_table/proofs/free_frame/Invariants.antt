use Rattle.std.proofs.Common.{None, ◌≡◌, ◌-◌}
use Rattle.pm_model.specs.Words.{reads}
use Rattle.pud_defs.specs.RegistryTables.Keyed.{first_free}
use Rattle.pud_defs.specs.RegistryTables.Tables.{tables_of}
use Rattle.pm_model.specs.Reads.{OnlyReads}
use Rattle.puddle_table.proofs.free_frame.Given as goal

abbrev pub invariant-loop-frame : goal.invariant-loop-frame
invariant-loop-frame g l = record {
  only_reads : OnlyReads g.H.Host.tells g.H.Host.state g.H.Host.counts None l.initial.h l.h;
  lowest : g.H.Host.tells → first_free (tables_of l.frames (reads (g.H.Host.state l.initial.h).now.words)).puddles l.from (l.frames - l.from)
      ≡ first_free (tables_of l.frames (reads (g.H.Host.state l.initial.h).now.words)).puddles l.frame (l.frames - l.frame);
}
