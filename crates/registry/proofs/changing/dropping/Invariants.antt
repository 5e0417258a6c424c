use Rattle.std.proofs.Common.{None, ◌≡◌, ◌≤◌}
use Rattle.pm_model.specs.Words.{reads}
use Rattle.pm_model.specs.Reads.{OnlyReads}
use Rattle.pud_defs.specs.declared.records.TheConstants.{MAX_PUDDLES}
use Rattle.pud_defs.specs.Formats.Image.{Image}
use Rattle.pud_defs.specs.RegistryTables.Keyed.{count_used}
use Rattle.pud_defs.specs.RegistryTables.Tables.{tables_of, members}
use Rattle.registry.proofs.Gathered.{Gathers}
use Rattle.registry.proofs.changing.dropping.Given as goal

abbrev pub invariant-loop-frame : goal.invariant-loop-frame
invariant-loop-frame g l = record {
  within : l.frame ≤ l.fn.frames;
  only_reads : OnlyReads g.H.Host.tells g.H.Host.state g.H.Host.counts None l.fn.h l.h;
  gathers : g.H.Host.tells → (image : Image) → reads (g.H.Host.state l.fn.h).now.words ≡ image → count_used (members (tables_of l.fn.frames image) l.fn.slot) 0 l.fn.frames ≤ MAX_PUDDLES
      → Gathers (tables_of l.fn.frames image) l.fn.slot l.frame l.batch;
}
