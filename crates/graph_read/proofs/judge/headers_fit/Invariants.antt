use Rattle.std.proofs.Common.{None, ◌≡◌, true}
use Rattle.pm_model.specs.Words.{reads}
use Rattle.pud_defs.specs.Formats.Image.{Image}
use Rattle.pud_defs.specs.RegistryTables.Spaces.{all_below}
use Rattle.pud_defs.specs.PoolGraphs.Stored.{stored_in}
use Rattle.graph_read.proofs.Judging.{header_at}
use Rattle.pm_model.specs.Reads.{OnlyReads}
use Rattle.graph_read.proofs.judge.headers_fit.Given as goal

abbrev pub invariant-loop-ordinal : goal.invariant-loop-ordinal
invariant-loop-ordinal g l = record {
  only_reads : OnlyReads g.H.Loads.tells g.H.Loads.state g.H.Loads.counts None l.initial.h l.h;
  passed : g.H.Loads.tells → (image : Image) → reads (g.H.Loads.state l.initial.h).now.words ≡ image → all_below l.ordinal (header_at (stored_in l.frames l.pool image)) ≡ true;
}
