use Rattle.std.proofs.Common.{None, ◌≡◌, ◌+◌, ◌≤◌}
use Rattle.pm_model.specs.Words.{reads}
use Rattle.puddle_table.proofs.Placing.{HoldsFrom}
use Rattle.pm_model.specs.Reads.{OnlyReads}
use Rattle.puddle_table.proofs.places.find_places.Given as goal

abbrev pub invariant-loop-frame : goal.invariant-loop-frame
invariant-loop-frame g l = record {
  count : l.found.count ≡ l.frames;
  few : l.found.used + l.frame ≤ l.frames;
  only_reads : OnlyReads g.H.Host.tells g.H.Host.state g.H.Host.counts None l.initial.h l.h;
  placed : g.H.Host.tells → HoldsFrom l.frames (reads (g.H.Host.state l.initial.h).now.words) l.frame l.found;
}
