use Rattle.std.proofs.Common.{None, true, ◌≡◌}
use Rattle.pm_model.specs.Words.{reads}
use Rattle.pm_model.specs.Reads.{OnlyReads}
use Rattle.pud_defs.specs.Formats.Image.{Image}
use Rattle.pud_defs.specs.RegistryTables.Placement.{has_another_base}
use Rattle.pud_defs.specs.RegistryTables.Puddles.{puddle_at}
use Rattle.pud_defs.specs.RegistryTables.Spaces.{all_below}
use Rattle.puddle_space.proofs.taken.has_base.Given as goal

abbrev pub invariant-loop-frame : goal.invariant-loop-frame
invariant-loop-frame g l = record {
  only_reads : OnlyReads g.H.Host.tells g.H.Host.state g.H.Host.counts None l.initial.h l.h;
  none : g.H.Host.tells → (image : Image) → reads (g.H.Host.state l.initial.h).now.words ≡ image → all_below l.frame (λ k. has_another_base l.base (puddle_at image k)) ≡ true;
}
