use Rattle.std.proofs.Common.{None, ◌≡◌, ◌+◌, ◌*◌, ◌≤◌}
use Rattle.pm_model.specs.Words.{reads}
use Rattle.pud_defs.specs.Formats.Image.{Image}
use Rattle.pud_defs.specs.RegistryTables.Spaces.{all_below}
use Rattle.pud_defs.specs.RegistryTables.Puddles.{puddle_at}
use Rattle.pud_defs.specs.RegistryTables.Places.{has_other_bases}
use Rattle.puddle_space.specs.FreeRanges.{free_count, LeavesFree}
use Rattle.pm_model.specs.Reads.{OnlyReads}
use Rattle.puddle_space.proofs.bases.mark_puddles.Given as goal

abbrev pub invariant-loop-frame : goal.invariant-loop-frame
invariant-loop-frame g l = record {
  only_reads : OnlyReads g.H.Host.tells g.H.Host.state g.H.Host.counts None l.initial.h l.h;
  left : g.H.Host.tells → (image : Image) → reads (g.H.Host.state l.initial.h).now.words ≡ image
      → LeavesFree (λ base. all_below l.frame (λ k. has_other_bases base (puddle_at image k))) l.initial.free l.free;
  few : free_count l.initial.free ≤ free_count l.free + 2 * l.frame;
}
