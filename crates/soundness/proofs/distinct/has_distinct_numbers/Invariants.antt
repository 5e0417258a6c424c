use Rattle.std.proofs.Common.{None, ◌≡◌, ◌+◌, ◌-◌, ◌≤◌, length, drop}
use Rattle.std.specs.Prelude.{option_map}
use Rattle.pm_model.specs.Words.{reads}
use Rattle.pud_defs.specs.declared.layout.TheConstants.{DAEMON_LOG, MAX_FRAMES}
use Rattle.pud_defs.specs.Formats.Image.{Image}
use Rattle.pud_defs.specs.Logging.Replay.{settled_by}
use Rattle.pud_defs.specs.RegistryTables.Tables.{tables_of}
use Rattle.soundness.specs.Overlaying.{IsOverlay}
use Rattle.soundness.specs.Distinct.{key_of}
use Rattle.soundness.proofs.Numbers.{numbers_from}
use Rattle.pm_model.specs.Reads.{OnlyReads}
use Rattle.soundness.proofs.distinct.has_distinct_numbers.Given as goal

abbrev pub invariant-loop-done : goal.invariant-loop-done
invariant-loop-done g l = record {
  size : length l.numbers ≡ MAX_FRAMES;
  most : l.left ≤ MAX_FRAMES;
  room : MAX_FRAMES ≤ l.left + l.done;
  only_reads : OnlyReads g.H.Host.tells g.H.Host.state g.H.Host.counts None l.initial.h l.h;
  list : g.H.Host.tells → (image : Image) → reads (g.H.Host.state l.initial.h).now.words ≡ image → IsOverlay l.overlay image
      → drop l.left l.numbers ≡ numbers_from (λ frame. option_map (key_of l.key) ((tables_of l.frames (settled_by DAEMON_LOG image)).puddles frame)) (l.frames - l.done) l.done;
}
