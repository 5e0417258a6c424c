use Rattle.std.proofs.Common.{None, ◌≡◌, ℕ, true}
use Rattle.pm_model.specs.Words.{reads}
use Rattle.pud_defs.specs.declared.layout.TheConstants.{DAEMON_LOG}
use Rattle.pud_defs.specs.Formats.Image.{Image}
use Rattle.pud_defs.specs.Logging.Replay.{settled_by}
use Rattle.pud_defs.specs.RegistryTables.Spaces.{all_below}
use Rattle.pud_defs.specs.RegistryTables.Tables.{tables_of}
use Rattle.pud_defs.specs.RegistryTables.SoundTables.{is_sound_pool}
use Rattle.soundness.specs.Overlaying.{IsOverlay}
use Rattle.pm_model.specs.Reads.{OnlyReads}
use Rattle.soundness.proofs.tables.has_legal_pools.Given as goal

abbrev pub invariant-loop-slot : goal.invariant-loop-slot
invariant-loop-slot g l = record {
  only_reads : OnlyReads g.H.Host.tells g.H.Host.state g.H.Host.counts None l.initial.h l.h;
  legal : g.H.Host.tells → (image : Image) → reads (g.H.Host.state l.initial.h).now.words ≡ image → IsOverlay l.overlay image → (F : ℕ)
      → all_below l.slot (λ slot. is_sound_pool l.next ((tables_of F (settled_by DAEMON_LOG image)).pools slot)) ≡ true;
}
