use Rattle.std.proofs.Common.{◌≡◌, ℕ, ◌+◌, ◌≤◌, Some, None}
use Rattle.std.specs.Prelude.{slice_get}
use Rattle.pm_model.specs.Words.{reads}
use Rattle.pm_model.specs.Reads.{OnlyReads}
use Rattle.pud_defs.specs.declared.records.Puddle.{Puddle}
use Rattle.pud_defs.specs.Formats.Image.{Image}
use Rattle.lazy_rewrite.specs.declared.batches.TheConstants.{BATCH_STEPS}
use Rattle.lazy_rewrite.specs.Entries.{IsToRewrite, first_slot}
use Rattle.lazy_rewrite.proofs.Gathered.{HasGathered}
use Rattle.lazy_rewrite.proofs.batches.gather.Given as goal

abbrev pub invariant-loop-slot : goal.invariant-loop-slot
invariant-loop-slot g l = record {
  only_reads : OnlyReads g.H.Loads.tells g.H.Loads.state g.H.Loads.counts None l.fn.h l.h;
  from : first_slot l.fn.from ≤ l.slot;
  gathered : g.H.Loads.tells → (image : Image) → reads (g.H.Loads.state l.fn.h).now.words ≡ image → IsToRewrite l.fn.pool l.fn.ordinal l.fn.from → l.fn.to ≤ l.fn.from + BATCH_STEPS
      → (e : ℕ × Puddle) → slice_get l.fn.pool l.fn.ordinal ≡ Some e → HasGathered l.fn.frames l.fn.pool image l.fn.ordinal l.fn.from l.fn.to l.slot e l.batch;
}
