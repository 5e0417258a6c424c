use Rattle.std.proofs.Common.{◌≡◌, ◌+◌, ◌*◌, ◌≤◌, ◌++◌, map, Some, None}
use Rattle.pm_model.specs.Words.{reads}
use Rattle.pm_model.specs.Reads.{OnlyReads}
use Rattle.pud_defs.specs.declared.layout.TheConstants.{LOG_ENTRY_WORDS, MAX_FIELDS}
use Rattle.pud_defs.specs.declared.space.TheConstants.{SLOT_FIELDS_WORD}
use Rattle.pud_defs.specs.Formats.Geometry.{class_slot_at}
use Rattle.pud_defs.specs.Formats.Image.{Image}
use Rattle.pud_defs.specs.Formats.Frames.{frame_at}
use Rattle.pud_defs.specs.PoolGraphs.Stored.{stored_in}
use Rattle.graph_laws.specs.Steps.{pointer_by}
use Rattle.batch.specs.Batches.{word_count_of}
use Rattle.lazy_rewrite.specs.Entries.{words_batch, IsToRewrite}
use Rattle.lazy_rewrite.proofs.batches.add_fields.Given as goal

abbrev pub invariant-loop-f : goal.invariant-loop-f
invariant-loop-f g l = record {
  only_reads : OnlyReads g.H.Loads.tells g.H.Loads.state g.H.Loads.counts None l.initial.h l.h;
  added : g.H.Loads.tells → (image : Image) → reads (g.H.Loads.state l.initial.h).now.words ≡ image → IsToRewrite l.pool l.at.ordinal (l.at.slot + 1) → word_count_of l.initial.batch + 3 * MAX_FIELDS ≤ LOG_ENTRY_WORDS
      → l.batch ≡ l.initial.batch ++ words_batch (frame_at l.frames l.at.frame + class_slot_at l.at.class l.at.slot)
      (λ j. pointer_by (map (λ e. e.1) l.pool) (Some l.type_map) j ((stored_in l.frames l.pool image).word l.at.ordinal (class_slot_at l.at.class l.at.slot + j))) SLOT_FIELDS_WORD l.f;
}
