use Rattle.std.proofs.Common.{None, Some, ◌≡◌, ◌-◌, List}
use Rattle.pm_model.specs.Words.{reads}
use Rattle.pm_model.specs.Reads.{OnlyReads}
use Rattle.pud_defs.specs.declared.layout.TheConstants.{LOG_ENTRY_WORDS}
use Rattle.pud_defs.specs.Formats.Image.{Image}
use Rattle.pud_defs.specs.Logging.Entries.{Entry}
use Rattle.pud_defs.specs.RegistryTables.Tables.{tables_of}
use Rattle.pud_defs.specs.Logging.Allowed.{puddle_word}
use Rattle.puddle_space.specs.Nearby.{IsNearby}
use Rattle.log_entry.specs.Reading.{entries_left}
use Rattle.log_entry.specs.Copying.{image_of_copy, log_copied}
use Rattle.log_entry.proofs.Left.{IsReading}
use Rattle.log_entry.proofs.Readdressed.{ReaddressesSoFar}
use Rattle.log_replay.specs.Placing.{placed_entry}
use Rattle.recover.specs.Verdicts.{owner_by_record, mark_for}
use Rattle.recover.proofs.Marked.{mark_left}
use Rattle.recover.proofs.judge.mark_copy.Given as goal

abbrev pub invariant-loop-entry : goal.invariant-loop-entry
invariant-loop-entry g l = record {
  reading : IsReading 0 l.reader;
  passed : l.passed ≡ l.reader.passed;
  gate : image_of_copy l.copy 0 ≡ image_of_copy l.initial.copy 0;
  only_reads : OnlyReads g.H.Host.tells g.H.Host.state g.H.Host.counts None l.initial.h l.h;
  nearby : g.H.Host.tells → (image : Image) → reads (g.H.Host.state l.initial.h).now.words ≡ image → IsNearby (tables_of l.frames image) l.nearby;
  marks : g.H.Host.tells → (image : Image) → reads (g.H.Host.state l.initial.h).now.words ≡ image
      → mark_left (tables_of l.frames image) (owner_by_record l.who) (log_copied l.initial.copy) l.mark (entries_left (image_of_copy l.copy) l.reader)
      ≡ mark_for (tables_of l.frames image) (owner_by_record l.who) (log_copied l.initial.copy);
  so_far : g.H.Host.tells → (image : Image) → reads (g.H.Host.state l.initial.h).now.words ≡ image → (es : List Entry) → (log_copied l.initial.copy).entries ≡ Some es
      → ReaddressesSoFar (placed_entry (puddle_word (tables_of l.frames image)) (log_copied l.initial.copy)) (image_of_copy l.copy) l.reader es;
}

abbrev pub decreases-loop-entry : goal.decreases-loop-entry
decreases-loop-entry g l = LOG_ENTRY_WORDS - l.reader.passed
