use Rattle.std.proofs.Common.{None, ◌≡◌, ◌++◌, map, All}
use Rattle.std.specs.Map.{values_of}
use Rattle.pm_model.specs.Words.{Image, reads}
use Rattle.pud_defs.specs.Output.DumpText.{joined}
use Rattle.graph_dump.specs.Read.{entry_text, IsSlotPlace}
use Rattle.graph_dump.proofs.Joining.{joined_from}
use Rattle.graph_dump.proofs.Written.{HasAppended}
use Rattle.pm_model.specs.Reads.{OnlyReads}
use Rattle.graph_dump.proofs.dump.dump_objects.Given as goal

abbrev pub invariant-loop-serial : goal.invariant-loop-serial
invariant-loop-serial g l = record {
  text : g.H.Host.tells → (image : Image) → reads (g.H.Host.state l.initial.h).now.words ≡ image
      → l.text.items ++ joined_from l.is_first (map (entry_text l.frames l.pool image) l.serial-iterator) ≡ l.initial.text.items ++ joined (map (entry_text l.frames l.pool image) l.places.entries);
  some : HasAppended l.is_first l.initial.text.items l.text.items;
  within : All (IsSlotPlace l.pool) (values_of l.serial-iterator);
  only_reads : OnlyReads g.H.Host.tells g.H.Host.state g.H.Host.counts None l.initial.h l.h;
}
