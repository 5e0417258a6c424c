use Rattle.std.proofs.Common.{None, ◌≡◌, ◌-◌, ◌<◌, ◌≤◌, length}
use Rattle.std.specs.Prelude.{All}
use Rattle.pm_model.specs.Words.{reads}
use Rattle.pm_model.specs.Reads.{OnlyReads}
use Rattle.pud_defs.specs.declared.layout.TheConstants.{TYPE_RECORDS}
use Rattle.pud_defs.specs.Formats.Image.{Image}
use Rattle.pud_defs.specs.RegistryTables.Types.{type_at}
use Rattle.type_maps.specs.FreeRecords.{free_places, free_records}
use Rattle.type_maps.proofs.FreeRecords.{Gathers}
use Rattle.type_maps.proofs.free.free_records.Given as goal

abbrev pub invariant-loop-record : goal.invariant-loop-record
invariant-loop-record g l = record {
  only_reads : OnlyReads g.H.Loads.tells g.H.Loads.state g.H.Loads.counts None l.initial.h l.h;
  low : length l.free.items ≤ l.record;
  few : length l.free.items ≤ l.count;
  within : All (λ n. n < TYPE_RECORDS) l.free.items;
  gathers : g.H.Loads.tells → (image : Image) → reads (g.H.Loads.state l.initial.h).now.words ≡ image
      → Gathers l.count (free_records image) l.free.items (free_places (type_at image) l.record (TYPE_RECORDS - l.record));
}
