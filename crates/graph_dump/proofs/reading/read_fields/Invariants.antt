use Rattle.std.proofs.Common.{None, ◌≡◌, length, map, take}
use Rattle.std.specs.List.{range_with_len}
use Rattle.pm_model.specs.Words.{Image, reads}
use Rattle.pud_defs.specs.declared.layout.TheConstants.{MAX_FIELDS}
use Rattle.puddle_header.specs.Places.{place_of_slot}
use Rattle.graph_dump.specs.Read.{field_value}
use Rattle.pm_model.specs.Reads.{OnlyReads}
use Rattle.graph_dump.proofs.reading.read_fields.Given as goal

abbrev pub invariant-loop-f : goal.invariant-loop-f
invariant-loop-f g l = record {
  fields : g.H.Host.tells → (image : Image) → reads (g.H.Host.state l.initial.h).now.words ≡ image
      → take l.f l.values ≡ map (field_value l.frames l.pool image (place_of_slot l.at) l.map_word) (range_with_len 0 l.f);
  size : length l.values ≡ MAX_FIELDS;
  only_reads : OnlyReads g.H.Host.tells g.H.Host.state g.H.Host.counts None l.initial.h l.h;
}
