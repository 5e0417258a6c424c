use Rattle.std.proofs.Common.{arith, rules}
use Rattle.puddle_header.specs.Places.{place_of_slot}
use Rattle.graph_dump.specs.Read.{field_value}
use Rattle.graph_read.proofs.Fielded.{room_for_field}
use Rattle.graph_dump.proofs.Objects.{fields_more}
use Rattle.pm_model.proofs.Reading.{still_reads}
use Rattle.graph_dump.proofs.reading.read_fields.Goals as goal

pub value_at-requires-clause-field : goal.value_at-requires-clause-field
value_at-requires-clause-field g c = let below = c.loop-f-test.true in room_for_field c.args.at.now.class c.args.map_word c.loop-f.f c.requires.fits (omega (arith, c.field_count-f-end.ensures.count, below))

pub loop-f-preserved : goal.loop-f-preserved
loop-f-preserved g c = record {
  fields = λ t image same.
      let before = still_reads c.loop-f.invariant.only_reads t same in
      fields_more (field_value c.args.frames c.args.pool.now image (place_of_slot c.args.at.now) c.args.map_word) c.loop-f.values c.loop-f.f c.in_ok-values.field-0
      (omega (arith, c.loop-f.invariant.size)) (c.loop-f.invariant.fields t image same) (c.in_ok-values.ensures.value t image before);
  size = search rules;
  only_reads = search rules;
}
