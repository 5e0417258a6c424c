use Rattle.std.proofs.Common.{rules, ◌≡◌, ◌+◌, ap, ◌∙◌, arith}
use Rattle.std.specs.Prelude.{map}
use Rattle.std.proofs.lemmas.Bool.{leb-true}
use Rattle.pud_defs.specs.declared.space.TheConstants.{SLOT_FIELDS_WORD}
use Rattle.pud_defs.specs.Formats.Geometry.{class_slot_words}
use Rattle.pud_defs.specs.PoolGraphs.Exported.{exported_value}
use Rattle.pud_defs.specs.PoolGraphs.Graph.{field_count}
use Rattle.pud_defs.specs.PoolGraphs.Stored.{stored_in}
use Rattle.puddle_header.specs.Places.{place_of_slot}
use Rattle.graph_read.proofs.Passing.{field_count-least}
use Rattle.pud_export.proofs.SlotsRead.{object_more, object_whole}
use Rattle.pud_export.proofs.SlotsThere.{class_of_slot, word_there}
use Rattle.pm_model.proofs.Reading.{still_reads}
use Rattle.pud_export.proofs.slots.read_object.Goals as goal

pub slot_field-requires-clause-field : goal.slot_field-requires-clause-field
slot_field-requires-clause-field g c =
    let count = field_count-least c.args.type_map in
    let room = leb-true (SLOT_FIELDS_WORD + field_count c.args.type_map) (class_slot_words c.args.at.now.class) c.requires.fits in
    omega arith

pub loop-f-preserved : goal.loop-f-preserved
loop-f-preserved g c = record {
  only_reads = search rules;
  whole = search rules;
  words = λ t low image same.
      let at = c.args.at.now in
      let st = stored_in c.args.frames c.args.pool.now image in
      let before = still_reads c.loop-f.invariant.only_reads t same in
      let count = field_count-least c.args.type_map in
      let room = leb-true (SLOT_FIELDS_WORD + field_count c.args.type_map) (class_slot_words at.class) c.requires.fits in
      let word = c.in_ok-v.ensures.word t image before ∙ word_there c.args.frames c.args.pool.now image at c.requires.within (SLOT_FIELDS_WORD + c.loop-f.f) (omega arith) in
      let value = c.exported_value.ensures low ∙ ap (exported_value (map (λ e. e.1) c.args.pool.now) c.args.type_map (place_of_slot at) c.loop-f.f) word in
      object_more st (place_of_slot at) c.args.type_map c.args.serial c.args.id c.loop-f.f c.exported_value.result c.loop-f.words (omega arith) value (c.loop-f.invariant.words t low image same);
}

pub returns-clause-words : goal.returns-clause-words
returns-clause-words g c = λ t low image same serial id.
    let at = c.args.at.now in
    let st = stored_in c.args.frames c.args.pool.now image in
    let count = field_count-least c.args.type_map in
    let all : c.loop-f.f ≡ field_count c.args.type_map = omega arith in
    object_whole st (place_of_slot at) c.args.type_map c.args.serial c.args.id c.loop-f.f at.class c.loop-f.words (class_of_slot c.args.frames c.args.pool.now image at c.requires.within) c.requires.fits serial id all
    (c.loop-f.invariant.words t low image same)
