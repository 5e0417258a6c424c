use Rattle.std.proofs.Common.{◌≡◌, ◌+◌, ◌<◌, ◌++◌, map, Some, refl, ap, ◌∙◌, arith}
use Rattle.std.proofs.lemmas.Bool.{leb-true}
use Rattle.pm_model.proofs.Reading.{OnlyReads-none, OnlyReads-then, still_reads}
use Rattle.pud_defs.specs.declared.space.TheConstants.{SLOT_FIELDS_WORD}
use Rattle.pud_defs.specs.Formats.Geometry.{class_slot_at, class_slot_words}
use Rattle.pud_defs.specs.Formats.Frames.{frame_at}
use Rattle.pud_defs.specs.PoolGraphs.Graph.{field_count}
use Rattle.pud_defs.specs.PoolGraphs.Stored.{stored_in}
use Rattle.graph_laws.specs.Steps.{pointer_by}
use Rattle.graph_laws.proofs.SameReads.Words.{few_fields}
use Rattle.graph_read.proofs.Passing.{field_count-least}
use Rattle.lazy_rewrite.specs.Entries.{words_batch}
use Rattle.lazy_rewrite.proofs.Gathered.{added-none, added-more, field-new, frame_below, stored_there}
use Rattle.lazy_rewrite.proofs.batches.add_fields.Goals as goal

pub loop-f-init : goal.loop-f-init
loop-f-init g c = record {
  only_reads = OnlyReads-none;
  added = λ t image same h room. added-none (frame_at c.args.frames c.args.at.now.frame + class_slot_at c.args.at.now.class c.args.at.now.slot)
      (λ j. pointer_by (map (λ e. e.1) c.args.pool.now) (Some c.args.type_map) j ((stored_in c.args.frames c.args.pool.now image).word c.args.at.now.ordinal (class_slot_at c.args.at.now.class c.args.at.now.slot + j))) SLOT_FIELDS_WORD c.args.batch.now;
}

pub slot_field-requires-clause-known : goal.slot_field-requires-clause-known
slot_field-requires-clause-known g c = frame_below c.args.frames c.args.pool.now c.args.at.now.ordinal (c.args.at.now.frame, c.requires.within.puddle) c.requires.known c.requires.within.there

pub slot_field-requires-clause-field : goal.slot_field-requires-clause-field
slot_field-requires-clause-field g c =
    let count = field_count-least c.args.type_map in
    let fits = leb-true (SLOT_FIELDS_WORD + field_count c.args.type_map) (class_slot_words c.args.at.now.class) c.requires.fits in
    omega arith

pub loop-f-preserved : goal.loop-f-preserved
loop-f-preserved g c = record {
  only_reads = OnlyReads-then c.loop-f.invariant.only_reads c.in_ok-value.ensures.only_reads;
  added = λ t image same h room.
      let at = c.args.at.now in
      let pool = c.args.pool.now in
      let f = c.loop-f.f in
      let puddles = map (λ e. e.1) pool in
      let word = (stored_in c.args.frames pool image).word at.ordinal in
      let place = class_slot_at at.class at.slot + (SLOT_FIELDS_WORD + f) in
      let before = still_reads c.loop-f.invariant.only_reads t same in
      let count = field_count-least c.args.type_map in
      let few = few_fields c.args.type_map in
      let low : f < field_count c.args.type_map = omega arith in
      let fits = leb-true (SLOT_FIELDS_WORD + field_count c.args.type_map) (class_slot_words at.class) c.requires.fits in
      let value = c.in_ok-value.ensures.word t image before ∙ stored_there c.args.frames pool image (SLOT_FIELDS_WORD + f) at c.requires.within (omega arith) in
      added-more (frame_at c.args.frames at.frame + class_slot_at at.class at.slot) (λ j. pointer_by puddles (Some c.args.type_map) j (word (class_slot_at at.class at.slot + j))) SLOT_FIELDS_WORD c.args.batch.now
      f (frame_at c.args.frames at.frame + class_slot_at at.class at.slot + (SLOT_FIELDS_WORD + f)) c.loop-f.batch c.add_field.new.batch _
      (c.loop-f.invariant.added t image same h room) refl (field-new puddles c.args.type_map c.in_ok-value.value f (word place) low value) (c.add_field.ensures h) room (omega arith);
}

pub returns-clause-added : goal.returns-clause-added
returns-clause-added g c = λ t image same h room.
    let at = c.args.at.now in
    let count = field_count-least c.args.type_map in
    let all : c.loop-f.f ≡ field_count c.args.type_map = omega arith in
    c.loop-f.invariant.added t image same h room
    ∙ ap (λ n. c.args.batch.now ++ words_batch (frame_at c.args.frames at.frame + class_slot_at at.class at.slot)
    (λ j. pointer_by (map (λ e. e.1) c.args.pool.now) (Some c.args.type_map) j ((stored_in c.args.frames c.args.pool.now image).word at.ordinal (class_slot_at at.class at.slot + j))) SLOT_FIELDS_WORD n) all
