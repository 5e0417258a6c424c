use Rattle.std.proofs.Common.{◌≡◌, ◌+◌, ◌++◌, List, map, not, sym, ap, subst, ◌∙◌, arith, append-nil}
use Rattle.std.specs.Result.{IfOk}
use Rattle.pm_model.proofs.Reading.{still_reads}
use Rattle.pud_defs.specs.declared.space.TheConstants.{SLOT_SERIAL_WORD, SLOT_TYPE_WORD}
use Rattle.pud_defs.specs.Logging.Entries.{Entry}
use Rattle.pud_defs.specs.Formats.Geometry.{class_slot_at}
use Rattle.pud_defs.proofs.Formats.Geometry.{some_words}
use Rattle.pud_defs.specs.Formats.Frames.{frame_at}
use Rattle.pud_defs.specs.RegistryTables.Types.{types_of, map_of}
use Rattle.pud_defs.specs.PoolGraphs.Stored.{stored_in}
use Rattle.pud_defs.specs.PoolGraphs.Graph.{fitting}
use Rattle.lazy_rewrite.proofs.Gathered.{frame_below, stored_there, live_by, slot-free, slot-unknown, slot-fields}
use Rattle.lazy_rewrite.proofs.batches.add_slot.Goals as goal

pub returns-then-is_free-clause-added : goal.returns-then-is_free-clause-added
returns-then-is_free-clause-added g c = λ t image same h room.
    let at = c.args.at.now in
    let pool = c.args.pool.now in
    let word = (stored_in c.args.frames pool image).word at.ordinal in
    let some = some_words at.class in
    let serial = c.in_ok-serial.ensures.word t image same ∙ stored_there c.args.frames pool image SLOT_SERIAL_WORD at c.requires.within (omega arith) in
    let free = live_by c.in_ok-serial.serial (word (class_slot_at at.class at.slot + SLOT_SERIAL_WORD)) c.is_free.result serial c.is_free.ensures ∙ ap not c.if-is_free.true in
    sym (ap (λ es. c.args.batch.now ++ es) (slot-free (types_of image) (map (λ e. e.1) pool) at.class word (frame_at c.args.frames at.frame + class_slot_at at.class at.slot) at.slot free) ∙ append-nil c.args.batch.now)

pub slot_type-requires-clause-known : goal.slot_type-requires-clause-known
slot_type-requires-clause-known g c = frame_below c.args.frames c.args.pool.now c.args.at.now.ordinal (c.args.at.now.frame, c.requires.within.puddle) c.requires.known c.requires.within.there

pub returns-in-Some-clause-added : goal.returns-in-Some-clause-added
returns-in-Some-clause-added g c = λ t image same h room.
    let at = c.args.at.now in
    let pool = c.args.pool.now in
    let word = (stored_in c.args.frames pool image).word at.ordinal in
    let some = some_words at.class in
    let first = still_reads c.slot_serial.ensures.only_reads t same in
    let second = still_reads c.slot_type.ensures.only_reads t first in
    let third = still_reads c.find_fitting.ensures.only_reads t second in
    let serial = c.in_ok-serial.ensures.word t image same ∙ stored_there c.args.frames pool image SLOT_SERIAL_WORD at c.requires.within (omega arith) in
    let live = live_by c.in_ok-serial.serial (word (class_slot_at at.class at.slot + SLOT_SERIAL_WORD)) c.is_free.result serial c.is_free.ensures ∙ ap not c.if-is_free.false in
    let id = c.in_ok-id.ensures.word t image first ∙ stored_there c.args.frames pool image SLOT_TYPE_WORD at c.requires.within (omega arith) in
    let defined = ap (λ i. fitting at.class (map_of i (types_of image))) (sym id) ∙ sym (c.in_ok-type_map.ensures.map t image second) ∙ c.in-Some.is in
    subst (λ (es : List Entry). IfOk c.add_fields.result (λ x. c.add_fields.new.batch ≡ c.args.batch.now ++ es))
    (sym (slot-fields (types_of image) (map (λ e. e.1) pool) at.class word (frame_at c.args.frames at.frame + class_slot_at at.class at.slot) at.slot c.in-Some.type_map live defined))
    (c.add_fields.ensures.added t image third h room)

pub returns-in-None-clause-added : goal.returns-in-None-clause-added
returns-in-None-clause-added g c = λ t image same h room.
    let at = c.args.at.now in
    let pool = c.args.pool.now in
    let word = (stored_in c.args.frames pool image).word at.ordinal in
    let some = some_words at.class in
    let first = still_reads c.slot_serial.ensures.only_reads t same in
    let second = still_reads c.slot_type.ensures.only_reads t first in
    let id = c.in_ok-id.ensures.word t image first ∙ stored_there c.args.frames pool image SLOT_TYPE_WORD at c.requires.within (omega arith) in
    let unknown = ap (λ i. fitting at.class (map_of i (types_of image))) (sym id) ∙ sym (c.in_ok-type_map.ensures.map t image second) ∙ c.in-None.is in
    sym (ap (λ es. c.args.batch.now ++ es) (slot-unknown (types_of image) (map (λ e. e.1) pool) at.class word (frame_at c.args.frames at.frame + class_slot_at at.class at.slot) at.slot unknown) ∙ append-nil c.args.batch.now)
