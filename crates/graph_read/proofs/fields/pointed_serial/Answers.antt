use Rattle.std.proofs.Common.{◌≡◌, ◌<◌, ap, sym, ◌∙◌, Some, IfOk, subst, ℕ, arith}
use Rattle.std.specs.Prelude.{map}
use Rattle.std.proofs.lemmas.Bool.{cond-true}
use Rattle.std.proofs.lemmas.Option.{slice_get-get_or}
use Rattle.pud_defs.specs.declared.space.TheConstants.{SLOT_SERIAL_WORD}
use Rattle.pud_defs.specs.Formats.Geometry.{class_slot_words, place_at}
use Rattle.pud_defs.proofs.Formats.Geometry.{some_words}
use Rattle.pud_defs.specs.PoolGraphs.Stored.{stored_in, is_slot, place_word}
use Rattle.pud_defs.specs.PoolGraphs.Graph.{pointee_at}
use Rattle.graph_read.specs.Reading.{class_in, table_in, IsSlotWithin, LeadsWithin}
use Rattle.puddle_header.proofs.Placed.{stored_slot}
use Rattle.graph_read.proofs.Fielded.{named-at}
use Rattle.graph_read.proofs.Slots.{entry_class, slot_of_entry, slot_at_its_place}
use Rattle.graph_read.proofs.fields.pointed_serial.Goals as goal

pub slot_serial-requires-clause-slot : goal.slot_serial-requires-clause-slot
slot_serial-requires-clause-slot g c =
    let o = c.in-Some-At.ordinal in
    let s = c.in-Some-At.slot in
    let within : IsSlotWithin c.args.pool.now o s = subst (LeadsWithin c.args.pool.now) c.in-Some-At.field-0-is c.in-Some-At.ensures.within in
    slot_of_entry c.args.pool.now o s _ within.ordinal_below within.slot_below

pub returns-in-Some-At-clause-serial : goal.returns-in-Some-At-clause-serial
returns-in-Some-At-clause-serial g c = λ t image same.
    let serial = (table_in c.args.frames c.args.pool.now image).serial in
    let o = c.in-Some-At.ordinal in
    let s = c.in-Some-At.slot in
    let leads = pointee_at (map (λ e. e.1) c.args.pool.now) c.args.ordinal c.args.step c.args.value in
    let within : IsSlotWithin c.args.pool.now o s = subst (LeadsWithin c.args.pool.now) c.in-Some-At.field-0-is c.in-Some-At.ensures.within in
    let there = slice_get-get_or c.args.pool.now o _ within.ordinal_below in
    let few = slot_of_entry c.args.pool.now o s _ within.ordinal_below within.slot_below in
    let st = stored_in c.args.frames c.args.pool.now image in
    let some = some_words (class_in c.args.pool.now o) in
    let width = entry_class c.args.pool.now o _ within.ordinal_below in
    let named = named-at serial leads o s (sym c.read_pointer.ensures.pointee ∙ c.in-Some-At.is ∙ ap (λ p. Some p) c.in-Some-At.field-0-is) in
    subst (λ (v : ℕ). IfOk c.slot_serial.result (λ r. r ≡ v))
    (sym (stored_slot c.args.frames c.args.pool.now image o s SLOT_SERIAL_WORD _ there few (subst (λ (k : ℕ). SLOT_SERIAL_WORD < class_slot_words k) width (omega arith)))
    ∙ sym (cond-true (is_slot st (place_at o s)) (place_word st (place_at o s) SLOT_SERIAL_WORD) 0 (slot_at_its_place c.args.pool.now o s within.slot_below)) ∙ sym named)
    (c.slot_serial.ensures.word t image same)
