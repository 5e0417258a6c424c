use Rattle.std.proofs.Common.{◌≡◌, ℕ, ◌∙◌, sym, ap, subst, IfOk, arith}
use Rattle.std.proofs.lemmas.Bool.{cond-true, cond-false}
use Rattle.pud_defs.specs.declared.space.TheConstants.{SLOT_SERIAL_WORD}
use Rattle.pud_defs.proofs.Formats.Geometry.{some_words}
use Rattle.pud_defs.specs.PoolGraphs.Stored.{stored_in, place_word}
use Rattle.puddle_header.proofs.Placed.{slot_at_place, is_slot_there, no_slot_there}
use Rattle.puddle_header.proofs.places.serial_at.Goals as goal

pub returns-then-slot_of-slots_of-clause-serial : goal.returns-then-slot_of-slots_of-clause-serial
returns-then-slot_of-slots_of-clause-serial g c = λ t image same.
    sym (cond-false _ _ _ (no_slot_there c.args.pool.now c.args.place c.ordinal_of.result c.slot_of.result c.slots_of.result _ c.requires.within c.ordinal_of.ensures c.slot_of.ensures c.slots_of.ensures c.if-slot_of-slots_of.true))

pub slot_at_place-at-requires-clause-slot : goal.slot_at_place-at-requires-clause-slot
slot_at_place-at-requires-clause-slot g c =
    is_slot_there c.args.pool.now c.args.place c.ordinal_of.result c.slot_of.result c.slots_of.result _ c.requires.within c.ordinal_of.ensures c.slot_of.ensures c.slots_of.ensures c.if-slot_of-slots_of.false

pub returns-clause-serial : goal.returns-clause-serial
returns-clause-serial g c = λ t image same.
    let at = c.slot_at_place-at in
    let st = stored_in c.args.frames c.args.pool.now image in
    let is = is_slot_there c.args.pool.now c.args.place c.ordinal_of.result c.slot_of.result c.slots_of.result _ c.requires.within c.ordinal_of.ensures c.slot_of.ensures c.slots_of.ensures c.if-slot_of-slots_of.false in
    let some = some_words at.ensures.within.puddle.class in
    subst (λ (v : ℕ). IfOk c.slot_serial.result (λ r. r ≡ v))
    (slot_at_place c.args.frames c.args.pool.now image SLOT_SERIAL_WORD at.result at.ensures.within (omega arith) ∙ ap (λ (p : ℕ). place_word st p SLOT_SERIAL_WORD) at.ensures.place
    ∙ sym (cond-true _ _ _ is))
    (c.slot_serial.ensures.word t image same)
