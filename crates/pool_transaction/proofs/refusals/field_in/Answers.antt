use Rattle.std.proofs.Common.{sym, arith, ◌+◌, ◌∙◌}
use Rattle.std.proofs.lemmas.Bool.{ltb-false}
use Rattle.pud_defs.specs.declared.space.TheConstants.{SLOT_FIELDS_WORD}
use Rattle.pud_defs.specs.Formats.Geometry.{class_slot_words}
use Rattle.pud_defs.specs.PoolGraphs.Stored.{stored_in}
use Rattle.pud_defs.specs.RegistryTables.Types.{types_of}
use Rattle.puddle_header.specs.Places.{place_of_slot}
use Rattle.hybrid_tx.proofs.Objects.SlotPlaces.{words_of_slot}
use Rattle.pool_transaction.proofs.Updates.FieldsTyped.{no_field}
use Rattle.pool_transaction.proofs.refusals.field_in.Goals as goal

-- The slot has no word for the field.
pub returns-then-not-has_field-clause-read : goal.returns-then-not-has_field-clause-read
returns-then-not-has_field-clause-read g c = λ t image same.
    let slot = c.args.at.now in
    let at = c.args.pool.now in
    let words = words_of_slot c.args.frames at image slot c.requires.within in
    let none = ltb-false (SLOT_FIELDS_WORD + c.args.f) (class_slot_words slot.class) (sym c.has_field.ensures ∙ c.if-not-has_field.true) in
    sym (no_field (types_of image) (stored_in c.args.frames at image) (place_of_slot slot) c.args.f (omega (arith, words, none)))
